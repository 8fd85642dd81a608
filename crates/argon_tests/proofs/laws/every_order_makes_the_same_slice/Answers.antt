use Rattle.argon.proofs.Orders.{order_made, orders_same, order_work}
use Rattle.argon_tests.proofs.laws.every_order_makes_the_same_slice.Goals as goal

pub returns : goal.returns
returns c = record { made = order_made; matrix = orders_same; count = order_work }
