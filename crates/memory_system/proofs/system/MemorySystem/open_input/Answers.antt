use Rattle.memory_system.proofs.Opened.{opens-input}
use Rattle.memory_system.proofs.system.MemorySystem.open_input.Goals as goal

pub returns-clause-ok : goal.returns-clause-ok
returns-clause-ok c = rw (← c.self.view_is) (opens-input _ _ c.open.new.self c.open.ensures.opened)
