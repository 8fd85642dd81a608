use Rattle.std.proofs.Common.{◌≡◌, ℕ, List, take, arith, sym, ◌∙◌}
use Rattle.std.proofs.lemmas.List.{take_all}
use Rattle.encfile.proofs.tail.Tail.is.Goals as goal

pub returns-then-self-eq-CODE_LEN : goal.returns-then-self-eq-CODE_LEN
returns-then-self-eq-CODE_LEN c =
    let bytes : List ℕ = c.self.inside.bytes in
    let all : take c.self.inside.len bytes ≡ bytes = take_all c.self.inside.len bytes (omega (arith, c.self.told, c.if-self-eq-CODE_LEN.true)) in
    let same : bytes ≡ c.args.self.now = sym all ∙ c.self.view_is in
    record { same = (λ t. sym same ∙ c.are_same.ensures.same.0 t, λ e. c.are_same.ensures.same.1 (same ∙ e)) }
