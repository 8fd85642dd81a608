use Rattle.std.proofs.Common.{◌≡◌, ℕ, List, take, arith, ap, sym, subst, ◌∙◌}
use Rattle.std.proofs.lemmas.List.{take-take}
use Rattle.encfile.specs.Header.{IsHeaderOf}
use Rattle.pikhsen_c.proofs.file.start_decryption.Goals as goal

pub open-dec-requires-clause-header : goal.open-dec-requires-clause-header
open-dec-requires-clause-header g c =
    let file : List ℕ = c.args.file.now in
    let same : take 64 file ≡ take 64 c.front_of-front.result =
    sym (take-take 64 96 file (omega arith)) ∙ ap (λ (front : List ℕ). take 64 front) (sym c.front_of-front.ensures.front) in
    subst (λ (bytes : List ℕ). IsHeaderOf bytes c.in-Ok.both.0) same c.in-Ok.ensures.header.bytes
