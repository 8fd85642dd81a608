use Rattle.std.proofs.Common.{◌≡◌, ℕ, List, take, drop, arith, subst, length-drop}
use Rattle.std.proofs.lemmas.List.{take_all}
use Rattle.macs.specs.Hmac.{Holds}
use Rattle.encfile.proofs.keys.start_file_hmac.Goals as goal

pub returns : goal.returns
returns c =
    let keys : List ℕ = c.args.keys.now in
    let all : take 32 (drop 32 keys) ≡ drop 32 keys = take_all 32 (drop 32 keys) (omega (arith, c.told-keys, length-drop 32 keys)) in
    record { code = subst (λ k. Holds c.update.new.self k c.args.front.now) all (c.update.ensures.appended (take 32 (drop 32 keys)) _ c.new-code.ensures.empty) }
