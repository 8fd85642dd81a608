-- What is no system that a run leaves which succeeds.
use Rattle.std.proofs.Common.{◌≡◌, ◌++◌, ◌∙◌, ℕ, Bool, true, false, List, Ok, drop, ap, subst, sym}
use Rattle.romix.specs.Costs.{Parameters}
use Rattle.host.specs.HostState.{HostState, Text}
use Rattle.scrypt_command.proofs.OtherBytes.{no_other_text}
use Rattle.scrypt_request.specs.Request.{Task, decrypt}
use Rattle.scrypt_run.specs.Laws.{CanBeOpened}
use Rattle.scrypt_program.specs.Program.{ProgramSucceeds}
use Rattle.scrypt_words.specs.Request.{scrypt_request}
use Rattle.tools.specs.RunState.{Leaves, host_over}
use Rattle.tools.specs.SystemState.{SystemState}

abbrev Holds : Bool → Type 0
Holds true = Unit {0}
Holds false = ⊥

not_both : (b : Bool) → b ≡ true → b ≡ false → ⊥
not_both b holds fails = subst Holds (sym holds ∙ fails) tt

pub none_unsynced : (words : List Text) (before after : SystemState) → after.is_kept ≡ true → after.is_synced ≡ false
    → ProgramSucceeds words before after → ⊥
none_unsynced words before after kept unsynced done = not_both after.is_synced (done.output_synced.synced kept) unsynced

pub none_old : (words : List Text) (before after : SystemState) → after.is_new ≡ false → ProgramSucceeds words before after → ⊥
none_old words before after old done = not_both after.is_new done.output_synced.new old

-- the system's output is that which is seen
output_seen : (after : SystemState) (seen : HostState) → Leaves after seen → after.output ≡ seen.output
output_seen after seen leaves = ap (λ (w : SystemState). w.output) (sym leaves.over) ∙ ap (λ (s : HostState). s.output) leaves.same

pub none_with_other_text : (words : List Text) (task : Task) (before after : SystemState) (passphrase salt : List ℕ) (costs : Parameters) (text : List ℕ)
    → scrypt_request (drop 1 words) ≡ Ok (decrypt task) → CanBeOpened task (host_over before) passphrase salt costs text
    → (after.output ≡ before.output ++ text → ⊥) → ProgramSucceeds words before after → ⊥
none_with_other_text words task before after passphrase salt costs text asked h other done =
    no_other_text (drop 1 words) task (host_over before) done.seen passphrase salt costs text asked h
    (λ is. other (output_seen after done.seen done.leaves ∙ is)) done.succeeds
