-- What each refusal of scrypt leaves: an output was asked for only once the input was opened, and then neither the
-- passphrase nor the salt can fail.
use Rattle.std.proofs.Common.{◌≡◌, ◌∙◌, inl, inr, ℕ, List, [], Option, None, Some, ap, refl}
use Rattle.host.specs.Faults.{Faults, no_faults}
use Rattle.host.specs.HostState.{HostState, Text}
use Rattle.scrypt_command.specs.Run.{IsRefused, Succeeds}
use Rattle.scrypt_request.specs.Refusal.{faults_after_refusal}
use Rattle.scrypt_request.specs.Request.{Encryption, Request, Task, encrypt, decrypt, inspect}
use Rattle.scrypt_request.specs.declared.refusal.ScryptRefusal.{ScryptRefusal}
use Rattle.scrypt_request.specs.declared.refusal.ScryptRefusal.TheVariants as refusal
use Rattle.scrypt_run.specs.Decrypting.{DecryptRefused}
use Rattle.scrypt_run.specs.Encrypting.{EncryptRefused}
use Rattle.scrypt_run.specs.Front.{FrontNotRead}
use Rattle.scrypt_run.specs.Inspecting.{InspectRefused}
use Rattle.scrypt_run.specs.Run.{ScryptRequestRefused, ScryptRequestSucceeds}
use Rattle.scrypt_run.specs.Text.{RefusesDuringText}
use Rattle.tools.proofs.Ends.{LeavesOutput, before-output, said-same, with-input}

-- the counts once a run was refused in which nothing had failed
abbrev after_refusal : ScryptRefusal → Faults
after_refusal r = faults_after_refusal r no_faults

-- a refusal that raises no count of a secret or a salt, once the input was opened
late : (r due : ScryptRefusal) (left seen : HostState) (infile : Option Text) → r ≡ due → (after_refusal due).secrets ≡ 0 → (after_refusal due).salt ≡ 0
    → seen ≡ left → left.input_opened ≡ Some infile → LeavesOutput seen (after_refusal r)
late r due left seen infile is secrets salt same opened = with-input (after_refusal r) left seen infile same opened
    (ap (λ q. (after_refusal q).secrets) is ∙ secrets) (ap (λ q. (after_refusal q).salt) is ∙ salt)

during-text : (r : ScryptRefusal) (limit most : ℕ) (gives decides : List ℕ → List ℕ) (before seen : HostState) (infile : Option Text)
    → before.input_opened ≡ Some infile → RefusesDuringText r limit most gives decides before seen → LeavesOutput seen (after_refusal r)
during-text r limit most gives decides before seen infile opened (inl (is, fails)) = late r refusal.InputFault _ seen infile is refl refl fails.passes opened
during-text r limit most gives decides before seen infile opened (inr (inl (is, fails))) = late r refusal.OutputFault _ seen infile is refl refl fails.passes opened
during-text r limit most gives decides before seen infile opened (inr (inr (is, long))) = late r refusal.TooLong _ seen infile is refl refl long.passes opened

not-read : (r : ScryptRefusal) (infile : Option Text) (before seen : HostState) → before.output_asked ≡ None → FrontNotRead infile before seen
    → LeavesOutput seen (after_refusal r)
not-read r infile before seen none (inl same) = before-output (after_refusal r) before seen same none
not-read r infile before seen none (inr failed) = before-output (after_refusal r) _ seen failed.reads none

of-encryption : (r : ScryptRefusal) (asked : Encryption) (before seen : HostState) → before.output_asked ≡ None
    → EncryptRefused r asked before seen → LeavesOutput seen (after_refusal r)
of-encryption r asked before seen none (inl (is, same)) = before-output (after_refusal r) before seen same none
of-encryption r asked before seen none (inr (costs, inl (is, same))) = before-output (after_refusal r) before seen same none
of-encryption r asked before seen none (inr (costs, inr (inl (is, same)))) = before-output (after_refusal r) _ seen same none
of-encryption r asked before seen none (inr (costs, inr (inr (passphrase, given, inl (is, salt, same))))) =
    before-output (after_refusal r) _ seen same none
of-encryption r asked before seen none (inr (costs, inr (inr (passphrase, given, inr (inl (is, same)))))) =
    before-output (after_refusal r) _ seen same none
of-encryption r asked before seen none (inr (costs, inr (inr (passphrase, given, inr (inr (inl (is, same))))))) =
    late r refusal.OutputFault _ seen asked.task.infile is refl refl same refl
of-encryption r asked before seen none (inr (costs, inr (inr (passphrase, given, inr (inr (inr text)))))) =
    during-text r _ _ _ _ _ seen asked.task.infile refl text

of-decryption : (r : ScryptRefusal) (task : Task) (before seen : HostState) → before.output_asked ≡ None
    → DecryptRefused r task before seen → LeavesOutput seen (after_refusal r)
of-decryption r task before seen none (inl (inl (is, front))) = not-read r task.infile before seen none front
of-decryption r task before seen none (inl (inr (is, same))) = before-output (after_refusal r) _ seen same none
of-decryption r task before seen none (inr (passes, inl (is, same))) = before-output (after_refusal r) _ seen same none
of-decryption r task before seen none (inr (passes, inr (passphrase, given, inl (is, same)))) = before-output (after_refusal r) _ seen same none
of-decryption r task before seen none (inr (passes, inr (passphrase, given, inr (inl (is, same))))) = before-output (after_refusal r) _ seen same none
of-decryption r task before seen none (inr (passes, inr (passphrase, given, inr (inr (fits, inl (is, same)))))) =
    late r refusal.OutputFault _ seen task.infile is refl refl same refl
of-decryption r task before seen none (inr (passes, inr (passphrase, given, inr (inr (fits, inr (inl text)))))) =
    during-text r _ _ _ _ _ seen task.infile refl text
of-decryption r task before seen none (inr (passes, inr (passphrase, given, inr (inr (fits, inr (inr (is, damaged))))))) =
    late r refusal.Damaged _ seen task.infile is refl refl damaged.released refl

of-inspection : (r : ScryptRefusal) (infile : Option Text) (before seen : HostState) → before.output_asked ≡ None
    → InspectRefused r infile before seen → LeavesOutput seen (after_refusal r)
of-inspection r infile before seen none (inl (inl (is, front))) = not-read r infile before seen none front
of-inspection r infile before seen none (inl (inr (is, same))) = before-output (after_refusal r) _ seen same none
of-inspection r infile before seen none (inr (valid, inl (is, same))) = before-output (after_refusal r) _ seen same none
of-inspection r infile before seen none (inr (valid, inr (inl (is, same)))) = late r refusal.OutputFault _ seen infile is refl refl same refl
of-inspection r infile before seen none (inr (valid, inr (inr (is, cut)))) = late r refusal.OutputFault _ seen infile is refl refl cut.begun refl

of-request : (r : ScryptRefusal) (request : Request) (before seen : HostState) → before.output_asked ≡ None
    → ScryptRequestRefused r request before seen → LeavesOutput seen (after_refusal r)
of-request r (encrypt asked) before seen none refused = of-encryption r asked before seen none refused
of-request r (decrypt task) before seen none refused = of-decryption r task before seen none refused
of-request r (inspect infile) before seen none refused = of-inspection r infile before seen none refused

pub of-words : (r : ScryptRefusal) (words : List Text) (before seen : HostState) → before.output_asked ≡ None
    → IsRefused r words before seen → LeavesOutput seen (after_refusal r)
of-words r words before seen none (inl (is, same)) = before-output (after_refusal r) before seen same none
of-words r words before seen none (inr refused) = of-request r refused.request before seen none refused.refused

-- ---- no line is said before that of the refusal, and none has failed

unsaid-text : (r : ScryptRefusal) (limit most : ℕ) (gives decides : List ℕ → List ℕ) (before seen : HostState) → before.said ≡ []
    → RefusesDuringText r limit most gives decides before seen → seen.said ≡ []
unsaid-text r limit most gives decides before seen none (inl (is, fails)) = said-same _ seen fails.passes none
unsaid-text r limit most gives decides before seen none (inr (inl (is, fails))) = said-same _ seen fails.passes none
unsaid-text r limit most gives decides before seen none (inr (inr (is, long))) = said-same _ seen long.passes none

unsaid-front : (infile : Option Text) (before seen : HostState) → before.said ≡ [] → FrontNotRead infile before seen → seen.said ≡ []
unsaid-front infile before seen none (inl same) = said-same before seen same none
unsaid-front infile before seen none (inr failed) = said-same _ seen failed.reads none

unsaid-encryption : (r : ScryptRefusal) (asked : Encryption) (before seen : HostState) → before.said ≡ []
    → EncryptRefused r asked before seen → seen.said ≡ []
unsaid-encryption r asked before seen none (inl (is, same)) = said-same before seen same none
unsaid-encryption r asked before seen none (inr (costs, inl (is, same))) = said-same before seen same none
unsaid-encryption r asked before seen none (inr (costs, inr (inl (is, same)))) = said-same _ seen same none
unsaid-encryption r asked before seen none (inr (costs, inr (inr (passphrase, given, inl (is, salt, same))))) = said-same _ seen same none
unsaid-encryption r asked before seen none (inr (costs, inr (inr (passphrase, given, inr (inl (is, same)))))) = said-same _ seen same none
unsaid-encryption r asked before seen none (inr (costs, inr (inr (passphrase, given, inr (inr (inl (is, same))))))) = said-same _ seen same none
unsaid-encryption r asked before seen none (inr (costs, inr (inr (passphrase, given, inr (inr (inr text)))))) = unsaid-text r _ _ _ _ _ seen none text

unsaid-decryption : (r : ScryptRefusal) (task : Task) (before seen : HostState) → before.said ≡ []
    → DecryptRefused r task before seen → seen.said ≡ []
unsaid-decryption r task before seen none (inl (inl (is, front))) = unsaid-front task.infile before seen none front
unsaid-decryption r task before seen none (inl (inr (is, same))) = said-same _ seen same none
unsaid-decryption r task before seen none (inr (passes, inl (is, same))) = said-same _ seen same none
unsaid-decryption r task before seen none (inr (passes, inr (passphrase, given, inl (is, same)))) = said-same _ seen same none
unsaid-decryption r task before seen none (inr (passes, inr (passphrase, given, inr (inl (is, same))))) = said-same _ seen same none
unsaid-decryption r task before seen none (inr (passes, inr (passphrase, given, inr (inr (fits, inl (is, same)))))) = said-same _ seen same none
unsaid-decryption r task before seen none (inr (passes, inr (passphrase, given, inr (inr (fits, inr (inl text)))))) = unsaid-text r _ _ _ _ _ seen none text
unsaid-decryption r task before seen none (inr (passes, inr (passphrase, given, inr (inr (fits, inr (inr (is, damaged))))))) =
    said-same _ seen damaged.released none

unsaid-inspection : (r : ScryptRefusal) (infile : Option Text) (before seen : HostState) → before.said ≡ []
    → InspectRefused r infile before seen → seen.said ≡ []
unsaid-inspection r infile before seen none (inl (inl (is, front))) = unsaid-front infile before seen none front
unsaid-inspection r infile before seen none (inl (inr (is, same))) = said-same _ seen same none
unsaid-inspection r infile before seen none (inr (valid, inl (is, same))) = said-same _ seen same none
unsaid-inspection r infile before seen none (inr (valid, inr (inl (is, same)))) = said-same _ seen same none
unsaid-inspection r infile before seen none (inr (valid, inr (inr (is, cut)))) = said-same _ seen cut.begun none

unsaid-request : (r : ScryptRefusal) (request : Request) (before seen : HostState) → before.said ≡ []
    → ScryptRequestRefused r request before seen → seen.said ≡ []
unsaid-request r (encrypt asked) before seen none refused = unsaid-encryption r asked before seen none refused
unsaid-request r (decrypt task) before seen none refused = unsaid-decryption r task before seen none refused
unsaid-request r (inspect infile) before seen none refused = unsaid-inspection r infile before seen none refused

pub unsaid-words : (r : ScryptRefusal) (words : List Text) (before seen : HostState) → before.said ≡ [] → IsRefused r words before seen → seen.said ≡ []
unsaid-words r words before seen none (inl (is, same)) = said-same before seen same none
unsaid-words r words before seen none (inr refused) = unsaid-request r refused.request before seen none refused.refused

done-request : (request : Request) (before seen : HostState) → before.said ≡ [] → ScryptRequestSucceeds request before seen → seen.said ≡ []
done-request (encrypt asked) before seen none done = said-same _ seen done.encrypted.written none
done-request (decrypt task) before seen none done = said-same _ seen done.decrypted.released none
done-request (inspect infile) before seen none done = said-same _ seen done.written none

-- a run that did what it was asked for has said no line
pub unsaid-done : (words : List Text) (start before seen : HostState) → before ≡ start → start.said ≡ [] → Succeeds words before seen → seen.said ≡ []
unsaid-done words start before seen same none done =
    done-request done.request before seen (said-same start before same none) done.succeeds

pub no-lines : (r : ScryptRefusal) → (after_refusal r).lines ≡ 0
no-lines refusal.Usage = refl
no-lines refusal.SomeCosts = refl
no-lines refusal.CostsOutOfRange = refl
no-lines refusal.StandardInputTwice = refl
no-lines refusal.SameName = refl
no-lines refusal.PassphraseSource = refl
no-lines refusal.PassphraseFault = refl
no-lines refusal.LongPassphrase = refl
no-lines refusal.SaltDigits = refl
no-lines refusal.SaltFault = refl
no-lines refusal.NotScryptData = refl
no-lines refusal.UnsupportedVersion = refl
no-lines refusal.MemoryLimit = refl
no-lines refusal.WorkLimit = refl
no-lines refusal.WrongPassphrase = refl
no-lines refusal.Damaged = refl
no-lines refusal.InputFault = refl
no-lines refusal.OutputFault = refl
no-lines refusal.TooLong = refl
no-lines refusal.OutOfMemory = refl
no-lines refusal.KeepOutOfRange = refl
no-lines refusal.KeepAboveN = refl
