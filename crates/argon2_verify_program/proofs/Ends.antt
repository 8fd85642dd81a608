-- What each refusal of argon2-verify leaves: no output is asked for.
use Rattle.std.proofs.Common.{◌≡◌, inl, inr, List, [], None, refl}
use Rattle.host.specs.Faults.{Faults, no_faults}
use Rattle.host.specs.HostState.{HostState, Text}
use Rattle.argon2_verify.specs.Reading.{IsFileRefused}
use Rattle.argon2_verify.specs.Refusal.{faults_after_refusal}
use Rattle.argon2_verify.specs.Run.{IsRefused}
use Rattle.argon2_verify.specs.declared.refusal.VerifyRefusal.{VerifyRefusal}
use Rattle.argon2_verify.specs.declared.refusal.VerifyRefusal.TheVariants as refusal
use Rattle.tools.proofs.Ends.{LeavesOutput, before-output, said-same}

of-file : (r : VerifyRefusal) (counts : Faults) (file : Text) (before seen : HostState) → before.output_asked ≡ None → IsFileRefused file r before seen
    → LeavesOutput seen counts
of-file r counts file before seen none (inl (is, inl same)) = before-output counts before seen same none
of-file r counts file before seen none (inl (is, inr (n, few, within, unread, same))) = before-output counts _ seen same none
of-file r counts file before seen none (inr (inl (is, own, same))) = before-output counts _ seen same none
of-file r counts file before seen none (inr (inr (apart, is, same))) = before-output counts _ seen same none

pub of-words : (r : VerifyRefusal) (counts : Faults) (words : List Text) (before seen : HostState) → before.output_asked ≡ None
    → IsRefused r words before seen → LeavesOutput seen counts
of-words r counts words before seen none (inl (is, same)) = before-output counts before seen same none
of-words r counts words before seen none (inr (inl file)) = of-file r counts file.request.file before seen none file.is
of-words r counts words before seen none (inr (inr (inl limits))) = before-output counts _ seen limits.left none
of-words r counts words before seen none (inr (inr (inr password))) = before-output counts _ seen password.left none

-- ---- no line is said before that of the refusal, and none has failed

unsaid-file : (r : VerifyRefusal) (file : Text) (before seen : HostState) → before.said ≡ [] → IsFileRefused file r before seen → seen.said ≡ []
unsaid-file r file before seen none (inl (is, inl same)) = said-same before seen same none
unsaid-file r file before seen none (inl (is, inr (n, few, within, unread, same))) = said-same _ seen same none
unsaid-file r file before seen none (inr (inl (is, own, same))) = said-same _ seen same none
unsaid-file r file before seen none (inr (inr (apart, is, same))) = said-same _ seen same none

pub unsaid-words : (r : VerifyRefusal) (words : List Text) (before seen : HostState) → before.said ≡ [] → IsRefused r words before seen → seen.said ≡ []
unsaid-words r words before seen none (inl (is, same)) = said-same before seen same none
unsaid-words r words before seen none (inr (inl file)) = unsaid-file r file.request.file before seen none file.is
unsaid-words r words before seen none (inr (inr (inl limits))) = said-same _ seen limits.left none
unsaid-words r words before seen none (inr (inr (inr password))) = said-same _ seen password.left none

pub no-lines : (r : VerifyRefusal) → (faults_after_refusal r no_faults).lines ≡ 0
no-lines refusal.Usage = refl
no-lines refusal.BadNumber = refl
no-lines refusal.FileFault = refl
no-lines refusal.FileIsStdin = refl
no-lines refusal.NotHash = refl
no-lines refusal.OutOfRange = refl
no-lines refusal.MemoryLimit = refl
no-lines refusal.WorkLimit = refl
no-lines refusal.PasswordFault = refl
no-lines refusal.LongPassword = refl
no-lines refusal.OutOfMemory = refl
