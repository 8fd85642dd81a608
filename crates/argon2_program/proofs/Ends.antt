-- What each refusal of argon2 leaves: where an output was asked for, it alone can have failed.
use Rattle.std.proofs.Common.{◌≡◌, ◌⊎◌, inl, inr, ℕ, Bool, true, false, List, [], None, if◌then◌else◌, is_ok, ap, refl}
use Rattle.host.specs.Faults.{Faults, no_faults}
use Rattle.host.specs.HostState.{HostState, Text, after_ask_output, after_ask_secret, stdin_once}
use Rattle.host.specs.Output.{IsOutputCutShort}
use Rattle.argon2_command.specs.Run.{IsRefused, after_password_asked}
use Rattle.argon2_words.specs.Request.{argon2_request}
use Rattle.argon2_words.specs.Refusal.{faults_after_refusal}
use Rattle.argon2_words.specs.declared.refusal.Argon2Refusal.{Argon2Refusal}
use Rattle.argon2_words.specs.declared.refusal.Argon2Refusal.TheVariants as refusal
use Rattle.tools.proofs.Ends.{LeavesOutput, before-output, output-alone, said-same}

-- the counts once a run was refused in which nothing had failed
abbrev after_refusal : Argon2Refusal → Faults
after_refusal r = faults_after_refusal r no_faults

unasked-where : (read : Bool) (before : HostState) → before.output_asked ≡ None → (if read then after_ask_secret stdin_once before else before).output_asked ≡ None
unasked-where true before none = none
unasked-where false before none = none

unasked-before : (words : List Text) (before : HostState) → before.output_asked ≡ None → (after_password_asked words before).output_asked ≡ None
unasked-before words before none = unasked-where (is_ok (argon2_request words)) before none

pub of-words : (r : Argon2Refusal) (words : List Text) (before seen : HostState) → before.output_asked ≡ None
    → IsRefused r words before seen → LeavesOutput seen (after_refusal r)
of-words r words before seen none (inl (due, early, same)) = before-output (after_refusal r) _ seen same (unasked-before words before none)
of-words r words before seen none (inr (inl (is, asked, same))) = before-output (after_refusal r) _ seen same (unasked-before words before none)
of-words r words before seen none (inr (inr (inl (is, due, same)))) = before-output (after_refusal r) _ seen same (unasked-before words before none)
of-words r words before seen none (inr (inr (inr fails))) = output-alone (after_refusal r) seen
    (ap (λ q. (after_refusal q).input) fails.is) (ap (λ q. (after_refusal q).secrets) fails.is) (ap (λ q. (after_refusal q).salt) fails.is)

-- ---- no line is said before that of the refusal, and none has failed

unsaid-where : (read : Bool) (before : HostState) → before.said ≡ [] → (if read then after_ask_secret stdin_once before else before).said ≡ []
unsaid-where true before none = none
unsaid-where false before none = none

unsaid-before : (words : List Text) (before : HostState) → before.said ≡ [] → (after_password_asked words before).said ≡ []
unsaid-before words before none = unsaid-where (is_ok (argon2_request words)) before none

unsaid-same : (words : List Text) (before seen : HostState) → before.said ≡ [] → seen ≡ after_password_asked words before → seen.said ≡ []
unsaid-same words before seen none same = said-same _ seen same (unsaid-before words before none)

unsaid-output : (words : List Text) (output : List ℕ) (before seen : HostState) → before.said ≡ []
    → (seen ≡ after_ask_output None (after_password_asked words before)) ⊎ IsOutputCutShort None output (after_password_asked words before) seen → seen.said ≡ []
unsaid-output words output before seen none (inl same) = said-same _ seen same (unsaid-before words before none)
unsaid-output words output before seen none (inr cut) = said-same _ seen cut.begun (unsaid-before words before none)

pub unsaid-words : (r : Argon2Refusal) (words : List Text) (before seen : HostState) → before.said ≡ [] → IsRefused r words before seen → seen.said ≡ []
unsaid-words r words before seen none (inl (due, early, same)) = unsaid-same words before seen none same
unsaid-words r words before seen none (inr (inl (is, asked, same))) = unsaid-same words before seen none same
unsaid-words r words before seen none (inr (inr (inl (is, due, same)))) = unsaid-same words before seen none same
unsaid-words r words before seen none (inr (inr (inr fails))) = unsaid-output words fails.output before seen none fails.left

pub no-lines : (r : Argon2Refusal) → (after_refusal r).lines ≡ 0
no-lines refusal.Usage = refl
no-lines refusal.UnknownWord = refl
no-lines refusal.MissingValue = refl
no-lines refusal.BadNumber = refl
no-lines refusal.OneForm = refl
no-lines refusal.PasswordFault = refl
no-lines refusal.EmptyPassword = refl
no-lines refusal.LongPassword = refl
no-lines refusal.Passes = refl
no-lines refusal.Lanes = refl
no-lines refusal.Memory = refl
no-lines refusal.TagLength = refl
no-lines refusal.SaltLength = refl
no-lines refusal.MemoryLimit = refl
no-lines refusal.WorkLimit = refl
no-lines refusal.OutOfMemory = refl
no-lines refusal.OutputFault = refl
