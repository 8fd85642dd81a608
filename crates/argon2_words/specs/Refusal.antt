-- The refusals of argon2: the line of each, and the count of the host's failures that it raises.
use Rattle.std.specs.Prelude.{◌≡◌, Result, MatchResult, codes}
use Rattle.argon.specs.declared.fault.ParamFault.{ParamFault}
use Rattle.argon.specs.declared.fault.ParamFault.TheVariants as fault
use Rattle.host.specs.HostState.{Text}
use Rattle.host.specs.Faults.{Faults, with_output_failure_counted, with_secret_failure_counted}
use Rattle.argon2_words.specs.declared.refusal.Argon2Refusal.{Argon2Refusal}
use Rattle.argon2_words.specs.declared.refusal.Argon2Refusal.TheVariants as refusal

-- the refusal of the command, by the fault of parameters; the length of a password is tested before, so its row is
-- never taken
abbrev pub refusal_of : ParamFault → Argon2Refusal
refusal_of fault.Passes = refusal.Passes
refusal_of fault.Lanes = refusal.Lanes
refusal_of fault.Memory = refusal.Memory
refusal_of fault.TagLength = refusal.TagLength
refusal_of fault.SaltLength = refusal.SaltLength
refusal_of fault.PasswordLength = refusal.LongPassword
refusal_of fault.MemoryLimit = refusal.MemoryLimit
refusal_of fault.WorkLimit = refusal.WorkLimit

-- the counts of failures after a refusal: where it names a call of the host that failed, the count of that kind is
-- one more; every other refusal raises none
abbrev pub faults_after_refusal : Argon2Refusal → Faults → Faults
faults_after_refusal refusal.PasswordFault f = with_secret_failure_counted f
faults_after_refusal refusal.OutputFault f = with_output_failure_counted f
faults_after_refusal r f = f

-- a step with this result, and the counts before and after it: a refusal raises its own, and nothing else raises any
abbrev pub CountsFault : {A : Type 0} → Result A Argon2Refusal → Faults → Faults → Type 0
CountsFault result before after = MatchResult result (λ _. after ≡ before) (λ r. after ≡ faults_after_refusal r before)

-- the refusal is one of A1 to A8c, that is, neither A9 (of the output) nor A10 (of memory), which a run meets only
-- after these
abbrev pub IsBeforeMemoryAndOutput : Argon2Refusal → Type 0
IsBeforeMemoryAndOutput refusal.OutputFault = ⊥
IsBeforeMemoryAndOutput refusal.OutOfMemory = ⊥
IsBeforeMemoryAndOutput r = Unit {0}

-- the refusal is A10, of memory, or A9, of the output, which come where no other is due
abbrev pub IsMemoryOrOutputRefusal : Argon2Refusal → Type 0
IsMemoryOrOutputRefusal refusal.OutOfMemory = Unit {0}
IsMemoryOrOutputRefusal refusal.OutputFault = Unit {0}
IsMemoryOrOutputRefusal r = ⊥

-- the refusal is none of a failing call of the host, and so raises no count
abbrev pub IsOfNoFailedCall : Argon2Refusal → Type 0
IsOfNoFailedCall r = (f : Faults) → faults_after_refusal r f ≡ f

-- the line of a refusal, without a line feed
abbrev pub line_of : Argon2Refusal → Text
line_of refusal.Usage = codes "argon2: usage: argon2 salt [-i|-d|-id] [-t N] [-m N | -k N] [-p N] [-l N] [-v VERSION] [--maxmem KIB] [--maxops N] (-e|-r)"
line_of refusal.UnknownWord = codes "argon2: unknown word"
line_of refusal.MissingValue = codes "argon2: missing value"
line_of refusal.BadNumber = codes "argon2: bad number"
line_of refusal.OneForm = codes "argon2: exactly one of -e and -r is needed"
line_of refusal.PasswordFault = codes "argon2: password cannot be read"
line_of refusal.EmptyPassword = codes "argon2: password is empty"
line_of refusal.LongPassword = codes "argon2: password is longer than 127 bytes"
line_of refusal.Passes = codes "argon2: passes out of range"
line_of refusal.Lanes = codes "argon2: lanes out of range"
line_of refusal.Memory = codes "argon2: memory out of range"
line_of refusal.TagLength = codes "argon2: tag length out of range"
line_of refusal.SaltLength = codes "argon2: salt length out of range"
line_of refusal.MemoryLimit = codes "argon2: more memory needed than --maxmem allows"
line_of refusal.WorkLimit = codes "argon2: more work needed than --maxops allows"
line_of refusal.OutOfMemory = codes "argon2: out of memory"
line_of refusal.OutputFault = codes "argon2: output cannot be written"
