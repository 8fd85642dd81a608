-- The refusals of argon2-verify: the line of each, and the count of the host's failures that it raises.
use Rattle.std.specs.Prelude.{◌≡◌, Result, MatchResult, codes}
use Rattle.host.specs.HostState.{Text}
use Rattle.host.specs.Faults.{Faults, with_input_failure_counted, with_secret_failure_counted}
use Rattle.argon2_verify.specs.declared.refusal.VerifyRefusal.{VerifyRefusal}
use Rattle.argon2_verify.specs.declared.refusal.VerifyRefusal.TheVariants as refusal

-- the counts of failures after a refusal: where it names a call of the host that failed, the count of that kind is
-- one more; every other refusal raises none
abbrev pub faults_after_refusal : VerifyRefusal → Faults → Faults
faults_after_refusal refusal.FileFault f = with_input_failure_counted f
faults_after_refusal refusal.PasswordFault f = with_secret_failure_counted f
faults_after_refusal r f = f

-- a step with this result, and the counts before and after it: a refusal raises its own, and nothing else raises any
abbrev pub CountsFault : {A : Type 0} → Result A VerifyRefusal → Faults → Faults → Type 0
CountsFault result before after = MatchResult result (λ _. after ≡ before) (λ r. after ≡ faults_after_refusal r before)

-- the refusal is none of a failing call of the host, and so raises no count
abbrev pub IsOfNoFailedCall : VerifyRefusal → Type 0
IsOfNoFailedCall r = (f : Faults) → faults_after_refusal r f ≡ f

-- the refusal is not that of memory
abbrev pub IsNotOutOfMemory : VerifyRefusal → Type 0
IsNotOutOfMemory refusal.OutOfMemory = ⊥
IsNotOutOfMemory r = Unit {0}

-- the line of a refusal, without a line feed
abbrev pub line_of : VerifyRefusal → Text
line_of refusal.Usage = codes "argon2-verify: usage: argon2-verify [--maxmem KIB] [--maxops N] file"
line_of refusal.BadNumber = codes "argon2-verify: bad number"
line_of refusal.FileFault = codes "argon2-verify: file cannot be read"
line_of refusal.FileIsStdin = codes "argon2-verify: file is standard input, which gives the password"
line_of refusal.NotHash = codes "argon2-verify: the file's first line is no encoded hash"
line_of refusal.OutOfRange = codes "argon2-verify: a number of the hash, or the length of its salt or tag, is out of range"
line_of refusal.MemoryLimit = codes "argon2-verify: more memory needed than --maxmem allows"
line_of refusal.WorkLimit = codes "argon2-verify: more work needed than --maxops allows"
line_of refusal.PasswordFault = codes "argon2-verify: password cannot be read"
line_of refusal.LongPassword = codes "argon2-verify: password is longer than 4096 bytes"
line_of refusal.OutOfMemory = codes "argon2-verify: out of memory"
