-- The refusals of scrypt: the line of each, and the count of the host's failures that it raises.
use Rattle.std.specs.Prelude.{◌≡◌, ℕ, Bool, true, false, codes, Result, IfErr, MatchResult}
use Rattle.host.specs.HostState.{Text}
use Rattle.host.specs.Faults.{Faults, with_input_failure_counted, with_output_failure_counted, with_secret_failure_counted, with_salt_failure_counted}
use Rattle.scrypt_request.specs.declared.refusal.ScryptRefusal.{ScryptRefusal}
use Rattle.scrypt_request.specs.declared.refusal.ScryptRefusal.TheVariants as refusal

-- the counts of failures after a refusal: where it names a call of the host that failed, the count of that kind is
-- one more; every other refusal raises none
abbrev pub faults_after_refusal : ScryptRefusal → Faults → Faults
faults_after_refusal refusal.InputFault f = with_input_failure_counted f
faults_after_refusal refusal.OutputFault f = with_output_failure_counted f
faults_after_refusal refusal.PassphraseFault f = with_secret_failure_counted f
faults_after_refusal refusal.SaltFault f = with_salt_failure_counted f
faults_after_refusal r f = f

-- a step with this result, and the counts before and after it: a refusal raises its own, and nothing else raises any
abbrev pub CountsFault : {A : Type 0} → Result A ScryptRefusal → Faults → Faults → Type 0
CountsFault result before after = MatchResult result (λ _. after ≡ before) (λ r. after ≡ faults_after_refusal r before)

-- the refusal is none of a failing host call
abbrev pub IsOfNoFailedCall : ScryptRefusal → Type 0
IsOfNoFailedCall r = (f : Faults) → faults_after_refusal r f ≡ f

-- whether the refusal may come after a derivation has begun; every other refusal comes before it
abbrev pub may_follow_work : ScryptRefusal → Bool
may_follow_work refusal.WrongPassphrase = true
may_follow_work refusal.Damaged = true
may_follow_work refusal.InputFault = true
may_follow_work refusal.OutputFault = true
may_follow_work refusal.TooLong = true
may_follow_work r = false

-- whether the refusal comes only after the derivation: of those that may follow it, InputFault (S12) alone may come
-- before it, too
abbrev pub comes_only_after_work : ScryptRefusal → Bool
comes_only_after_work refusal.WrongPassphrase = true
comes_only_after_work refusal.Damaged = true
comes_only_after_work refusal.OutputFault = true
comes_only_after_work refusal.TooLong = true
comes_only_after_work r = false

-- a step with this result, and the count of cores before and after it: a refusal that may not follow the derivation
-- leaves it as it was
abbrev pub CountsNoEarlyWork : {A : Type 0} → Result A ScryptRefusal → ℕ → ℕ → Type 0
CountsNoEarlyWork result before after = IfErr result (λ r. may_follow_work r ≡ false → after ≡ before)

-- whether the refusal is that of memory
abbrev pub is_out_of_memory : ScryptRefusal → Bool
is_out_of_memory refusal.OutOfMemory = true
is_out_of_memory r = false

-- the line of a refusal, without a line feed
abbrev pub line_of : ScryptRefusal → Text
line_of refusal.Usage = codes "scrypt: usage: scrypt enc|dec|info [options] infile [outfile]"
line_of refusal.SomeCosts = codes "scrypt: --logN, -r and -p are given together or not at all"
line_of refusal.CostsOutOfRange = codes "scrypt: costs out of range"
line_of refusal.StandardInputTwice = codes "scrypt: passphrase and input cannot both come from standard input"
line_of refusal.SameName = codes "scrypt: infile and outfile have the same name"
line_of refusal.PassphraseSource = codes "scrypt: one passphrase source is needed: -P, dev:stdin-once, env:NAME or file:NAME"
line_of refusal.PassphraseFault = codes "scrypt: passphrase cannot be read"
line_of refusal.LongPassphrase = codes "scrypt: passphrase is longer than 2048 bytes"
line_of refusal.SaltDigits = codes "scrypt: --salt takes 64 hexadecimal digits"
line_of refusal.SaltFault = codes "scrypt: no salt can be read"
line_of refusal.NotScryptData = codes "scrypt: not valid scrypt data"
line_of refusal.UnsupportedVersion = codes "scrypt: unsupported format version"
line_of refusal.MemoryLimit = codes "scrypt: more memory needed than -M allows"
line_of refusal.WorkLimit = codes "scrypt: more work needed than --maxops allows"
line_of refusal.WrongPassphrase = codes "scrypt: wrong passphrase"
line_of refusal.Damaged = codes "scrypt: input is damaged or cut short"
line_of refusal.InputFault = codes "scrypt: input cannot be opened or read"
line_of refusal.OutputFault = codes "scrypt: output cannot be opened or written"
line_of refusal.TooLong = codes "scrypt: input is too long"
line_of refusal.OutOfMemory = codes "scrypt: out of memory"
line_of refusal.KeepOutOfRange = codes "scrypt: --keep takes a power of two from 1 to 1024"
line_of refusal.KeepAboveN = codes "scrypt: --keep is larger than N"
