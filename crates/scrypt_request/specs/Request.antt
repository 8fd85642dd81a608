-- What a run of scrypt is asked for.
use Rattle.std.specs.Prelude.{◌≡◌, ◌^◌, ◌≤◌, true, List, ℕ, Option, option_map, ⊤}
use Rattle.std.specs.Borrow.{Bor}
use Rattle.romix.specs.Allowance.{Allowance}
use Rattle.romix.specs.Costs.{Parameters}
use Rattle.romix.specs.SparseCosts.{is_valid_keep}
use Rattle.romix.specs.declared.limits.Limits.{Limits}
use Rattle.host.specs.HostState.{SecretSource, Text}
use Rattle.host.specs.Secret.{source_of}
use Rattle.scrypt_request.specs.declared.request.Task.{Task as TaskInCode}
use Rattle.scrypt_request.specs.declared.request.Encryption.{Encryption as EncryptionInCode}
use Rattle.scrypt_request.specs.declared.request.Request.{Request as RequestInCode}
use Rattle.scrypt_request.specs.declared.request.Request.TheVariants as in_code

-- what `enc` and `dec` both are asked for: the limits; S, by which row i of V is kept where S divides i; the
-- passphrase's source; and the names of the files, where None is the standard stream
pub record Task : Type 0 where
  pub limits : Limits
  pub keep : ℕ
  pub source : SecretSource
  pub infile : Option Text
  pub outfile : Option Text

-- what `enc` is asked for: the costs of the new file; its salt, where None is the host's; and the rest
pub record Encryption : Type 0 where
  pub costs : Parameters
  pub salt : Option (List ℕ)
  pub task : Task

-- what is asked for: to encrypt, to decrypt, or to show the costs of a file
pub data Request : Type 0 where
  encrypt : Encryption → Request
  decrypt : Task → Request
  inspect : Option Text → Request

-- what the derivation of a task may take
abbrev pub allowance_of : Task → Allowance
allowance_of task = record { limits = task.limits; keep = task.keep }

-- the limit on bytes is at most 2^40, and S is a power of two from 1 to 1,024
pub record HasAllowedLimits (task : Task) : Type 0 where
  pub memory : task.limits.max_bytes ≤ 2 ^ 40
  pub keep : is_valid_keep task.keep ≡ true

-- the limit on bytes and the S of a request are allowed; `info` has none
abbrev pub IsAllowed : Request → Type 0
IsAllowed (encrypt encryption) = HasAllowedLimits encryption.task
IsAllowed (decrypt task) = HasAllowedLimits task
IsAllowed (inspect infile) = ⊤

-- ---- what contracts see of the code's request: its names as texts

-- the text that is lent, if it is there
abbrev pub name_view : Option (Bor Text) → Option Text
name_view = option_map (λ s. s.now)

-- a task of the code, with its names as texts
abbrev pub task_view : TaskInCode → Task
task_view t = record {
  limits = t.limits;
  keep = t.keep;
  source = source_of t.source;
  infile = name_view t.infile;
  outfile = name_view t.outfile;
}

-- an encryption of the code, with its names as texts
abbrev pub encryption_view : EncryptionInCode → Encryption
encryption_view e = record { costs = e.costs; salt = e.salt; task = task_view e.task }

-- a request of the code, with its names as texts
abbrev pub scrypt_request_view : RequestInCode → Request
scrypt_request_view (in_code.Encrypt e) = encrypt (encryption_view e)
scrypt_request_view (in_code.Decrypt t) = decrypt (task_view t)
scrypt_request_view (in_code.Inspect infile) = inspect (name_view infile)

-- a request of the code has limits that can be asked for
abbrev pub RequestHasAllowedLimits : RequestInCode → Type 0
RequestHasAllowedLimits request = IsAllowed (scrypt_request_view request)
