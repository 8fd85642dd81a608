-- What a run counts: the Salsa20/8 cores of its one derivation.
use Rattle.std.specs.Prelude.{◌≡◌, ◌+◌, ◌≤◌, ◌⊎◌, true, ℕ, List, Option, None, Result, IfErr}
use Rattle.romix.specs.Allowance.{costs_with_allowed_keep}
use Rattle.romix.specs.Sparse.{sparse_table_core_count}
use Rattle.romix.specs.SparseCosts.{CostsAndKeep}
use Rattle.encfile.specs.Header.{costs_of, salt_of}
use Rattle.host.specs.HostState.{HostState}
use Rattle.scrypt_run.specs.Encrypting.{salt_used}
use Rattle.scrypt_run.specs.Passphrase.{HasPassphrase, first_line_of_source}
use Rattle.scrypt_request.specs.Refusal.{comes_only_after_work}
use Rattle.scrypt_request.specs.Request.{Encryption, Request, Task, allowance_of, decrypt, encrypt, inspect}
use Rattle.scrypt_request.specs.declared.refusal.ScryptRefusal.{ScryptRefusal}

-- the counter of Salsa20/8 cores went on by exactly one derivation: of the passphrase in this line, with this salt,
-- these costs and this S
pub record DerivesOnce (line : Option (List ℕ)) (salt : List ℕ) (sparse : CostsAndKeep) (before after : ℕ) : Type 0 where
  pub passphrase : List ℕ
  pub given : HasPassphrase line passphrase
  pub count : after ≡ before + sparse_table_core_count passphrase salt sparse

-- the counter went on by the derivation of an encryption, with the costs and S that were asked for, and the salt that
-- was asked for or the host's
abbrev pub CountsEncryptionWork : Encryption → HostState → ℕ → ℕ → Type 0
CountsEncryptionWork asked s before after =
    DerivesOnce (first_line_of_source asked.task.source s) (salt_used asked.salt s) (costs_with_allowed_keep (allowance_of asked.task) asked.costs) before after

-- the counter went on by the derivation of a decryption, with the costs and the salt of the header of the input, and
-- the S that was asked for
abbrev pub CountsDecryptionWork : Task → HostState → ℕ → ℕ → Type 0
CountsDecryptionWork task s before after =
    DerivesOnce (first_line_of_source task.source s) (salt_of s.input) (costs_with_allowed_keep (allowance_of task) (costs_of s.input)) before after

-- the counter went on by the derivation of a request; `info` has none
abbrev pub CountsRequestWork : Request → HostState → ℕ → ℕ → Type 0
CountsRequestWork (encrypt asked) s before after = CountsEncryptionWork asked s before after
CountsRequestWork (decrypt task) s before after = CountsDecryptionWork task s before after
CountsRequestWork (inspect infile) s before after = after ≡ before

-- the run ended after its derivation: its refusal comes only there, or an output was asked for. So the two places of
-- InputFault (S12) are kept apart: no output is asked for where the input could not be opened, or failed in its first
-- 96 bytes
abbrev pub EndsAfterWork : ScryptRefusal → HostState → Type 0
EndsAfterWork r s = (comes_only_after_work r ≡ true) ⊎ (s.output_asked ≡ None → ⊥)

-- a run with this result, after which the host is as `seen` says, and the count of cores before and after it: one that
-- did not end after its derivation leaves it as it was
abbrev pub CountsNoWorkIfRefusedEarly : {A : Type 0} → Result A ScryptRefusal → HostState → ℕ → ℕ → Type 0
CountsNoWorkIfRefusedEarly result seen before after = IfErr result (λ r. (EndsAfterWork r seen → ⊥) → after ≡ before)

-- the count of cores before and after a step went on by no more than this limit
abbrev pub CountsWorkWithin : ℕ → ℕ → ℕ → Type 0
CountsWorkWithin max_ops before after = after ≤ before + max_ops
