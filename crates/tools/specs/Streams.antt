-- What is read from a system and written to it by calls that a signal may interrupt, or by several calls: a stream, a
-- secret, a salt, an output. `state`, `files` and `failures` are what contracts see of the system.
use Rattle.std.specs.Prelude.{◌≡◌, ◌<◌, ℕ, List, Some, Result, codes, drop, take, IfOk, OnErr, OnOk}
use Rattle.host.specs.Faults.{Faults}
use Rattle.host.specs.HostState.{KeepsOnErr, SecretSource, Text, env}
use Rattle.host.specs.Secret.{IsBeginning}
use Rattle.tools.specs.Failures.{AreNoFewer, read_failure_count}
use Rattle.tools.specs.RunState.{name_opened_for_secret, random_salt_of, rest_of_secret_stream, secret_bytes_in_system}
use Rattle.tools.specs.SystemState.{Files, LeavesAllBut, OpensNoOther, Reads, SystemState, TakesFrom, after_write, state_of_read_stream}
use Rattle.tools.specs.declared.system.Reading.{Reading}
use Rattle.tools.specs.declared.system.Reading.TheVariants as reading

-- ---- the bytes

-- the next bytes of a stream come into a buffer, none only at its end; after a fault nothing was read
pub record ReadsSome {System E : Type 0} (state : System → SystemState) (files : System → Files) (r : Reading) (result : Result ℕ E) (buf : List ℕ) (before after : System) : Type 0 where
  pub bytes : IfOk result (λ n. Reads r n buf (state before) (state after))
  pub kept : KeepsOnErr result (state before) (state after)
  pub same_files : files after ≡ files before

-- as many bytes of a stream come into a buffer as there are and as fit, and no more are taken; after a fault some may
-- have been read
pub record FillsBuffer {System E : Type 0} (state : System → SystemState) (files : System → Files) (r : Reading) (result : Result ℕ E) (buf : List ℕ) (before after : System) : Type 0 where
  pub whole : IfOk result (λ n. IsBeginning (Some (state_of_read_stream r (state before)).left) n buf)
  pub left : IfOk result (λ n. (state_of_read_stream r (state after)).left ≡ drop n (state_of_read_stream r (state before)).left)
  pub taken : TakesFrom r (state before) (state after)
  pub same_files : files after ≡ files before

-- a beginning of these bytes stands after the output; after a fault nothing was written
pub record WritesSome {System E : Type 0} (state : System → SystemState) (files : System → Files) (bytes : List ℕ) (result : Result ℕ E) (before after : System) : Type 0 where
  pub put : IfOk result (λ n. state after ≡ after_write (take n bytes) (state before))
  pub kept : KeepsOnErr result (state before) (state after)
  pub same_files : files after ≡ files before

-- of a secret source so many bytes were taken as were given, and for a variable nothing of the system has changed
pub record TakesNoMoreOfSecret {E : Type 0} (source : SecretSource) (result : Result ℕ E) (before after : SystemState) : Type 0 where
  pub left : IfOk result (λ n. after.secret.left ≡ rest_of_secret_stream source n before)
  pub variable : (name : Text) → source ≡ env name → after ≡ before

-- the first bytes of a secret source come into a buffer, as many as there are and as fit, and no more are taken; no other
-- source is opened
pub record ReadsSecret {E : Type 0} (source : SecretSource) (result : Result ℕ E) (buf : List ℕ) (before after : SystemState) : Type 0 where
  pub bytes : IfOk result (λ n. IsBeginning (secret_bytes_in_system before source) n buf)
  pub no_more : TakesNoMoreOfSecret source result before after
  pub no_other : OpensNoOther (name_opened_for_secret (Some source)) after.secret

-- the salt is the first 32 random bytes; no other source is opened, and nothing else of the system has changed
pub record ReadsSalt {A E : Type 0} (result : Result A E) (salt : List ℕ) (before after : SystemState) : Type 0 where
  pub random : OnOk result (salt ≡ random_salt_of before)
  pub no_other : OpensNoOther (Some (Some (codes "/dev/urandom"))) after.random
  pub kept : LeavesAllBut reading.Random before after

-- ---- the failures

-- what is read is a fault only where a call for this stream failed; no kind of call has failed less often
pub record FailsByRead {System A E : Type 0} (failures : System → Faults) (r : Reading) (result : Result A E) (before after : System) : Type 0 where
  pub no_fewer : AreNoFewer (failures before) (failures after)
  pub failed : OnErr result (read_failure_count r (failures before) < read_failure_count r (failures after))

-- the same; and where random bytes end, which `IsEnd` says of how many came, that is such a failure
pub record FailsByReadOrEnd {System E : Type 0} (failures : System → Faults) (r : Reading) (IsEnd : ℕ → Type 0) (result : Result ℕ E) (before after : System) : Type 0 where
  pub read : FailsByRead failures r result before after
  pub ended : IfOk result (λ n. IsEnd n → r ≡ reading.Random → (failures before).salt < (failures after).salt)

-- what is written is a fault only where a call for the output failed; no kind of call has failed less often
pub record FailsByWrite {System A E : Type 0} (failures : System → Faults) (result : Result A E) (before after : System) : Type 0 where
  pub no_fewer : AreNoFewer (failures before) (failures after)
  pub failed : OnErr result ((failures before).output < (failures after).output)
