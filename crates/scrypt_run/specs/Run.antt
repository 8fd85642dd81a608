-- A whole run of scrypt for a request.
use Rattle.std.specs.Prelude.{◌≡◌, ℕ, ⊤}
use Rattle.romix.specs.Costs.{cores}
use Rattle.encfile.specs.Header.{costs_of}
use Rattle.host.specs.HostState.{HostState}
use Rattle.scrypt_run.specs.Decrypting.{DecryptRefused, DecryptSucceeds}
use Rattle.scrypt_run.specs.Encrypting.{EncryptRefused, EncryptSucceeds}
use Rattle.scrypt_run.specs.Inspecting.{InspectRefused, InspectSucceeds}
use Rattle.scrypt_request.specs.Request.{Request, encrypt, decrypt, inspect}
use Rattle.scrypt_request.specs.declared.refusal.ScryptRefusal.{ScryptRefusal}

-- the run did what its request asks for: to encrypt, to decrypt, or to show the costs of a file
abbrev pub ScryptRequestSucceeds : Request → HostState → HostState → Type 0
ScryptRequestSucceeds (encrypt asked) before after = EncryptSucceeds asked before after
ScryptRequestSucceeds (decrypt task) before after = DecryptSucceeds task before after
ScryptRequestSucceeds (inspect infile) before after = InspectSucceeds infile before after

-- the run of a request ended with this refusal, before its line is said
abbrev pub ScryptRequestRefused : ScryptRefusal → Request → HostState → HostState → Type 0
ScryptRequestRefused r (encrypt asked) before after = EncryptRefused r asked before after
ScryptRequestRefused r (decrypt task) before after = DecryptRefused r task before after
ScryptRequestRefused r (inspect infile) before after = InspectRefused r infile before after

-- every row of the table is kept: S is 1
abbrev pub StoresWholeTable : Request → Type 0
StoresWholeTable (encrypt asked) = asked.task.keep ≡ 1
StoresWholeTable (decrypt task) = task.keep ≡ 1
StoresWholeTable (inspect infile) = ⊤

-- the Salsa20/8 cores of the derivation that is asked for, where V is kept whole: by the costs of the new file, or by
-- those of the file that is read
abbrev pub salsa20_cores_of_request : Request → HostState → ℕ
salsa20_cores_of_request (encrypt asked) before = cores asked.costs
salsa20_cores_of_request (decrypt task) before = cores (costs_of before.input)
salsa20_cores_of_request (inspect infile) before = 0

-- the most Salsa20/8 cores that a run may take, whatever its end
abbrev pub most_salsa20_cores : Request → ℕ
most_salsa20_cores (encrypt asked) = asked.task.limits.max_ops
most_salsa20_cores (decrypt task) = task.limits.max_ops
most_salsa20_cores (inspect infile) = 0
