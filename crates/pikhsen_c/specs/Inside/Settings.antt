-- The settings and the inputs of a hash, a test of a password, a derivation or an encryption, as private functions pass them
-- on.
use Rattle.std.specs.Prelude.{◌≡◌, ◌<◌, ◌≤◌, ℕ, Bool, List, Option, None, length, take}
use Rattle.argon.specs.Parameters.{Parameters}
use Rattle.argon.specs.Inputs.{InputsFitParameters, inputs_of}
use Rattle.argon.specs.declared.inputs.Inputs.{Inputs}
use Rattle.argon_text.specs.EncodedText.{encoded_text}
use Rattle.argon_text.specs.Value.{Value}
use Rattle.argon_text.specs.Verifying.{keyed_verify_fault, keyed_tag, parameters_of_value}
use Rattle.argon_text.specs.declared.fault.VerifyFault.{VerifyFault}
use Rattle.romix.specs.Costs.{Parameters as Costs}
use Rattle.romix.specs.Sparse.{sparse_table_core_count}
use Rattle.romix.specs.SparseCosts.{CostsAndKeep}
use Rattle.pikhsen_c.specs.declared.argon2.HashLimits.{HashLimits}
use Rattle.pikhsen_c.specs.declared.argon2.Settings.{Settings}
use Rattle.pikhsen_c.specs.declared.scrypt.ScryptLimits.{ScryptLimits}
use Rattle.pikhsen_c.specs.declared.scrypt.ScryptCostsAndLimits.{ScryptCostsAndLimits}
use Rattle.pikhsen_c.specs.declared.verifying.KeyedPassword.{KeyedPassword}
use Rattle.pikhsen_c.specs.Argon2.{IsVerdict, IsVerifyNumber, encoded_keyed_hash, encoded_keyed_status, encoded_text_with_zero_tag, hash_status, parameters_of_numbers}
use Rattle.pikhsen_c.specs.File.{costs_of, encrypt_status, front_status, header_and_limits_status}
use Rattle.pikhsen_c.specs.Heap.{RequestsMemoryAtMostOnce, RequestsMemoryToVerify, RequestsMemoryUnlessEarly}
use Rattle.pikhsen_c.specs.Inside.Numbers.{IsStatusOfFirstFault}
use Rattle.pikhsen_c.specs.Scrypt.{costs_of_numbers, limits_status, scrypt_status, costs_with_keep}
use Rattle.pikhsen_c.specs.Status.{long_input_status, mismatch_status}
use Rattle.pikhsen_c.specs.Stream.{decrypt_start_status, encrypt_start_status}

-- the parameters of these settings, of a tag of this length and of these inputs
abbrev pub parameters_of : Settings → ℕ → Inputs → Parameters
parameters_of s tag_len inputs =
    parameters_of_numbers s.kind s.version s.passes s.lanes s.memory_kib tag_len (length inputs.salt.now) (length inputs.password.now)

-- the encoded text of the hash of these inputs
abbrev pub encoded_text_of : Parameters → Inputs → List ℕ
encoded_text_of parameters inputs =
    encoded_keyed_hash parameters inputs.password.now inputs.salt.now inputs.secret.now inputs.associated.now

-- over the tag of a text this tag is put, of the same length, and the text stays as long as it was
pub record PutsTag (before tag after : List ℕ) : Type 0 where
  pub text : (v : Value) → before ≡ encoded_text v → length v.tag ≡ length tag → after ≡ encoded_text (record v { tag = tag })
  pub len : length after ≡ length before

-- these inputs can be hashed by the parameters of a matrix, to a tag of this length, at most 4,096 bytes; and the bytes are the
-- text of that hash, which has zeros for the tag
pub record HasRoomForTag (text : List ℕ) (parameters : Parameters) (inputs : Inputs) (tag_len : ℕ) : Type 0 where
  pub is_tag_len : parameters.tag_len ≡ tag_len
  pub short : tag_len ≤ 4096
  pub inputs_fit : InputsFitParameters parameters (inputs_of inputs)
  pub zeros : text ≡ encoded_text_with_zero_tag parameters inputs.salt.now

-- the costs of these settings
abbrev pub costs_of_settings : ScryptCostsAndLimits → Costs
costs_of_settings s = costs_of_numbers s.log_n s.r s.p

-- the cores of a derivation from this password and salt
abbrev pub salsa20_cores_of_settings : ScryptCostsAndLimits → List ℕ → List ℕ → ℕ
salsa20_cores_of_settings s password salt = sparse_table_core_count password salt (costs_with_keep (costs_of_settings s) s.limits.keep)

-- what a request for the memory of a derivation of these costs leaves of a source, by what `after_workspace` says of it
abbrev pub source_after_workspace_request : {Source : Type 0} → (Source → CostsAndKeep → ℕ → ℕ → Bool → Source) → ScryptLimits → Costs
    → Source → Bool → Source
source_after_workspace_request after_workspace l costs before = after_workspace before (costs_with_keep costs l.keep) l.max_bytes l.max_ops

-- nothing is asked of the source before every other refusal is ruled out, and then once the memory of a derivation of these
-- costs, under the caller's own limits; want of memory is told where that was refused, and only there
abbrev pub RequestsWorkspaceAtMostOnce : {Source : Type 0} → (Source → CostsAndKeep → ℕ → ℕ → Bool → Source) → ScryptLimits → Costs
    → ℕ → Source → Source → Type 0
RequestsWorkspaceAtMostOnce after_workspace l costs status before after =
    RequestsMemoryAtMostOnce (source_after_workspace_request after_workspace l costs before) status before after

-- the same of the costs that a file says, where some numbers are told after the derivation
abbrev pub RequestsWorkspaceToOpen : {Source : Type 0} → Type 0 → (Source → CostsAndKeep → ℕ → ℕ → Bool → Source) → ScryptLimits → List ℕ
    → ℕ → Source → Source → Type 0
RequestsWorkspaceToOpen IsLate after_workspace l file status before after =
    RequestsMemoryUnlessEarly IsLate (source_after_workspace_request after_workspace l (costs_of (take 64 file)) before) status before after

-- ---- what is refused by them before memory is asked for, by its number; or 0

-- a hash, by the length of its tag and its inputs
abbrev pub hash_refusal : Settings → ℕ → Inputs → ℕ
hash_refusal s tag_len inputs =
    hash_status (parameters_of s tag_len inputs) (length inputs.secret.now) (length inputs.associated.now)
    s.limits.max_kib s.limits.max_ops

-- an encoded text, by the length of the tag, the inputs and the length of its buffer; that this is too short is told once
-- the memory of the text is granted
abbrev pub encoding_refusal : Settings → ℕ → Inputs → ℕ → ℕ
encoding_refusal s tag_len inputs =
    encoded_keyed_status (parameters_of s tag_len inputs) inputs.salt.now (length inputs.secret.now)
    (length inputs.associated.now) s.limits.max_kib s.limits.max_ops

-- costs, by what `keep` and the limits admit
abbrev pub limits_refusal : ScryptLimits → Costs → ℕ
limits_refusal l costs = limits_status (costs_with_keep costs l.keep) l.max_bytes l.max_ops

-- the derivation of a key of this length
abbrev pub derivation_refusal : ScryptCostsAndLimits → ℕ → ℕ
derivation_refusal s = scrypt_status (costs_of_settings s) s.limits.keep s.limits.max_bytes s.limits.max_ops

-- an encryption, by the lengths of salt, text and file
abbrev pub encryption_refusal : ScryptCostsAndLimits → ℕ → ℕ → ℕ → ℕ
encryption_refusal s = encrypt_status (costs_of_settings s) s.limits.keep s.limits.max_bytes s.limits.max_ops

-- the start of an encryption, by what runs and the lengths of salt and head
abbrev pub encryption_start_refusal : ℕ → ScryptCostsAndLimits → ℕ → ℕ → ℕ
encryption_start_refusal runs s =
    encrypt_start_status runs (costs_of_settings s) s.limits.keep s.limits.max_bytes s.limits.max_ops

-- a file of at least 96 bytes
abbrev pub header_and_limits_status_of_settings : ScryptLimits → List ℕ → ℕ
header_and_limits_status_of_settings l file = header_and_limits_status file l.keep l.max_bytes l.max_ops

-- a file whose text is to go to so many bytes
abbrev pub front_refusal : ScryptLimits → List ℕ → ℕ → ℕ
front_refusal l file = front_status file l.keep l.max_bytes l.max_ops

-- the start of a decryption, by what runs and the first bytes of the file
abbrev pub decryption_start_refusal : ℕ → ScryptLimits → List ℕ → ℕ
decryption_start_refusal runs l front = decrypt_start_status runs front l.keep l.max_bytes l.max_ops

-- ---- the test of a password against a value

-- the tag that it gives
abbrev pub tag_of_keyed : Value → KeyedPassword → List ℕ
tag_of_keyed v keyed = keyed_tag v keyed.password.now keyed.secret.now keyed.associated.now

-- the first fault for which it is not tested
abbrev pub fault_of_keyed : Value → KeyedPassword → HashLimits → Option VerifyFault
fault_of_keyed v keyed l =
    keyed_verify_fault v keyed.password.now (length keyed.secret.now) (length keyed.associated.now) l.max_kib l.max_ops

-- what each number of its test says of the value; there is no 14 or 15
pub record IsVerdictOnValue (value : Value) (keyed : KeyedPassword) (l : HashLimits) (status : ℕ) : Type 0 where
  pub admitted : status ≡ 0 → fault_of_keyed value keyed l ≡ None
  pub right : status ≡ 0 → tag_of_keyed value keyed ≡ value.tag
  pub admitted_if_wrong : status ≡ mismatch_status → fault_of_keyed value keyed l ≡ None
  pub wrong : status ≡ mismatch_status → tag_of_keyed value keyed ≡ value.tag → ⊥
  pub first_fault : IsStatusOfFirstFault status (fault_of_keyed value keyed l)
  pub number : IsVerifyNumber status
  pub known : long_input_status < status → mismatch_status ≤ status

-- what each number of its test says of the text
abbrev pub IsVerdictOnText : List ℕ → KeyedPassword → HashLimits → ℕ → Type 0
IsVerdictOnText text keyed l = IsVerdict text keyed.password.now keyed.secret.now keyed.associated.now l.max_kib l.max_ops

-- nothing is asked of the source before every other refusal is ruled out, and then the matrix alone, under the caller's own
-- limits; want of memory is told where that was refused
abbrev pub RequestsMatrixLast : {Source : Type 0} → (Source → Parameters → ℕ → ℕ → Bool → Source) → Value → KeyedPassword → HashLimits
    → ℕ → Source → Source → Type 0
RequestsMatrixLast after_matrix value keyed l status before after =
    RequestsMemoryUnlessEarly (status ≡ mismatch_status)
    (after_matrix before (parameters_of_value value keyed.password.now) l.max_kib l.max_ops) status before after

-- the text is read once. Nothing more is asked for where it or the test is refused for another reason than memory, and
-- otherwise the matrix of one hash, under the caller's own limits; want of memory is told where one was refused
abbrev pub RequestsReadingAndMatrix : {Source : Type 0} → (Source → List ℕ → Bool → Source)
    → (Source → Parameters → ℕ → ℕ → Bool → Source) → List ℕ → KeyedPassword → HashLimits → ℕ → Source → Source → Type 0
RequestsReadingAndMatrix after_reading after_matrix text keyed l status before after =
    RequestsMemoryToVerify (after_reading before text)
    (λ source value. after_matrix source (parameters_of_value value keyed.password.now) l.max_kib l.max_ops)
    text keyed.password.now (length keyed.secret.now) (length keyed.associated.now) l.max_kib l.max_ops status after
