-- What a call asked of the heap, and how much work it did, by the number that it answers. Each call of `HashMemory` or
-- `CallMemory` is one request: how many of each kind were granted, and refused.
use Rattle.std.specs.Prelude.{◌≡◌, ◌≢◌, ◌⊎◌, ℕ, ◌+◌, Bool, true, false, List, None}
use Rattle.argon.specs.Counts.{work}
use Rattle.argon.specs.Parameters.{Parameters}
use Rattle.argon_text.specs.EncodedText.{IsEncodedTextOf}
use Rattle.argon_text.specs.Value.{IsEncodableValue, Value}
use Rattle.pikhsen_c.specs.Argon2.{CountsWorkToVerify, HasKeyedVerifyFault}
use Rattle.pikhsen_c.specs.Status.{mismatch_status, out_of_memory_status, wrong_buffer_status, wrong_passphrase_status}
use Rattle.pikhsen_c.specs.declared.heap.Heap.{Heap}
use Rattle.pikhsen_c.specs.declared.heap.RequestCounts.{RequestCounts}
use Rattle.pikhsen_c.specs.declared.machine.Machine.{Machine}

-- one more request of a kind, which was granted, or refused
abbrev pub one_more : RequestCounts → Bool → RequestCounts
one_more requests true = record { granted = requests.granted + 1; refused = requests.refused }
one_more requests false = record { granted = requests.granted; refused = requests.refused + 1 }

-- the heap after one more request for the matrix of a hash
abbrev pub after_matrix_request : Heap → Bool → Heap
after_matrix_request heap granted = record heap { matrices = one_more heap.matrices granted }

-- the same for the text of a hash
abbrev pub after_text_request : Heap → Bool → Heap
after_text_request heap granted = record heap { texts = one_more heap.texts granted }

-- the same for the memory of a derivation
abbrev pub after_workspace_request : Heap → Bool → Heap
after_workspace_request heap granted = record heap { workspaces = one_more heap.workspaces granted }

-- the same for the reading of a text, which may take no memory
abbrev pub after_reading_request : Heap → Bool → Heap
after_reading_request heap granted = record heap { readings = one_more heap.readings granted }

-- the same for the state of a stream
abbrev pub after_state_request : Heap → Bool → Heap
after_state_request heap granted = record heap { states = one_more heap.states granted }

-- ---- what was asked of a source of memory, as the heap is one: `ask granted` is what a request leaves of it

-- one request at most, of a hash, a derivation or an encryption: it was granted where the call did its work, refused
-- where want of memory is told, and not made before any other refusal
pub record RequestsMemoryAtMostOnce {Source : Type 0} (ask : Bool → Source) (status : ℕ) (before after : Source) : Type 0 where
  pub asked : status ≡ 0 → after ≡ ask true
  pub refused : status ≡ out_of_memory_status → after ≡ ask false
  pub unasked : status ≢ 0 → status ≢ out_of_memory_status → after ≡ before

-- the same of a file that is opened, or a password that is tested, where it was granted, too, where a number is told
-- late: that the passphrase, the rest of the file or the password is wrong
pub record RequestsMemoryUnlessEarly {Source : Type 0} (IsLate : Type 0) (ask : Bool → Source) (status : ℕ) (before after : Source)
    : Type 0 where
  pub asked : status ≡ 0 → after ≡ ask true
  pub asked_if_late : IsLate → after ≡ ask true
  pub refused : status ≡ out_of_memory_status → after ≡ ask false
  pub unasked : status ≢ 0 → status ≢ out_of_memory_status → (IsLate → ⊥) → after ≡ before

-- two requests at most, for a text and then for the matrix of its hash: `text granted` and `hash source granted` are
-- what they leave. That the buffer is too small is told after that for the text, and want of memory where one of the
-- two was refused, the second only where nothing is refused before
pub record RequestsMemoryForTextAndHash {Source : Type 0} (text : Bool → Source) (hash : Source → Bool → Source) (first status : ℕ)
    (before after : Source) : Type 0 where
  pub asked : status ≡ 0 → after ≡ hash (text true) true
  pub small : status ≡ wrong_buffer_status → after ≡ text true
  pub refused : status ≡ out_of_memory_status → (after ≡ text false) ⊎ ((after ≡ hash (text true) false) × (first ≡ 0))
  pub unasked : status ≢ 0 → status ≢ out_of_memory_status → status ≢ wrong_buffer_status → after ≡ before

-- one request for the reading of a text, and where it is read and nothing else refuses the test of a password, one for
-- the matrix of the hash of its value: `hash source value granted` is what that leaves
pub record RequestsMemoryToVerify {Source : Type 0} (read : Bool → Source) (hash : Source → Value → Bool → Source)
    (text password : List ℕ) (secret_len associated_len max_kib max_ops status : ℕ) (after : Source) : Type 0 where
  pub asked : status ≡ 0
      → (value : Value) × IsEncodableValue value × IsEncodedTextOf value text × (after ≡ hash (read true) value true)
  pub asked_if_wrong : status ≡ mismatch_status
      → (value : Value) × IsEncodableValue value × IsEncodedTextOf value text × (after ≡ hash (read true) value true)
  pub unasked : status ≢ 0 → status ≢ mismatch_status → status ≢ out_of_memory_status → after ≡ read true
  pub refused : status ≡ out_of_memory_status → (after ≡ read false)
      ⊎ ((judged : HasKeyedVerifyFault None text password secret_len associated_len max_kib max_ops)
      × (after ≡ hash (read true) judged.value false))

-- ---- what was asked of the heap

-- two requests at most, for the state of a stream and then for the memory of its derivation: want of memory is told
-- where one of the two was refused, and none is made before any other refusal but that of a passphrase
pub record RequestsMemoryToStart (status : ℕ) (before after : Heap) : Type 0 where
  pub asked : status ≡ 0 → after ≡ after_workspace_request (after_state_request before true) true
  pub asked_if_wrong : status ≡ wrong_passphrase_status → after ≡ after_workspace_request (after_state_request before true) true
  pub refused : status ≡ out_of_memory_status
      → (after ≡ after_state_request before false) ⊎ (after ≡ after_workspace_request (after_state_request before true) false)
  pub unasked : status ≢ 0 → status ≢ out_of_memory_status → status ≢ wrong_passphrase_status → after ≡ before

-- one request, for the reading of a text: it was refused where want of memory is told, and there alone
pub record RequestsMemoryToRead (status : ℕ) (before after : Heap) : Type 0 where
  pub asked : status ≢ out_of_memory_status → after ≡ after_reading_request before true
  pub refused : status ≡ out_of_memory_status → after ≡ after_reading_request before false

-- ---- how much work was done: of block functions of Argon2, or of cores of scrypt

-- none at all
pub record DoesNoWork (before after : Machine) : Type 0 where
  pub no_blocks : after.blocks ≡ before.blocks
  pub no_cores : after.cores ≡ before.cores

-- that of one hash or derivation where the call did its work, and none at any refusal
pub record CountsWorkOnce (work status before after : ℕ) : Type 0 where
  pub no_work : status ≢ 0 → after ≡ before
  pub count : status ≡ 0 → after ≡ before + work

-- the same of a file that is opened, or a password that is tested, where it was done, too, where a number is told late
pub record CountsWorkUnlessEarly (IsLate : Type 0) (work status before after : ℕ) : Type 0 where
  pub no_work : status ≢ 0 → (IsLate → ⊥) → after ≡ before
  pub count : status ≡ 0 → after ≡ before + work
  pub count_if_late : IsLate → after ≡ before + work

-- ---- what a call did with the machine that it was handed: what it asked of the heap, and which work it did

-- a derivation, for the memory of one and with its cores alone
pub record DerivesAtMostOnce (cores status : ℕ) (before after : Machine) : Type 0 where
  pub asked : RequestsMemoryAtMostOnce (after_workspace_request before.heap) status before.heap after.heap
  pub no_blocks : after.blocks ≡ before.blocks
  pub works : CountsWorkOnce cores status before.cores after.cores

-- the same where a file is opened and some numbers are told late
pub record OpensAtMostOnce (IsLate : Type 0) (cores status : ℕ) (before after : Machine) : Type 0 where
  pub asked : RequestsMemoryUnlessEarly IsLate (after_workspace_request before.heap) status before.heap after.heap
  pub no_blocks : after.blocks ≡ before.blocks
  pub works : CountsWorkUnlessEarly IsLate cores status before.cores after.cores

-- the same where a stream begins to encrypt, for whose state memory is asked before
pub record BeginsEncryptionAtMostOnce (cores status : ℕ) (before after : Machine) : Type 0 where
  pub asked : RequestsMemoryToStart status before.heap after.heap
  pub no_blocks : after.blocks ≡ before.blocks
  pub works : CountsWorkOnce cores status before.cores after.cores

-- the same where it begins to decrypt: that the passphrase is wrong is told after the derivation
pub record BeginsDecryptionAtMostOnce (cores status : ℕ) (before after : Machine) : Type 0 where
  pub asked : RequestsMemoryToStart status before.heap after.heap
  pub no_blocks : after.blocks ≡ before.blocks
  pub works : CountsWorkUnlessEarly (status ≡ wrong_passphrase_status) cores status before.cores after.cores

-- a hash, for the memory of one and with its block functions alone
pub record HashesAtMostOnce (parameters : Parameters) (status : ℕ) (before after : Machine) : Type 0 where
  pub asked : RequestsMemoryAtMostOnce (after_matrix_request before.heap) status before.heap after.heap
  pub no_cores : after.cores ≡ before.cores
  pub works : CountsWorkOnce (work parameters) status before.blocks after.blocks

-- the same of an encoded text, for which memory is asked before; `first` is the number of what refuses it, or 0
pub record EncodesAtMostOnce (parameters : Parameters) (first status : ℕ) (before after : Machine) : Type 0 where
  pub asked : RequestsMemoryForTextAndHash (after_text_request before.heap) after_matrix_request first status before.heap after.heap
  pub no_cores : after.cores ≡ before.cores
  pub works : CountsWorkOnce (work parameters) status before.blocks after.blocks

-- the test of a password against a text, with a secret and associated data of these lengths
pub record TestsAtMostOnce (text password : List ℕ) (secret_len associated_len max_kib max_ops status : ℕ) (before after : Machine)
    : Type 0 where
  pub asked : RequestsMemoryToVerify (after_reading_request before.heap) (λ heap _ granted. after_matrix_request heap granted)
      text password secret_len associated_len max_kib max_ops status after.heap
  pub no_cores : after.cores ≡ before.cores
  pub works : CountsWorkToVerify text password max_ops status before.blocks after.blocks

-- the reading of a text's settings, without work
pub record ReadsOnce (status : ℕ) (before after : Machine) : Type 0 where
  pub asked : RequestsMemoryToRead status before.heap after.heap
  pub no_work : DoesNoWork before after
