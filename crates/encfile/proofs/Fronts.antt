-- Why a file is refused before its text is looked at.
use Rattle.std.proofs.Common.{◌≡◌, ℕ, ◌<◌, ◌≤◌, List, [], ◌∷◌, length, take, Bool, not, true, false, arith, refl, ap, ap₂, sym, subst, ◌∙◌, length-take}
use Rattle.std.specs.Prelude.{◌==◌, Option, Some, None, nat_lt, option_map, slice_index, if◌then◌else◌}
use Rattle.std.specs.Option.{option_or}
use Rattle.std.specs.Cmp.Lexicographic.{bytes_decides}
use Rattle.std.proofs.lemmas.Bool.Decides.{nat_tests}
use Rattle.std.proofs.lemmas.List.{take-take}
use Rattle.macs.specs.HmacSha256.{hmac_sha256}
use Rattle.romix.specs.Allowance.{Admits, Allowance, costs_with_allowed_keep}
use Rattle.romix.specs.Costs.{IsInRange, Parameters, parts_bytes}
use Rattle.romix.specs.Faults.{exceeds_work, is_keep_number_above_n, keep_parameter_fault, sparse_limit_fault}
use Rattle.romix.specs.FirstOf.{first_of}
use Rattle.romix.specs.SparseCosts.{is_valid_keep, sparse_table_bytes}
use Rattle.romix.specs.declared.fault.CostFault.TheVariants as fault
use Rattle.encfile.specs.Header.{bytes_at, costs_of, has_magic, salt_of}
use Rattle.encfile.specs.HeaderFaults.{are_out_of_range, header_fault}
use Rattle.encfile.specs.EncryptedFile.{HasRightHeaderHmac, hmac_key, encrypted_file, right_header_hmac}
use Rattle.encfile.specs.Front.{FrontRefusal, allowance_refusal, format_refusal, front_refusal, has_right_header_hmac, header_refusal, file_refusal_before_passphrase}
use Rattle.encfile.specs.Front.FrontRefusal.{KeepAboveN, NotScryptData, WrongPassphrase, TooMuchMemory, TooMuchWork}
use Rattle.encfile.specs.Laws.{IsRefusedByFirstFailingCall, IsDecidedInOrder}
use Rattle.encfile.specs.declared.fault.HeaderFault.{HeaderFault}
use Rattle.encfile.proofs.Files.{HasRightHeaderHmac-encrypted_file, checksum-encrypted_file, costs_of-encrypted_file, encrypted_file-front, length-encrypted_file}
use Rattle.encfile.proofs.Headers.{costs_of-take, header_fault-take}
use Rattle.encfile.proofs.Pieces.{bytes_at-take}

-- ---- why a file has no header

pub format_refusal-short : (file : List ℕ) → length file < 96 → format_refusal file ≡ Some NotScryptData
unfolding format_refusal
format_refusal-short file h =
    let short : nat_lt (length file) 96 ≡ true = grind (arith, nat_tests) in
    rw short refl

-- by what is told of the header
pub format_refusal-fault : (file : List ℕ) → 96 ≤ length file → format_refusal file ≡ option_map header_refusal (header_fault file)
unfolding format_refusal
format_refusal-fault file h =
    let long : nat_lt (length file) 96 ≡ false = grind (arith, nat_tests) in
    rw long refl

-- by what `Header::read` tells of the first 64 bytes
pub format_refusal-header : (file : List ℕ) → 96 ≤ length file → format_refusal file ≡ option_map header_refusal (header_fault (take 64 file))
format_refusal-header file long =
    format_refusal-fault file long ∙ ap (option_map header_refusal) (sym (header_fault-take 64 file (omega arith)))

pub format_refusal-take : (file : List ℕ) → 96 ≤ length file → format_refusal (take 96 file) ≡ format_refusal file
format_refusal-take file long =
    format_refusal-fault (take 96 file) (omega (arith, long, length-take 96 file))
    ∙ ap (option_map header_refusal) (header_fault-take 96 file (omega arith)) ∙ sym (format_refusal-fault file long)

-- ---- what `Sparse::new` and `Sparse::admitted` tell of costs

above_n : (kept above memory work : Bool) → first_of ((not kept, fault.Keep) ∷ (above, fault.KeepAboveN) ∷ []) ≡ Some fault.KeepAboveN
    → first_of ((above, KeepAboveN) ∷ (memory, TooMuchMemory) ∷ (work, TooMuchWork) ∷ []) ≡ Some KeepAboveN
above_n false above memory work h = cc
above_n true false memory work h = cc
above_n true true memory work h = refl

not_above : (kept above : Bool) → first_of ((not kept, fault.Keep) ∷ (above, fault.KeepAboveN) ∷ []) ≡ None → above ≡ false
not_above false above h = cc
not_above true false h = refl
not_above true true h = cc

by_memory : (memory work : Bool) → first_of ((memory, fault.Memory) ∷ (work, fault.Work) ∷ []) ≡ Some fault.Memory → memory ≡ true
by_memory true work h = refl
by_memory false true h = cc
by_memory false false h = cc

by_work : (memory work : Bool) → first_of ((memory, fault.Memory) ∷ (work, fault.Work) ∷ []) ≡ Some fault.Work → (memory ≡ false) × (work ≡ true)
by_work true work h = cc
by_work false true h = (refl, refl)
by_work false false h = cc

by_none : (memory work : Bool) → first_of ((memory, fault.Memory) ∷ (work, fault.Work) ∷ []) ≡ None → (memory ≡ false) × (work ≡ false)
by_none true work h = cc
by_none false true h = cc
by_none false false h = (refl, refl)

pub allowance_refusal-keep : (costs : Parameters) (allowed : Allowance) → keep_parameter_fault (costs_with_allowed_keep allowed costs) ≡ Some fault.KeepAboveN
    → allowance_refusal costs allowed ≡ Some KeepAboveN
allowance_refusal-keep costs allowed told = above_n (is_valid_keep allowed.keep) _ _ _ told

pub allowance_refusal-memory : (costs : Parameters) (allowed : Allowance) → keep_parameter_fault (costs_with_allowed_keep allowed costs) ≡ None
    → sparse_limit_fault (costs_with_allowed_keep allowed costs) allowed.limits ≡ Some fault.Memory → allowance_refusal costs allowed ≡ Some TooMuchMemory
allowance_refusal-memory costs allowed kept told = rw (not_above (is_valid_keep allowed.keep) _ kept, by_memory _ _ told) refl

pub allowance_refusal-work : (costs : Parameters) (allowed : Allowance) → keep_parameter_fault (costs_with_allowed_keep allowed costs) ≡ None
    → sparse_limit_fault (costs_with_allowed_keep allowed costs) allowed.limits ≡ Some fault.Work → allowance_refusal costs allowed ≡ Some TooMuchWork
allowance_refusal-work costs allowed kept told =
    let few = by_work _ _ told in
    rw (not_above (is_valid_keep allowed.keep) _ kept, few.0, few.1) refl

pub allowance_refusal-none : (costs : Parameters) (allowed : Allowance) → keep_parameter_fault (costs_with_allowed_keep allowed costs) ≡ None
    → sparse_limit_fault (costs_with_allowed_keep allowed costs) allowed.limits ≡ None → allowance_refusal costs allowed ≡ None
allowance_refusal-none costs allowed kept admitted =
    let few = by_none _ _ admitted in
    rw (not_above (is_valid_keep allowed.keep) _ kept, few.0, few.1) refl

-- costs that are admitted are not refused
pub allowance_refusal-admitted : (costs : Parameters) (allowed : Allowance) → Admits allowed costs → allowance_refusal costs allowed ≡ None
allowance_refusal-admitted costs allowed h =
    let keep : is_keep_number_above_n (costs_with_allowed_keep allowed costs) ≡ false = grind (arith, nat_tests, h.keep) in
    let table : nat_lt allowed.limits.max_bytes (sparse_table_bytes (costs_with_allowed_keep allowed costs)) ≡ false = grind (arith, nat_tests, h.memory.table) in
    let parts : nat_lt allowed.limits.max_bytes (parts_bytes costs) ≡ false = grind (arith, nat_tests, h.memory.parts) in
    let work : exceeds_work (costs_with_allowed_keep allowed costs) allowed.limits ≡ false = grind (arith, nat_tests, h.work) in
    rw (keep, table, parts, work) refl

-- ---- why its costs are not allowed

-- by what is told of the costs
file_refusal_before_passphrase-is : (file : List ℕ) (allowed : Allowance) → file_refusal_before_passphrase file allowed ≡ option_or (format_refusal file) (allowance_refusal (costs_of file) allowed)
unfolding file_refusal_before_passphrase
file_refusal_before_passphrase-is file allowed = refl

-- a file without a header
pub file_refusal_before_passphrase-format : (file : List ℕ) (allowed : Allowance) (r : FrontRefusal) → format_refusal file ≡ Some r → file_refusal_before_passphrase file allowed ≡ Some r
file_refusal_before_passphrase-format file allowed r refused =
    file_refusal_before_passphrase-is file allowed ∙ ap (λ first. option_or first (allowance_refusal (costs_of file) allowed)) refused

-- a file with a header
pub file_refusal_before_passphrase-costs : (file : List ℕ) (allowed : Allowance) → format_refusal file ≡ None → file_refusal_before_passphrase file allowed ≡ allowance_refusal (costs_of file) allowed
file_refusal_before_passphrase-costs file allowed valid =
    file_refusal_before_passphrase-is file allowed ∙ ap (λ first. option_or first (allowance_refusal (costs_of file) allowed)) valid

pub file_refusal_before_passphrase-take : (file : List ℕ) (allowed : Allowance) → 96 ≤ length file → file_refusal_before_passphrase (take 96 file) allowed ≡ file_refusal_before_passphrase file allowed
file_refusal_before_passphrase-take file allowed long =
    file_refusal_before_passphrase-is (take 96 file) allowed
    ∙ ap₂ (λ first (c : Parameters). option_or first (allowance_refusal c allowed)) (format_refusal-take file long) (costs_of-take 96 file (omega arith))
    ∙ sym (file_refusal_before_passphrase-is file allowed)

-- ---- why it is refused under a passphrase

-- the refusal by the header's code
abbrev code_refusal : List ℕ → List ℕ → Option FrontRefusal
code_refusal file passphrase = if has_right_header_hmac file passphrase then None else Some WrongPassphrase

front_refusal-is : (file : List ℕ) (allowed : Allowance) (passphrase : List ℕ)
    → front_refusal file allowed passphrase ≡ option_or (file_refusal_before_passphrase file allowed) (code_refusal file passphrase)
unfolding front_refusal
front_refusal-is file allowed passphrase = refl

-- whatever the passphrase
pub front_refusal-limits : (file : List ℕ) (allowed : Allowance) (passphrase : List ℕ) (r : FrontRefusal)
    → file_refusal_before_passphrase file allowed ≡ Some r → front_refusal file allowed passphrase ≡ Some r
front_refusal-limits file allowed passphrase r refused =
    front_refusal-is file allowed passphrase ∙ ap (λ first. option_or first (code_refusal file passphrase)) refused

front_refusal-code : (file : List ℕ) (allowed : Allowance) (passphrase : List ℕ) → file_refusal_before_passphrase file allowed ≡ None
    → front_refusal file allowed passphrase ≡ code_refusal file passphrase
front_refusal-code file allowed passphrase admitted =
    front_refusal-is file allowed passphrase ∙ ap (λ first. option_or first (code_refusal file passphrase)) admitted

false_where_not : (b : Bool) (Fact : Type 0) → (b ≡ true → Fact) → (Fact → ⊥) → b ≡ false
false_where_not true Fact told h = absurd (h (told refl))
false_where_not false Fact told h = refl

code_refusal-wrong : (file passphrase : List ℕ) → (HasRightHeaderHmac file passphrase → ⊥) → code_refusal file passphrase ≡ Some WrongPassphrase
code_refusal-wrong file passphrase h =
    let wrong : has_right_header_hmac file passphrase ≡ false =
    false_where_not (has_right_header_hmac file passphrase) (HasRightHeaderHmac file passphrase) (bytes_decides _ _).0 h in
    rw wrong refl

code_refusal-right : (file passphrase : List ℕ) → HasRightHeaderHmac file passphrase → code_refusal file passphrase ≡ None
code_refusal-right file passphrase h =
    let right : has_right_header_hmac file passphrase ≡ true = (bytes_decides _ _).1 h in
    rw right refl

-- the first 96 bytes tell the header's code
right_header_hmac-take : (file passphrase : List ℕ) → right_header_hmac (take 96 file) passphrase ≡ right_header_hmac file passphrase
right_header_hmac-take file passphrase =
    ap₂ (λ (salt : List ℕ) (costs : Parameters). hmac_sha256 (hmac_key passphrase salt costs) (take 64 (take 96 file)))
    (bytes_at-take 96 16 32 file (omega arith)) (costs_of-take 96 file (omega arith))
    ∙ ap (hmac_sha256 (hmac_key passphrase (salt_of file) (costs_of file))) (take-take 64 96 file (omega arith))

code-take : (file : List ℕ) → bytes_at (take 96 file) 64 32 ≡ bytes_at file 64 32
code-take file = bytes_at-take 96 64 32 file (omega arith)

-- limits admit the file, and its code is the passphrase's
pub front_refusal-right : (file : List ℕ) (allowed : Allowance) (passphrase : List ℕ) → 96 ≤ length file → file_refusal_before_passphrase file allowed ≡ None
    → HasRightHeaderHmac (take 96 file) passphrase → front_refusal file allowed passphrase ≡ None
front_refusal-right file allowed passphrase long admitted right =
    front_refusal-code file allowed passphrase admitted
    ∙ code_refusal-right file passphrase (sym (code-take file) ∙ right ∙ right_header_hmac-take file passphrase)

-- and its code isn't
pub front_refusal-wrong : (file : List ℕ) (allowed : Allowance) (passphrase : List ℕ) → 96 ≤ length file → file_refusal_before_passphrase file allowed ≡ None
    → (HasRightHeaderHmac (take 96 file) passphrase → ⊥) → front_refusal file allowed passphrase ≡ Some WrongPassphrase
front_refusal-wrong file allowed passphrase long admitted wrong =
    front_refusal-code file allowed passphrase admitted
    ∙ code_refusal-wrong file passphrase (λ right. wrong (code-take file ∙ right ∙ sym (right_header_hmac-take file passphrase)))

-- ---- what is stated as laws

pub front_refusal-short : (file : List ℕ) (allowed : Allowance) (passphrase : List ℕ) → length file < 96
    → front_refusal file allowed passphrase ≡ Some NotScryptData
front_refusal-short file allowed passphrase short =
    front_refusal-limits file allowed passphrase NotScryptData
    (file_refusal_before_passphrase-format file allowed NotScryptData (format_refusal-short file short))

-- in what order the tests refuse
pub front_refusal-order : (file : List ℕ) (allowed : Allowance) (passphrase : List ℕ) → IsDecidedInOrder file allowed passphrase
front_refusal-order file allowed passphrase = record {
  format = file_refusal_before_passphrase-format file allowed;
  limits = front_refusal-limits file allowed passphrase;
  wrong = λ admitted wrong. front_refusal-code file allowed passphrase admitted ∙ code_refusal-wrong file passphrase wrong;
  right = λ admitted right. front_refusal-code file allowed passphrase admitted ∙ code_refusal-right file passphrase right;
}

-- what refuses a file of 96 bytes or more, by its first 96 bytes
pub front_refusal-calls : (file : List ℕ) (allowed : Allowance) (passphrase front : List ℕ) → 96 ≤ length file → front ≡ take 96 file
    → IsRefusedByFirstFailingCall file allowed passphrase front
front_refusal-calls file allowed passphrase front long same =
    let first : take 64 front ≡ take 64 file = ap (take 64) same ∙ take-take 64 96 file (omega arith) in
    let format : format_refusal file ≡ option_map header_refusal (header_fault (take 64 front)) =
    format_refusal-header file long ∙ ap (λ f. option_map header_refusal (header_fault f)) (sym first) in
    let costs : costs_of file ≡ costs_of (take 64 front) = sym (ap costs_of first ∙ costs_of-take 64 file (omega arith)) in
    let limits : (told : Option FrontRefusal) → header_fault (take 64 front) ≡ None → allowance_refusal (costs_of (take 64 front)) allowed ≡ told
    → file_refusal_before_passphrase file allowed ≡ told =
    λ told valid is. file_refusal_before_passphrase-costs file allowed (format ∙ ap (option_map header_refusal) valid) ∙ ap (λ (c : Parameters). allowance_refusal c allowed) costs ∙ is in
    record {
      header = λ fault told. front_refusal-limits file allowed passphrase (header_refusal fault)
          (file_refusal_before_passphrase-format file allowed (header_refusal fault) (format ∙ ap (option_map header_refusal) told));
      keep = λ valid told. front_refusal-limits file allowed passphrase KeepAboveN
          (limits (Some KeepAboveN) valid (allowance_refusal-keep (costs_of (take 64 front)) allowed told));
      memory = λ valid kept told. front_refusal-limits file allowed passphrase TooMuchMemory
          (limits (Some TooMuchMemory) valid (allowance_refusal-memory (costs_of (take 64 front)) allowed kept told));
      work = λ valid kept told. front_refusal-limits file allowed passphrase TooMuchWork
          (limits (Some TooMuchWork) valid (allowance_refusal-work (costs_of (take 64 front)) allowed kept told));
      wrong = λ valid kept admitted wrong. front_refusal-wrong file allowed passphrase long
          (limits None valid (allowance_refusal-none (costs_of (take 64 front)) allowed kept admitted))
          (λ right. wrong (subst (λ f. HasRightHeaderHmac f passphrase) (sym same) right));
      right = λ valid kept admitted right. front_refusal-right file allowed passphrase long
          (limits None valid (allowance_refusal-none (costs_of (take 64 front)) allowed kept admitted))
          (subst (λ f. HasRightHeaderHmac f passphrase) same right);
    }

-- ---- the file of a text

four_pass : (b0 b1 b2 b3 : Bool) (r0 r1 r2 r3 : HeaderFault) → b0 ≡ true → b1 ≡ true → b2 ≡ true → b3 ≡ false
    → first_of ((not b0, r0) ∷ (not b1, r1) ∷ (not b2, r2) ∷ (b3, r3) ∷ []) ≡ None
four_pass b0 b1 b2 b3 r0 r1 r2 r3 h0 h1 h2 h3 = rw (h0, h1, h2, h3) refl

are_out_of_range-false : (costs : Parameters) → IsInRange costs → are_out_of_range costs ≡ false
are_out_of_range-false costs h = grind (arith, nat_tests, h.log_n_low, h.log_n_high, h.r_low, h.p_low, h.product)

header_fault-encrypted_file : (passphrase salt : List ℕ) (costs : Parameters) (text : List ℕ) → length salt ≡ 32 → IsInRange costs
    → header_fault (encrypted_file passphrase salt costs text) ≡ None
header_fault-encrypted_file passphrase salt costs text long range =
    let whole = encrypted_file-front passphrase salt costs text in
    four_pass _ _ _ _ _ _ _ _ (ap has_magic whole.1) (ap (λ f. slice_index f 6 == 0) whole.1)
    ((bytes_decides _ _).1 (checksum-encrypted_file passphrase salt costs text long))
    (ap are_out_of_range (costs_of-encrypted_file passphrase salt costs text range) ∙ are_out_of_range-false costs range)

-- it isn't refused where its costs are admitted
pub front_refusal-encrypted_file : (passphrase salt : List ℕ) (costs : Parameters) (text : List ℕ) (allowed : Allowance) → length salt ≡ 32
    → IsInRange costs → Admits allowed costs → front_refusal (encrypted_file passphrase salt costs text) allowed passphrase ≡ None
front_refusal-encrypted_file passphrase salt costs text allowed long range admits =
    let file : List ℕ = encrypted_file passphrase salt costs text in
    let len = length-encrypted_file passphrase salt costs text long in
    let valid : format_refusal file ≡ None =
    format_refusal-fault file (omega (arith, len)) ∙ ap (option_map header_refusal) (header_fault-encrypted_file passphrase salt costs text long range) in
    let admitted : allowance_refusal (costs_of file) allowed ≡ None =
    ap (λ (c : Parameters). allowance_refusal c allowed) (costs_of-encrypted_file passphrase salt costs text range) ∙ allowance_refusal-admitted costs allowed admits in
    front_refusal-code file allowed passphrase (file_refusal_before_passphrase-costs file allowed valid ∙ admitted)
    ∙ code_refusal-right file passphrase (HasRightHeaderHmac-encrypted_file passphrase salt costs text long range)
