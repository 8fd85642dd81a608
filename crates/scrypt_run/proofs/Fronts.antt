-- The first 96 bytes of a file, and what refuses them.
use Rattle.std.proofs.Common.{◌≡◌, ◌<◌, ◌≤◌, ℕ, List, Option, Some, None, inl, inr, length, take, drop, codes, ◌++◌, ◌^◌, arith, refl, ap, sym, subst, ◌∙◌}
use Rattle.std.specs.Prelude.{option_map}
use Rattle.std.proofs.lemmas.List.{append_assoc, drop_all, take_all}
use Rattle.std.proofs.lemmas.Option.{none-some}
use Rattle.std.specs.Fmt.{decimal}
use Rattle.romix.specs.Allowance.{Allowance}
use Rattle.romix.specs.Costs.{Parameters, cores, table_bytes}
use Rattle.encfile.specs.Front.{FrontRefusal, allowance_refusal, format_refusal, file_refusal_before_passphrase, header_refusal}
use Rattle.encfile.specs.Header.{CostsAndSalt, costs_of, salt_of}
use Rattle.encfile.specs.HeaderFaults.{header_fault}
use Rattle.encfile.specs.declared.fault.HeaderFault.{HeaderFault}
use Rattle.encfile.proofs.Fronts.{format_refusal-fault, format_refusal-short, format_refusal-take, file_refusal_before_passphrase-costs, file_refusal_before_passphrase-format}
use Rattle.encfile.proofs.Headers.{costs_of-take}
use Rattle.encfile.proofs.Pieces.{bytes_at-take}
use Rattle.host.specs.HostState.{HostState, Text, after_open_input, after_pull}
use Rattle.scrypt_run.specs.Front.{FrontRefused}
use Rattle.scrypt_run.specs.Inside.Front.{IsFrontOf}
use Rattle.scrypt_run.specs.Inspecting.{costs_line}
use Rattle.scrypt_run.specs.Refusal.{refusal_of}
use Rattle.scrypt_run.specs.Steps.{after_reading_first_bytes}
use Rattle.scrypt_request.specs.declared.refusal.ScryptRefusal.{ScryptRefusal}
use Rattle.scrypt_request.specs.declared.refusal.ScryptRefusal.TheVariants as refusal

-- ---- how many bytes there were

-- fewer than 96: all are pulled
pub short_input : (infile : Option Text) (n : ℕ) (s t u : HostState) → t ≡ after_open_input infile s → n < 96 → length t.input ≤ n
    → u ≡ after_pull n t → FrontRefused refusal.NotScryptData (format_refusal s.input) infile s u
short_input infile n s t u opened few whole pulled =
    let same : length t.input ≡ length s.input = ap (λ (w : HostState). length w.input) opened in
    let all : drop n s.input ≡ drop 96 s.input = drop_all n s.input (omega (arith, same, whole)) ∙ sym (drop_all 96 s.input (omega (arith, same, few, whole))) in
    inr (
      ap (option_map refusal_of) (format_refusal-short s.input (omega (arith, same, few, whole))),
      pulled ∙ ap (after_pull n) opened ∙ ap (λ xs. let w : HostState = record (after_open_input infile s) { input = xs } in w) all,
    )

-- 96 at least, and then a test refuses them
pub refused_front : (r : ScryptRefusal) (first of_front : Option FrontRefusal) (infile : Option Text) (s u : HostState) → u ≡ after_reading_first_bytes infile 96 s
    → of_front ≡ first → option_map refusal_of of_front ≡ Some r → FrontRefused r first infile s u
refused_front r first of_front infile s u reads same refused = inr (ap (option_map refusal_of) (sym same) ∙ refused, reads)

-- ---- the header

-- the first 96 bytes are the file's
pub format_front : (front file : List ℕ) → 96 ≤ length file → front ≡ take 96 file → format_refusal front ≡ format_refusal file
format_front front file long first = ap format_refusal first ∙ format_refusal-take file long

pub costs_front : (n : ℕ) (front file : List ℕ) (costs : Parameters) → 16 ≤ n → front ≡ take n file → costs ≡ costs_of front → costs ≡ costs_of file
costs_front n front file costs long first is = is ∙ ap costs_of first ∙ costs_of-take n file long

pub salt_front : (n : ℕ) (front file salt : List ℕ) → 48 ≤ n → front ≡ take n file → salt ≡ salt_of front → salt ≡ salt_of file
salt_front n front file salt long first is = is ∙ ap salt_of first ∙ bytes_at-take n 16 32 file (omega (arith, long))

-- ---- 96 bytes that were pulled

pub pulled_front : (n : ℕ) (bytes : List ℕ) (infile : Option Text) (s t : HostState) → n ≡ 96 → length bytes ≡ 96 → t ≡ after_open_input infile s
    → take n bytes ≡ take n t.input → bytes ≡ take 96 s.input
pulled_front n bytes infile s t is long opened same =
    sym (take_all 96 bytes (omega (arith, long))) ∙ subst (λ k. take k bytes ≡ take k t.input) is same ∙ ap (λ (w : HostState). take 96 w.input) opened

-- with a header
pub front_is : (n : ℕ) (bytes : List ℕ) (infile : Option Text) (s t : HostState) (said : CostsAndSalt) → n ≡ 96 → length bytes ≡ 96 → t ≡ after_open_input infile s
    → n ≤ length t.input → take n bytes ≡ take n t.input → header_fault bytes ≡ None → said.costs ≡ costs_of bytes → said.salt ≡ salt_of bytes → IsFrontOf s.input bytes said
front_is n bytes infile s t said is long opened within same none costs salt =
    let enough : 96 ≤ length s.input = omega (arith, is, within, ap (λ (w : HostState). length w.input) opened) in
    let first = pulled_front n bytes infile s t is long opened same in
    record {
      valid = sym (format_front bytes s.input enough first) ∙ format_refusal-fault bytes (omega (arith, long)) ∙ ap (option_map header_refusal) none;
      long = enough;
      bytes = first;
      costs = costs_front 96 bytes s.input said.costs (omega arith) first costs;
      salt = salt_front 96 bytes s.input said.salt (omega arith) first salt;
    }

-- with a fault
pub front_refused : (n : ℕ) (bytes : List ℕ) (infile : Option Text) (s t u : HostState) (fault : HeaderFault) (r : ScryptRefusal) → n ≡ 96 → length bytes ≡ 96 → t ≡ after_open_input infile s
    → n ≤ length t.input → take n bytes ≡ take n t.input → u ≡ after_pull n t → header_fault bytes ≡ Some fault → r ≡ refusal_of (header_refusal fault)
    → FrontRefused r (format_refusal s.input) infile s u
front_refused n bytes infile s t u fault r is long opened within same pulled told refusal =
    let enough : 96 ≤ length s.input = omega (arith, is, within, ap (λ (w : HostState). length w.input) opened) in
    let first = pulled_front n bytes infile s t is long opened same in
    refused_front r (format_refusal s.input) (format_refusal bytes) infile s u (subst (λ k. u ≡ after_pull k t) is pulled ∙ ap (after_pull 96) opened)
    (format_front bytes s.input enough first)
    (ap (option_map refusal_of) (format_refusal-fault bytes (omega (arith, long)) ∙ ap (option_map header_refusal) told) ∙ ap Some (sym refusal))

-- ---- the costs

-- what refuses the costs that a header says refuses the input
pub costs_told : (input front : List ℕ) (said : CostsAndSalt) (costs : Parameters) (allowed : Allowance) → IsFrontOf input front said → costs ≡ said.costs
    → allowance_refusal costs allowed ≡ file_refusal_before_passphrase input allowed
costs_told input front said costs allowed is same =
    ap (λ (c : Parameters). allowance_refusal c allowed) (same ∙ is.costs) ∙ sym (file_refusal_before_passphrase-costs input allowed is.valid)

-- a refusal stays where another test goes on from it
goes_on : (first later : Option FrontRefusal) (r : ScryptRefusal) → ((x : FrontRefusal) → first ≡ Some x → later ≡ Some x)
    → option_map refusal_of first ≡ Some r → option_map refusal_of later ≡ Some r
goes_on None later r more h = absurd (none-some r h)
goes_on (Some x) later r more h = ap (option_map refusal_of) (more x refl) ∙ h

-- what refuses the header refuses the file under each limits
pub format_first : (r : ScryptRefusal) (allowed : Allowance) (infile : Option Text) (s u : HostState) → FrontRefused r (format_refusal s.input) infile s u
    → FrontRefused r (file_refusal_before_passphrase s.input allowed) infile s u
format_first r allowed infile s u (inl h) = inl h
format_first r allowed infile s u (inr h) =
    inr (goes_on (format_refusal s.input) (file_refusal_before_passphrase s.input allowed) r (file_refusal_before_passphrase-format s.input allowed) h.0, h.1)

-- ---- the line of costs

-- eleven lists joined from the last on, and from the first on
joined : (l0 l1 l2 l3 l4 l5 l6 l7 l8 l9 l10 : List ℕ)
    → l0 ++ (l1 ++ (l2 ++ (l3 ++ (l4 ++ (l5 ++ (l6 ++ (l7 ++ (l8 ++ (l9 ++ l10))))))))) ≡ l0 ++ l1 ++ l2 ++ l3 ++ l4 ++ l5 ++ l6 ++ l7 ++ l8 ++ l9 ++ l10
joined l0 l1 l2 l3 l4 l5 l6 l7 l8 l9 l10 = simp append_assoc refl

-- what `format!` gives is the line of the costs with these numbers
pub costs_line-is : (c : Parameters) (n r p memory cores_of : ℕ) → n ≡ 2 ^ c.log_n → r ≡ c.r → p ≡ c.p → memory ≡ table_bytes c → cores_of ≡ cores c
    → codes "N = " ++ (decimal n ++ (codes "; r = " ++ (decimal r ++ (codes "; p = " ++ (decimal p
    ++ (codes "; memory = " ++ (decimal memory ++ (codes "; cores = " ++ (decimal cores_of ++ codes "\n"))))))))) ≡ costs_line c
costs_line-is c n r p memory cores_of h0 h1 h2 h3 h4 =
    rw (h0, h1, h2, h3, h4) (joined (codes "N = ") (decimal (2 ^ c.log_n)) (codes "; r = ") (decimal c.r) (codes "; p = ") (decimal c.p)
    (codes "; memory = ") (decimal (table_bytes c)) (codes "; cores = ") (decimal (cores c)) (codes "\n"))
