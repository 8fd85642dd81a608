-- Base64 of bytes has the form that is said by cases on symbols, and only it has.
use Rattle.std.proofs.Common.{◌≡◌, ◌≢◌, ◌∙◌, ◌+◌, ◌*◌, ◌/◌, ◌%◌, ◌==◌, ◌<◌, ◌&&◌, ℕ, Bool, true, nat_lt, zero, suc, List, [], ◌∷◌, get_or, slice_index, false, refl, sym, ap, arith}
use Rattle.std.proofs.lemmas.Bool.{eqb-true, lt-ltb, ltb-true}
use Rattle.std.proofs.lemmas.List.Sums.{AllPass-from_list_all, passes_at_first}
use Rattle.std.proofs.lemmas.List.Elements.{All-get_or}
use Rattle.std.proofs.lemmas.List.FromFn.{get_or-range_with_len}
use Rattle.std.proofs.lemmas.List.{append-nil}
use Rattle.std.specs.List.{list_all, range_with_len}
use Rattle.std.specs.declared.result.Result.TheVariants.{Ok, Err}
use Rattle.base64.specs.declared.decode.DecodeError.{DecodeError}
use Rattle.base64.specs.declared.decode.DecodeAllocError.{DecodeAllocError}
use Rattle.base64.specs.declared.decode.DecodeAllocError.TheVariants.{DecodeError as Failed}
use Rattle.base64.specs.GeneralPurpose.{IsBytes, IsDecodeFailure, decode_of}
use Rattle.base64.specs.Engines.{standard_no_pad}
use Rattle.base64.specs.Rfc4648.{encode_symbols}
use Rattle.base64.proofs.EngineFacts.{decode_of-encode_of}
use Rattle.argon_text.specs.Base64.{alphabet, base64_bytes, is_base64, is_symbol, symbol_value}
use Rattle.argon_text.specs.EncodedText.{base64_text}
use Rattle.argon_text.proofs.Cutting.{IsFree}

-- ---- six bits and bytes

three_bytes : (w x y z a b c : ℕ) → a < 256 → b < 256 → c < 256 → w ≡ a / 4 → x ≡ a % 4 * 16 + b / 16 → y ≡ b % 16 * 4 + c / 64 → z ≡ c % 64
    → (w * 4 + x / 16 ≡ a) × (x % 16 * 16 + y / 4 ≡ b) × (y % 4 * 64 + z ≡ c)
three_bytes w x y z a b c la lb lc ew ex ey ez = (omega arith, omega arith, omega arith)

two_bytes : (w x y a b : ℕ) → a < 256 → b < 256 → w ≡ a / 4 → x ≡ a % 4 * 16 + b / 16 → y ≡ b % 16 * 4
    → (w * 4 + x / 16 ≡ a) × (x % 16 * 16 + y / 4 ≡ b)
two_bytes w x y a b la lb ew ex ey = (omega arith, omega arith)

four_symbols : (w x y z a b c : ℕ) → w < 64 → x < 64 → y < 64 → z < 64 → a ≡ w * 4 + x / 16 → b ≡ x % 16 * 16 + y / 4 → c ≡ y % 4 * 64 + z
    → (a / 4 ≡ w) × (a % 4 * 16 + b / 16 ≡ x) × (b % 16 * 4 + c / 64 ≡ y) × (c % 64 ≡ z)
four_symbols w x y z a b c lw lx ly lz ea eb ec = (omega arith, omega arith, omega arith, omega arith)

three_symbols : (w x y a b : ℕ) → w < 64 → x < 64 → y < 64 → y % 4 ≡ 0 → a ≡ w * 4 + x / 16 → b ≡ x % 16 * 16 + y / 4
    → (a / 4 ≡ w) × (a % 4 * 16 + b / 16 ≡ x) × (b % 16 * 4 ≡ y)
three_symbols w x y a b lw lx ly unused ea eb = (omega arith, omega arith, omega arith)

two_symbols : (w x a : ℕ) → w < 64 → x < 64 → x % 16 ≡ 0 → a ≡ w * 4 + x / 16 → (a / 4 ≡ w) × (a % 4 * 16 ≡ x)
two_symbols w x a lw lx unused ea = (omega arith, omega arith)

-- ---- a test of several parts

both_true : (a b : Bool) → (a && b) ≡ true → (a ≡ true) × (b ≡ true)
both_true true b h = (refl, h)
both_true false b h = absurd (cc)

record AreFour (a b c d : ℕ) (rest : List ℕ) : Type 0 where
  first : is_symbol a ≡ true
  second : is_symbol b ≡ true
  third : is_symbol c ≡ true
  fourth : is_symbol d ≡ true
  more : is_base64 rest ≡ true

are_four : (a b c d : ℕ) (rest : List ℕ) → is_base64 (a ∷ b ∷ c ∷ d ∷ rest) ≡ true → AreFour a b c d rest
unfolding is_base64
are_four a b c d rest h =
    let more = both_true _ _ h in
    let fourth = both_true _ _ more.0 in
    let third = both_true _ _ fourth.0 in
    let second = both_true _ _ third.0 in
    record { first = second.0; second = second.1; third = third.1; fourth = fourth.1; more = more.1 }

record AreThree (a b c : ℕ) : Type 0 where
  first : is_symbol a ≡ true
  second : is_symbol b ≡ true
  third : is_symbol c ≡ true
  unused : symbol_value c % 4 ≡ 0

are_three : (a b c : ℕ) → is_base64 (a ∷ b ∷ c ∷ []) ≡ true → AreThree a b c
unfolding is_base64
are_three a b c h =
    let unused = both_true _ _ h in
    let third = both_true _ _ unused.0 in
    let second = both_true _ _ third.0 in
    record { first = second.0; second = second.1; third = third.1; unused = eqb-true (symbol_value c % 4) 0 unused.1 }

record AreTwo (a b : ℕ) : Type 0 where
  first : is_symbol a ≡ true
  second : is_symbol b ≡ true
  unused : symbol_value b % 16 ≡ 0

are_two : (a b : ℕ) → is_base64 (a ∷ b ∷ []) ≡ true → AreTwo a b
unfolding is_base64
are_two a b h =
    let unused = both_true _ _ h in
    let second = both_true _ _ unused.0 in
    record { first = second.0; second = second.1; unused = eqb-true (symbol_value b % 16) 0 unused.1 }

below_64 : (symbol : ℕ) → is_symbol symbol ≡ true → symbol_value symbol < 64
below_64 symbol h = ltb-true (symbol_value symbol) 64 h

no_lone_symbol : (a : ℕ) → is_base64 (a ∷ []) ≡ true → ⊥
unfolding is_base64
no_lone_symbol a h = cc

-- ---- a table of 64 symbols, whose places `symbol_value` tells

module _ (t : List ℕ) (value_at : (v : ℕ) → v < 64 → symbol_value (slice_index t v) ≡ v)
    (symbol_of : (c : ℕ) → is_symbol c ≡ true → slice_index t (symbol_value c) ≡ c) where
  symbol_at : (v : ℕ) → v < 64 → is_symbol (slice_index t v) ≡ true
  symbol_at v h = ap (λ (n : ℕ). nat_lt n 64) (value_at v h) ∙ lt-ltb v 64 h

  form_of_symbols : (m : List ℕ) → IsBytes m → is_base64 (encode_symbols t m) ≡ true
  unfolding encode_symbols is_base64
  form_of_symbols [] bytes = refl
  form_of_symbols (a ∷ []) bytes =
      let la : a < 256 = bytes 0 in
      let s0 = symbol_at (a / 4) (omega arith) in
      let s1 = symbol_at (a % 4 * 16) (omega arith) in
      let v1 = value_at (a % 4 * 16) (omega arith) in
      let unused : a % 4 * 16 % 16 ≡ 0 = omega arith in
      rw (s0, s1, v1, unused) refl
  form_of_symbols (a ∷ b ∷ []) bytes =
      let la : a < 256 = bytes 0 in
      let lb : b < 256 = bytes 1 in
      let s0 = symbol_at (a / 4) (omega arith) in
      let s1 = symbol_at (a % 4 * 16 + b / 16) (omega arith) in
      let s2 = symbol_at (b % 16 * 4) (omega arith) in
      let v2 = value_at (b % 16 * 4) (omega arith) in
      let unused : b % 16 * 4 % 4 ≡ 0 = omega arith in
      rw (s0, s1, s2, v2, unused) refl
  form_of_symbols (a ∷ b ∷ c ∷ rest) bytes =
      let la : a < 256 = bytes 0 in
      let lb : b < 256 = bytes 1 in
      let lc : c < 256 = bytes 2 in
      let s0 = symbol_at (a / 4) (omega arith) in
      let s1 = symbol_at (a % 4 * 16 + b / 16) (omega arith) in
      let s2 = symbol_at (b % 16 * 4 + c / 64) (omega arith) in
      let s3 = symbol_at (c % 64) (omega arith) in
      let more = form_of_symbols rest (λ i. bytes (suc (suc (suc i)))) in
      rw (s0, s1, s2, s3, more) refl

  bytes_of_symbols : (m : List ℕ) → IsBytes m → base64_bytes (encode_symbols t m) ≡ m
  unfolding encode_symbols base64_bytes
  bytes_of_symbols [] bytes = refl
  bytes_of_symbols (a ∷ []) bytes =
      let la : a < 256 = bytes 0 in
      let v0 = value_at (a / 4) (omega arith) in
      let v1 = value_at (a % 4 * 16) (omega arith) in
      let e : a / 4 * 4 + a % 4 * 16 / 16 ≡ a = omega arith in
      rw (v0, v1, e) refl
  bytes_of_symbols (a ∷ b ∷ []) bytes =
      let v0 = value_at (a / 4) (omega (arith, bytes 0)) in
      let v1 = value_at (a % 4 * 16 + b / 16) (omega (arith, bytes 1)) in
      let v2 = value_at (b % 16 * 4) (omega arith) in
      let e = two_bytes _ _ _ a b (bytes 0) (bytes 1) v0 v1 v2 in
      rw (e.0, e.1) refl
  bytes_of_symbols (a ∷ b ∷ c ∷ rest) bytes =
      let v0 = value_at (a / 4) (omega (arith, bytes 0)) in
      let v1 = value_at (a % 4 * 16 + b / 16) (omega (arith, bytes 1)) in
      let v2 = value_at (b % 16 * 4 + c / 64) (omega (arith, bytes 2)) in
      let v3 = value_at (c % 64) (omega arith) in
      let e = three_bytes _ _ _ _ a b c (bytes 0) (bytes 1) (bytes 2) v0 v1 v2 v3 in
      let more = bytes_of_symbols rest (λ i. bytes (suc (suc (suc i)))) in
      rw (e.0, e.1, e.2, more) refl

  symbols_of_bytes : (s : List ℕ) → is_base64 s ≡ true → encode_symbols t (base64_bytes s) ≡ s
  unfolding encode_symbols base64_bytes
  symbols_of_bytes [] h = refl
  symbols_of_bytes (a ∷ []) h = absurd (no_lone_symbol a h)
  symbols_of_bytes (a ∷ b ∷ []) h =
      let are = are_two a b h in
      let e = two_symbols (symbol_value a) (symbol_value b) _ (below_64 a are.first) (below_64 b are.second) are.unused refl in
      rw (e.0, e.1, symbol_of a are.first, symbol_of b are.second) refl
  symbols_of_bytes (a ∷ b ∷ c ∷ []) h =
      let are = are_three a b c h in
      let e = three_symbols (symbol_value a) (symbol_value b) (symbol_value c) _ _
      (below_64 a are.first) (below_64 b are.second) (below_64 c are.third) are.unused refl refl in
      rw (e.0, e.1, e.2, symbol_of a are.first, symbol_of b are.second, symbol_of c are.third) refl
  symbols_of_bytes (a ∷ b ∷ c ∷ d ∷ rest) h =
      let are = are_four a b c d rest h in
      let e = four_symbols (symbol_value a) (symbol_value b) (symbol_value c) (symbol_value d) _ _ _
      (below_64 a are.first) (below_64 b are.second) (below_64 c are.third) (below_64 d are.fourth) refl refl refl in
      let more = symbols_of_bytes rest are.more in
      rw (e.0, e.1, e.2, e.3, symbol_of a are.first, symbol_of b are.second, symbol_of c are.third, symbol_of d are.fourth, more) refl

-- ---- the bytes of symbols are bytes

small : (w x : ℕ) → w < 64 → x < 64 → w * 4 + x / 16 < 256
small w x lw lx = omega arith

small_middle : (x y : ℕ) → x < 64 → y < 64 → x % 16 * 16 + y / 4 < 256
small_middle x y lx ly = omega arith

small_last : (y z : ℕ) → y < 64 → z < 64 → y % 4 * 64 + z < 256
small_last y z ly lz = omega arith

pub are_bytes : (s : List ℕ) → is_base64 s ≡ true → IsBytes (base64_bytes s)
unfolding base64_bytes
are_bytes [] h i = omega arith
are_bytes (a ∷ []) h i = omega arith
are_bytes (a ∷ b ∷ []) h zero = let are = are_two a b h in small _ _ (below_64 a are.first) (below_64 b are.second)
are_bytes (a ∷ b ∷ []) h (suc i) = omega arith
are_bytes (a ∷ b ∷ c ∷ []) h zero = let are = are_three a b c h in small _ _ (below_64 a are.first) (below_64 b are.second)
are_bytes (a ∷ b ∷ c ∷ []) h (suc zero) = let are = are_three a b c h in small_middle _ _ (below_64 b are.second) (below_64 c are.third)
are_bytes (a ∷ b ∷ c ∷ []) h (suc (suc i)) = omega arith
are_bytes (a ∷ b ∷ c ∷ d ∷ rest) h zero = let are = are_four a b c d rest h in small _ _ (below_64 a are.first) (below_64 b are.second)
are_bytes (a ∷ b ∷ c ∷ d ∷ rest) h (suc zero) = let are = are_four a b c d rest h in small_middle _ _ (below_64 b are.second) (below_64 c are.third)
are_bytes (a ∷ b ∷ c ∷ d ∷ rest) h (suc (suc zero)) = let are = are_four a b c d rest h in small_last _ _ (below_64 c are.third) (below_64 d are.fourth)
are_bytes (a ∷ b ∷ c ∷ d ∷ rest) h (suc (suc (suc i))) = are_bytes rest (are_four a b c d rest h).more i

-- ---- the engine's table

places : list_all (λ v. symbol_value (slice_index alphabet v) == v) (range_with_len 0 64) ≡ true
unfolding symbol_value
places = refl

value_in_alphabet : (v : ℕ) → v < 64 → symbol_value (slice_index alphabet v) ≡ v
value_in_alphabet v h =
    let P : ℕ → Bool = λ x. symbol_value (slice_index alphabet x) == x in
    let here : P (get_or (range_with_len 0 64) v 0) ≡ true = All-get_or (λ x. P x ≡ true) (range_with_len 0 64) v 0 h (AllPass-from_list_all P (range_with_len 0 64) places) in
    let place : get_or (range_with_len 0 64) v 0 ≡ v = omega (arith, get_or-range_with_len 0 64 v 0 h) in
    eqb-true (symbol_value (slice_index alphabet v)) v (ap P (sym place) ∙ here)

symbol_in_alphabet : (c : ℕ) → is_symbol c ≡ true → slice_index alphabet (symbol_value c) ≡ c
unfolding symbol_value
symbol_in_alphabet c h =
    eqb-true (slice_index alphabet (symbol_value c)) c (passes_at_first (λ x. x == c) alphabet 0 (ltb-true (symbol_value c) 64 h))

pub base64_form : (m : List ℕ) → IsBytes m → is_base64 (base64_text m) ≡ true
unfolding base64_text
base64_form m bytes = ap is_base64 (append-nil (encode_symbols alphabet m)) ∙ form_of_symbols alphabet value_in_alphabet symbol_in_alphabet m bytes

pub bytes_of_text : (m : List ℕ) → IsBytes m → base64_bytes (base64_text m) ≡ m
unfolding base64_text
bytes_of_text m bytes =
    ap base64_bytes (append-nil (encode_symbols alphabet m)) ∙ bytes_of_symbols alphabet value_in_alphabet symbol_in_alphabet m bytes

pub text_of_bytes : (s : List ℕ) → is_base64 s ≡ true → base64_text (base64_bytes s) ≡ s
unfolding base64_text
text_of_bytes s form =
    append-nil (encode_symbols alphabet (base64_bytes s)) ∙ symbols_of_bytes alphabet value_in_alphabet symbol_in_alphabet s form

-- ---- no symbol is `$`

not_dollar : (c : ℕ) → is_symbol c ≡ true → c ≢ 36
unfolding symbol_value
not_dollar c h e = let no : is_symbol 36 ≡ true = ap is_symbol (sym e) ∙ h in cc

pub base64_free : (s : List ℕ) → is_base64 s ≡ true → IsFree 36 s
base64_free [] h k within = omega arith
base64_free (a ∷ []) h k within = absurd (no_lone_symbol a h)
base64_free (a ∷ b ∷ []) h zero within = not_dollar a (are_two a b h).first
base64_free (a ∷ b ∷ []) h (suc zero) within = not_dollar b (are_two a b h).second
base64_free (a ∷ b ∷ []) h (suc (suc k)) within = omega arith
base64_free (a ∷ b ∷ c ∷ []) h zero within = not_dollar a (are_three a b c h).first
base64_free (a ∷ b ∷ c ∷ []) h (suc zero) within = not_dollar b (are_three a b c h).second
base64_free (a ∷ b ∷ c ∷ []) h (suc (suc zero)) within = not_dollar c (are_three a b c h).third
base64_free (a ∷ b ∷ c ∷ []) h (suc (suc (suc k))) within = omega arith
base64_free (a ∷ b ∷ c ∷ d ∷ rest) h zero within = not_dollar a (are_four a b c d rest h).first
base64_free (a ∷ b ∷ c ∷ d ∷ rest) h (suc zero) within = not_dollar b (are_four a b c d rest h).second
base64_free (a ∷ b ∷ c ∷ d ∷ rest) h (suc (suc zero)) within = not_dollar c (are_four a b c d rest h).third
base64_free (a ∷ b ∷ c ∷ d ∷ rest) h (suc (suc (suc zero))) within = not_dollar d (are_four a b c d rest h).fourth
base64_free (a ∷ b ∷ c ∷ d ∷ rest) h (suc (suc (suc (suc k)))) within = base64_free rest (are_four a b c d rest h).more k (omega arith)

-- ---- what the engine refuses

-- what isn't decoded hasn't the form
pub not_decoded : (s : List ℕ) (e : DecodeAllocError) (d : DecodeError) → e ≡ Failed d → IsDecodeFailure standard_no_pad s e → is_base64 s ≢ true
unfolding base64_text
not_decoded s e d is failed form =
    let failure : decode_of standard_no_pad s ≡ Err d = rw is at failed in
    let found : decode_of standard_no_pad s ≡ Ok (base64_bytes s) =
    ap (decode_of standard_no_pad) (sym (text_of_bytes s form)) ∙ decode_of-encode_of standard_no_pad (base64_bytes s) refl (are_bytes s form) in
    let both : Err d ≡ Ok (base64_bytes s) = sym failure ∙ found in
    cc both
