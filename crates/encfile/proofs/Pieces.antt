-- Pieces of lists, of a text, of a key stream and of what is held.
use Rattle.std.proofs.Common.{◌≡◌, ℕ, zero, suc, ◌+◌, ◌-◌, ◌≤◌, List, [], ◌∷◌, ◌++◌, length, take, drop, arith, refl, ap, ap₂, sym, ◌∙◌, append-nil, append_assoc, length-append}
use borrow.Rule.Slice.PartMut.{put_mid}
use Rattle.std.proofs.lemmas.List.{drop_at, drop-take, take_at, take-append-drop, take-take}
use Rattle.aes_ctr.specs.CounterMode.{KeyStreamPlace, counter_mode, counter_mode_from}
use Rattle.aes_ctr.proofs.KeyStream.{counter_mode_from-append}
use Rattle.encfile.specs.Header.{bytes_at}

-- ---- lists

-- the first bytes in two parts
pub both_parts : (m n : ℕ) (bytes : List ℕ) → take m bytes ++ take n (drop m bytes) ≡ take (m + n) bytes
both_parts zero n bytes = let e : n ≡ 0 + n = omega arith in ap (λ k. take k bytes) e
both_parts (suc m) zero [] = let e : suc m + 0 ≡ suc m = omega arith in rw e refl
both_parts (suc m) (suc n) [] = let e : suc m + suc n ≡ suc (m + suc n) = omega arith in rw e refl
both_parts (suc m) n (x ∷ bytes) = let e : suc m + n ≡ suc (m + n) = omega arith in rw e (ap (λ l. x ∷ l) (both_parts m n bytes))

-- the second of three parts
pub middle : (first second third : List ℕ) (i n : ℕ) → length first ≡ i → length second ≡ n → bytes_at (first ++ second ++ third) i n ≡ second
middle first second third i n h g = rw (append_assoc first second third, drop_at first (second ++ third) i h) (take_at second third n g)

-- bytes of a beginning
pub bytes_at-take : (m i n : ℕ) (bytes : List ℕ) → i + n ≤ m → bytes_at (take m bytes) i n ≡ bytes_at bytes i n
bytes_at-take m i n bytes within =
    let rest : ℕ = m - i in
    let whole : m ≡ i + rest = omega arith in
    ap (λ k. bytes_at (take k bytes) i n) whole ∙ ap (take n) (drop-take i rest bytes) ∙ take-take n rest (drop i bytes) (omega arith)

-- two lists that begin with the same bytes, without them
pub same_end : (front left right : List ℕ) (n : ℕ) → length front ≡ n → front ++ left ≡ front ++ right → left ≡ right
same_end front left right n long same = sym (drop_at front left n long) ∙ ap (drop n) same ∙ drop_at front right n long

-- a buffer whose two parts were written
pub put_mid-append : (first old second : List ℕ) (n m : ℕ) → length first ≡ n → drop m old ≡ [] → put_mid n m (first ++ old) second ≡ first ++ second
put_mid-append first old second n m long none = rw (take_at first old n long, drop_at first old n long, none, append-nil second) refl

-- a list of which the first `len` bytes are `held` and `piece`, cut at `moved`, with the bytes after the cut copied to `copy`
pub cut_at : (held piece list copy post : List ℕ) (moved len : ℕ) → take len list ≡ held ++ piece → length copy ≡ len - moved
    → copy ≡ take (len - moved) (drop moved list) → moved ≤ len → take moved list ++ take (len - moved) (copy ++ post) ≡ held ++ piece
cut_at held piece list copy post moved len whole long copied below =
    let all : moved + (len - moved) ≡ len = omega arith in
    ap (λ b. take moved list ++ b) (take_at copy post (len - moved) long ∙ copied) ∙ both_parts moved (len - moved) list
    ∙ ap (λ n. take n list) all ∙ whole

-- what follows `made`, which was written over the first `n` bytes of `out`: `last`, and then what `old` had there
pub after_made : (n len : ℕ) (old out made last : List ℕ) → length made ≡ n → length (take n out) ≡ n
    → take len out ≡ take n out ++ last → drop len out ≡ drop len old → n + length last ≡ len
    → drop n (made ++ drop n out) ≡ last ++ drop (n + length last) old
after_made n len old out made last long moved first rest all =
    let front : List ℕ = take n out in
    let whole : out ≡ front ++ (last ++ drop len old) =
    sym (take-append-drop len out) ∙ ap₂ (λ (a b : List ℕ). a ++ b) first rest ∙ append_assoc front last (drop len old) in
    drop_at made (drop n out) n long ∙ ap (drop n) whole ∙ drop_at front (last ++ drop len old) n moved
    ∙ ap (λ k. last ++ drop k old) (sym all)

-- ---- a key stream

-- its place after so many bytes
abbrev pub place_after : List ℕ → ℕ → KeyStreamPlace
place_after key position = record { key = key; position = position }

-- the text in two pieces is the text in one, after what stands before it
pub counter_mode-more : (front key text piece made : List ℕ) (place : KeyStreamPlace) → place ≡ place_after key (length text)
    → made ≡ counter_mode_from place.key place.position piece
    → front ++ counter_mode key text ++ made ≡ front ++ counter_mode key (text ++ piece)
counter_mode-more front key text piece made place there h =
    let e : 0 + length text ≡ length text = omega arith in
    rw (h, there, counter_mode_from-append key 0 text piece, append_assoc front (counter_mode_from key 0 text) (counter_mode_from key (length text) piece), e) refl

-- the place after one more piece
pub place-more : (key text piece : List ℕ) (place next : KeyStreamPlace) → place ≡ place_after key (length text) → next.key ≡ place.key
    → next.position ≡ place.position + length piece → next ≡ place_after key (length (text ++ piece))
place-more key text piece place next there same moved =
    ap₂ place_after (same ∙ ap (λ (p : KeyStreamPlace). p.key) there)
    (omega (arith, moved, ap (λ (p : KeyStreamPlace). p.position) there, length-append text piece))
