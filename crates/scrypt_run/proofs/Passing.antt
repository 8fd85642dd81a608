-- Steps of a run joined to longer ones.
use Rattle.std.proofs.Common.{◌≡◌, ◌≤◌, ℕ, List, [], ◌+◌, ◌-◌, ◌++◌, take, drop, length, sym, ◌∙◌, ap, arith}
use Rattle.std.proofs.lemmas.List.{append-nil, append_assoc, length-drop}
use Rattle.std.proofs.Math.Seq.{take-add, drop-drop}
use Rattle.std.proofs.lemmas.Grind.{common_steps}
use Rattle.host.specs.HostState.{HostState, after_pull, after_push}
use Rattle.host.proofs.Pulls.{begun_on}
use Rattle.scrypt_run.specs.Steps.{after_pull_and_push}

-- ---- a text through a cipher: `gives` is what the bytes so far give

-- n bytes more are pulled, and `more` is written
pub pass_on : (gives : List ℕ → List ℕ) (j n : ℕ) (more : List ℕ) (s t u v : HostState) → t ≡ after_pull_and_push gives j s → u ≡ after_pull n t → v ≡ after_push more u
    → v ≡ after_push (gives (take j s.input) ++ more) (after_pull (j + n) s)
pass_on gives j n more s t u v first pulled pushed =
    pushed ∙ ap (after_push more) pulled ∙ ap (λ w. after_push more (after_pull n w)) first
    ∙ ap (λ xs. let w : HostState = record s { input = xs; output = s.output ++ gives (take j s.input) ++ more } in w) (drop-drop n j s.input)
    ∙ ap (λ ys. let w : HostState = record s { input = drop (j + n) s.input; output = ys } in w) (append_assoc s.output (gives (take j s.input)) more)

-- the bytes that were pulled are the next
pub take_on : (gives : List ℕ → List ℕ) (j n : ℕ) (piece : List ℕ) (s t : HostState) → t ≡ after_pull_and_push gives j s → piece ≡ take n t.input
    → take j s.input ++ piece ≡ take (j + n) s.input
take_on gives j n piece s t first is =
    ap (λ xs. take j s.input ++ xs) (is ∙ ap (λ (w : HostState). take n w.input) first) ∙ sym (take-add j n s.input)

-- what is left after j bytes, and then after n more
pub left_on : (j n : ℕ) (s t u v : HostState) → t.input ≡ drop j s.input → u ≡ after_pull n t → v.input ≡ u.input → v.input ≡ drop (j + n) s.input
left_on j n s t u v left pulled same = same ∙ ap (λ (w : HostState). w.input) pulled ∙ ap (drop n) left ∙ drop-drop n j s.input

-- all that the next bytes give is written
pub pass_whole : (gives : List ℕ → List ℕ) (j n : ℕ) (piece out : List ℕ) (s t u v : HostState) → t ≡ after_pull_and_push gives j s → piece ≡ take n t.input → u ≡ after_pull n t
    → gives (take j s.input ++ piece) ≡ gives (take j s.input) ++ out → v ≡ after_push out u → v ≡ after_pull_and_push gives (j + n) s
pass_whole gives j n piece out s t u v first is pulled given pushed =
    pass_on gives j n out s t u v first pulled pushed
    ∙ ap (λ xs. after_push xs (after_pull (j + n) s)) (sym given ∙ ap gives (take_on gives j n piece s t first is))

-- a beginning of it is written
pub pass_part : (gives : List ℕ → List ℕ) (j n m : ℕ) (piece out : List ℕ) (s t u v : HostState) → t ≡ after_pull_and_push gives j s → piece ≡ take n t.input → u ≡ after_pull n t
    → gives (take j s.input ++ piece) ≡ gives (take j s.input) ++ out → v ≡ after_push (take m out) u
    → v ≡ after_push (take (length (gives (take j s.input)) + m) (gives (take (j + n) s.input))) (after_pull (j + n) s)
pass_part gives j n m piece out s t u v first is pulled given pushed =
    let before = gives (take j s.input) in
    let whole : gives (take (j + n) s.input) ≡ before ++ out = ap gives (sym (take_on gives j n piece s t first is)) ∙ given in
    let begun : before ++ take m out ≡ take (length before + m) (before ++ out) = begun_on before out m in
    pass_on gives j n (take m out) s t u v first pulled pushed
    ∙ ap (λ xs. after_push xs (after_pull (j + n) s)) (begun ∙ ap (take (length before + m)) (sym whole))

-- how much longer what is given becomes
pub gives_length : (gives : List ℕ → List ℕ) (j n : ℕ) (piece out : List ℕ) (s t : HostState) → t ≡ after_pull_and_push gives j s → piece ≡ take n t.input
    → gives (take j s.input ++ piece) ≡ gives (take j s.input) ++ out → length (gives (take (j + n) s.input)) ≡ length (gives (take j s.input)) + length out
gives_length gives j n piece out s t first is given =
    let whole : gives (take (j + n) s.input) ≡ gives (take j s.input) ++ out = ap gives (sym (take_on gives j n piece s t first is)) ∙ given in
    ap length whole ∙ grind (arith, common_steps)

-- the next bytes are pulled, and nothing is written
pub pass_none : (gives : List ℕ → List ℕ) (j n : ℕ) (s t u : HostState) → t ≡ after_pull_and_push gives j s → u ≡ after_pull n t → u ≡ after_push (gives (take j s.input)) (after_pull (j + n) s)
pass_none gives j n s t u first pulled =
    pulled ∙ ap (after_pull n) first ∙ ap (λ xs. let w : HostState = record s { input = xs; output = s.output ++ gives (take j s.input) } in w) (drop-drop n j s.input)

-- the whole input
pub pass_all : (gives : List ℕ → List ℕ) (j : ℕ) (s t : HostState) → t ≡ after_pull_and_push gives j s → t.input ≡ [] → j ≤ length s.input → j ≡ length s.input
pass_all gives j s t first none within =
    let none_left : length s.input - j ≡ 0 = sym (length-drop j s.input) ∙ ap (λ (w : HostState). length w.input) (sym first) ∙ ap length none in
    omega (arith, none_left, within)

-- before the first byte
pub starts : (gives : List ℕ → List ℕ) (s : HostState) → gives [] ≡ [] → s ≡ after_pull_and_push gives 0 s
starts gives s none =
    (ap (λ ys. let v : HostState = record s { output = ys } in v) (sym (append-nil s.output))) ∙ ap (λ xs. after_push xs s) (sym none)

-- a write to the first n bytes keeps the length
pub put_length : (n : ℕ) (xs new : List ℕ) (m : ℕ) → length xs ≡ m → n ≤ m → length new ≡ n → length (new ++ drop n xs) ≡ m
put_length n xs new m long within same = grind (arith, common_steps, long, within, same)
