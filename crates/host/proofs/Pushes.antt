-- Pushes one after another.
use Rattle.std.proofs.Common.{◌≡◌, ℕ, List, ◌+◌, ◌-◌, ◌++◌, take, drop, length, sym, ◌∙◌, ap, arith}
use Rattle.std.proofs.lemmas.List.{append_assoc}
use Rattle.std.proofs.Math.Seq.{take-add}
use Rattle.std.proofs.lemmas.Grind.{common_steps}
use Rattle.host.specs.HostState.{HostState, after_push}

-- what `&bytes[i..]` is
abbrev pub from : ℕ → List ℕ → List ℕ
from i bytes = take (length bytes - i) (drop i bytes)

from_is : (i : ℕ) (bytes : List ℕ) → from i bytes ≡ drop i bytes
from_is i bytes = grind (arith, common_steps)

-- two pushes are one of both
pub push_push : (xs ys : List ℕ) (s : HostState) → after_push ys (after_push xs s) ≡ after_push (xs ++ ys) s
push_push xs ys s = ap (λ out. let t : HostState = record s { output = out } in t) (append_assoc s.output xs ys)

-- a push of the next n bytes goes on from a push of the first i
pub push_next : (i n : ℕ) (bytes : List ℕ) (s t u : HostState) → t ≡ after_push (take i bytes) s → u ≡ after_push (take n (from i bytes)) t → u ≡ after_push (take (i + n) bytes) s
push_next i n bytes s t u first next =
    next ∙ ap (after_push (take n (from i bytes))) first ∙ push_push (take i bytes) (take n (from i bytes)) s
    ∙ ap (λ xs. after_push (take i bytes ++ take n xs) s) (from_is i bytes) ∙ ap (λ xs. after_push xs s) (sym (take-add i n bytes))
