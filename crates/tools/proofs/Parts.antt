-- A stream that is read part by part into a buffer, and a call that is interrupted.
use Rattle.std.proofs.Common.{◌≡◌, ◌≤◌, ◌==◌, ℕ, ◌+◌, ◌-◌, Bool, false, List, [], ◌++◌, Some, arith, length, min, take, drop, slice_range, refl, sym, ap, ◌∙◌, subst, le_refl, drop_at, length-take-le, length-drop}
use Rattle.std.proofs.lemmas.Slice.{take-put_mid_below}
use Rattle.std.proofs.lemmas.Grind.{common_steps}
use Rattle.std.proofs.Math.Seq.{take-add}
use Rattle.host.specs.Secret.{IsBeginning}
use Rattle.tools.specs.SystemState.{Files, Reads, TakesFrom, SystemState, after_read, state_of_read_stream, with_read_stream_state}
use Rattle.tools.specs.declared.system.Reading.{Reading}
use Rattle.tools.specs.declared.system.Reading.TheVariants as reading
use borrow.Rule.Slice.PartMut.{put_mid, post_of}
use lib.Seq.{take-append-le}

-- ---- buffers

-- the front of a buffer whose rest was given a part is the old front and the beginning of the part
pub take-put_mid_part : (at room n : ℕ) (buffer part : List ℕ) → at ≤ length buffer → n ≤ length part
    → take (at + n) (put_mid at room buffer part) ≡ take at buffer ++ take n part
take-put_mid_part at room n buffer part within fits =
    let after = post_of at room buffer in
    let new = put_mid at room buffer part in
    let front : take at new ≡ take at buffer = take-put_mid_below at room buffer part at (le_refl at) within in
    let rest : slice_range new at (at + n) ≡ take n part =
    let same : (at + n) - at ≡ n = omega arith in
    ap (take ((at + n) - at)) (drop_at (take at buffer) (part ++ after) at (length-take-le at buffer within))
    ∙ ap (λ m. take m (part ++ after)) same ∙ take-append-le n part after fits in
    let same : at + (at + n - at) ≡ at + n = omega arith in
    ap (λ m. take m new) (sym same) ∙ take-add at (at + n - at) new ∙ ap (λ l. l ++ slice_range new at (at + n)) front
    ∙ ap (λ l. take at buffer ++ l) rest

drop-drop_more : (m n : ℕ) (xs : List ℕ) → drop n (drop m xs) ≡ drop (m + n) xs
drop-drop_more m n xs = grind (arith, common_steps)

-- ---- streams

-- so many bytes were read, and then the end was found or not
abbrev pub read_on : Reading → ℕ → Bool → SystemState → SystemState
read_on r at is_ended w = with_read_stream_state r (let s = state_of_read_stream r w in record s { left = drop at s.left; is_ended = is_ended }) w

-- no byte was read yet
pub read_on-none : (r : Reading) (w : SystemState) → (state_of_read_stream r w).is_ended ≡ false → w ≡ read_on r 0 false w
read_on-none reading.Input w going = ap (λ e. let t : SystemState = record w { input = record w.input { is_ended = e } } in t) going
read_on-none reading.Secret w going = ap (λ e. let t : SystemState = record w { secret = record w.secret { is_ended = e } } in t) going
read_on-none reading.Random w going = ap (λ e. let t : SystemState = record w { random = record w.random { is_ended = e } } in t) going

-- n bytes more were read
pub read_on-more : (r : Reading) (at n : ℕ) (w : SystemState) → after_read r n (read_on r at false w) ≡ read_on r (at + n) (n == 0) w
read_on-more reading.Input at n w =
    ap (λ xs. let t : SystemState = record w { input = record w.input { left = xs; is_ended = n == 0 } } in t) (drop-drop_more at n w.input.left)
read_on-more reading.Secret at n w =
    ap (λ xs. let t : SystemState = record w { secret = record w.secret { left = xs; is_ended = n == 0 } } in t) (drop-drop_more at n w.secret.left)
read_on-more reading.Random at n w =
    ap (λ xs. let t : SystemState = record w { random = record w.random { left = xs; is_ended = n == 0 } } in t) (drop-drop_more at n w.random.left)

-- what is left, and whether the end was found
source-read_on : (r : Reading) (at : ℕ) (e : Bool) (w : SystemState) → (state_of_read_stream r (read_on r at e w)).left ≡ drop at (state_of_read_stream r w).left
source-read_on reading.Input at e w = refl
source-read_on reading.Secret at e w = refl
source-read_on reading.Random at e w = refl

ended-read_on : (r : Reading) (at : ℕ) (e : Bool) (w : SystemState) → (state_of_read_stream r (read_on r at e w)).is_ended ≡ e
ended-read_on reading.Input at e w = refl
ended-read_on reading.Secret at e w = refl
ended-read_on reading.Random at e w = refl

-- some bytes of a stream were read
pub takes-read_on : (r : Reading) (at : ℕ) (e : Bool) (before now : SystemState) → now ≡ read_on r at e before → TakesFrom r before now
takes-read_on r at e before now read = record { left = drop at (state_of_read_stream r before).left; is_ended = e; same = read }

-- ---- what was read stands in the front of the buffer
pub record IsRead (r : Reading) (at : ℕ) (buf : List ℕ) (before now : SystemState) : Type 0 where
  pub taken : now ≡ read_on r at false before
  pub fits : at ≤ length (state_of_read_stream r before).left
  pub bytes : take at buf ≡ take at (state_of_read_stream r before).left

pub is_read-none : (r : Reading) (buf : List ℕ) (w : SystemState) → (state_of_read_stream r w).is_ended ≡ false → IsRead r 0 buf w w
is_read-none r buf w going = record { taken = read_on-none r w going; fits = omega arith; bytes = refl }

-- no end was found yet
pub is_read-going : (r : Reading) (at : ℕ) (buf : List ℕ) (before now : SystemState) → IsRead r at buf before now → (state_of_read_stream r now).is_ended ≡ false
is_read-going r at buf before now h = ap (λ (w : SystemState). (state_of_read_stream r w).is_ended) h.taken ∙ ended-read_on r at false before

-- what is left of a stream of which at bytes were read
left_now : (r : Reading) (at : ℕ) (buf : List ℕ) (before now : SystemState) → IsRead r at buf before now
    → (state_of_read_stream r now).left ≡ drop at (state_of_read_stream r before).left
left_now r at buf before now h = ap (λ (w : SystemState). (state_of_read_stream r w).left) h.taken ∙ source-read_on r at false before

fits_more : (at n : ℕ) (xs : List ℕ) → at ≤ length xs → n ≤ length (drop at xs) → at + n ≤ length xs
fits_more at n xs within fits = grind (arith, common_steps)

not_zero : (n : ℕ) → (n ≡ 0 → ⊥) → (n == 0) ≡ false
not_zero n some = grind (arith, common_steps)

-- the stream after one read more
read_after : (r : Reading) (at n : ℕ) (buf part : List ℕ) (before now after : SystemState) → IsRead r at buf before now → Reads r n part now after
    → after ≡ read_on r (at + n) (n == 0) before
read_after r at n buf part before now after h next = next.taken ∙ ap (after_read r n) h.taken ∙ read_on-more r at n before

-- one read more
pub is_read-more : (r : Reading) (at room n : ℕ) (buf part : List ℕ) (before now after : SystemState) → at ≤ length buf → n ≤ length part
    → (n ≡ 0 → ⊥) → IsRead r at buf before now → Reads r n part now after → IsRead r (at + n) (put_mid at room buf part) before after
is_read-more r at room n buf part before now after within fits some h next = record {
  taken = read_after r at n buf part before now after h next ∙ ap (λ e. read_on r (at + n) e before) (not_zero n some);
  fits = fits_more at n (state_of_read_stream r before).left h.fits (subst (λ xs. n ≤ length xs) (left_now r at buf before now h) next.within);
  bytes = take-put_mid_part at room n buf part within fits ∙ ap (λ l. l ++ take n part) h.bytes
      ∙ ap (λ l. take at (state_of_read_stream r before).left ++ l) (next.bytes ∙ ap (take n) (left_now r at buf before now h))
      ∙ sym (take-add at n (state_of_read_stream r before).left);
}

-- what was taken by then
pub is_read-takes : (r : Reading) (at : ℕ) (buf : List ℕ) (before now : SystemState) → IsRead r at buf before now → TakesFrom r before now
is_read-takes r at buf before now h = takes-read_on r at false before now h.taken

-- and by a read more
pub is_read-takes_more : (r : Reading) (at n : ℕ) (buf part : List ℕ) (before now after : SystemState) → IsRead r at buf before now
    → Reads r n part now after → TakesFrom r before after
is_read-takes_more r at n buf part before now after h next =
    takes-read_on r (at + n) (n == 0) before after (read_after r at n buf part before now after h next)

-- ---- what came in all

min_le : (m n : ℕ) → m ≤ n → min m n ≡ m
min_le m n fits = grind (arith, common_steps)

no_more : (at room : ℕ) (xs : List ℕ) → at ≤ length xs → at ≤ room → drop at xs ≡ [] → at ≡ min (length xs) room
no_more at room xs within fits none =
    let gone : length xs - at ≡ 0 = sym (length-drop at xs) ∙ ap length none in
    let all : length xs ≡ at = omega arith in
    sym (ap (λ k. min k room) all ∙ min_le at room fits)

full : (at room k : ℕ) → at ≤ k → at ≡ room → at ≡ min k room
full at room k within none = grind (arith, common_steps)

-- the stream is at its end
pub beginning_at_end : (r : Reading) (at : ℕ) (buf : List ℕ) (before now : SystemState) → at ≤ length buf → IsRead r at buf before now
    → (state_of_read_stream r now).left ≡ [] → IsBeginning (Some (state_of_read_stream r before).left) at buf
beginning_at_end r at buf before now within h end =
    (no_more at (length buf) (state_of_read_stream r before).left h.fits within (sym (left_now r at buf before now h) ∙ end), h.bytes)

-- the stream is at its end, and the rest of the buffer was given a part
pub beginning_at_put : (r : Reading) (at room : ℕ) (buf part : List ℕ) (before now : SystemState) → at ≤ length buf → IsRead r at buf before now
    → (state_of_read_stream r now).left ≡ [] → length (put_mid at room buf part) ≡ length buf
    → IsBeginning (Some (state_of_read_stream r before).left) at (put_mid at room buf part)
beginning_at_put r at room buf part before now within h end same =
    let whole = beginning_at_end r at buf before now within h end in (
      whole.0 ∙ ap (min (length (state_of_read_stream r before).left)) (sym same),
      take-put_mid_below at room buf part at (le_refl at) within ∙ whole.1,
    )

-- the buffer is full
pub beginning_when_full : (r : Reading) (at : ℕ) (buf : List ℕ) (before now : SystemState) → at ≡ length buf → IsRead r at buf before now
    → IsBeginning (Some (state_of_read_stream r before).left) at buf
beginning_when_full r at buf before now all h = (full at (length buf) (length (state_of_read_stream r before).left) h.fits all, h.bytes)

-- ---- a read or a write that was interrupted so often

-- nothing has changed, and it was asked for so many times
pub record IsInterrupted (times : ℕ) (before now : SystemState) (files_before files_now : Files) (tries_before tries_now : ℕ)
    : Type 0 where
  pub same : now ≡ before
  pub same_files : files_now ≡ files_before
  pub counted : tries_now ≡ tries_before + times
