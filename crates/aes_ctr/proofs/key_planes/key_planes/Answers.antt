use Rattle.std.proofs.Common.{◌≡◌, ℕ, ◌+◌, ◌*◌, ◌/◌, ◌%◌, ◌<◌, ◌≢◌, [], arith, below_more, get_or-set_other, get_or-set_same, length, refl}
use Rattle.std.proofs.lemmas.List.{get_or-drop, length-set}
use Rattle.aes_ctr.proofs.key_planes.key_planes.Goals as goal

pub planes-init : goal.planes-init
planes-init c = record { long = refl; held = λ r h. absurd (omega (arith, h)) }

pub planes-preserved : goal.planes-preserved
planes-preserved c =
    let n : ℕ = c.planes.i in
    let within : n < length c.planes.planes = omega (arith, c.planes.invariant.long) in
    record {
      long = omega (arith, c.planes.invariant.long, length-set c.planes.planes n c.key_plane.result);
      held = below_more _ _
          (λ i h. let ne : i ≢ n = omega arith in rw get_or-set_other (c.planes.invariant.held i h))
          (rw (get_or-set_same, ← c.round_key.ensures.key) (c.key_plane.ensures.key, c.key_plane.ensures.bits));
    }

pub returns : goal.returns
returns c = record {
  planes =
      λ round h.
      let first : 8 * round / 8 ≡ round = omega arith in (
        rw first at (c.planes.invariant.held (8 * round) (omega arith)).0,
        λ b small k low.
            let of_round : (8 * round + k) / 8 ≡ round = omega arith in
            let in_round : (8 * round + k) % 8 ≡ k = omega arith in
            rw (get_or-drop (8 * round) c.planes.planes k []) (rw (of_round, in_round) at ((c.planes.invariant.held (8 * round + k) (omega arith)).1 b small)),
      );
}
