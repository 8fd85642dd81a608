use Rattle.std.proofs.Common.{◌≡◌, arith, add-one}
use Rattle.aes_ctr.specs.Aes.{cipher, state_after}
use Rattle.aes_ctr.proofs.cipher.cipher.Goals as goal

pub rounds-init : goal.rounds-init
unfolding state_after
rounds-init c = c.add_round_key-state.ensures.state

pub rounds-preserved : goal.rounds-preserved
unfolding state_after
rounds-preserved c = rw (add-one c.rounds.done) (rw (add-one c.rounds.done, c.rounds.invariant) at c.round-state.ensures.state)

pub returns : goal.returns
unfolding cipher
returns c = record {
  cipher_text =
      let all : c.rounds.done ≡ 13 = omega arith in
      rw (c.last_round.ensures.state, c.rounds.invariant, all);
}
