use Rattle.std.proofs.Common.{refl, append-nil}
use Rattle.aes_ctr.specs.CounterMode.{counter_mode_from}
use Rattle.encfile.proofs.enc.Enc.with_keys.Goals as goal

pub returns : goal.returns
unfolding counter_mode_from
returns c = record {
  begun = record { header = refl; cipher = c.key_stream-ctr.ensures.stream; code = rw (append-nil c.args.header) c.start_file_hmac-hmac.ensures.code };
}
