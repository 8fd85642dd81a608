use Rattle.std.proofs.Common.{append-nil}
use Rattle.encfile.proofs.dec.Dec.with_keys.Goals as goal

pub returns : goal.returns
returns c = record {
  begun = record { cipher = c.key_stream.ensures.stream; held = c.new.ensures.nothing; code = rw (append-nil c.args.front.now) c.start_file_hmac.ensures.code };
}
