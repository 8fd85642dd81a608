use Rattle.argon_text.proofs.Answering.{reads_text}
use Rattle.argon_text.proofs.encoded.Encoded.read.Goals as goal

pub returns : goal.returns
returns c = record { reads = reads_text c.args.text.now c.read_encoded_with_memory.result c.read_encoded_with_memory.ensures.answer }
