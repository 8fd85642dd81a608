use Rattle.std.proofs.Common.{refl}
use Rattle.argon.specs.Compression.{compression, compression_of_xor}
use Rattle.argon.proofs.compression.compression.Goals as goal

pub returns-clause-value : goal.returns-clause-value
unfolding compression compression_of_xor
returns-clause-value c = rw (c.permute_columns.ensures.value, c.permute_rows.ensures.value, c.write_xor.ensures.value) refl
