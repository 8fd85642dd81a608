use Rattle.std.proofs.Common.{ap, ◌∙◌}
use Rattle.romix.specs.Salsa20.{salsa20_8}
use Rattle.romix.proofs.salsa20.core_by_rows.Goals as goal

pub returns-clause-words : goal.returns-clause-words
returns-clause-words c = c.to_rows.ensures.words ∙ c.core_by_diagonals.ensures.words ∙ ap salsa20_8 c.to_diagonals.ensures.words
