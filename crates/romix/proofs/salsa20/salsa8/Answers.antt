use Rattle.std.proofs.Common.{arith, ap, sym, ◌∙◌}
use Rattle.std.proofs.lemmas.List.{take_all}
use Rattle.romix.specs.Salsa20.{salsa20_8}
use Rattle.romix.proofs.salsa20.salsa8.Goals as goal

pub returns-clause-words : goal.returns-clause-words
returns-clause-words c =
    sym (take_all 16 c.store.new.row (omega arith)) ∙ c.store.ensures.front ∙ c.core_by_rows.ensures.words
    ∙ ap salsa20_8 (c.load.ensures.words ∙ take_all 16 c.args.words.now (omega arith))
