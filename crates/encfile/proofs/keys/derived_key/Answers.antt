use Rattle.encfile.specs.EncryptedFile.{derived_key}
use Rattle.encfile.proofs.keys.derived_key.Goals as goal

pub returns-clause-key : goal.returns-clause-key
unfolding derived_key
returns-clause-key c = c.derive.ensures.key

pub returns-clause-derives : goal.returns-clause-derives
returns-clause-derives c = record {
  memory = c.derive.ensures.memory;
  count = c.derive.ensures.count;
  bound = c.derive.ensures.bound;
  whole = c.derive.ensures.whole;
}
