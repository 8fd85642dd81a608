use Rattle.argon.proofs.FirstColumns.{handed_with_length}
use Rattle.argon.proofs.first_columns.update_hash_with_length.Goals as goal

pub returns : goal.returns
returns c = record { handed = handed_with_length c.args.text.now _ _ _ c.update_hash_with_number.ensures.handed c.update.ensures.handed }
