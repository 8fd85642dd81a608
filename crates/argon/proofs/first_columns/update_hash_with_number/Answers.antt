use Rattle.argon.proofs.first_columns.update_hash_with_number.Goals as goal

pub returns : goal.returns
returns c = record { handed = rw c.write_u32.ensures at c.update.ensures.handed }
