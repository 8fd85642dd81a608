use Rattle.std.proofs.Common.{[], refl, arith, ◌∙◌}
use Rattle.argon.specs.Argon2.{first_hash}
use Rattle.argon.proofs.FirstColumns.{four_more, text_more}
use Rattle.argon.proofs.first_columns.first_hash.Goals as goal

pub update_hash_with_number-requires-2 : goal.update_hash_with_number-requires-2
update_hash_with_number-requires-2 c = record {
  fits = omega (arith, c.new-hash.ensures.hashed_message_len, four_more _ _ _ c.update_hash_with_number.ensures.handed refl);
}

pub update_hash_with_number-requires-3 : goal.update_hash_with_number-requires-3
update_hash_with_number-requires-3 c = record {
  fits = omega (arith, c.new-hash.ensures.hashed_message_len, four_more _ _ _ c.update_hash_with_number.ensures.handed refl, four_more _ _ _ c.update_hash_with_number-2.ensures.handed refl);
}

pub update_hash_with_number-requires-4 : goal.update_hash_with_number-requires-4
update_hash_with_number-requires-4 c = record {
  fits = omega (arith, c.new-hash.ensures.hashed_message_len, four_more _ _ _ c.update_hash_with_number.ensures.handed refl, four_more _ _ _ c.update_hash_with_number-2.ensures.handed refl, four_more _ _ _ c.update_hash_with_number-3.ensures.handed refl);
}

pub update_hash_with_number-requires-5 : goal.update_hash_with_number-requires-5
update_hash_with_number-requires-5 c = record {
  fits = omega (arith, c.new-hash.ensures.hashed_message_len, four_more _ _ _ c.update_hash_with_number.ensures.handed refl, four_more _ _ _ c.update_hash_with_number-2.ensures.handed refl, four_more _ _ _ c.update_hash_with_number-3.ensures.handed refl, four_more _ _ _ c.update_hash_with_number-4.ensures.handed refl);
}

pub update_hash_with_number-requires-6 : goal.update_hash_with_number-requires-6
update_hash_with_number-requires-6 c = record {
  fits = omega (arith, c.new-hash.ensures.hashed_message_len, four_more _ _ _ c.update_hash_with_number.ensures.handed refl, four_more _ _ _ c.update_hash_with_number-2.ensures.handed refl, four_more _ _ _ c.update_hash_with_number-3.ensures.handed refl, four_more _ _ _ c.update_hash_with_number-4.ensures.handed refl, four_more _ _ _ c.update_hash_with_number-5.ensures.handed refl);
}

pub update_hash_with_length-requires-clause-fits : goal.update_hash_with_length-requires-clause-fits
update_hash_with_length-requires-clause-fits c =
    omega (
      arith,
      c.requires.inputs.password,
      c.requires.in_range.password_len_end,
      c.new-hash.ensures.hashed_message_len,
      four_more _ _ _ c.update_hash_with_number.ensures.handed refl,
      four_more _ _ _ c.update_hash_with_number-2.ensures.handed refl,
      four_more _ _ _ c.update_hash_with_number-3.ensures.handed refl,
      four_more _ _ _ c.update_hash_with_number-4.ensures.handed refl,
      four_more _ _ _ c.update_hash_with_number-5.ensures.handed refl,
      four_more _ _ _ c.update_hash_with_number-6.ensures.handed refl,
    )

pub update_hash_with_length-requires-clause-short : goal.update_hash_with_length-requires-clause-short
update_hash_with_length-requires-clause-short c = omega (arith, c.requires.inputs.password, c.requires.in_range.password_len_end)

pub update_hash_with_length-requires-2-clause-short : goal.update_hash_with_length-requires-2-clause-short
update_hash_with_length-requires-2-clause-short c = omega (arith, c.requires.inputs.salt, c.requires.in_range.salt_len_end)

pub update_hash_with_length-requires-2-clause-fits : goal.update_hash_with_length-requires-2-clause-fits
update_hash_with_length-requires-2-clause-fits c =
    omega (
      arith,
      c.requires.inputs.password,
      c.requires.inputs.salt,
      c.requires.in_range.password_len_end,
      c.requires.in_range.salt_len_end,
      c.new-hash.ensures.hashed_message_len,
      four_more _ _ _ c.update_hash_with_number.ensures.handed refl,
      four_more _ _ _ c.update_hash_with_number-2.ensures.handed refl,
      four_more _ _ _ c.update_hash_with_number-3.ensures.handed refl,
      four_more _ _ _ c.update_hash_with_number-4.ensures.handed refl,
      four_more _ _ _ c.update_hash_with_number-5.ensures.handed refl,
      four_more _ _ _ c.update_hash_with_number-6.ensures.handed refl,
      text_more c.args.inputs.now.password.now _ _ c.update_hash_with_length.ensures.handed,
    )

pub update_hash_with_length-requires-3-clause-fits : goal.update_hash_with_length-requires-3-clause-fits
update_hash_with_length-requires-3-clause-fits c =
    omega (
      arith,
      c.requires.inputs.password,
      c.requires.inputs.salt,
      c.requires.inputs.secret,
      c.requires.in_range.password_len_end,
      c.requires.in_range.salt_len_end,
      c.new-hash.ensures.hashed_message_len,
      four_more _ _ _ c.update_hash_with_number.ensures.handed refl,
      four_more _ _ _ c.update_hash_with_number-2.ensures.handed refl,
      four_more _ _ _ c.update_hash_with_number-3.ensures.handed refl,
      four_more _ _ _ c.update_hash_with_number-4.ensures.handed refl,
      four_more _ _ _ c.update_hash_with_number-5.ensures.handed refl,
      four_more _ _ _ c.update_hash_with_number-6.ensures.handed refl,
      text_more c.args.inputs.now.password.now _ _ c.update_hash_with_length.ensures.handed,
      text_more c.args.inputs.now.salt.now _ _ c.update_hash_with_length-2.ensures.handed,
    )

pub update_hash_with_length-requires-4-clause-fits : goal.update_hash_with_length-requires-4-clause-fits
update_hash_with_length-requires-4-clause-fits c =
    omega (
      arith,
      c.requires.inputs.password,
      c.requires.inputs.salt,
      c.requires.inputs.secret,
      c.requires.inputs.associated,
      c.requires.in_range.password_len_end,
      c.requires.in_range.salt_len_end,
      c.new-hash.ensures.hashed_message_len,
      four_more _ _ _ c.update_hash_with_number.ensures.handed refl,
      four_more _ _ _ c.update_hash_with_number-2.ensures.handed refl,
      four_more _ _ _ c.update_hash_with_number-3.ensures.handed refl,
      four_more _ _ _ c.update_hash_with_number-4.ensures.handed refl,
      four_more _ _ _ c.update_hash_with_number-5.ensures.handed refl,
      four_more _ _ _ c.update_hash_with_number-6.ensures.handed refl,
      text_more c.args.inputs.now.password.now _ _ c.update_hash_with_length.ensures.handed,
      text_more c.args.inputs.now.salt.now _ _ c.update_hash_with_length-2.ensures.handed,
      text_more c.args.inputs.now.secret.now _ _ c.update_hash_with_length-3.ensures.handed,
    )

pub returns : goal.returns
unfolding first_hash
returns c = record {
  value = c.finish.ensures.hash 64 _ (c.update_hash_with_length-4.ensures.handed.message 64 _ (c.update_hash_with_length-3.ensures.handed.message 64 _ (c.update_hash_with_length-2.ensures.handed.message 64 _
      (c.update_hash_with_length.ensures.handed.message 64 _ (c.update_hash_with_number-6.ensures.handed.message 64 _ (c.update_hash_with_number-5.ensures.handed.message 64 _ (c.update_hash_with_number-4.ensures.handed.message 64 _
      (c.update_hash_with_number-3.ensures.handed.message 64 _ (c.update_hash_with_number-2.ensures.handed.message 64 _ (c.update_hash_with_number.ensures.handed.message 64 [] c.new-hash.ensures.holds))))))))))
      ∙ rw (c.number.ensures.value, c.kind.ensures.value, c.version.ensures.value, c.passes.ensures.value, c.memory_kib.ensures.value, c.tag_len.ensures.value, c.lanes.ensures.value) refl;
}
