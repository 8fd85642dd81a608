use Rattle.std.proofs.Common.{rules, ◌≡◌, length}
use Rattle.aes_ctr.proofs.Keys.{sub_word_in_state}
use Rattle.aes_ctr.proofs.key_expansion.sub_word.Goals as goal

pub returns : goal.returns
returns c =
    let four : length c.args.word ≡ 4 = search rules in
    record { word = sub_word_in_state c.args.word four c.sub_bytes.result c.sub_bytes.ensures.state }
