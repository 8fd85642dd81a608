use Rattle.scrypt_words.proofs.Arguments.{argument_ruled}
use Rattle.scrypt_words.proofs.command_line.add_enc_and_dec_arguments.Goals as goal

pub returns : goal.returns
returns c = record {
  command = λ app old.
      let memory = c.add_short_option-command.ensures.command _ old in
      let max_ops = c.add_long_option-command.ensures.command _ memory in
      let keep = c.add_long_option-command-2.ensures.command _ max_ops in
      let stdin = c.add_stdin_flag-command.ensures.command _ keep in
      let passphrase = c.add_long_option-command-3.ensures.command _ stdin in
      let infile = argument_ruled c.add_long_option-command-3.result c.with_argument-command.result _ c.new.ensures.rule c.with_argument-command.ensures.command passphrase in
      argument_ruled c.with_argument-command.result c.with_argument.result _ c.new-2.ensures.rule c.with_argument.ensures.command infile;
}
