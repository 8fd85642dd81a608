use Rattle.std.specs.Prelude.{codes}
use Rattle.clap.specs.Words.{new_app}
use Rattle.scrypt_words.specs.CommandLine.{IsCommandForApp}
use Rattle.scrypt_words.proofs.command_line.build_enc_command.Goals as goal

pub returns : goal.returns
returns c =
    let name : IsCommandForApp (new_app (codes "enc")) c.new.result = record { shape = c.new.ensures.app; local = c.new.ensures.local } in
    let log_n = c.add_long_option-command.ensures.command _ name in
    let r = c.add_short_option-command.ensures.command _ log_n in
    let p = c.add_short_option-command-2.ensures.command _ r in
    let salt = c.add_long_option-command-2.ensures.command _ p in
    record { command = c.add_enc_and_dec_arguments.ensures.command _ salt }
