use Rattle.std.specs.Prelude.{codes}
use Rattle.clap.specs.Words.{new_app}
use Rattle.scrypt_words.specs.CommandLine.{IsCommandForApp}
use Rattle.scrypt_words.proofs.command_line.build_command_with_subcommands.Goals as goal

pub returns : goal.returns
returns c =
    let name : IsCommandForApp (new_app (codes "scrypt")) c.new.result = record { shape = c.new.ensures.app; local = c.new.ensures.local } in
    let enc = c.add_subcommand-command.ensures.command _ _ name c.build_enc_command.ensures.command in
    let dec = c.add_subcommand-command-2.ensures.command _ _ enc c.build_dec_command.ensures.command in
    record { command = c.add_subcommand.ensures.command _ _ dec c.build_info_command.ensures.command }
