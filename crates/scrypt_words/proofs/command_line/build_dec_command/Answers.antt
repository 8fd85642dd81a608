use Rattle.std.specs.Prelude.{codes}
use Rattle.clap.specs.Words.{new_app}
use Rattle.scrypt_words.specs.CommandLine.{IsCommandForApp}
use Rattle.scrypt_words.proofs.command_line.build_dec_command.Goals as goal

pub returns : goal.returns
returns c =
    let name : IsCommandForApp (new_app (codes "dec")) c.new.result = record { shape = c.new.ensures.app; local = c.new.ensures.local } in
    record { command = c.add_enc_and_dec_arguments.ensures.command _ name }
