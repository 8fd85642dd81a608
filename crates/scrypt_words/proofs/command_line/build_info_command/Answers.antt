use Rattle.std.specs.Prelude.{Ok, codes}
use Rattle.clap.specs.Words.{new_app}
use Rattle.scrypt_words.specs.CommandLine.{IsCommandForApp}
use Rattle.scrypt_words.proofs.Arguments.{argument_ruled}
use Rattle.scrypt_words.proofs.command_line.build_info_command.Goals as goal

pub returns : goal.returns
returns c =
    let name : IsCommandForApp (new_app (codes "info")) c.new.result = record { shape = c.new.ensures.app; local = c.new.ensures.local } in
    record { command = argument_ruled (Ok c.new.result) c.with_argument.result _ c.new-2.ensures.rule c.with_argument.ensures.command name }
