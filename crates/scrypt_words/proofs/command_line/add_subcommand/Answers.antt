use Rattle.std.proofs.lemmas.Result.{IfOk-at_ok, IfOk-weaker}
use Rattle.scrypt_words.specs.CommandLine.{IsCommandForApp}
use Rattle.scrypt_words.proofs.Arguments.{subcommand_then}
use Rattle.scrypt_words.proofs.command_line.add_subcommand.Goals as goal

pub returns-in-Ok-subcommand : goal.returns-in-Ok-subcommand
returns-in-Ok-subcommand c = record {
  command = λ app added old sub. IfOk-weaker c.subcommand.result _ _ (λ r e. subcommand_then app added
      (IfOk-at_ok (IsCommandForApp app) c.in-Ok.is old)
      (IfOk-at_ok (IsCommandForApp added) c.in-Ok-subcommand.is sub) e) c.subcommand.ensures;
}
