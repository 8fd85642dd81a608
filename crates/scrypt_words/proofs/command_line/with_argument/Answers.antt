use Rattle.std.proofs.lemmas.Result.{IfOk-at_ok, IfOk-weaker}
use Rattle.scrypt_words.specs.CommandLine.{IsCommandForApp}
use Rattle.scrypt_words.proofs.Arguments.{argument_then}
use Rattle.scrypt_words.proofs.command_line.with_argument.Goals as goal

pub returns-in-Ok : goal.returns-in-Ok
returns-in-Ok c = record {
  command = λ app old. IfOk-weaker c.arg.result _ _
      (λ r e. argument_then app c.requires.local (IfOk-at_ok (IsCommandForApp app) c.in-Ok.is old) e) c.arg.ensures;
}
