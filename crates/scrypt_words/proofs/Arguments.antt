-- An argument or a subcommand more on a command whose shape is known.
use Rattle.std.proofs.Common.{◌≡◌, ◌∙◌, ap, false, ◌||◌, IfOk, Result, subst}
use Rattle.clap.specs.Words.{AddsArg, AddsSubcommand, App, Rule, rule_of, shape_of, with_rule, with_subcommand}
use Rattle.clap.specs.declared.builder.arg.Arg.{Arg}
use Rattle.clap.specs.declared.builder.command.Command.{Command}
use Rattle.clap.specs.declared.builder.command.Command.TheViews.{out-Command as fields_of}
use Rattle.scrypt_words.specs.CommandLine.{IsCommandForApp}

-- what clap says of an argument that is not global
pub argument_then : {old new : Command} {a : Arg} (app : App) → a.global ≡ false → IsCommandForApp app old → AddsArg old a new
    → IsCommandForApp (with_rule app (rule_of a)) new
argument_then {a = a} app local h e = record {
  shape = e.shape local ∙ ap (λ x. with_rule x (rule_of a)) h.shape;
  local = e.globals ∙ (ap (λ b. b || a.global) h.local ∙ local);
}

-- what adds an argument, told by the argument's rule
pub argument_ruled : {E : Type 0} {rule other : Rule} (r s : Result Command E) (app : App) → rule ≡ other
    → ((a : App) → IfOk r (IsCommandForApp a) → IfOk s (IsCommandForApp (with_rule a rule))) → IfOk r (IsCommandForApp app) → IfOk s (IsCommandForApp (with_rule app other))
argument_ruled r s app same adds h = subst (λ x. IfOk s (IsCommandForApp (with_rule app x))) same (adds app h)

pub subcommand_then : {old sub new : Command} (app added : App) → IsCommandForApp app old → IsCommandForApp added sub → AddsSubcommand old sub new
    → IsCommandForApp (with_subcommand app added.top) new
subcommand_then {sub = sub} app added h s e = record {
  shape = e.shape s.local ∙ (ap (λ a. with_subcommand a (shape_of sub)) h.shape ∙ ap (λ (a : App). with_subcommand app a.top) s.shape);
  local = e.globals ∙ (ap (λ b. b || (fields_of sub).has_globals) h.local ∙ s.local);
}
