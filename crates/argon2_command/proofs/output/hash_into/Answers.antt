use Rattle.std.proofs.Common.{◌∙◌, ap, rules}
use Rattle.argon2_command.specs.Output.{tag_line}
use Rattle.argon2_words.specs.RequestView.{argon2_request_view}
use Rattle.argon2_command.proofs.output.hash_into.Goals as goal

pub returns-clause-line : goal.returns-clause-line
returns-clause-line c =
    c.replace_tag.ensures.line c.args.tag.now c.requires.line (search rules) ∙ ap (tag_line (argon2_request_view c.args.request.now)) (search rules)
