use Rattle.std.proofs.Common.{◌≡◌, ◌∙◌, ◌∷◌, Ok, ap, map, string_bytes, rules}
use Rattle.command_words.specs.Answer.{◌>>=◌}
use Rattle.argon2_verify.specs.Request.{request_after, with_option}
use Rattle.argon2_verify.proofs.request.read_request.Goals as goal

pub loop-first-preserved : goal.loop-first-preserved
loop-first-preserved c =
    let limits = c.loop-first.limits in
    let first = c.in-Some.first.now in
    let second = c.in-Some-split_first.second.now in
    let more = c.in-Some-split_first.more.now in
    let rest : c.loop-first.rest.now ≡ first ∷ (second ∷ more) = search rules in
    let option : with_option limits (string_bytes first) (string_bytes second) ≡ Ok c.in_ok-limits.limits = search rules in record {
      set = c.loop-first.invariant.set ∙ ap (λ words. request_after limits (map string_bytes words)) rest
          ∙ ap (λ next. next >>= (λ l. request_after l (map string_bytes more))) option;
    }
