use Rattle.std.proofs.Common.{◌≡◌, ◌∙◌, ap, sym, refl, inr, take, length, rules, arith}
use Rattle.std.proofs.lemmas.Grind.{common_steps}
use Rattle.host.specs.Secret.{secret_of_source}
use Rattle.host.specs.FirstLine.{first_line}
use Rattle.scrypt_run.proofs.Ends.{before_map}
use Rattle.host.proofs.FirstLines.{line_came, long_line_came}
use Rattle.scrypt_run.proofs.passphrase.read_passphrase.Goals as goal

pub returns-then-len-gt2048-clause-refused : goal.returns-then-len-gt2048-clause-refused
returns-then-len-gt2048-clause-refused g c = λ t.
    let came = take c.in_ok-n.n c.secret.new.buf in
    let all : length (first_line came) ≡ 2049 =
    ap length (sym c.first_line_length-len.ensures.line) ∙ grind (arith, common_steps, c.if-len-gt2048.true, c.first_line_length-len.ensures.within, (before_map _ _ c.secret.result c.map_err.result c.in_ok-n.n c.map_err.ensures.cases c.in_ok-n.was c.secret.ensures.bound)) in
    let long = long_line_came (secret_of_source c.args.source (g.H.Host.seen c.args.host.now)) c.in_ok-n.n 2049 c.secret.new.buf (search rules) ((before_map _ _ c.secret.result c.map_err.result c.in_ok-n.n c.map_err.ensures.cases c.in_ok-n.was (c.secret.ensures.bytes t))) all in
    inr (refl, long.0, long.1, long.2)

pub returns-clause-read : goal.returns-clause-read
returns-clause-read g c = λ t. record {
  is = line_came (secret_of_source c.args.source (g.H.Host.seen c.args.host.now)) c.in_ok-n.n c.first_line_length-len.result 2049 c.secret.new.buf (search rules) ((before_map _ _ c.secret.result c.map_err.result c.in_ok-n.n c.map_err.ensures.cases c.in_ok-n.was (c.secret.ensures.bytes t)))
      (grind (arith, common_steps, c.first_line_length-len.ensures.within)) (grind (arith, c.if-len-gt2048.false)) c.first_line_length-len.ensures.line;
  fits = grind (arith, common_steps, c.if-len-gt2048.false);
}
