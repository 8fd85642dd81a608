use Rattle.std.proofs.Common.{arith, rules, ◌≡◌, ◌<◌}
use Rattle.std.proofs.lemmas.Bool.Decides.{nat_tests}
use Rattle.scrypt_request.specs.Request.{name_view}
use Rattle.scrypt_run.proofs.Fronts.{front_is, front_refused, short_input}
use Rattle.scrypt_run.proofs.front.read_front.Goals as goal

pub returns-in-Ok-pull_full-clause-reads : goal.returns-in-Ok-pull_full-clause-reads
returns-in-Ok-pull_full-clause-reads g c = λ t.
    let told = c.in-Ok-pull_full.ensures in
    let few : c.in-Ok-pull_full.field-0 < 96 = grind (arith, nat_tests, told.bound, c.in-Ok-pull_full.field-0-test, c.in-Ok-pull_full.field-0-is) in
    short_input (name_view c.args.infile) c.in-Ok-pull_full.field-0 (g.H.Host.seen c.args.host.now) (g.H.Host.seen c.open_input.new.self)
    (g.H.Host.seen c.pull_full.new.host) (c.in-Ok.ensures.opened t) few ((told.fills t).whole few) (told.fills t).taken

pub returns-in-Ok-of_front-clause-front : goal.returns-in-Ok-of_front-clause-front
returns-in-Ok-of_front-clause-front g c = λ t.
    let pulled = c.in-Ok-eq96 in
    let whole : pulled.field-0 ≡ 96 = grind (arith, nat_tests, pulled.field-0-test, pulled.field-0-is) in
    front_is pulled.field-0 c.pull_full.new.buf (name_view c.args.infile) (g.H.Host.seen c.args.host.now) (g.H.Host.seen c.open_input.new.self) c.in-Ok-of_front.header whole (search rules)
    (c.in-Ok.ensures.opened t) (pulled.ensures.fills t).within (pulled.ensures.fills t).bytes c.in-Ok-of_front.ensures.reads.valid c.in-Ok-of_front.ensures.reads.costs c.in-Ok-of_front.ensures.reads.salt

pub returns-in-Err-of_front-clause-reads : goal.returns-in-Err-of_front-clause-reads
returns-in-Err-of_front-clause-reads g c = λ t.
    let pulled = c.in-Ok-eq96 in
    let whole : pulled.field-0 ≡ 96 = grind (arith, nat_tests, pulled.field-0-test, pulled.field-0-is) in
    front_refused pulled.field-0 c.pull_full.new.buf (name_view c.args.infile) (g.H.Host.seen c.args.host.now) (g.H.Host.seen c.open_input.new.self) (g.H.Host.seen c.pull_full.new.host)
    c.in-Err-of_front.fault c.header_refusal.result whole (search rules) (c.in-Ok.ensures.opened t) (pulled.ensures.fills t).within (pulled.ensures.fills t).bytes (pulled.ensures.fills t).taken
    c.in-Err-of_front.ensures.reads.fault c.header_refusal.ensures.refusal
