use Rattle.std.proofs.Common.{rules, subst, sym}
use Rattle.host.specs.Secret.{source_of}
use Rattle.scrypt_run.specs.Inside.Decrypting.{HasReadFrontAlone}
use Rattle.scrypt_run.specs.Passphrase.{HasPassphrase, first_line_of_source}
use Rattle.scrypt_run.proofs.Decrypting.{bytes_read_so_far-first}
use Rattle.scrypt_run.proofs.Ends.{after_map, always_err, always_ok, if_ok}
use Rattle.scrypt_run.proofs.Working.{derives_with}
use Rattle.scrypt_run.proofs.decrypt.open.Goals as goal

pub returns-clause-begun : goal.returns-clause-begun
returns-clause-begun g c =
    let passphrase = c.as_slice.result.now in
    let bytes = c.args.front.bytes in
    after_map HasReadFrontAlone _ c.open-opened.result c.map_err.result c.map_err.ensures.cases (if_ok c.open-opened.result (λ dec read. record {
      none = bytes_read_so_far-first dec passphrase bytes read (search rules);
      read = (passphrase, bytes, read);
    }) c.open-opened.ensures.opened)

pub returns-clause-work : goal.returns-clause-work
returns-clause-work g c =
    let line = first_line_of_source (source_of c.args.source) (g.H.Host.seen c.args.host.now) in
    let derives =
    derives_with g.H.Host.tells line c.as_slice.result.now c.args.front.header.salt c.in-Ok.workspace.sparse c.args.admitted.now.sparse c.args.front.header.costs c.args.ticks.now c.open-opened.new.ticks
    c.in-Ok.ensures.same c.requires.costs (λ t. subst (λ p. HasPassphrase line p) (sym c.as_slice.ensures.bytes) (c.in_ok-passphrase.ensures.read t))
    c.open-opened.ensures.derives.count c.open-opened.ensures.derives.bound c.open-opened.ensures.derives.whole in
    record {
      done = always_ok c.map_err.result derives;
      worked = always_err c.map_err.result (λ r late. derives);
      unworked = search rules;
    }
