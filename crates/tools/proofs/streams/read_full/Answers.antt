use Rattle.std.proofs.Common.{◌≡◌, ◌≤◌, ◌-◌, ◌∙◌, rules, length}
use Rattle.tools.proofs.Failing.{no_fewer-then}
use Rattle.tools.proofs.Parts.{beginning_at_put, is_read-more}
use Rattle.tools.proofs.streams.read_full.Goals as goal
use borrow.Rule.Slice.PartMut.{put_mid}

pub loop-at-preserved : goal.loop-at-preserved
loop-at-preserved g c =
    let fits : c.in_ok-n.n ≤ length c.read_some.new.buf = search rules in (
      search rules,
      λ t. is_read-more c.args.reading c.loop-at.at _ c.in_ok-n.n c.loop-at.buf c.read_some.new.buf _ _ _ c.loop-at.invariant.0 fits
          c.if-n-eq0.false (c.loop-at.invariant.1 t) (c.in_ok-n.ensures.reads t).bytes,
      λ t. (c.in_ok-n.ensures.reads t).same_files ∙ c.loop-at.invariant.2 t,
      λ t. no_fewer-then _ _ _ (c.loop-at.invariant.3 t) (c.in_ok-n.ensures.failures t).read.no_fewer,
    )

pub returns-then-n-eq0-clause-fills : goal.returns-then-n-eq0-clause-fills
returns-then-n-eq0-clause-fills g c =
    let same : length (put_mid c.loop-at.at (length c.loop-at.buf - c.loop-at.at) c.loop-at.buf c.read_some.new.buf) ≡ length c.loop-at.buf = search rules in
    λ t. let read = c.in_ok-n.ensures.reads t in record {
      whole = beginning_at_put c.args.reading c.loop-at.at _ c.loop-at.buf c.read_some.new.buf _ _ c.loop-at.invariant.0 (c.loop-at.invariant.1 t)
          (read.bytes.end c.if-n-eq0.true) same;
      left = search rules;
      taken = search rules;
      same_files = read.same_files ∙ c.loop-at.invariant.2 t;
    }
