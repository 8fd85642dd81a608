use Rattle.std.proofs.Common.{rules, ◌≡◌, Bool, ap, arith}
use Rattle.argon.specs.Counts.{address_work, address_blocks_made_at}
use Rattle.argon.specs.Reference.{is_independent}
use Rattle.argon.proofs.Progress.{addresses_more}
use Rattle.argon.proofs.Woven.{column_more}
use Rattle.argon.proofs.segment.fill_segment.Goals as goal

pub loop-index-preserved : goal.loop-index-preserved
loop-index-preserved c =
    let at = c.args.segment.now in
    let d = c.args.params.now in
    let i = c.loop-index.index in
    let work : address_work (is_independent d at.pass at.slice) (address_blocks_made_at i) ≡ address_work at.is_independent (address_blocks_made_at i) =
    ap (λ (b : Bool). address_work b (address_blocks_made_at i)) c.requires.is_of.independent in (
      search rules,
      omega (arith, addresses_more at.is_independent i, work, c.fill_next_block.ensures.count),
      c.fill_next_block.ensures.addresses,
      λ matrix left next are whole start.
          column_more matrix d at left c.loop-index.blocks c.fill_next_block.new.blocks i next c.requires.is_of c.requires.valid are (omega arith) (omega arith)
          (c.loop-index.invariant.3 matrix left next are whole start) c.fill_next_block.ensures.value,
    )
