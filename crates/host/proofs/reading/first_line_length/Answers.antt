use Rattle.std.proofs.Common.{◌≡◌, ◌≤◌, ◌∙◌, length, take, unwrap_or, ap, sym, subst, rules, tests}
use Rattle.std.specs.List.{position, position_or_len}
use Rattle.std.proofs.lemmas.Iterator.{YieldsList-from_slice}
use Rattle.std.proofs.lemmas.Iterator.Search.{position_from_yields_List}
use Rattle.host.specs.FirstLine.{is_line_end}
use Rattle.host.proofs.FirstLines.{first_line-position, position-or_length, position-within}
use Rattle.host.proofs.reading.first_line_length.Goals as goal

pub returns : goal.returns
returns c =
    let bytes = c.args.bytes.now in
    let found : c.position.result ≡ position is_line_end bytes =
    position_from_yields_List is_line_end _ _ c.position.result c.position.ensures.ran (YieldsList-from_slice _ c.iter.ensures.rest) (λ x b q k. search (rules, tests)) in
    let place : c.unwrap_or.result ≡ position_or_len is_line_end bytes = c.unwrap_or.ensures ∙ ap (λ p. unwrap_or p (length bytes)) found ∙ position-or_length bytes in record {
      within = subst (λ n. n ≤ length bytes) (sym place) (position-within bytes);
      line = ap (λ n. take n bytes) place ∙ first_line-position bytes;
    }
