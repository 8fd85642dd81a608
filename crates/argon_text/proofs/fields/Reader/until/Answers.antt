use Rattle.std.proofs.Common.{◌≡◌, ◌∙◌, ◌+◌, ◌-◌, ◌==◌, ℕ, List, Some, length, take, drop, ap, sym}
use Rattle.std.specs.Option.{option_map}
use Rattle.std.specs.List.{position}
use Rattle.argon_text.specs.Reading.{cut}
use Rattle.argon_text.proofs.Cutting.{after_first}
use Rattle.argon_text.proofs.fields.Reader.until.Goals as goal

pub returns : goal.returns
returns c =
    let s : List ℕ = c.self.inside.left.now in
    let own : s ≡ c.args.self.now = c.self.view_is in
    let place : ℕ = c.in_ok-place.place in
    let found : position (λ x. x == c.args.mark) s ≡ Some place = sym c.in_ok-place.ensures.place in
    let before : take place s ≡ c.split_at.result.0.now = sym c.split_at.ensures.front in
    let from : drop place s ≡ c.split_at.result.1.now = sym c.split_at.ensures.back in
    let behind : drop (place + 1) s ≡ take (length c.split_at.result.1.now - 1) (drop 1 c.split_at.result.1.now) =
    after_first s c.split_at.result.1.now place from in
    record {
      found = ap (cut c.args.mark) (sym own) ∙ ap (option_map (λ (i : ℕ). (take i s, drop (i + 1) s))) found
          ∙ ap (λ (b : List ℕ). Some (b, drop (place + 1) s)) before ∙ ap (λ (r : List ℕ). Some (c.split_at.result.0.now, r)) behind;
    }
