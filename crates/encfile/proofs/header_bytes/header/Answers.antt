use Rattle.std.proofs.Common.{List, ℕ, ◌++◌, arith, refl, ap, ap₂, ◌∙◌}
use Rattle.encfile.specs.Header.{checksum, header}
use Rattle.encfile.proofs.Pieces.{put_mid-append}
use Rattle.encfile.proofs.header_bytes.header.Goals as goal

pub returns-clause-bytes : goal.returns-clause-bytes
unfolding header
returns-clause-bytes c =
    let front = c.copy_from_slice.ensures.after ∙ c.first_48_header_bytes-front.ensures.bytes in
    let sum = c.copy_from_slice-2.ensures.after ∙ c.checksum.ensures.checksum ∙ ap checksum c.first_48_header_bytes-front.ensures.bytes in
    put_mid-append c.copy_from_slice.new.self _ c.copy_from_slice-2.new.self 48 16 (omega (arith, c.copy_from_slice.auto.self)) refl
    ∙ ap₂ (λ (a b : List ℕ). a ++ b) front sum
