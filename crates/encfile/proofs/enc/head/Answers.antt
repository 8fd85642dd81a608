use Rattle.std.proofs.Common.{◌≡◌, ℕ, List, ◌++◌, drop, arith, refl, ap, ap₂, ◌∙◌}
use Rattle.macs.specs.HmacSha256.{hmac_sha256}
use Rattle.encfile.specs.Header.{header}
use Rattle.encfile.proofs.Pieces.{put_mid-append}
use Rattle.encfile.proofs.enc.head.Goals as goal

pub returns-clause-bytes : goal.returns-clause-bytes
returns-clause-bytes c =
    let front : c.header-front.result ≡ header c.args.costs.now c.args.salt.now = c.header-front.ensures.bytes in
    let code = c.header_hmac.ensures.code ∙ ap (hmac_sha256 (drop 32 c.args.keys.now)) front in
    put_mid-append c.copy_from_slice.new.self _ c.copy_from_slice-2.new.self 64 32 (omega (arith, c.copy_from_slice.auto.self)) refl
    ∙ ap₂ (λ (a b : List ℕ). a ++ b) (c.copy_from_slice.ensures.after ∙ front) (c.copy_from_slice-2.ensures.after ∙ code)
