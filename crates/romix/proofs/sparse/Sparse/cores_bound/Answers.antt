use Rattle.std.proofs.Common.{◌*◌, ◌^◌, ◌<◌, ◌≤◌, arith}
use Rattle.romix.proofs.Keeps.{fits_work}
use Rattle.romix.proofs.sparse.Sparse.cores_bound.Goals as goal

pub overflow_mul-result-4 : goal.overflow_mul-result-4
overflow_mul-result-4 c =
    let product : c.from.result * c.from-2.result < 2 ^ 30 = rw (c.from.ensures, c.r.ensures.r, c.from-2.ensures, c.p.ensures.p) c.r.ensures.in_range.product in
    let wide : c.from-3.result < 2 ^ 64 = omega arith in
    let kept : c.from-4.result ≤ 1024 = omega (arith, c.from-4.ensures, c.self.invariant.high) in
    record { fits = fits_work (2 * c.from.result * c.from-2.result) c.from-3.result c.from-4.result (omega (arith, product)) wide kept }
