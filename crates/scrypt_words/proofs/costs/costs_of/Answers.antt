use Rattle.std.proofs.Common.{rules, ◌≤◌, ◌^◌, ◌≡◌, ℕ, zero, suc, ◌*◌, ◌<◌, Bool, true, false, ◌||◌, ◌&&◌, not, [], ◌∷◌, is_some, refl, arith}
use Rattle.std.proofs.lemmas.Grind.{common_steps}
use Rattle.std.specs.Prelude.{nat_eq, nat_le}
use Rattle.romix.specs.Faults.{cost_fault}
use Rattle.romix.specs.FirstOf.{first_of}
use Rattle.romix.specs.declared.fault.CostFault.TheVariants.{LogN, Zero, Product}
use Rattle.scrypt_words.proofs.costs.costs_of.Goals as goal

-- a product is at least each factor, where the other is not 0
product_at_least : (r p : ℕ) → 0 < p → r ≤ r * p
product_at_least r p filled = grind arith

product_at_least_right : (r p : ℕ) → 0 < r → p ≤ r * p
product_at_least_right r p filled = grind arith

-- where the second or the third test holds, one of three does
one_holds : {A : Type 0} (a b c : Bool) (x y z : A) → b || c ≡ true → is_some (first_of ((a, x) ∷ (b, y) ∷ (c, z) ∷ [])) ≡ true
one_holds true b c x y z h = refl
one_holds false true c x y z h = refl
one_holds false false true x y z h = refl
one_holds false false false x y z h = h

-- a factor is 0, or the product is wide
zero_or_wide : (r p : ℕ) → (0 < r → 0 < p → 2 ^ 30 ≤ r * p) → (nat_eq r 0 || nat_eq p 0) || nat_le (2 ^ 30) (r * p) ≡ true
zero_or_wide zero p wide = grind (arith, common_steps)
zero_or_wide (suc r) zero wide = grind (arith, common_steps)
zero_or_wide (suc r) (suc p) wide =
    let product : 2 ^ 30 ≤ suc r * suc p = wide (omega arith) (omega arith) in
    grind (arith, common_steps)

wide_r : (log_n r p : ℕ) → 2 ^ 32 ≤ r → is_some (cost_fault log_n r p) ≡ true
wide_r log_n r p wide =
    one_holds (not (nat_le 1 log_n && nat_le log_n 63)) (nat_eq r 0 || nat_eq p 0) (nat_le (2 ^ 30) (r * p)) LogN Zero Product (zero_or_wide r p (λ some_r some_p. let more = product_at_least r p some_p in omega arith))

wide_p : (log_n r p : ℕ) → 2 ^ 32 ≤ p → is_some (cost_fault log_n r p) ≡ true
wide_p log_n r p wide =
    one_holds (not (nat_le 1 log_n && nat_le log_n 63)) (nat_eq r 0 || nat_eq p 0) (nat_le (2 ^ 30) (r * p)) LogN Zero Product (zero_or_wide r p (λ some_r some_p. let more = product_at_least_right r p some_r in omega arith))

pub returns-in_err-r : goal.returns-in_err-r
returns-in_err-r c =
    let wide : 2 ^ 32 ≤ c.args.numbers.r = search rules in
    let refused = wide_r c.args.numbers.log_n c.args.numbers.r c.args.numbers.p wide in
    search (rules, refused)

pub returns-in_err-p : goal.returns-in_err-p
returns-in_err-p c =
    let wide : 2 ^ 32 ≤ c.args.numbers.p = search rules in
    let refused = wide_p c.args.numbers.log_n c.args.numbers.r c.args.numbers.p wide in
    search (rules, refused)
