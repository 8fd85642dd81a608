-- Powers of two, and products that fit 128 bits.
use Rattle.std.proofs.Common.{◌≡◌, ℕ, ◌+◌, ◌-◌, ◌*◌, ◌%◌, ◌^◌, ◌<◌, ◌≤◌, Bool, true, ◌||◌, nat_eq, arith, ap, sym, subst, ◌∙◌, refl, inl, inr}
use Rattle.std.proofs.Math.Nat.{mul-le-mul_left, mul-le-mul_right, mul-mod_left}
use Rattle.std.proofs.Math.Bool.{or-false}
use Rattle.std.proofs.Math.Pow.{pow-lt}
use Rattle.std.proofs.lemmas.Bool.{cases_lt, eqb-true}
use Rattle.std.proofs.lemmas.Bool.Decides.{eqb_tells}
use Rattle.std.proofs.lemmas.Nat.{pow-add}
use Rattle.romix.specs.SparseCosts.{is_valid_keep}

pub fits_work : (a n k : ℕ) → a < 2 ^ 31 → n < 2 ^ 64 → k ≤ 1024 → a * n * (1 + k) < 2 ^ 128
fits_work a n k ha hn hk =
    let few : a * n ≤ 2 ^ 31 * n = mul-le-mul_right n (let h : a ≤ 2 ^ 31 = omega arith in h) in
    let most : a * n * (1 + k) ≤ a * n * 1025 = mul-le-mul_left (a * n) (let h : 1 + k ≤ 1025 = omega arith in h) in
    omega (arith, few, most)

one_of : (P : ℕ → Type 0) → ((k : ℕ) → P (2 ^ k)) → (s k v : ℕ) (rest : Bool) → v ≡ 2 ^ k → (rest ≡ true → P s) → (rest || nat_eq s v) ≡ true → P s
one_of P f s k v rest e more h =
    elim (eqb_tells s v) [
      | inl y ↦ subst P (sym (y.1 ∙ e)) (f k)
      | inr n ↦ more (rw (n.0, or-false rest) at h)
    ]

-- what holds of the powers of two holds of S
each_keep : (P : ℕ → Type 0) → ((k : ℕ) → P (2 ^ k)) → (s : ℕ) → is_valid_keep s ≡ true → P s
each_keep P f s = one_of P f s 10 1024 _ refl
    (one_of P f s 9 512 _ refl
    (one_of P f s 8 256 _ refl
    (one_of P f s 7 128 _ refl
    (one_of P f s 6 64 _ refl
    (one_of P f s 5 32 _ refl
    (one_of P f s 4 16 _ refl
    (one_of P f s 3 8 _ refl
    (one_of P f s 2 4 _ refl
    (one_of P f s 1 2 _ refl
    (λ h. subst P (sym (eqb-true s 1 h)) (f 0)))))))))))

power_divides : (n k : ℕ) → 2 ^ k ≤ 2 ^ n → 2 ^ n % 2 ^ k ≡ 0
power_divides n k h =
    elim (cases_lt n k) [
      | inl low ↦ absurd (omega (arith, pow-lt low, h))
      | inr g ↦
          let e : n ≡ n - k + k = omega arith in
          rw (ap (λ (m : ℕ). 2 ^ m) e ∙ pow-add 2 (n - k) k) (mul-mod_left (2 ^ (n - k)) (2 ^ k))
    ]

-- S divides N
pub keep_divides : (n s : ℕ) → is_valid_keep s ≡ true → s ≤ 2 ^ n → 2 ^ n % s ≡ 0
keep_divides n s h = each_keep (λ s. s ≤ 2 ^ n → 2 ^ n % s ≡ 0) (power_divides n) s h
