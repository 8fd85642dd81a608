-- The S-box (FIPS 197, 5.1.1) as a circuit: Boyar and Peralta's of 115 gates ("A new combinational logic minimization
-- technique with applications to cryptology", IACR ePrint 2009/191), with that paper's numbers of wires. Where it has
-- the complement of an exclusive or, `one` is added. A wire may carry a bit, or a plane of bits. Only private
-- functions cite this.
use Rattle.std.specs.Prelude.{ℕ, List, [], ◌∷◌}

-- the sums of input wires that the rest of the circuit takes: input wire 7, the last, and wires y1 to y21
unfoldable pub s_box_input_sums : {A : Type 0} → (A → A → A) → (ℕ → A) → List A
s_box_input_sums {A} xor input =
    let t0 : A = xor (input 1) (input 2) in
    let y14 : A = xor (input 3) (input 5) in
    let y13 : A = xor (input 0) (input 6) in
    let y9 : A = xor (input 0) (input 3) in
    let y8 : A = xor (input 0) (input 5) in
    let y1 : A = xor t0 (input 7) in
    let y4 : A = xor y1 (input 3) in
    let y12 : A = xor y13 y14 in
    let y2 : A = xor y1 (input 0) in
    let y5 : A = xor y1 (input 6) in
    let y3 : A = xor y5 y8 in
    let t1 : A = xor (input 4) y12 in
    let y15 : A = xor t1 (input 5) in
    let y20 : A = xor t1 (input 1) in
    let y6 : A = xor y15 (input 7) in
    let y10 : A = xor y15 t0 in
    let y11 : A = xor y20 y9 in
    let y7 : A = xor (input 7) y11 in
    let y17 : A = xor y10 y11 in
    let y19 : A = xor y10 y8 in
    let y16 : A = xor t0 y11 in
    let y21 : A = xor y13 y16 in
    let y18 : A = xor (input 0) y16 in
    (input 7) ∷ y1 ∷ y2 ∷ y3 ∷ y4 ∷ y5 ∷ y6 ∷ y7 ∷ y8 ∷ y9 ∷ y10 ∷ y11 ∷ y12 ∷ y13 ∷ y14 ∷ y15 ∷ y16 ∷ y17 ∷
    y18 ∷ y19 ∷ y20 ∷ y21 ∷ []

-- wires t21 to t24, which carry an element of a field of sixteen
unfoldable pub norm : {A : Type 0} → (A → A → A) → (A → A → A) → (ℕ → A) → List A
norm {A} xor and sum =
    let t2 : A = and (sum 12) (sum 15) in
    let t3 : A = and (sum 3) (sum 6) in
    let t4 : A = xor t3 t2 in
    let t5 : A = and (sum 4) (sum 0) in
    let t6 : A = xor t5 t2 in
    let t7 : A = and (sum 13) (sum 16) in
    let t8 : A = and (sum 5) (sum 1) in
    let t9 : A = xor t8 t7 in
    let t10 : A = and (sum 2) (sum 7) in
    let t11 : A = xor t10 t7 in
    let t12 : A = and (sum 9) (sum 11) in
    let t13 : A = and (sum 14) (sum 17) in
    let t14 : A = xor t13 t12 in
    let t15 : A = and (sum 8) (sum 10) in
    let t16 : A = xor t15 t12 in
    let t17 : A = xor t4 t14 in
    let t18 : A = xor t6 t16 in
    let t19 : A = xor t9 t14 in
    let t20 : A = xor t11 t16 in
    let t21 : A = xor t17 (sum 20) in
    let t22 : A = xor t18 (sum 19) in
    let t23 : A = xor t19 (sum 21) in
    let t24 : A = xor t20 (sum 18) in
    t21 ∷ t22 ∷ t23 ∷ t24 ∷ []

-- wires t29, t33, t37 and t40, which carry the inverse of that element
unfoldable pub inverse_of_norm : {A : Type 0} → (A → A → A) → (A → A → A) → (ℕ → A) → List A
inverse_of_norm {A} xor and of =
    let t25 : A = xor (of 0) (of 1) in
    let t26 : A = and (of 0) (of 2) in
    let t27 : A = xor (of 3) t26 in
    let t28 : A = and t25 t27 in
    let t29 : A = xor t28 (of 1) in
    let t30 : A = xor (of 2) (of 3) in
    let t31 : A = xor (of 1) t26 in
    let t32 : A = and t31 t30 in
    let t33 : A = xor t32 (of 3) in
    let t34 : A = xor (of 2) t33 in
    let t35 : A = xor t27 t33 in
    let t36 : A = and (of 3) t35 in
    let t37 : A = xor t36 t34 in
    let t38 : A = xor t27 t36 in
    let t39 : A = and t29 t38 in
    let t40 : A = xor t25 t39 in
    t29 ∷ t33 ∷ t37 ∷ t40 ∷ []

-- wires z0 to z17, the products of that inverse and the sums
unfoldable pub products : {A : Type 0} → (A → A → A) → (A → A → A) → (ℕ → A) → (ℕ → A) → List A
products {A} xor and sum inverse =
    let t41 : A = xor (inverse 3) (inverse 2) in
    let t42 : A = xor (inverse 0) (inverse 1) in
    let t43 : A = xor (inverse 0) (inverse 3) in
    let t44 : A = xor (inverse 1) (inverse 2) in
    let t45 : A = xor t42 t41 in
    let z0 : A = and t44 (sum 15) in
    let z1 : A = and (inverse 2) (sum 6) in
    let z2 : A = and (inverse 1) (sum 0) in
    let z3 : A = and t43 (sum 16) in
    let z4 : A = and (inverse 3) (sum 1) in
    let z5 : A = and (inverse 0) (sum 7) in
    let z6 : A = and t42 (sum 11) in
    let z7 : A = and t45 (sum 17) in
    let z8 : A = and t41 (sum 10) in
    let z9 : A = and t44 (sum 12) in
    let z10 : A = and (inverse 2) (sum 3) in
    let z11 : A = and (inverse 1) (sum 4) in
    let z12 : A = and t43 (sum 13) in
    let z13 : A = and (inverse 3) (sum 5) in
    let z14 : A = and (inverse 0) (sum 2) in
    let z15 : A = and t42 (sum 9) in
    let z16 : A = and t45 (sum 14) in
    let z17 : A = and t41 (sum 8) in
    z0 ∷ z1 ∷ z2 ∷ z3 ∷ z4 ∷ z5 ∷ z6 ∷ z7 ∷ z8 ∷ z9 ∷ z10 ∷ z11 ∷ z12 ∷ z13 ∷ z14 ∷ z15 ∷ z16 ∷ z17 ∷ []

-- the output wires from the last to the first, with `one` for the bits of 0x63
unfoldable pub output_wires : {A : Type 0} → (A → A → A) → A → (ℕ → A) → List A
output_wires {A} xor one product =
    let t46 : A = xor (product 15) (product 16) in
    let t47 : A = xor (product 10) (product 11) in
    let t48 : A = xor (product 5) (product 13) in
    let t49 : A = xor (product 9) (product 10) in
    let t50 : A = xor (product 2) (product 12) in
    let t51 : A = xor (product 2) (product 5) in
    let t52 : A = xor (product 7) (product 8) in
    let t53 : A = xor (product 0) (product 3) in
    let t54 : A = xor (product 6) (product 7) in
    let t55 : A = xor (product 16) (product 17) in
    let t56 : A = xor (product 12) t48 in
    let t57 : A = xor t50 t53 in
    let t58 : A = xor (product 4) t46 in
    let t59 : A = xor (product 3) t54 in
    let t60 : A = xor t46 t57 in
    let t61 : A = xor (product 14) t57 in
    let t62 : A = xor t52 t58 in
    let t63 : A = xor t49 t58 in
    let t64 : A = xor (product 4) t59 in
    let t65 : A = xor t61 t62 in
    let t66 : A = xor (product 1) t63 in
    let s0 : A = xor t59 t63 in
    let s6 : A = xor t56 t62 in
    let s7 : A = xor t48 t60 in
    let t67 : A = xor t64 t65 in
    let s3 : A = xor t53 t66 in
    let s4 : A = xor t51 t66 in
    let s5 : A = xor t47 t65 in
    let s1 : A = xor t64 s3 in
    let s2 : A = xor t55 t67 in
    xor s7 one ∷ xor s6 one ∷ s5 ∷ s4 ∷ s3 ∷ xor s2 one ∷ xor s1 one ∷ s0 ∷ []
