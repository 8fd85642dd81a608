-- The fields of a text are the only ones: taking a text apart undoes its writing, and is undone by it.
use Rattle.std.proofs.Common.{◌≡◌, ◌≢◌, ◌∙◌, ◌==◌, ◌<◌, ℕ, Bool, true, false, not, List, [], ◌∷◌, ◌++◌, Option, Some, None, refl, sym, ap, cond, codes, arith, subst, append_assoc, ◌⊎◌, inl, inr, take, IfSome}
use Rattle.std.proofs.lemmas.Option.{cond_some, same_Some}
use Rattle.std.proofs.lemmas.Slice.Eq.{bytes_eq-Decides}
use Rattle.std.proofs.lemmas.Grind.{common_steps}
use Rattle.std.specs.List.{list_all}
use Rattle.std.specs.Option.{option_map}
use Rattle.std.specs.Char.{is_ascii_digit}
use Rattle.std.specs.Str.{bytes_eq}
use Rattle.argon.specs.declared.kind.Kind.{Kind}
use Rattle.argon.specs.declared.kind.Kind.TheVariants.{D, I, Id}
use Rattle.argon_text.specs.EncodedText.{kind_name, text_of_fields}
use Rattle.argon_text.specs.Grammar.{AreNumbers, Fields, is_number, fields_text, version_part}
use Rattle.argon_text.specs.Reading.{◌>>=◌, after, cut, fields_at, kind_at, kind_named, number_at, version_at}
use Rattle.argon_text.proofs.Cutting.{IsFree, free_by, not_mark, after_gives, after_at, cut_gives, cut_at}

bind_some : {A B : Type 0} (found : Option A) (f : A → Option B) (y : B) → (found >>= f) ≡ Some y → (x : A) × (found ≡ Some x) × (f x ≡ Some y)
bind_some None f y e = absurd (cc)
bind_some (Some x) f y e = (x, refl, e)

bind_then : {A B : Type 0} (found : Option A) (f : A → Option B) (x : A) (y : Option B) → found ≡ Some x → f x ≡ y → (found >>= f) ≡ y
bind_then found f x y e h = ap (λ (o : Option _). o >>= f) e ∙ h

-- ---- a number

pub digits_of_number : (ds : List ℕ) → is_number ds ≡ true → list_all is_ascii_digit ds ≡ true
digits_of_number [] h = absurd (cc)
digits_of_number (first ∷ []) h = grind (arith, common_steps)
digits_of_number (first ∷ second ∷ others) h = grind (arith, common_steps)

digit_not_mark : (mark x : ℕ) → mark < 48 → is_ascii_digit x ≡ true → x ≢ mark
digit_not_mark mark x low h = grind (arith, common_steps)

number_free : (mark : ℕ) (ds : List ℕ) → mark < 48 → is_number ds ≡ true → IsFree mark ds
number_free mark ds low h = free_by is_ascii_digit mark ds (λ x. digit_not_mark mark x low) (digits_of_number ds h)

number_gives : (label : List ℕ) (mark : ℕ) (s : List ℕ) (found : List ℕ × List ℕ) → number_at label mark s ≡ Some found
    → (s ≡ label ++ (found.0 ++ mark ∷ found.1)) × (is_number found.0 ≡ true)
unfolding number_at
number_gives label mark s found e =
    let field = bind_some (after label s) _ found e in
    let split = bind_some (cut mark field.0) _ found field.2 in
    let test = cond_some (is_number split.0.0) split.0 found split.2 in
    let whole : field.0 ≡ split.0.0 ++ mark ∷ split.0.1 = cut_gives mark field.0 split.0 split.1 in (
      after_gives label s field.0 field.1 ∙ ap (λ (r : List ℕ). label ++ r) whole ∙ ap (λ (x : List ℕ × List ℕ). label ++ (x.0 ++ mark ∷ x.1)) test.1,
      ap is_number (sym (ap (λ (x : List ℕ × List ℕ). x.0) test.1)) ∙ test.0,
    )

number_again : (label : List ℕ) (mark : ℕ) (ds rest : List ℕ) → mark < 48 → is_number ds ≡ true
    → number_at label mark (label ++ (ds ++ mark ∷ rest)) ≡ Some (ds, rest)
unfolding number_at
number_again label mark ds rest low number =
    let labelled = after_at label (ds ++ mark ∷ rest) in
    let split = cut_at mark ds rest (number_free mark ds low number) in
    rw (labelled, split, number) refl

-- ---- a version

-- a version and what stands after it
version_before : Option (List ℕ) → List ℕ → List ℕ
version_before None rest = rest
version_before (Some digits) rest = codes "v=" ++ (digits ++ 36 ∷ rest)

chosen : {A : Type 0} (b : Bool) (x y z : Option A) → cond b x y ≡ z → ((b ≡ true) × (x ≡ z)) ⊎ ((b ≡ false) × (y ≡ z))
chosen true x y z e = inl (refl, e)
chosen false x y z e = inr (refl, e)

numbered : (step : Option (List ℕ × List ℕ)) (found : Option (List ℕ) × List ℕ) → option_map (λ split. (Some split.0, split.1)) step ≡ Some found
    → (split : List ℕ × List ℕ) × (step ≡ Some split) × ((Some split.0, split.1) ≡ found)
numbered None found e = absurd (cc)
numbered (Some split) found e = (split, refl, same_Some (Some split.0, split.1) found e)

version_gives : (s : List ℕ) (found : Option (List ℕ) × List ℕ) → version_at s ≡ Some found
    → (s ≡ version_before found.0 found.1) × IfSome found.0 (λ digits. is_number digits ≡ true)
unfolding version_at version_before
version_gives s found e =
    elim (chosen (bytes_eq (take 2 s) (codes "v=")) _ _ (Some found) e) [
      | inl there ↦
          let split = numbered (number_at (codes "v=") 36 s) found there.1 in
          let P : Option (List ℕ) × List ℕ → Type 0 = λ x. (s ≡ version_before x.0 x.1) × IfSome x.0 (λ digits. is_number digits ≡ true) in
          subst P split.2 (number_gives (codes "v=") 36 s split.0 split.1)
      | inr none ↦
          let P : Option (List ℕ) × List ℕ → Type 0 = λ x. (s ≡ version_before x.0 x.1) × IfSome x.0 (λ digits. is_number digits ≡ true) in
          subst P (same_Some (None, s) found none.1) (refl, tt)
    ]

-- after a version the memory stands
version_again : (version : Option (List ℕ)) (rest : List ℕ) → IfSome version (λ digits. is_number digits ≡ true)
    → version_at (version_before version (codes "m=" ++ rest)) ≡ Some (version, codes "m=" ++ rest)
unfolding version_at version_before
version_again None rest number = refl
version_again (Some digits) rest number =
    ap (option_map (λ split. (Some split.0, split.1))) (number_again (codes "v=") 36 digits (codes "m=" ++ rest) (omega arith) number)

-- ---- a type

name_gives : (name : List ℕ) (kind : Kind) → kind_named name ≡ Some kind → name ≡ kind_name kind
name_gives name kind e =
    elim (chosen (bytes_eq name (codes "d")) _ _ (Some kind) e) [
      | inl d ↦ let same : D ≡ kind = cc in (bytes_eq-Decides name (codes "d")).0 d.0 ∙ ap kind_name same
      | inr other ↦ elim (chosen (bytes_eq name (codes "i")) _ _ (Some kind) other.1) [
        | inl i ↦ let same : I ≡ kind = cc in (bytes_eq-Decides name (codes "i")).0 i.0 ∙ ap kind_name same
        | inr last ↦
            let both = cond_some (bytes_eq name (codes "id")) Id kind last.1 in
            (bytes_eq-Decides name (codes "id")).0 both.0 ∙ ap kind_name both.1
      ]
    ]

name_again : (kind : Kind) → kind_named (kind_name kind) ≡ Some kind
name_again D = refl
name_again I = refl
name_again Id = refl

name_free : (kind : Kind) → list_all (λ x. not (x == 36)) (kind_name kind) ≡ true
name_free D = refl
name_free I = refl
name_free Id = refl

kind_gives : (s : List ℕ) (found : Kind × List ℕ) → kind_at s ≡ Some found → s ≡ codes "$argon2" ++ (kind_name found.0 ++ 36 ∷ found.1)
unfolding kind_at
kind_gives s found e =
    let named = bind_some (after (codes "$argon2") s) _ found e in
    let split = bind_some (cut 36 named.0) _ found named.2 in
    let kind = bind_some (kind_named split.0.0) _ found split.2 in
    let pair : (kind.0, split.0.1) ≡ found = same_Some (kind.0, split.0.1) found kind.2 in
    let whole : named.0 ≡ split.0.0 ++ 36 ∷ split.0.1 = cut_gives 36 named.0 split.0 split.1 in
    let name : split.0.0 ≡ kind_name kind.0 = name_gives split.0.0 kind.0 kind.1 in
    after_gives (codes "$argon2") s named.0 named.1 ∙ ap (λ (r : List ℕ). codes "$argon2" ++ r) whole
    ∙ ap (λ (n : List ℕ). codes "$argon2" ++ (n ++ 36 ∷ split.0.1)) name
    ∙ ap (λ (x : Kind × List ℕ). codes "$argon2" ++ (kind_name x.0 ++ 36 ∷ x.1)) pair

kind_again : (kind : Kind) (rest : List ℕ) → kind_at (codes "$argon2" ++ (kind_name kind ++ 36 ∷ rest)) ≡ Some (kind, rest)
unfolding kind_at
kind_again kind rest =
    let split = cut_at 36 (kind_name kind) rest (free_by (λ x. not (x == 36)) 36 (kind_name kind) (not_mark 36) (name_free kind)) in
    bind_then _ _ _ _ split (bind_then _ _ _ _ (name_again kind) refl)

-- ---- a text

-- the fields, from the back
nested : List ℕ → Option (List ℕ) → List ℕ → List ℕ → List ℕ → List ℕ → List ℕ → List ℕ
nested kind version memory passes lanes salt tag =
    codes "$argon2" ++ (kind ++ 36 ∷ version_before version (codes "m=" ++ (memory ++ 44 ∷ (codes "t=" ++ (passes
    ++ 44 ∷ (codes "p=" ++ (lanes ++ 36 ∷ (salt ++ 36 ∷ tag))))))))

regrouped : (kind : List ℕ) (version : Option (List ℕ)) (memory passes lanes salt tag : List ℕ)
    → text_of_fields kind (version_part version) memory passes lanes salt tag ≡ nested kind version memory passes lanes salt tag
unfolding text_of_fields nested version_before
regrouped kind None memory passes lanes salt tag = simp append_assoc
regrouped kind (Some digits) memory passes lanes salt tag = simp append_assoc

pub fields_again : (fields : Fields) → AreNumbers fields → IsFree 36 fields.salt → fields_at (fields_text fields) ≡ Some fields
unfolding fields_at nested
fields_again fields numbers free =
    let whole = regrouped (kind_name fields.kind) fields.version fields.memory fields.passes fields.lanes fields.salt fields.tag in
    let salt = cut_at 36 fields.salt fields.tag free in
    let r4 : List ℕ = fields.salt ++ 36 ∷ fields.tag in
    let lanes = number_again (codes "p=") 36 fields.lanes r4 (omega arith) numbers.lanes in
    let r3 : List ℕ = codes "p=" ++ (fields.lanes ++ 36 ∷ r4) in
    let passes = number_again (codes "t=") 44 fields.passes r3 (omega arith) numbers.passes in
    let r2 : List ℕ = codes "t=" ++ (fields.passes ++ 44 ∷ r3) in
    let memory = number_again (codes "m=") 44 fields.memory r2 (omega arith) numbers.memory in
    let r1 : List ℕ = fields.memory ++ 44 ∷ r2 in
    let version = version_again fields.version r1 numbers.version in
    let r0 : List ℕ = version_before fields.version (codes "m=" ++ r1) in
    let kind = kind_again fields.kind r0 in
    ap fields_at whole ∙ bind_then _ _ _ _ kind (bind_then _ _ _ _ version (bind_then _ _ _ _ memory
    (bind_then _ _ _ _ passes (bind_then _ _ _ _ lanes (bind_then _ _ _ _ salt refl)))))

-- what each step left, put together
composed : (s kind s1 : List ℕ) (version : Option (List ℕ)) (s2 memory s3 passes s4 lanes s5 salt tag : List ℕ)
    → s ≡ codes "$argon2" ++ (kind ++ 36 ∷ s1) → s1 ≡ version_before version s2 → s2 ≡ codes "m=" ++ (memory ++ 44 ∷ s3)
    → s3 ≡ codes "t=" ++ (passes ++ 44 ∷ s4) → s4 ≡ codes "p=" ++ (lanes ++ 36 ∷ s5) → s5 ≡ salt ++ 36 ∷ tag
    → s ≡ nested kind version memory passes lanes salt tag
unfolding nested
composed s kind s1 version s2 memory s3 passes s4 lanes s5 salt tag e0 e1 e2 e3 e4 e5 = rw (e0, e1, e2, e3, e4, e5) refl

pub fields_give : (s : List ℕ) (fields : Fields) → fields_at s ≡ Some fields → (s ≡ fields_text fields) × AreNumbers fields
unfolding fields_at nested
fields_give s fields e =
    let kind = bind_some (kind_at s) _ fields e in
    let version = bind_some (version_at kind.0.1) _ fields kind.2 in
    let memory = bind_some (number_at (codes "m=") 44 version.0.1) _ fields version.2 in
    let passes = bind_some (number_at (codes "t=") 44 memory.0.1) _ fields memory.2 in
    let lanes = bind_some (number_at (codes "p=") 36 passes.0.1) _ fields passes.2 in
    let salt = bind_some (cut 36 lanes.0.1) _ fields lanes.2 in
    let e0 = kind_gives s kind.0 kind.1 in
    let e1 = version_gives kind.0.1 version.0 version.1 in
    let e2 = number_gives (codes "m=") 44 version.0.1 memory.0 memory.1 in
    let e3 = number_gives (codes "t=") 44 memory.0.1 passes.0 passes.1 in
    let e4 = number_gives (codes "p=") 36 passes.0.1 lanes.0 lanes.1 in
    let e5 = cut_gives 36 lanes.0.1 salt.0 salt.1 in
    let found : Fields = record {
      kind = kind.0.0;
      version = version.0.0;
      memory = memory.0.0;
      passes = passes.0.0;
      lanes = lanes.0.0;
      salt = salt.0.0;
      tag = salt.0.1;
    } in
    let same : found ≡ fields = same_Some found fields salt.2 in
    let text : s ≡ nested (kind_name found.kind) found.version found.memory found.passes found.lanes found.salt found.tag =
    composed s (kind_name found.kind) kind.0.1 found.version version.0.1 found.memory memory.0.1 found.passes passes.0.1 found.lanes lanes.0.1
    found.salt found.tag e0 e1.0 e2.0 e3.0 e4.0 e5 in
    let whole : s ≡ fields_text found =
    text ∙ sym (regrouped (kind_name found.kind) found.version found.memory found.passes found.lanes found.salt found.tag) in
    let P : Fields → Type 0 = λ x. (s ≡ fields_text x) × AreNumbers x in
    subst P same (whole, record { version = e1.1; memory = e2.1; passes = e3.1; lanes = e4.1 })
