-- Words and a host come to one end.
use Rattle.std.proofs.Common.{◌≡◌, ◌∙◌, ℕ, true, false, List, Option, Some, None, Result, Ok, Err, refl, inl, inr, ap, subst, sym, arith}
use Rattle.argon_text.specs.Value.{Value}
use Rattle.argon_text.specs.Verifying.{tag_of_password}
use Rattle.argon_text.specs.declared.fault.ReadFault.TheVariants.{NotInGrammar, OutOfRange, OutOfMemory}
use Rattle.argon_text.proofs.Readings.{one_value, text_in_range}
use Rattle.host.specs.HostState.{HostState, Text}
use Rattle.argon2_verify.specs.Hash.{IsLineRefused, Says, limits_refusal}
use Rattle.argon2_verify.specs.Laws.{IsFromInside}
use Rattle.argon2_verify.specs.Reading.{IsFileRefused, IsPasswordRefused, after_file_read, after_password_asked, after_reading, hash_line, password_in}
use Rattle.argon2_verify.specs.Request.{Request, verify_request}
use Rattle.argon2_verify.specs.Run.{Differs, Inputs, IsRefused, Verifies}
use Rattle.argon2_verify.specs.declared.refusal.VerifyRefusal.{VerifyRefusal}
use Rattle.argon2_verify.specs.declared.refusal.VerifyRefusal.TheVariants.{FileIsStdin}
use Rattle.argon2_verify.proofs.Ends.{IsWrong}

pub says_one : (line : List ℕ) (v w : Value) → Says line v → Says line w → v ≡ w
says_one line v w p q = one_value v w line p.value q.value p.text q.text

-- ---- results

abbrev ok_or : {A E : Type 0} → A → Result A E → A
ok_or other (Ok a) = a
ok_or other (Err e) = other

abbrev pub err_or : {A E : Type 0} → E → Result A E → E
err_or other (Ok a) = other
err_or other (Err e) = e

abbrev some_or : {A : Type 0} → A → Option A → A
some_or other None = other
some_or other (Some a) = a

one_ok : {A E : Type 0} (r : Result A E) (a b : A) → r ≡ Ok a → r ≡ Ok b → a ≡ b
one_ok r a b p q = ap (ok_or a) (sym p ∙ q)

one_err : {A E : Type 0} (r : Result A E) (a b : E) → r ≡ Err a → r ≡ Err b → a ≡ b
one_err r a b p q = ap (err_or a) (sym p ∙ q)

abbrev IsDone : {A E : Type 0} → Result A E → Type 0
IsDone (Ok a) = Unit {0}
IsDone (Err e) = ⊥

not_both : {A E P : Type 0} (r : Result A E) (a : A) (e : E) → r ≡ Ok a → r ≡ Err e → P
not_both r a e p q = absurd (let wrong : ⊥ = subst IsDone (sym p ∙ q) tt in wrong)

abbrev IsFree : {A : Type 0} → Option A → Type 0
IsFree None = Unit {0}
IsFree (Some a) = ⊥

not_some : {A P : Type 0} (o : Option A) (a : A) → o ≡ None → o ≡ Some a → P
not_some o a p q = absurd (let wrong : ⊥ = subst IsFree (sym p ∙ q) tt in wrong)

-- ---- an answer

module _ (words : List Text) (s t u : HostState) (p : Inputs true words s t) (q : Inputs true words s u) where
  pub same_request : p.request ≡ q.request
  same_request = one_ok (verify_request words) p.request q.request p.of_words q.of_words

  pub same_value : p.value ≡ q.value
  same_value =
      let line : p.line ≡ q.line = p.line_read refl ∙ sym (q.line_read refl) in
      says_one q.line p.value q.value (subst (λ xs. Says xs p.value) line p.says) q.says

  pub same_password : p.password ≡ q.password
  same_password = one_ok (password_in s.stdin) p.password q.password (p.password_read refl) (q.password_read refl)

  pub same_state : t ≡ u
  same_state = p.left refl ∙ ap (λ (r : Request). after_password_asked r.file s) same_request ∙ sym (q.left refl)

pub one_answer : (words : List Text) (s t u : HostState) → Verifies true words s t → Differs true words s u → ⊥
one_answer words s t u right wrong =
    let p = right.inputs in
    let q = wrong.inputs in
    let value = same_value words s t u p q in
    let password = same_password words s t u p q in
    wrong.other (subst (λ (w : Value). tag_of_password w q.password ≡ w.tag) value
    (subst (λ xs. tag_of_password p.value xs ≡ p.value.tag) password right.same))

-- ---- refusals

is_outside : {P : Type 0} (q r : VerifyRefusal) → q ≡ r → IsFromInside q → (IsFromInside r → P) → P
is_outside q r same inside f = f (subst IsFromInside same inside)

-- a line that says a value is not refused
says_on : {P : Type 0} (line : List ℕ) (v : Value) (r : VerifyRefusal) → Says line v → IsLineRefused line r → IsFromInside r → P
says_on line v r says (inl long) inside = absurd (let wrong : ⊥ = omega (arith, says.short, long.0) in wrong)
says_on line v r says (inr (short, (NotInGrammar, lacks, is))) inside =
    let found = text_in_range v says.value line says.text in
    absurd (let wrong : ⊥ = lacks (found.0, found.1) in wrong)
says_on line v r says (inr (short, (OutOfRange, lacks, is))) inside = absurd (let wrong : ⊥ = lacks.1 (text_in_range v says.value line says.text) in wrong)
says_on line v r says (inr (short, (OutOfMemory, numbers, is))) inside = is_outside r _ is inside (λ wrong. absurd wrong)

-- a line has one refusal
one_of_line : (line : List ℕ) (q r : VerifyRefusal) → IsLineRefused line q → IsLineRefused line r → IsFromInside q → IsFromInside r → q ≡ r
one_of_line line q r (inl a) (inl b) i j = a.1 ∙ sym b.1
one_of_line line q r (inl a) (inr b) i j = absurd (let wrong : ⊥ = omega (arith, a.0, b.0) in wrong)
one_of_line line q r (inr a) (inl b) i j = absurd (let wrong : ⊥ = omega (arith, a.0, b.0) in wrong)
one_of_line line q r (inr (_, (OutOfMemory, _, is))) (inr b) i j = is_outside q _ is i (λ wrong. absurd wrong)
one_of_line line q r (inr a) (inr (_, (OutOfMemory, _, is))) i j = is_outside r _ is j (λ wrong. absurd wrong)
one_of_line line q r (inr (_, (NotInGrammar, _, a))) (inr (_, (NotInGrammar, _, b))) i j = a ∙ sym b
one_of_line line q r (inr (_, (OutOfRange, _, a))) (inr (_, (OutOfRange, _, b))) i j = a ∙ sym b
one_of_line line q r (inr (_, (NotInGrammar, lacks, _))) (inr (_, (OutOfRange, has, _))) i j = absurd (let wrong : ⊥ = lacks has.0 in wrong)
one_of_line line q r (inr (_, (OutOfRange, has, _))) (inr (_, (NotInGrammar, lacks, _))) i j = absurd (let wrong : ⊥ = lacks has.0 in wrong)

-- a file is not both
pub not_apart : {P : Type 0} (s : HostState) → s.input_is_stdin ≡ true → s.input_is_stdin ≡ false → P
not_apart s is apart = absurd (let wrong : ⊥ = subst IsWrong (sym apart ∙ is) tt in wrong)

-- a password that is refused from inside is so for its length
length_of_password : (stdin : Option (List ℕ)) (r : VerifyRefusal) → IsPasswordRefused stdin r → IsFromInside r → password_in stdin ≡ Err r
length_of_password stdin r (inl is) inside = is
length_of_password stdin r (inr (inl is)) inside = is_outside r _ is inside (λ wrong. absurd wrong)
length_of_password stdin r (inr (inr is)) inside = is_outside r _ is.0 inside (λ wrong. absurd wrong)

-- what is refused from inside, as data
data Due (words : List Text) (s t : HostState) (r : VerifyRefusal) : Type 0 where
  words_due : verify_request words ≡ Err r → t ≡ s → Due words s t r
  stdin_due : (request : Request) → verify_request words ≡ Ok request → r ≡ FileIsStdin → s.input_is_stdin ≡ true → t ≡ after_reading request.file 0 s → Due words s t r
  line_due : (request : Request) → verify_request words ≡ Ok request → s.input_is_stdin ≡ false → IsLineRefused (hash_line s.input) r → t ≡ after_file_read request.file s → Due words s t r
  limits_due : (request : Request) → verify_request words ≡ Ok request → s.input_is_stdin ≡ false → (v : Value) → Says (hash_line s.input) v → limits_refusal request.limits v ≡ Some r
      → t ≡ after_file_read request.file s → Due words s t r
  password_due : (request : Request) → verify_request words ≡ Ok request → s.input_is_stdin ≡ false → (v : Value) → Says (hash_line s.input) v → limits_refusal request.limits v ≡ None
      → password_in s.stdin ≡ Err r → t ≡ after_password_asked request.file s → Due words s t r

file_due : (words : List Text) (s t : HostState) (r : VerifyRefusal) (request : Request) → verify_request words ≡ Ok request → IsFileRefused request.file r s t
    → IsFromInside r → Due words s t r
file_due words s t r request p (inl failed) inside = is_outside r _ failed.0 inside (λ wrong. absurd wrong)
file_due words s t r request p (inr (inl own)) inside = stdin_due request p own.0 own.1 own.2
file_due words s t r request p (inr (inr line)) inside = line_due request p line.0 line.1 line.2

due : (words : List Text) (s t : HostState) (r : VerifyRefusal) → IsRefused r words s t → IsFromInside r → Due words s t r
due words s t r (inl told) inside = words_due told.0 told.1
due words s t r (inr (inl told)) inside = file_due words s t r told.request told.of_words told.is inside
due words s t r (inr (inr (inl told))) inside = limits_due told.request told.of_words told.apart told.value told.says told.is told.left
due words s t r (inr (inr (inr told))) inside =
    password_due told.request told.of_words told.apart told.value told.says told.admitted (length_of_password s.stdin r told.is inside) told.left

moved : {o : Option VerifyRefusal} (a b : Request) (v w : Value) → a ≡ b → v ≡ w → limits_refusal a.limits v ≡ o → limits_refusal b.limits w ≡ o
moved {o} a b v w request value is =
    subst (λ x. limits_refusal b.limits x ≡ o) value (subst (λ (x : Request). limits_refusal x.limits v ≡ o) request is)

module _ (words : List Text) (s t u : HostState) (q r : VerifyRefusal) (inside : IsFromInside q) (inside_too : IsFromInside r) where
  file_state : (a b : Request) → verify_request words ≡ Ok a → verify_request words ≡ Ok b → t ≡ after_file_read a.file s → u ≡ after_file_read b.file s → t ≡ u
  file_state a b p p2 left left2 = left ∙ ap (λ (x : Request). after_file_read x.file s) (one_ok (verify_request words) a b p p2) ∙ sym left2

  password_state : (a b : Request) → verify_request words ≡ Ok a → verify_request words ≡ Ok b → t ≡ after_password_asked a.file s
      → u ≡ after_password_asked b.file s → t ≡ u
  password_state a b p p2 left left2 = left ∙ ap (λ (x : Request). after_password_asked x.file s) (one_ok (verify_request words) a b p p2) ∙ sym left2

  one_end : Due words s t q → Due words s u r → (q ≡ r) × (t ≡ u)
  one_end (words_due is left) (words_due is2 left2) = (one_err (verify_request words) q r is is2, left ∙ sym left2)
  one_end (words_due is left) (line_due b p2 apart2 is2 left2) = not_both (verify_request words) b q p2 is
  one_end (words_due is left) (limits_due b p2 apart2 w says2 is2 left2) = not_both (verify_request words) b q p2 is
  one_end (words_due is left) (password_due b p2 apart2 w says2 free2 is2 left2) = not_both (verify_request words) b q p2 is
  one_end (words_due is left) (stdin_due b p2 _ _ _) = not_both (verify_request words) b q p2 is
  one_end (stdin_due a p _ _ _) (words_due is2 left2) = not_both (verify_request words) a r p is2
  one_end (stdin_due a p is own left) (stdin_due b p2 is2 own2 left2) =
      (is ∙ sym is2, left ∙ ap (λ (x : Request). after_reading x.file 0 s) (one_ok (verify_request words) a b p p2) ∙ sym left2)
  one_end (stdin_due a p is own left) (line_due b p2 apart2 is2 left2) = not_apart s own apart2
  one_end (stdin_due a p is own left) (limits_due b p2 apart2 w says2 is2 left2) = not_apart s own apart2
  one_end (stdin_due a p is own left) (password_due b p2 apart2 w says2 free2 is2 left2) = not_apart s own apart2
  one_end (line_due a p apart is left) (stdin_due b p2 is2 own2 left2) = not_apart s own2 apart
  one_end (limits_due a p apart v says is left) (stdin_due b p2 is2 own2 left2) = not_apart s own2 apart
  one_end (password_due a p apart v says free is left) (stdin_due b p2 is2 own2 left2) = not_apart s own2 apart
  one_end (line_due a p apart is left) (words_due is2 left2) = not_both (verify_request words) a r p is2
  one_end (line_due a p apart is left) (line_due b p2 apart2 is2 left2) =
      (one_of_line (hash_line s.input) q r is is2 inside inside_too, file_state a b p p2 left left2)
  one_end (line_due a p apart is left) (limits_due b p2 apart2 w says2 is2 left2) = says_on (hash_line s.input) w q says2 is inside
  one_end (line_due a p apart is left) (password_due b p2 apart2 w says2 free2 is2 left2) = says_on (hash_line s.input) w q says2 is inside
  one_end (limits_due a p apart v says is left) (words_due is2 left2) = not_both (verify_request words) a r p is2
  one_end (limits_due a p apart v says is left) (line_due b p2 apart2 is2 left2) = says_on (hash_line s.input) v r says is2 inside_too
  one_end (limits_due a p apart v says is left) (limits_due b p2 apart2 w says2 is2 left2) =
      let first = moved a b v w (one_ok (verify_request words) a b p p2) (says_one (hash_line s.input) v w says says2) is in
      (ap (some_or q) (sym first ∙ is2), file_state a b p p2 left left2)
  one_end (limits_due a p apart v says is left) (password_due b p2 apart2 w says2 free2 is2 left2) =
      not_some (limits_refusal b.limits w) q free2 (moved a b v w (one_ok (verify_request words) a b p p2) (says_one (hash_line s.input) v w says says2) is)
  one_end (password_due a p apart v says free is left) (words_due is2 left2) = not_both (verify_request words) a r p is2
  one_end (password_due a p apart v says free is left) (line_due b p2 apart2 is2 left2) = says_on (hash_line s.input) v r says is2 inside_too
  one_end (password_due a p apart v says free is left) (limits_due b p2 apart2 w says2 is2 left2) =
      not_some (limits_refusal b.limits w) r (moved a b v w (one_ok (verify_request words) a b p p2) (says_one (hash_line s.input) v w says says2) free) is2
  one_end (password_due a p apart v says free is left) (password_due b p2 apart2 w says2 free2 is2 left2) =
      (one_err (password_in s.stdin) q r is is2, password_state a b p p2 left left2)

  pub one_refusal : IsRefused q words s t → IsRefused r words s u → (q ≡ r) × (t ≡ u)
  one_refusal told told2 = one_end (due words s t q told inside) (due words s u r told2 inside_too)

-- where there is an answer, no refusal comes from inside
not_due : (words : List Text) (s t u : HostState) (r : VerifyRefusal) → Inputs true words s t → Due words s u r → IsFromInside r → ⊥
not_due words s t u r p (words_due is left) inside = not_both (verify_request words) p.request r p.of_words is
not_due words s t u r p (stdin_due b p2 is own left) inside = not_apart s own (p.apart refl)
not_due words s t u r p (line_due b p2 apart is left) inside =
    says_on (hash_line s.input) p.value r (subst (λ xs. Says xs p.value) (p.line_read refl) p.says) is inside
not_due words s t u r p (limits_due b p2 apart w says is left) inside =
    let value = says_one (hash_line s.input) p.value w (subst (λ xs. Says xs p.value) (p.line_read refl) p.says) says in
    not_some (limits_refusal b.limits w) r (moved p.request b p.value w (one_ok (verify_request words) p.request b p.of_words p2) value p.admitted) is
not_due words s t u r p (password_due b p2 apart w says free is left) inside = not_both (password_in s.stdin) p.password r (p.password_read refl) is

pub refused_from_outside : (words : List Text) (s t u : HostState) (r : VerifyRefusal) → Inputs true words s t → IsRefused r words s u → IsFromInside r → ⊥
refused_from_outside words s t u r p told inside = not_due words s t u r p (due words s u r told inside) inside
