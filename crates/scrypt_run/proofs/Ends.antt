-- What holds of a result, carried on to what follows from it; and what reading the input keeps.
use Rattle.std.proofs.Common.{◌≡◌, ℕ, List, Option, Some, None, Result, Ok, Err, OnOk, IfErr, IfOk, IsErrAnd, MatchResult, refl, sym, subst, ◌∙◌}
use Rattle.host.specs.HostState.{SecretSource, HostState, Text, after_open_input}
use Rattle.host.specs.HostState.SecretSource.{env as variable, file as secret_file, stdin_once}
use Rattle.scrypt_run.specs.Encrypting.{salt_used}
use Rattle.scrypt_run.specs.Passphrase.{first_line_of_source}
use Rattle.scrypt_run.specs.Steps.{after_reading_first_bytes}

-- what follows from a result's fact
pub if_err : {A E : Type 0} {P Q : E → Type 0} (r : Result A E) → ((e : E) → P e → Q e) → IfErr r P → IfErr r Q
if_err (Ok a) f h = h
if_err (Err e) f h = f e h

pub if_ok : {A E : Type 0} {P Q : A → Type 0} (r : Result A E) → ((a : A) → P a → Q a) → IfOk r P → IfOk r Q
if_ok (Ok a) f h = f a h
if_ok (Err e) f h = h

-- what follows from one of two facts, by the result
pub ok_of : {A E : Type 0} {P R : Type 0} (Q : E → Type 0) (r : Result A E) → (P → R) → MatchResult r (λ _. P) Q → OnOk r R
ok_of Q (Ok a) f h = f h
ok_of Q (Err e) f h = tt

pub err_of : {A E : Type 0} (P : Type 0) {Q R : E → Type 0} (r : Result A E) → ((e : E) → Q e → R e) → MatchResult r (λ _. P) Q → IfErr r R
err_of P (Ok a) f h = tt
err_of P (Err e) f h = f e h

-- what holds holds of a result
pub always_ok : {A E P : Type 0} (r : Result A E) → P → OnOk r P
always_ok (Ok a) h = h
always_ok (Err e) h = tt

pub always_err : {A E : Type 0} {P : E → Type 0} (r : Result A E) → ((e : E) → P e) → IfErr r P
always_err (Ok a) h = tt
always_err (Err e) h = h e

-- reading the input leaves the secrets
pub first_line_of_source-reading : (source : SecretSource) (infile : Option Text) (n : ℕ) (s : HostState) → first_line_of_source source (after_reading_first_bytes infile n s) ≡ first_line_of_source source s
first_line_of_source-reading stdin_once infile n s = refl
first_line_of_source-reading (variable name) infile n s = refl
first_line_of_source-reading (secret_file name) infile n s = refl

-- and its opening leaves the salt
pub salt_used-opening : (salt : Option (List ℕ)) (infile : Option Text) (s : HostState) → salt_used salt (after_open_input infile s) ≡ salt_used salt s
salt_used-opening None infile s = refl
salt_used-opening (Some salt) infile s = refl

-- what a `?` hands on is what was refused
pub handed_on : {A E : Type 0} {P Q : E → Type 0} (r : Result A E) → IsErrAnd r Q → ((e : E) → Q e → P e) → IfErr r P
handed_on (Ok a) told f = absurd told
handed_on (Err e) told f = f e told

pub handed_match : {A E : Type 0} (P : A → Type 0) {Q R : E → Type 0} (r : Result A E) → IsErrAnd r Q → ((e : E) → Q e → R e) → MatchResult r P R
handed_match P (Ok a) told f = absurd told
handed_match P (Err e) told f = f e told

-- a good answer whose refusal was mapped is the one before
pub before_map : {A E D : Type 0} (P : A → Type 0) (Q : E → D → Type 0) (r : Result A E) (mapped : Result A D) (n : A)
    → MatchResult r (λ x. mapped ≡ Ok x) (λ e. IsErrAnd mapped (Q e)) → mapped ≡ Ok n → IfOk r P → P n
before_map P Q (Ok x) mapped n same is h = subst (λ m. IfOk m P) (sym same ∙ is) h
before_map P Q (Err e) mapped n told is h = absurd (subst (λ m. IsErrAnd m (Q e)) is told)

-- and what holds of the one before holds of it
pub after_map : {A E D : Type 0} (P : A → Type 0) (Q : E → D → Type 0) (r : Result A E) (mapped : Result A D) → MatchResult r (λ x. mapped ≡ Ok x) (λ e. IsErrAnd mapped (Q e)) → IfOk r P
    → IfOk mapped P
after_map P Q (Ok x) mapped same h = subst (λ m. IfOk m P) (sym same) h
after_map P Q (Err e) (Ok a) told h = absurd told
after_map P Q (Err e) (Err d) told h = tt
