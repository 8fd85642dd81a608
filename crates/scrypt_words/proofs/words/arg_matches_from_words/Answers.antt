use Rattle.std.proofs.Common.{refl, ◌≡◌, ◌∙◌, ◌≢◌, ◌⊎◌, ap, sym, subst, inl, inr, true, List, [], ◌∷◌, Option, None, Result, Ok}
use Rattle.clap.specs.Words.{App, FailsBy, HasKind, HasMatchesOf, Kinds, Text, fault_of, is_simple, is_simple_and_free, kind_of, subcommand_of, subcommand_rows_of}
use Rattle.clap.specs.declared.error.Error.{Error}
use Rattle.clap.specs.declared.error.kind.ErrorKind.TheVariants.{OutOfMemory}
use Rattle.clap.specs.declared.parser.matches.ArgMatches.{ArgMatches}
use Rattle.scrypt_words.specs.CommandLine.{scrypt_app}
use Rattle.scrypt_words.specs.Words.{scrypt_words, unless_faulty}
use Rattle.scrypt_request.specs.declared.refusal.ScryptRefusal.{ScryptRefusal}
use Rattle.scrypt_request.specs.declared.refusal.ScryptRefusal.TheVariants as refusal
use Rattle.scrypt_words.proofs.words.arg_matches_from_words.Goals as goal

is_free : is_simple_and_free scrypt_app ≡ true
is_free = refl

is_plain : is_simple scrypt_app ≡ true
is_plain = refl

without_fault : {A : Type 0} (kinds : Kinds) (found : Option A) → kinds ≡ [] → unless_faulty kinds found ≡ found
without_fault kinds found none = rw none refl

with_fault : {A : Type 0} (kinds : Kinds) (found : Option A) (e : Error) → HasKind kinds e → kind_of e ≢ OutOfMemory → unless_faulty kinds found ≡ None
with_fault [] found e (inl memory) other = absurd (other memory)
with_fault [] found e (inr among) other = absurd among
with_fault (kind ∷ kinds) found e has other = refl

-- clap took the words
taken : (a : App) (words : List Text) (m : ArgMatches) (r : Result ArgMatches Error) → a ≡ scrypt_app → r ≡ Ok m
    → (is_simple_and_free a ≡ true → FailsBy (fault_of a words) r) → HasMatchesOf a words m
    → scrypt_words words ≡ subcommand_rows_of m
taken a words m r shape ok kinds matches =
    let fails = kinds (ap is_simple_and_free shape ∙ is_free) in
    let at_ok : FailsBy (fault_of a words) (Ok m) = subst (λ (x : Result ArgMatches Error). FailsBy (fault_of a words) x) ok fails in
    let none : fault_of scrypt_app words ≡ [] = sym (ap (λ x. fault_of x words) shape) ∙ at_ok in
    let rows : subcommand_rows_of m ≡ subcommand_of scrypt_app words = (matches (ap is_simple shape ∙ is_plain)).1 ∙ ap (λ x. subcommand_of x words) shape in
    without_fault (fault_of scrypt_app words) _ none ∙ sym rows

-- clap refused the words
refused : (a : App) (words : List Text) (e : Error) → a ≡ scrypt_app
    → (is_simple_and_free a ≡ true → HasKind (fault_of a words) e) → kind_of e ≢ OutOfMemory
    → scrypt_words words ≡ None
refused a words e shape kinds other =
    let kind = kinds (ap is_simple_and_free shape ∙ is_free) in
    let at_app : HasKind (fault_of scrypt_app words) e = subst (λ (x : App). HasKind (fault_of x words) e) shape kind in
    with_fault (fault_of scrypt_app words) _ e at_app other

-- so they are refused, or memory was
told : (a : App) (words : List Text) (e : Error) (r : ScryptRefusal) → a ≡ scrypt_app
    → (is_simple_and_free a ≡ true → HasKind (fault_of a words) e)
    → (r ≡ refusal.OutOfMemory) ⊎ ((r ≡ refusal.Usage) × (kind_of e ≢ OutOfMemory))
    → (r ≡ refusal.OutOfMemory) ⊎ ((r ≡ refusal.Usage) × (scrypt_words words ≡ None))
told a words e r shape kinds (inl memory) = inl memory
told a words e r shape kinds (inr usage) = inr (usage.0, refused a words e shape kinds usage.1)

pub returns-in-Ok-try_get_matches_from-clause-words : goal.returns-in-Ok-try_get_matches_from-clause-words
returns-in-Ok-try_get_matches_from-clause-words c =
    taken _ _ c.in-Ok-try_get_matches_from.matches _ c.in-Ok.ensures.command.shape refl c.in-Ok-try_get_matches_from.ensures.kinds
    c.in-Ok-try_get_matches_from.ensures.matches

pub returns-in-Err-clause-refused : goal.returns-in-Err-clause-refused
returns-in-Err-clause-refused c =
    told _ _ c.in-Err.error _ c.in-Ok.ensures.command.shape c.in-Err.ensures.kinds c.refusal_for.ensures.usage
