-- Words that are taken one by one.
use Rattle.std.proofs.Common.{◌≡◌, ◌<◌, ℕ, ◌+◌, List, [], ◌∷◌, ◌++◌, Option, None, Some, arith, drop, sym, ap, subst, ◌∙◌, option_map, rules, string_bytes}
use Rattle.std.proofs.lemmas.Grind.{common_steps}
use Rattle.std.proofs.lemmas.List.{append_assoc}
use Rattle.host.specs.HostState.{Text}
use Rattle.tools.specs.Words.{IsNonUtf8WordIfNotText, HasNonUtf8WordIfNotText, first_word, word_at}
use Rattle.tools.specs.declared.arguments.WordsFault.{WordsFault}
use Rattle.tools.specs.declared.arguments.WordsFault.TheVariants as fault
use Rattle.tools.proofs.arguments.words.Goals as goal

drop-drop_words : (m n : ℕ) (words : List Text) → drop n (drop m words) ≡ drop (m + n) words
drop-drop_words m n words = grind (arith, common_steps)

is_some : Option Text → Type 0
is_some None = ⊥
is_some (Some word) = Unit {0}

first_or : Text → Option Text → Text
first_or other None = other
first_or other (Some word) = word

rest_of : (words : List Text) (word : Text) → Some word ≡ first_word words → words ≡ word ∷ drop 1 words
unfolding is_some first_or
rest_of [] word is = elim (subst is_some is tt) [ ]
rest_of (first ∷ rest) word is = ap (λ o. first_or word o ∷ rest) (sym is)

-- one more was taken
next_word : (kept words all : List Text) (place : ℕ) (word : Text) → kept ++ drop place words ≡ all → Some word ≡ word_at words place
    → (kept ++ (word ∷ [])) ++ drop (place + 1) words ≡ all
next_word kept words all place word whole is =
    append_assoc kept (word ∷ []) (drop (place + 1) words)
    ∙ ap (λ rest. kept ++ (word ∷ rest)) (sym (drop-drop_words place 1 words))
    ∙ ap (λ rest. kept ++ rest) (sym (rest_of (drop place words) word is))
    ∙ whole

-- a word that is no text
lacks : (f : WordsFault) (words : List Text) (place : ℕ) → 0 < place → IsNonUtf8WordIfNotText f (word_at words place) → HasNonUtf8WordIfNotText f words
lacks fault.OutOfMemory words place some none = tt
lacks fault.NotText words place some none = (place, some, none)

pub returns-in-Err-clause-refused : goal.returns-in-Err-clause-refused
returns-in-Err-clause-refused g c = λ t.
    lacks c.in-Err.fault (g.S.System.words c.args.system.now) c.loop-place.place c.loop-place.invariant.0 (c.in-Err.ensures.refused t)

pub loop-place-preserved : goal.loop-place-preserved
loop-place-preserved g c =
    let some : 0 < c.loop-place.place + 1 = search rules in
    let is : Some (string_bytes c.in-Ok-Some.word) ≡ option_map string_bytes c.in-Ok-Some.field-0 = search rules in (
      some,
      λ t. ap (λ kept. kept ++ drop (c.loop-place.place + 1) (g.S.System.words c.args.system.now)) c.in-Ok.ensures.words
          ∙ next_word _ (g.S.System.words c.args.system.now) _ c.loop-place.place _ (c.loop-place.invariant.1 t) (is ∙ c.in-Ok-Some.ensures.word t),
    )
