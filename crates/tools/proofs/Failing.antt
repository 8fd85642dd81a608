-- Calls that fail, and the faults of a host that come of them.
use Rattle.std.proofs.Common.{◌≡◌, ◌<◌, ◌≤◌, ◌==◌, ℕ, ◌+◌, Bool, true, false, Option, None, Some, arith, is_none, if◌then◌else◌, refl, sym, ap, ◌∙◌, subst, le_refl}
use Rattle.std.proofs.lemmas.Grind.{common_steps}
use Rattle.host.specs.Faults.{Faults, with_input_failure_counted, with_line_failure_counted, with_output_failure_counted, with_salt_failure_counted, with_secret_failure_counted}
use Rattle.tools.specs.Failures.{AreFaultsOfHost, AreNoFewer, after_read_counted, after_write_counted, read_failure_count, with_file_failure_counted, with_read_failure_counted}
use Rattle.tools.specs.RunState.{GoesOn, RunState}
use Rattle.tools.specs.SystemState.{Files, IsOutputSeparate}
use Rattle.tools.specs.declared.system.Reading.{Reading}
use Rattle.tools.specs.declared.system.Reading.TheVariants as reading
use Rattle.tools.specs.declared.system.StreamRole.{StreamRole}
use Rattle.tools.specs.declared.system.StreamRole.TheVariants as stream

-- ---- counts that only rise

pub no_fewer-refl : (f : Faults) → AreNoFewer f f
no_fewer-refl f = record { input = le_refl f.input; output = le_refl f.output; secrets = le_refl f.secrets; salt = le_refl f.salt; lines = le_refl f.lines }

pub no_fewer-same : (f g : Faults) → g ≡ f → AreNoFewer f g
no_fewer-same f g same = subst (λ h. AreNoFewer f h) (sym same) (no_fewer-refl f)

le_then : (a b c : ℕ) → a ≤ b → b ≤ c → a ≤ c
le_then a b c ab bc = omega (arith, ab, bc)

pub no_fewer-then : (f g h : Faults) → AreNoFewer f g → AreNoFewer g h → AreNoFewer f h
no_fewer-then f g h fg gh = record {
  input = le_then f.input g.input h.input fg.input gh.input;
  output = le_then f.output g.output h.output fg.output gh.output;
  secrets = le_then f.secrets g.secrets h.secrets fg.secrets gh.secrets;
  salt = le_then f.salt g.salt h.salt fg.salt gh.salt;
  lines = le_then f.lines g.lines h.lines fg.lines gh.lines;
}

more : (n : ℕ) → n ≤ n + 1
more n = omega arith

no_fewer-input : (f : Faults) → AreNoFewer f (with_input_failure_counted f)
no_fewer-input f = record { input = more f.input; output = le_refl f.output; secrets = le_refl f.secrets; salt = le_refl f.salt; lines = le_refl f.lines }

no_fewer-output : (f : Faults) → AreNoFewer f (with_output_failure_counted f)
no_fewer-output f = record { input = le_refl f.input; output = more f.output; secrets = le_refl f.secrets; salt = le_refl f.salt; lines = le_refl f.lines }

no_fewer-secrets : (f : Faults) → AreNoFewer f (with_secret_failure_counted f)
no_fewer-secrets f = record { input = le_refl f.input; output = le_refl f.output; secrets = more f.secrets; salt = le_refl f.salt; lines = le_refl f.lines }

no_fewer-salt : (f : Faults) → AreNoFewer f (with_salt_failure_counted f)
no_fewer-salt f = record { input = le_refl f.input; output = le_refl f.output; secrets = le_refl f.secrets; salt = more f.salt; lines = le_refl f.lines }

no_fewer-lines : (f : Faults) → AreNoFewer f (with_line_failure_counted f)
no_fewer-lines f = record { input = le_refl f.input; output = le_refl f.output; secrets = le_refl f.secrets; salt = le_refl f.salt; lines = more f.lines }

-- ---- one call

fewer-read_failed : (r : Reading) (f : Faults) → AreNoFewer f (with_read_failure_counted r f)
fewer-read_failed reading.Input f = no_fewer-input f
fewer-read_failed reading.Secret f = no_fewer-secrets f
fewer-read_failed reading.Random f = no_fewer-salt f

counted-read_failed : (r : Reading) (f : Faults) → read_failure_count r (with_read_failure_counted r f) ≡ read_failure_count r f + 1
counted-read_failed reading.Input f = refl
counted-read_failed reading.Secret f = refl
counted-read_failed reading.Random f = refl

salted-where : (ends : Bool) (f : Faults) → AreNoFewer f (if ends then with_salt_failure_counted f else f)
salted-where true f = no_fewer-salt f
salted-where false f = no_fewer-refl f

fewer-read : (r : Reading) (n : ℕ) (f : Faults) → AreNoFewer f (after_read_counted r n f)
fewer-read reading.Input n f = no_fewer-refl f
fewer-read reading.Secret n f = no_fewer-refl f
fewer-read reading.Random n f = salted-where (n == 0) f

-- a read, from the counts at first to those after it
pub no_fewer-read : (r : Reading) (n : ℕ) (first f g : Faults) → AreNoFewer first f → g ≡ after_read_counted r n f → AreNoFewer first g
no_fewer-read r n first f g fewer is =
    no_fewer-then first f g fewer (subst (λ h. AreNoFewer f h) (sym is) (fewer-read r n f))

pub no_fewer-read_failed : (r : Reading) (first f g : Faults) → AreNoFewer first f → g ≡ with_read_failure_counted r f → AreNoFewer first g
no_fewer-read_failed r first f g fewer is =
    no_fewer-then first f g fewer (subst (λ h. AreNoFewer f h) (sym is) (fewer-read_failed r f))

-- no stream has failed less often
pub no_fewer-of_stream : (r : Reading) (f g : Faults) → AreNoFewer f g → read_failure_count r f ≤ read_failure_count r g
no_fewer-of_stream reading.Input f g fewer = fewer.input
no_fewer-of_stream reading.Secret f g fewer = fewer.secrets
no_fewer-of_stream reading.Random f g fewer = fewer.salt

-- it failed once more
pub failed-then : (r : Reading) (first f g : Faults) → AreNoFewer first f → read_failure_count r f < read_failure_count r g → read_failure_count r first < read_failure_count r g
failed-then r first f g fewer less =
    let least : read_failure_count r first ≤ read_failure_count r f = no_fewer-of_stream r first f fewer in
    omega (arith, least, less)

pub salt-then : (first f g : Faults) → AreNoFewer first f → f.salt < g.salt → first.salt < g.salt
salt-then first f g fewer less =
    let least : first.salt ≤ f.salt = fewer.salt in
    omega (arith, least, less)

-- random bytes that came to an end
pub salt-ended : (r : Reading) (n : ℕ) (first f g : Faults) → AreNoFewer first f → g ≡ after_read_counted r n f → n ≡ 0 → r ≡ reading.Random → first.salt < g.salt
salt-ended r n first f g fewer is none random =
    let one : g.salt ≡ f.salt + 1 = ap (λ (h : Faults). h.salt)
    (is ∙ ap (λ q. after_read_counted q n f) random ∙ ap (λ k. after_read_counted reading.Random k f) none) in
    let least : first.salt ≤ f.salt = fewer.salt in
    omega (arith, one, least)

-- ---- a read or a write that failed so often

pub record HasFailed (r : Reading) (times : ℕ) (before now : Faults) : Type 0 where
  pub no_fewer : AreNoFewer before now
  pub counted : read_failure_count r now ≡ read_failure_count r before + times

pub has_failed-none : (r : Reading) (f : Faults) → HasFailed r 0 f f
has_failed-none r f = record { no_fewer = no_fewer-refl f; counted = omega arith }

pub has_failed-more : (r : Reading) (times : ℕ) (before f g : Faults) → HasFailed r times before f → g ≡ with_read_failure_counted r f → HasFailed r (times + 1) before g
has_failed-more r times before f g h is = record {
  no_fewer = no_fewer-read_failed r before f g h.no_fewer is;
  counted =
      let one : read_failure_count r g ≡ read_failure_count r f + 1 = ap (read_failure_count r) is ∙ counted-read_failed r f in
      let so_far : read_failure_count r f ≡ read_failure_count r before + times = h.counted in
      omega (arith, one, so_far);
}

pub has_failed-some : (r : Reading) (times : ℕ) (before now : Faults) → HasFailed r times before now → 0 < times → read_failure_count r before < read_failure_count r now
has_failed-some r times before now h some =
    let so_far : read_failure_count r now ≡ read_failure_count r before + times = h.counted in
    omega (arith, so_far, some)

pub record HasFailedToWrite (times : ℕ) (before now : Faults) : Type 0 where
  pub no_fewer : AreNoFewer before now
  pub counted : now.output ≡ before.output + times

pub no_fewer-output_failed : (first f g : Faults) → AreNoFewer first f → g ≡ with_output_failure_counted f → AreNoFewer first g
no_fewer-output_failed first f g fewer is =
    no_fewer-then first f g fewer (subst (λ h. AreNoFewer f h) (sym is) (no_fewer-output f))

pub has_failed_to_write-more : (times : ℕ) (before f g : Faults) → HasFailedToWrite times before f → g ≡ with_output_failure_counted f → HasFailedToWrite (times + 1) before g
has_failed_to_write-more times before f g h is = record {
  no_fewer = no_fewer-output_failed before f g h.no_fewer is;
  counted =
      let one : g.output ≡ f.output + 1 = ap (λ (h : Faults). h.output) is in
      let so_far : f.output ≡ before.output + times = h.counted in
      omega (arith, one, so_far);
}

written-where : (none : Bool) (f : Faults) → AreNoFewer f (if none then with_output_failure_counted f else f)
written-where true f = no_fewer-output f
written-where false f = no_fewer-refl f

pub no_fewer-write : (n : ℕ) (first f g : Faults) → AreNoFewer first f → g ≡ after_write_counted n f → AreNoFewer first g
no_fewer-write n first f g fewer is =
    no_fewer-then first f g fewer (subst (λ h. AreNoFewer f h) (sym is) (written-where (n == 0) f))

pub output-untaken : (n : ℕ) (first f g : Faults) → AreNoFewer first f → g ≡ after_write_counted n f → n ≡ 0 → first.output < g.output
output-untaken n first f g fewer is none =
    let one : g.output ≡ f.output + 1 = ap (λ (h : Faults). h.output) (is ∙ ap (λ k. after_write_counted k f) none) in
    let least : first.output ≤ f.output = fewer.output in
    omega (arith, one, least)

-- ---- files

no_fewer-file : (role : StreamRole) (f : Faults) → AreNoFewer f (with_file_failure_counted role f)
no_fewer-file stream.Input f = no_fewer-then f (with_line_failure_counted f) (with_output_failure_counted (with_line_failure_counted f)) (no_fewer-lines f) (no_fewer-output (with_line_failure_counted f))
no_fewer-file stream.Secret f = no_fewer-then f (with_line_failure_counted f) (with_output_failure_counted (with_line_failure_counted f)) (no_fewer-lines f) (no_fewer-output (with_line_failure_counted f))
no_fewer-file stream.Output f = no_fewer-output f
no_fewer-file stream.Error f = no_fewer-lines f

pub no_fewer-file_failed : (role : StreamRole) (first f g : Faults) → AreNoFewer first f → g ≡ with_file_failure_counted role f → AreNoFewer first g
no_fewer-file_failed role first f g fewer is =
    no_fewer-then first f g fewer (subst (λ h. AreNoFewer f h) (sym is) (no_fewer-file role f))

-- ---- the faults of a host

-- an output that is none of the files that are read, before a call, where it is so after it
separate-before : (before after : RunState) → GoesOn before after
    → ((after.state.output_asked ≡ None → ⊥) → IsOutputSeparate after.system_files) → (before.state.output_asked ≡ None → ⊥) → IsOutputSeparate before.system_files
separate-before before after on apart asked = subst IsOutputSeparate (on.files asked) (apart (λ none. asked (on.output none)))

-- a call that counts no fault
pub goes_on : (counts : Faults) (before after : RunState) → GoesOn before after
    → AreFaultsOfHost counts before.failures before.state before.system_files → AreFaultsOfHost counts after.failures after.state after.system_files
goes_on counts before after on faults = record {
  input = λ early. le_then counts.input before.failures.input after.failures.input (faults.input (on.input early)) on.failures.input;
  output = λ apart. le_then counts.output before.failures.output after.failures.output (faults.output (separate-before before after on apart)) on.failures.output;
  secrets = λ none. le_then counts.secrets before.failures.secrets after.failures.secrets (faults.secrets (on.output none)) on.failures.secrets;
  salt = λ none. le_then counts.salt before.failures.salt after.failures.salt (faults.salt (on.output none)) on.failures.salt;
}

one_more : (n a b : ℕ) → n ≤ a → a < b → n + 1 ≤ b
one_more n a b few less = omega (arith, few, less)

-- the input failed
pub fails-input : (counts : Faults) (before after : RunState) → GoesOn before after
    → ((after.state.input.opened ≡ None → after.state.output_asked ≡ None) → before.failures.input < after.failures.input)
    → AreFaultsOfHost counts before.failures before.state before.system_files
    → AreFaultsOfHost (with_input_failure_counted counts) after.failures after.state after.system_files
fails-input counts before after on failed faults =
    let kept = goes_on counts before after on faults in record {
      input = λ early. one_more counts.input before.failures.input after.failures.input (faults.input (on.input early)) (failed early);
      output = kept.output;
      secrets = kept.secrets;
      salt = kept.salt;
    }

-- the input could not be opened
pub fails-open_input : (counts : Faults) (before after : RunState) → GoesOn before after → before.state.input.opened ≡ None
    → (before.state.output_asked ≡ None → before.failures.input < after.failures.input)
    → AreFaultsOfHost counts before.failures before.state before.system_files
    → AreFaultsOfHost (with_input_failure_counted counts) after.failures after.state after.system_files
fails-open_input counts before after on unopened failed faults =
    fails-input counts before after on (λ early. failed (on.input early unopened)) faults

-- a secret's source
pub fails-secret : (counts : Faults) (before after : RunState) → GoesOn before after
    → (before.state.output_asked ≡ None → before.failures.secrets < after.failures.secrets)
    → AreFaultsOfHost counts before.failures before.state before.system_files
    → AreFaultsOfHost (with_secret_failure_counted counts) after.failures after.state after.system_files
fails-secret counts before after on failed faults =
    let kept = goes_on counts before after on faults in record {
      input = kept.input;
      output = kept.output;
      secrets = λ none. one_more counts.secrets before.failures.secrets after.failures.secrets (faults.secrets (on.output none)) (failed (on.output none));
      salt = kept.salt;
    }

-- a salt
pub fails-salt : (counts : Faults) (before after : RunState) → GoesOn before after
    → (before.state.output_asked ≡ None → before.failures.salt < after.failures.salt)
    → AreFaultsOfHost counts before.failures before.state before.system_files
    → AreFaultsOfHost (with_salt_failure_counted counts) after.failures after.state after.system_files
fails-salt counts before after on failed faults =
    let kept = goes_on counts before after on faults in record {
      input = kept.input;
      output = kept.output;
      secrets = kept.secrets;
      salt = λ none. one_more counts.salt before.failures.salt after.failures.salt (faults.salt (on.output none)) (failed (on.output none));
    }

-- the output, once it is opened
pub fails-output : (counts : Faults) (before after : RunState) → GoesOn before after → before.failures.output < after.failures.output
    → AreFaultsOfHost counts before.failures before.state before.system_files
    → AreFaultsOfHost (with_output_failure_counted counts) after.failures after.state after.system_files
fails-output counts before after on failed faults =
    let kept = goes_on counts before after on faults in record {
      input = kept.input;
      output = λ apart. one_more counts.output before.failures.output after.failures.output (faults.output (separate-before before after on apart)) failed;
      secrets = kept.secrets;
      salt = kept.salt;
    }

-- the output, at its opening
pub fails-open_output : (counts : Faults) (before after : RunState) → GoesOn before after → before.state.output_asked ≡ None
    → (after.state.output_asked ≡ None → ⊥)
    → (IsOutputSeparate after.system_files → before.failures.output < after.failures.output)
    → AreFaultsOfHost counts before.failures before.state before.system_files
    → AreFaultsOfHost (with_output_failure_counted counts) after.failures after.state after.system_files
fails-open_output counts before after on none asked failed faults =
    let kept = goes_on counts before after on faults in record {
      input = kept.input;
      output = λ apart. one_more counts.output before.failures.output after.failures.output (faults.output (λ some. elim (some none) [ ])) (failed (apart asked));
      secrets = kept.secrets;
      salt = kept.salt;
    }

-- a line
pub fails-line : (counts : Faults) (before after : RunState) → GoesOn before after
    → AreFaultsOfHost counts before.failures before.state before.system_files
    → AreFaultsOfHost (with_line_failure_counted counts) after.failures after.state after.system_files
fails-line counts before after on faults =
    let kept = goes_on counts before after on faults in record { input = kept.input; output = kept.output; secrets = kept.secrets; salt = kept.salt }

-- what is there is not missing
IsFalse : Bool → Type 0
IsFalse true = ⊥
IsFalse false = Unit {0}

pub asked-some : {A : Type 0} (asked : Option A) → is_none asked ≡ false → asked ≡ None → ⊥
unfolding IsFalse
asked-some asked some none = subst IsFalse (sym some ∙ ap is_none none) tt
