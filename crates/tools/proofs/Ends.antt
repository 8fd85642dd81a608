-- What is left of a system at the end of a run, and whether its faults are failures of the system.
use Rattle.std.proofs.Common.{◌≡◌, ◌∙◌, ◌≤◌, ◌⊎◌, inl, inr, ℕ, zero, suc, Bool, true, false, List, [], Option, None, Some, arith, ap, sym, refl, subst, IsTrue}
use Rattle.std.proofs.lemmas.Option.{none-some}
use Rattle.host.specs.Faults.{Faults, no_faults, with_output_failure_counted}
use Rattle.host.specs.HostState.{HostState, Text}
use Rattle.host.specs.Lines.{SaysOneLine, after_line, faults_after_line}
use Rattle.tools.specs.Failures.{AreFaultsOfHost, AreFaultsWithinFailures, AreLinesWithinFailures}
use Rattle.tools.specs.RunState.{EndsWithLine, Leaves}
use Rattle.tools.specs.SystemState.{Files, SystemState}

-- ---- the system as it is seen at the end

unasked-left : (w : SystemState) (seen : HostState) → Leaves w seen → seen.output_asked ≡ None → w.output_asked ≡ None
unasked-left w seen leaves none =
    ap (λ (v : SystemState). v.output_asked) (sym leaves.over) ∙ ap (λ (h : HostState). h.output_asked) leaves.same ∙ none

opened-left : (w : SystemState) (seen : HostState) → Leaves w seen → (seen.input_opened ≡ None → ⊥) → w.input.opened ≡ None → ⊥
opened-left w seen leaves opened none =
    opened (ap (λ (h : HostState). h.input_opened) (sym leaves.same) ∙ ap (λ (v : SystemState). v.input.opened) leaves.over ∙ none)

-- ---- where faults can be no others

none-more : (n m : ℕ) → n ≡ 0 → n ≤ m
none-more n m none = omega (arith, none)

-- no output was asked for
pub faults-before_output : (counts failures : Faults) (w : SystemState) (f : Files) → w.output_asked ≡ None → AreFaultsOfHost counts failures w f
    → AreLinesWithinFailures counts failures f → AreFaultsWithinFailures counts failures f
faults-before_output counts failures w f none faults lines = record {
  input = faults.input (λ _. none);
  output = λ apart. faults.output (λ _. apart);
  secrets = faults.secrets none;
  salt = faults.salt none;
  lines = lines;
}

-- the input is opened, and neither a secret nor a salt has failed
pub faults-of_output : (counts failures : Faults) (w : SystemState) (f : Files) → (w.input.opened ≡ None → ⊥) → counts.secrets ≡ 0 → counts.salt ≡ 0
    → AreFaultsOfHost counts failures w f → AreLinesWithinFailures counts failures f → AreFaultsWithinFailures counts failures f
faults-of_output counts failures w f opened secrets salt faults lines = record {
  input = faults.input (λ none. absurd (opened none));
  output = λ apart. faults.output (λ _. apart);
  secrets = none-more counts.secrets failures.secrets secrets;
  salt = none-more counts.salt failures.salt salt;
  lines = lines;
}

-- the output alone has failed, and lines
pub faults-output_alone : (counts failures : Faults) (w : SystemState) (f : Files) → counts.input ≡ 0 → counts.secrets ≡ 0 → counts.salt ≡ 0
    → AreFaultsOfHost counts failures w f → AreLinesWithinFailures counts failures f → AreFaultsWithinFailures counts failures f
faults-output_alone counts failures w f input secrets salt faults lines = record {
  input = none-more counts.input failures.input input;
  output = λ apart. faults.output (λ _. apart);
  secrets = none-more counts.secrets failures.secrets secrets;
  salt = none-more counts.salt failures.salt salt;
  lines = lines;
}

-- ---- lines

pub unasked-after_line : (said : Bool) (line : Text) (s after : HostState) → after ≡ after_line said line s → s.output_asked ≡ None → after.output_asked ≡ None
unasked-after_line true line s after same none = ap (λ (h : HostState). h.output_asked) same ∙ none
unasked-after_line false line s after same none = ap (λ (h : HostState). h.output_asked) same ∙ none

pub opened-after_line : (said : Bool) (line : Text) (s after : HostState) → after ≡ after_line said line s → (s.input_opened ≡ None → ⊥) → after.input_opened ≡ None → ⊥
opened-after_line true line s after same opened none = opened (ap (λ (h : HostState). h.input_opened) (sym same) ∙ none)
opened-after_line false line s after same opened none = opened (ap (λ (h : HostState). h.input_opened) (sym same) ∙ none)

pub input-after_line : (said : Bool) (f g : Faults) → g ≡ faults_after_line said f → f.input ≡ 0 → g.input ≡ 0
input-after_line true f g same none = ap (λ (h : Faults). h.input) same ∙ none
input-after_line false f g same none = ap (λ (h : Faults). h.input) same ∙ none

pub secrets-after_line : (said : Bool) (f g : Faults) → g ≡ faults_after_line said f → f.secrets ≡ 0 → g.secrets ≡ 0
secrets-after_line true f g same none = ap (λ (h : Faults). h.secrets) same ∙ none
secrets-after_line false f g same none = ap (λ (h : Faults). h.secrets) same ∙ none

pub salt-after_line : (said : Bool) (f g : Faults) → g ≡ faults_after_line said f → f.salt ≡ 0 → g.salt ≡ 0
salt-after_line true f g same none = ap (λ (h : Faults). h.salt) same ∙ none
salt-after_line false f g same none = ap (λ (h : Faults). h.salt) same ∙ none

-- a line is said over what stood before it
pub says-line : (tells : Bool) (line told : Text) (before unsaid after : HostState) (due counts faults : Faults) → told ≡ line → unsaid ≡ before
    → counts ≡ due → SaysOneLine tells told unsaid after counts faults → SaysOneLine tells line before after due faults
says-line tells line told before unsaid after due counts faults is seen counted says =
    subst (λ l. SaysOneLine tells l before after due faults) is
    (subst (λ s. SaysOneLine tells told s after due faults) seen
    (subst (λ f. SaysOneLine tells told unsaid after f faults) counted says))

-- no line was said where none was before, and it is as it was
pub said-same : (left seen : HostState) → seen ≡ left → left.said ≡ [] → seen.said ≡ []
said-same left seen same none = ap (λ (h : HostState). h.said) same ∙ none

-- ---- ends of a run

-- what holds of the words and the host before a run holds of those that they are
pub of-start : (P : List Text → HostState → Type 0) (words given : List Text) (start before : HostState) → given ≡ words → before ≡ start → P given before
    → P words start
of-start P words given start before same seen holds = subst (λ v. P v start) same (subst (λ s. P given s) seen holds)

-- what a refusal leaves: no output was asked for; or the input is opened, or has not failed, and neither a secret nor a
-- salt has failed
pub LeavesOutput : HostState → Faults → Type 0
LeavesOutput seen counts = (seen.output_asked ≡ None) ⊎ (((seen.input_opened ≡ None → ⊥) ⊎ (counts.input ≡ 0)) × (counts.secrets ≡ 0) × (counts.salt ≡ 0))

-- a refusal before an output was asked for
pub before-output : (counts : Faults) (left seen : HostState) → seen ≡ left → left.output_asked ≡ None → LeavesOutput seen counts
unfolding LeavesOutput
before-output counts left seen same none = inl (ap (λ (h : HostState). h.output_asked) same ∙ none)

-- a refusal once the input was opened
pub with-input : (counts : Faults) (left seen : HostState) (infile : Option Text) → seen ≡ left → left.input_opened ≡ Some infile → counts.secrets ≡ 0
    → counts.salt ≡ 0 → LeavesOutput seen counts
unfolding LeavesOutput
with-input counts left seen infile same opened secrets salt =
    inr (inl (λ none. none-some infile (sym none ∙ ap (λ (h : HostState). h.input_opened) same ∙ opened)), secrets, salt)

-- a refusal of the output alone
pub output-alone : (counts : Faults) (seen : HostState) → counts.input ≡ 0 → counts.secrets ≡ 0 → counts.salt ≡ 0 → LeavesOutput seen counts
unfolding LeavesOutput
output-alone counts seen input secrets salt = inr (inr input, secrets, salt)

-- and then a line
pub leaves-line : (tells : Bool) (line : Text) (unsaid seen : HostState) (counts all : Faults) → SaysOneLine tells line unsaid seen counts all
    → IsTrue tells → LeavesOutput unsaid counts → LeavesOutput seen all
unfolding LeavesOutput
leaves-line tells line unsaid seen counts all says told (inl none) = inl (unasked-after_line says.said line unsaid seen (says.seen told) none)
leaves-line tells line unsaid seen counts all says told (inr (inl opened, secrets, salt)) = inr (
  inl (opened-after_line says.said line unsaid seen (says.seen told) opened),
  secrets-after_line says.said counts all says.counts secrets,
  salt-after_line says.said counts all says.counts salt,
)
leaves-line tells line unsaid seen counts all says told (inr (inr input, secrets, salt)) = inr (
  inr (input-after_line says.said counts all says.counts input),
  secrets-after_line says.said counts all says.counts secrets,
  salt-after_line says.said counts all says.counts salt,
)

pub faults-left : (counts failures : Faults) (w : SystemState) (f : Files) (seen : HostState) → Leaves w seen → LeavesOutput seen counts
    → AreFaultsOfHost counts failures w f → AreLinesWithinFailures counts failures f → AreFaultsWithinFailures counts failures f
unfolding LeavesOutput
faults-left counts failures w f seen leaves (inl none) faults lines = faults-before_output counts failures w f (unasked-left w seen leaves none) faults lines
faults-left counts failures w f seen leaves (inr (inl opened, secrets, salt)) faults lines =
    faults-of_output counts failures w f (opened-left w seen leaves opened) secrets salt faults lines
faults-left counts failures w f seen leaves (inr (inr input, secrets, salt)) faults lines = faults-output_alone counts failures w f input secrets salt faults lines

-- a run that began with no output asked for, no line said and no fault was refused, and the line of that came last
pub faults-refused : (tells : Bool) (line : Text) (start before unsaid : HostState) (after : Faults → Faults) (nothing raised counts failures : Faults)
    (w : SystemState) (f : Files) → IsTrue tells → before ≡ start → start.output_asked ≡ None → start.said ≡ [] → nothing ≡ no_faults → raised ≡ after nothing
    → (after no_faults).lines ≡ 0 → (before.output_asked ≡ None → LeavesOutput unsaid (after no_faults)) → (before.said ≡ [] → unsaid.said ≡ [])
    → EndsWithLine tells line unsaid raised w counts → AreFaultsOfHost counts failures w f
    → (raised.lines ≡ 0 → unsaid.said ≡ [] → AreLinesWithinFailures counts failures f) → AreFaultsWithinFailures counts failures f
faults-refused tells line start before unsaid after nothing raised counts failures w f told same unasked silent unfailed counted none leaves says ends faults lines =
    let is : raised ≡ after no_faults = counted ∙ ap after unfailed in
    let left = subst (λ c. LeavesOutput unsaid c) (sym is) (leaves (ap (λ (h : HostState). h.output_asked) same ∙ unasked)) in
    faults-left counts failures w f ends.seen (ends.leaves told) (leaves-line tells line unsaid ends.seen raised counts ends.says told left) faults
    (lines (ap (λ (h : Faults). h.lines) is ∙ none) (says (said-same start before same silent)))

-- the run ended with a line alone
pub faults-line : (tells : Bool) (line : Text) (before : HostState) (none counts failures : Faults) (w : SystemState) (f : Files) → none ≡ no_faults
    → EndsWithLine tells line before none w counts → AreFaultsOfHost counts failures w f → AreLinesWithinFailures counts failures f → AreFaultsWithinFailures counts failures f
faults-line tells line before none counts failures w f unfailed ends faults lines = faults-output_alone counts failures w f
    (input-after_line ends.says.said none counts ends.says.counts (ap (λ (h : Faults). h.input) unfailed))
    (secrets-after_line ends.says.said none counts ends.says.counts (ap (λ (h : Faults). h.secrets) unfailed))
    (salt-after_line ends.says.said none counts ends.says.counts (ap (λ (h : Faults). h.salt) unfailed))
    faults lines

-- nothing has failed
pub faults-none : (counts failures : Faults) (w : SystemState) (f : Files) → counts ≡ no_faults → AreFaultsOfHost counts failures w f → AreFaultsWithinFailures counts failures f
faults-none counts failures w f none faults = faults-output_alone counts failures w f
    (ap (λ (h : Faults). h.input) none) (ap (λ (h : Faults). h.secrets) none) (ap (λ (h : Faults). h.salt) none) faults
    (λ _. none-more counts.lines failures.lines (ap (λ (h : Faults). h.lines) none))

-- the run brought its output to the disk, or failed to
pub faults-synced : (status : ℕ) (tells : Bool) (line : Text) (before : HostState) (counts all failures : Faults) (w : SystemState) (f : Files) → status ≤ 1
    → (status ≡ 0 → all ≡ counts) → (status ≡ 1 → EndsWithLine tells line before (with_output_failure_counted counts) w all) → counts ≡ no_faults
    → AreFaultsOfHost all failures w f → AreLinesWithinFailures all failures f → AreFaultsWithinFailures all failures f
faults-synced zero tells line before counts all failures w f bound ok err none faults lines = faults-none all failures w f (ok refl ∙ none) faults
faults-synced (suc n) tells line before counts all failures w f bound ok err none faults lines =
    let one : suc n ≡ 1 = omega (arith, bound) in
    let ends = err one in faults-output_alone all failures w f
    (input-after_line ends.says.said (with_output_failure_counted counts) all ends.says.counts (ap (λ (h : Faults). h.input) none))
    (secrets-after_line ends.says.said (with_output_failure_counted counts) all ends.says.counts (ap (λ (h : Faults). h.secrets) none))
    (salt-after_line ends.says.said (with_output_failure_counted counts) all ends.says.counts (ap (λ (h : Faults). h.salt) none))
    faults lines
