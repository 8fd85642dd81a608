-- What a run leaves of a system.
use Rattle.std.proofs.Common.{◌≡◌, Bool, true, false, Option, None, Some, refl, sym, subst, ap, is_none, if◌then◌else◌, option_map}
use Rattle.host.specs.HostState.{SecretSource, Text}
use Rattle.tools.specs.RunState.{RunState, IsAt, Leaves, granted_calls_at_stage, host_seen, is_output_opened}
use Rattle.host.specs.Faults.{Faults}
use Rattle.tools.specs.SystemState.{Files, SystemState}
use Rattle.tools.specs.declared.run.InputStage.{InputStage}
use Rattle.tools.specs.declared.run.OutputStage.{OutputStage}
use Rattle.host.specs.AskedSource.{asked_source}
use Rattle.tools.proofs.run.Run.into_system.Goals as goal

IsFalse : Bool → Type 0
IsFalse true = ⊥
IsFalse false = Unit {0}

-- nothing was emptied where no output is in use; one that is in use has a name
unemptied-where : (is_used : Bool) (asked : Option (Option Text)) (is_emptied : Bool) → (is_used ≡ true → is_none asked ≡ false)
    → (is_used ≡ false → is_emptied ≡ false) → (if is_used then asked else None) ≡ None → is_emptied ≡ false
unfolding IsFalse
unemptied-where false asked is_emptied named unused none = unused refl
unemptied-where true None is_emptied named unused none = elim (subst IsFalse (sym (named refl)) tt) [ ]
unemptied-where true (Some name) is_emptied named unused none = elim (subst IsFalse (ap is_none none) tt) [ ]

leaves-at : (h : RunState) (input_stage : InputStage) (output_stage : OutputStage) (asked : Option SecretSource) (salted told : Bool)
    (w : SystemState) (failures : Faults) (f : Files) → h ≡ record { state = w; failures = failures; system_files = f; grants = granted_calls_at_stage input_stage output_stage asked salted; asked = asked; salted = salted; told = told }
    → IsAt input_stage output_stage asked salted told (granted_calls_at_stage input_stage output_stage asked salted) w f → Leaves w (host_seen h)
leaves-at h input_stage output_stage asked salted told w failures f is at = subst (λ k. Leaves w (host_seen k)) (sym is) (record {
  held = record { state = w; failures = failures; system_files = f; grants = granted_calls_at_stage input_stage output_stage asked salted; asked = asked; salted = salted; told = told };
  over = refl;
  same = refl;
  secret = at.secret;
  random = at.random;
  unemptied = unemptied-where (is_output_opened output_stage) w.output_asked w.is_emptied at.named at.unemptied;
})

pub returns-clause-leaves : goal.returns-clause-leaves
returns-clause-leaves g c = λ t.
    leaves-at _ c.self.inside.input c.self.inside.output (option_map asked_source c.self.inside.asked) c.self.inside.salted
    c.self.inside.told _ _ _ (sym c.self.view_is) (c.self.invariant t)
