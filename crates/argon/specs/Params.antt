-- Tested parameters, as contracts see them.
use Rattle.std.specs.Prelude.{◌≡◌, ℕ, Result, IfOk}
use Rattle.argon.specs.Kind.{type_number}
use Rattle.argon.specs.Parameters.{Parameters, segment_len}
use Rattle.argon.specs.Range.{IsInRangeWithAnyPassword}
use Rattle.argon.specs.declared.fault.ParamFault.{ParamFault}
use Rattle.argon.specs.declared.params.Params.TheInside.{Inside}

-- the numbers given
abbrev pub parameters_of : Inside → Parameters
parameters_of params = record {
  kind = type_number params.kind;
  version = params.version;
  passes = params.passes;
  lanes = params.lanes;
  memory_kib = params.memory_kib;
  tag_len = params.tag_len;
  salt_len = params.salt_len;
  password_len = params.password_len;
}

-- what holds of the fields
pub record AreArgon2Params (params : Inside) : Type 0 where
  pub in_range : IsInRangeWithAnyPassword (parameters_of params)
  pub segment : params.segment_len ≡ segment_len (parameters_of params)

-- a test of parameters with this result: where they are accepted, they are these numbers, as they were given
abbrev pub AreAsGiven : ℕ → ℕ → ℕ → ℕ → ℕ → ℕ → ℕ → ℕ → Result Parameters ParamFault → Type 0
AreAsGiven kind version passes lanes memory_kib tag_len salt_len password_len result = IfOk result (λ p. p ≡ record {
  kind = kind;
  version = version;
  passes = passes;
  lanes = lanes;
  memory_kib = memory_kib;
  tag_len = tag_len;
  salt_len = salt_len;
  password_len = password_len;
})
