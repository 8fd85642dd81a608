-- The inputs, as contracts see them (RFC 9106, 3.1).
use Rattle.std.specs.Prelude.{◌≡◌, ◌<◌, ◌^◌, length}
use Rattle.argon.specs.Parameters.{Parameters, Inputs}
use Rattle.argon.specs.declared.inputs.Inputs.{Inputs as Lent}

-- the texts of the code's inputs, which are lent
abbrev pub inputs_of : Lent → Inputs
inputs_of lent = record {
  password = lent.password.now;
  salt = lent.salt.now;
  secret = lent.secret.now;
  associated = lent.associated.now;
}

-- password and salt have the lengths that the parameters say, and secret and associated data fewer than 2^32 bytes
-- (3.1)
pub record InputsFitParameters (parameters : Parameters) (inputs : Inputs) : Type 0 where
  pub password : length inputs.password ≡ parameters.password_len
  pub salt : length inputs.salt ≡ parameters.salt_len
  pub secret : length inputs.secret < 2 ^ 32
  pub associated : length inputs.associated < 2 ^ 32
