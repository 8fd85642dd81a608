use Rattle.std.proofs.Common.{refl, codes, arith}
use Rattle.argon_text.specs.Vectors.{sample_encoded_text, sample_encoded_value}
use Rattle.argon2_verify.specs.Request.{default_limits}
use Rattle.argon2_verify.proofs.KnownHash.{known_hash}
use Rattle.argon2_verify.proofs.vectors.whole_runs.Goals as goal

pub returns-clause-right : goal.returns-clause-right
returns-clause-right c = λ same. record {
  inputs = record {
    request = record { file = codes "hash"; limits = default_limits };
    of_words = refl;
    line = sample_encoded_text;
    value = sample_encoded_value;
    says = known_hash;
    admitted = refl;
    password = codes "password";
    fits = omega arith;
    apart = λ _. refl;
    line_read = λ _. refl;
    password_read = λ _. refl;
    left = λ _. refl;
  };
  same = same;
}

pub returns-clause-wrong : goal.returns-clause-wrong
returns-clause-wrong c = λ other. record {
  inputs = record {
    request = record { file = codes "hash"; limits = default_limits };
    of_words = refl;
    line = sample_encoded_text;
    value = sample_encoded_value;
    says = known_hash;
    admitted = refl;
    password = codes "Password";
    fits = omega arith;
    apart = λ _. refl;
    line_read = λ _. refl;
    password_read = λ _. refl;
    left = λ _. refl;
  };
  other = other;
}
