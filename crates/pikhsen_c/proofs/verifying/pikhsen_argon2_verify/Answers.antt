use Rattle.std.proofs.Common.{◌≡◌, ℕ, Bool, true, false, not, nat_le, nat_lt, List, length, Some, None, if◌then◌else◌}
use Rattle.argon.specs.Argon2.{block_count}
use Rattle.argon.specs.Counts.{work}
use Rattle.argon_text.specs.Verifying.{parameters_of_value}
use Rattle.argon_text.specs.declared.fault.VerifyFault.TheVariants.{PasswordLength, InputLength, MemoryLimit, WorkLimit}
use Rattle.pikhsen_c.specs.Argon2.{HasKeyedVerifyFault}
use Rattle.pikhsen_c.proofs.verifying.pikhsen_argon2_verify.Goals as goal

-- three tests, in the order of the faults
never : (password memory ops : Bool)
    → (if not password then Some PasswordLength
    else if memory then Some MemoryLimit
    else if ops then Some WorkLimit
    else None) ≡ Some InputLength
    → ⊥
never true true ops told = cc
never true false true told = cc
never true false false told = cc
never false memory ops told = cc

-- with no secret and no associated data their lengths are no fault
no_input_fault : (text password : List ℕ) (max_kib max_ops : ℕ)
    → HasKeyedVerifyFault (Some InputLength) text password 0 0 max_kib max_ops → ⊥
no_input_fault text password max_kib max_ops judged =
    never (nat_le (length password) 0xFFFFFFFF) (nat_lt max_kib (block_count (parameters_of_value judged.value password)))
    (nat_lt max_ops (work (parameters_of_value judged.value password))) judged.refused

pub returns-clause-no_input : goal.returns-clause-no_input
returns-clause-no_input c =
    λ told. no_input_fault c.args.text.now c.args.password.now
    c.args.max_kib c.args.max_ops (c.pikhsen_argon2_verify_keyed.ensures.judges.verdict.input_len told)
