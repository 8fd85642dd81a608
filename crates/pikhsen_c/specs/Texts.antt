-- What the calls for encoded texts do, each with the machine that it is handed.
use Rattle.std.specs.Prelude.{◌≡◌, ℕ, List, length}
use Rattle.pikhsen_c.specs.Argon2.{IsVerdict, IsVerifyNumber, Parameters, RefusesEncoding, encoded_keyed_hash, encoded_keyed_status}
use Rattle.pikhsen_c.specs.Heap.{EncodesAtMostOnce, TestsAtMostOnce}
use Rattle.pikhsen_c.specs.Message.{IsWrittenAsCString}
use Rattle.pikhsen_c.specs.declared.machine.Machine.{Machine}

-- the encoded text of a password's hash, with a secret value K and associated data X (RFC 9106, 3.1), is written to the front of
-- a buffer, with a byte 0 after it; or it is refused by the first number that holds, or for want of memory. What that asks of
-- the machine is the text, then one matrix and the block functions of one hash
pub record EncodesHash (parameters : Parameters) (password salt secret associated : List ℕ) (max_kib max_ops status len : ℕ)
    (before after : List ℕ) (machine_before machine_after : Machine) : Type 0 where
  pub written : status ≡ 0 → IsWrittenAsCString (encoded_keyed_hash parameters password salt secret associated) len before after
  pub refusal : RefusesEncoding parameters salt (length secret) (length associated) max_kib max_ops status len before after
  pub machine : EncodesAtMostOnce parameters
      (encoded_keyed_status parameters salt (length secret) (length associated) max_kib max_ops (length before))
      status machine_before machine_after

-- a password is tested against a text, with a secret value K and associated data X (3.1): what the number says of the text,
-- that there is no other number, and what the test asks of the machine
pub record JudgesPassword (text password secret associated : List ℕ) (max_kib max_ops status : ℕ) (before after : Machine) : Type 0 where
  pub verdict : IsVerdict text password secret associated max_kib max_ops status
  pub number : IsVerifyNumber status
  pub machine : TestsAtMostOnce text password (length secret) (length associated) max_kib max_ops status before after
