-- What contracts see of a BLAKE2b hash whose message is handed in piece by piece.
use Rattle.std.specs.Prelude.{◌≡◌, ℕ, ◌+◌, ◌*◌, ◌++◌, List, length, take, drop}
use Rattle.blake.specs.declared.hasher.Blake2b.{Blake2b}
use Rattle.blake.specs.Blake2b.{state_after, message_blocks_before_last}

-- how many bytes the hash has that s will give (RFC 7693, 2.1: nn)
abbrev pub hash_len : Blake2b → ℕ
hash_len s = s.out_len

-- how many bytes of message s was handed so far (RFC 7693, 2.1: ll)
abbrev pub hashed_message_len : Blake2b → ℕ
hashed_message_len s = s.total

-- the state h has taken in all blocks of m but the last, and the first `used` bytes of the buffer b
-- are that last block (RFC 7693, 3.3)
pub record IsAbsorbed (n : ℕ) (h b : List ℕ) (used : ℕ) (m : List ℕ) : Type 0 where
  pub state : h ≡ state_after n m (message_blocks_before_last m)
  pub length_is : length m ≡ 128 * message_blocks_before_last m + used
  pub last_block : take used b ≡ drop (128 * message_blocks_before_last m) m

-- s will give a hash of n bytes, and was handed the message m
unfoldable pub Holds : ℕ → Blake2b → List ℕ → Type 0
Holds n s m = (hash_len s ≡ n) × (hashed_message_len s ≡ length m) × IsAbsorbed n s.state s.buffer s.used m

-- a hash was handed these bytes: they follow its message, whatever that was, which has so many more; and it will give as
-- many bytes as before
pub record IsHandedNext (bytes : List ℕ) (before after : Blake2b) : Type 0 where
  pub answer_len : hash_len after ≡ hash_len before
  pub message_len : hashed_message_len after ≡ hashed_message_len before + length bytes
  pub message : (n : ℕ) (m : List ℕ) → Holds n before m → Holds n after (m ++ bytes)
