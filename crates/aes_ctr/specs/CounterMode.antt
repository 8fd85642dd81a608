-- The Counter mode (NIST SP 800-38A, 6.5) over AES-256, with the counter blocks of scrypt's encrypted files: the
-- nonce is 0 (FORMAT of Tarsnap's scrypt, version 0), and nonce and number of the block have 64 bits each, the
-- highest byte first (Tarsnap's code, crypto_aesctr.c; FORMAT does not say it).
use Rattle.std.specs.Prelude.{◌≡◌, ℕ, ◌+◌, ◌/◌, ◌%◌, ◌<◌, ◌^◌, List, [], ◌∷◌, ◌++◌, bit_xor, length, slice_index}
use Rattle.std.specs.Int.{w64, to_be_bytes}
use Rattle.aes_ctr.specs.Aes.{aes256}

-- T, the counter block with number n (SP 800-38A, 6.5): the nonce 0 (FORMAT), and n, of eight bytes each, the highest
-- first (Tarsnap's crypto_aesctr.c)
abbrev pub counter_block : ℕ → List ℕ
counter_block n = to_be_bytes w64 0 ++ to_be_bytes w64 n

-- O, the output block with number n, counted from 0: block n of the key stream (SP 800-38A, 6.5)
unfoldable pub key_stream_block : List ℕ → ℕ → List ℕ
key_stream_block key n = aes256 key (counter_block n)

-- the byte of the key stream at place i, counted from 0 (SP 800-38A, 6.5)
abbrev pub key_stream : List ℕ → ℕ → ℕ
key_stream key i = slice_index (key_stream_block key (i / 16)) (i % 16)

-- the text xored with the key stream from place i on (SP 800-38A, 6.5)
unfoldable pub counter_mode_from : List ℕ → ℕ → List ℕ → List ℕ
counter_mode_from key i [] = []
counter_mode_from key i (byte ∷ text) = bit_xor byte (key_stream key i) ∷ counter_mode_from key (i + 1) text

-- the text xored with the key stream from its first byte on (SP 800-38A, 6.5)
abbrev pub counter_mode : List ℕ → List ℕ → List ℕ
counter_mode key text = counter_mode_from key 0 text

-- a text became what it is xored with the key stream from place i on (SP 800-38A, 6.5)
abbrev pub XorsKeyStream : List ℕ → ℕ → List ℕ → List ℕ → Type 0
XorsKeyStream key i before after = after ≡ counter_mode_from key i before

-- the end of a text that begins at place i of the key stream is a place below 2^64
abbrev pub FitsKeyStream : ℕ → List ℕ → Type 0
FitsKeyStream i text = i + length text < 2 ^ 64

-- what contracts see of a `Ctr`: the 32 bytes of the key, and the place in its key stream, in bytes
pub record KeyStreamPlace : Type 0 where
  pub key : List ℕ
  pub position : ℕ

-- a text was xored with the key stream from a place on, and the place moved after it
pub record AppliesKeyStream (place moved : KeyStreamPlace) (before after : List ℕ) : Type 0 where
  pub xored : XorsKeyStream place.key place.position before after
  pub position : moved.position ≡ place.position + length before
  pub key : moved.key ≡ place.key
