-- HMAC (RFC 2104) with SHA-256, whose blocks have 64 bytes. Keys, messages and codes are lists of bytes.
use Rattle.std.specs.Prelude.{ℕ, ◌-◌, List, ◌++◌, length, map, replicate, bit_xor, nat_le, if◌then◌else◌}
use Rattle.sha2.specs.Sha256.{sha256}

-- every byte of a list, xored with one byte (section 2, steps 2 and 5)
abbrev pub xored_with_byte : ℕ → List ℕ → List ℕ
xored_with_byte byte bytes = map (λ b. bit_xor b byte) bytes

-- the key, hashed first if it has more than 64 bytes (section 2)
abbrev pub key_hashed_if_long : List ℕ → List ℕ
key_hashed_if_long key = if nat_le (length key) 64 then key else sha256 key

-- K: the key with zeros appended, up to 64 bytes (section 2, step 1)
unfoldable pub key_block : List ℕ → List ℕ
key_block key = key_hashed_if_long key ++ replicate (64 - length (key_hashed_if_long key)) 0

-- K xor ipad (section 2, step 2)
abbrev pub inner_key : List ℕ → List ℕ
inner_key key = xored_with_byte 0x36 (key_block key)

-- K xor opad (section 2, step 5)
abbrev pub outer_key : List ℕ → List ℕ
outer_key key = xored_with_byte 0x5C (key_block key)

-- the code: H(K xor opad, H(K xor ipad, text)) (section 2, steps 1 to 7)
unfoldable pub hmac_sha256 : List ℕ → List ℕ → List ℕ
hmac_sha256 key message = sha256 (outer_key key ++ sha256 (inner_key key ++ message))
