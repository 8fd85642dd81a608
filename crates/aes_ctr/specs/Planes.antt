-- Bytes side by side in eight planes. Public contracts cite `AreKeyPlanes` alone of this.
use Rattle.std.specs.Prelude.{◌≡◌, ℕ, ◌+◌, ◌*◌, ◌<◌, List, [], drop, length, map, slice_index, slice_index_or}
use Rattle.std.specs.Int.{bit_at}
use Rattle.std.specs.Simd.Lanes.{Each1}
use Rattle.aes_ctr.specs.Aes.{aes_state_of_entries, word_at}

-- bit i of each of some bytes
abbrev pub bits : ℕ → List ℕ → List ℕ
bits i bytes = map (λ byte. bit_at byte i) bytes

-- plane k of some planes
abbrev pub plane : List (List ℕ) → ℕ → List ℕ
plane planes k = slice_index_or planes k []

-- the planes hold those bytes at bit b: bit k of each byte is bit b of the lane of plane k in its place
abbrev pub BitPlanesHoldBytes : ℕ → List (List ℕ) → List ℕ → Type 0
BitPlanesHoldBytes b planes bytes = (k : ℕ) → k < 8 → bits b (plane planes k) ≡ bits k bytes

-- a list of n bytes
abbrev pub AreBytes : ℕ → List ℕ → Type 0
AreBytes n bytes = (length bytes ≡ n) × Each1 (λ byte. byte < 256) bytes

-- a list of 16 bytes
abbrev pub IsAesBlock : List ℕ → Type 0
IsAesBlock block = AreBytes 16 block

-- the bytes of a round key (FIPS 197, 5.1.4)
unfoldable pub round_key : List (List ℕ) → ℕ → List ℕ
round_key words round =
    aes_state_of_entries (λ row column. slice_index (word_at words (4 * round + column)) row)

-- the eight planes of each round hold its key at each bit
abbrev pub AreKeyPlanes : List (List ℕ) → List (List ℕ) → Type 0
AreKeyPlanes words planes =
    (round : ℕ) → round < 15 → IsAesBlock (round_key words round)
    × ((b : ℕ) → b < 8 → BitPlanesHoldBytes b (drop (8 * round) planes) (round_key words round))
