-- What the steps of transposing and of ShiftRows do to planes, which hold a pair of blocks at each bit; and what the
-- planes of a key schedule do to a text.
use Rattle.std.specs.Prelude.{◌≡◌, ℕ, ◌+◌, ◌-◌, ◌*◌, ◌/◌, ◌%◌, ◌==◌, ◌<◌, ◌++◌, ◌⊎◌, Bool, List, drop, if◌then◌else◌, take}
use Rattle.std.specs.Int.{bit_at}
use Rattle.aes_ctr.specs.Aes.{add_round_key, byte_at, key_schedule, aes_state_of_entries, mix_columns, shift_rows, sub_bytes}
use Rattle.aes_ctr.specs.CounterMode.{XorsKeyStream}
use Rattle.aes_ctr.specs.Planes.{AreBytes, AreKeyPlanes, BitPlanesHoldBytes, IsAesBlock, bits, plane, round_key}

-- two blocks, one after the other
abbrev pub IsBlockPair : List ℕ → Type 0
IsBlockPair pair = AreBytes 32 pair

-- eight planes before a step and after it are pairs
abbrev pub ArePlanesOfBlockPairs : List (List ℕ) → List (List ℕ) → Type 0
ArePlanesOfBlockPairs before after = (k : ℕ) → k < 8 → IsBlockPair (plane before k) × IsBlockPair (plane after k)

-- what f makes of the first block of a pair, and of the second
abbrev pub applied_to_both_blocks : (List ℕ → List ℕ) → List ℕ → List ℕ
applied_to_both_blocks f pair = f (take 16 pair) ++ f (drop 16 pair)

-- bit b of what f and g make of a byte: bit i through f, if it is `first`, else bit j through g
abbrev pub TakesBitFromOneOfTwo : (ℕ → ℕ) → (ℕ → ℕ) → Bool → ℕ → ℕ → ℕ → Type 0
TakesBitFromOneOfTwo f g first b i j =
    (byte : ℕ) → byte < 256 → (bit_at (f byte) b ≡ (if first then bit_at byte i else 0))
    × (bit_at (g byte) b ≡ (if first then 0 else bit_at byte j))

-- a plane merges two, by f of the bytes of the first and g of those of the second: each bit that these take from one of
-- the two is the bit of that one; and all three are pairs
pub record MergesPlanes (f g : ℕ → ℕ) (first second merged : List ℕ) : Type 0 where
  pub taken : (from_first : Bool) (b i j : ℕ) → TakesBitFromOneOfTwo f g from_first b i j
      → bits b merged ≡ (if from_first then bits i first else bits j second)
  pub pairs : IsBlockPair first × IsBlockPair second × IsBlockPair merged

-- the byte `low` has the bits whose numbers have the binary digit 0 of weight d
abbrev pub AreLowBits : ℕ → ℕ → Type 0
AreLowBits d low = ((d ≡ 1) × (low ≡ 0x55)) ⊎ ((d ≡ 2) × (low ≡ 0x33)) ⊎ ((d ≡ 4) × (low ≡ 0x0f))

-- x with the binary digit t of weight d
abbrev pub with_bit_replaced : ℕ → ℕ → ℕ → ℕ
with_bit_replaced d x t =
    if t == 0 then (if x / d % 2 == 0 then x else x - d) else (if x / d % 2 == 0 then x + d else x)

-- the bit and the plane that bit b of plane k comes from, where the digit of weight d of the bits' numbers and the lowest
-- digit of the planes' numbers change places, and the planes' lowest digit then becomes their highest
abbrev pub bit_before : ℕ → ℕ → ℕ → ℕ
bit_before d b k = with_bit_replaced d b (k / 4)

abbrev pub plane_before : ℕ → ℕ → ℕ → ℕ
plane_before d b k = with_bit_replaced 1 (2 * (k % 4)) (b / d % 2)

-- bit b of plane k comes from bit `bit_before` of plane `plane_before`
abbrev pub AreExchanged : ℕ → List (List ℕ) → List (List ℕ) → Type 0
AreExchanged d planes exchanged =
    (b k : ℕ) → b < 8 → k < 8 → bits b (plane exchanged k) ≡ bits (bit_before d b k) (plane planes (plane_before d b k))

-- each byte of the state takes the place of the one that stands a row above it
unfoldable pub row_below_in_plane : List ℕ → List ℕ
row_below_in_plane state = aes_state_of_entries (λ row column. byte_at state ((row + 1) % 4) column)

-- ---- steps of the cipher

-- where the planes before a step hold two blocks at bit b, those after it hold what f makes of each
abbrev pub AppliesToBothBlocks : ℕ → (List ℕ → List ℕ) → List (List ℕ) → List (List ℕ) → Type 0
AppliesToBothBlocks b f before after =
    (first second : List ℕ) → IsAesBlock first → IsAesBlock second → BitPlanesHoldBytes b before (first ++ second)
    → BitPlanesHoldBytes b after (f first ++ f second)

-- the planes of a round hold its key at bit b
abbrev pub HoldRoundKey : ℕ → List (List ℕ) → ℕ → List (List ℕ) → Type 0
HoldRoundKey b words round planes = BitPlanesHoldBytes b (drop (8 * round) planes) (round_key words round)

-- a block after one of the rounds with MixColumns, and after the last one, which has none (FIPS 197, 5.1)
abbrev pub after_round : List (List ℕ) → ℕ → List ℕ → List ℕ
after_round words round block = add_round_key words round (mix_columns (shift_rows (sub_bytes block)))

abbrev pub after_last_round : List (List ℕ) → List ℕ → List ℕ
after_last_round words block = add_round_key words 14 (shift_rows (sub_bytes block))

-- a text was xored with the key stream from the block with a number on, of each key whose planes these are
abbrev pub XorsKeyStreamByPlanes : List (List ℕ) → ℕ → List ℕ → List ℕ → Type 0
XorsKeyStreamByPlanes planes number before after =
    (key : List ℕ) → AreKeyPlanes (key_schedule key) planes → XorsKeyStream key (16 * number) before after
