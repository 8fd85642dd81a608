-- The file of a text says how it was made, and gives the text back.
use Rattle.std.proofs.Common.{◌≡◌, ℕ, ◌+◌, ◌-◌, ◌^◌, ◌<◌, List, ◌++◌, length, take, true, leb, arith, refl, ap, sym, ◌∙◌, append_assoc, length-append, length-take}
use Rattle.std.proofs.lemmas.Bool.Decides.{nat_tests}
use Rattle.std.proofs.lemmas.List.{take_at}
use Rattle.std.proofs.lemmas.Nat.{from_be_bytes-to_be_bytes_4}
use Rattle.std.proofs.Math.Nat.{mul-le-mul_left}
use Rattle.sha2.specs.Sha256.{sha256}
use Rattle.sha2.proofs.Facts256.{length-sha256}
use Rattle.macs.proofs.Keys.{length-hmac_sha256}
use Rattle.aes_ctr.specs.CounterMode.{KeyStreamPlace, counter_mode}
use Rattle.aes_ctr.proofs.KeyStream.{counter_mode_from-twice, length-counter_mode_from}
use Rattle.romix.specs.Costs.{IsInRange, Parameters}
use Rattle.encfile.specs.Header.{bytes_at, checksum, first_48_header_bytes, costs_of, header, salt_of}
use Rattle.encfile.specs.EncryptedFile.{HasRightHeaderHmac, body, cipher_key, hmac_key, encrypted_file, final_hmac, head, header_hmac, released_text}
use Rattle.encfile.specs.Encrypting.{FitsSha256, HasEncrypted}
use Rattle.encfile.specs.Inside.Lengths.{bytes_encrypted_so_far}
use Rattle.encfile.specs.Laws.{EncryptionRoundTrips}
use Rattle.encfile.specs.declared.enc.Enc.{Enc}
use Rattle.encfile.proofs.Pieces.{middle}

-- ---- lengths

pub length-first_48_header_bytes : (costs : Parameters) (salt : List ℕ) → length salt ≡ 32 → length (first_48_header_bytes costs salt) ≡ 48
length-first_48_header_bytes costs salt h = omega (arith, h)

length-checksum : (bytes : List ℕ) → length (checksum bytes) ≡ 16
length-checksum bytes = omega (arith, length-take 16 (sha256 bytes), length-sha256 bytes)

pub length-header : (costs : Parameters) (salt : List ℕ) → length salt ≡ 32 → length (header costs salt) ≡ 64
unfolding header
length-header costs salt h =
    let front : List ℕ = first_48_header_bytes costs salt in
    omega (arith, length-first_48_header_bytes costs salt h, length-checksum front, length-append front (checksum front))

pub length-head : (passphrase salt : List ℕ) (costs : Parameters) → length salt ≡ 32 → length (head passphrase salt costs) ≡ 96
unfolding head
length-head passphrase salt costs h =
    let front : List ℕ = header costs salt in
    let code : List ℕ = header_hmac passphrase salt costs in
    omega (arith, length-header costs salt h, length-hmac_sha256 (hmac_key passphrase salt costs) front, length-append front code)

pub length-body : (passphrase salt : List ℕ) (costs : Parameters) (text : List ℕ) → length salt ≡ 32
    → length (body passphrase salt costs text) ≡ 96 + length text
unfolding body
length-body passphrase salt costs text h =
    let key : List ℕ = cipher_key passphrase salt costs in
    omega (arith, length-head passphrase salt costs h, length-counter_mode_from key 0 text, length-append (head passphrase salt costs) (counter_mode key text))

pub length-encrypted_file : (passphrase salt : List ℕ) (costs : Parameters) (text : List ℕ) → length salt ≡ 32
    → length (encrypted_file passphrase salt costs text) ≡ 128 + length text
unfolding encrypted_file
length-encrypted_file passphrase salt costs text h =
    let front : List ℕ = body passphrase salt costs text in
    omega (arith, length-body passphrase salt costs text h, length-hmac_sha256 (hmac_key passphrase salt costs) front, length-append front (final_hmac passphrase salt costs text))

-- a body of a text below the limit fits SHA-256
pub FitsSha256-body : (passphrase salt : List ℕ) (costs : Parameters) (text : List ℕ) → length salt ≡ 32 → length text < 2 ^ 60
    → FitsSha256 (body passphrase salt costs text)
FitsSha256-body passphrase salt costs text h short = omega (arith, length-body passphrase salt costs text h)

-- ---- what a file says of itself

-- five lists, with the first one in front
first_of_five : (a b c d e : List ℕ) → a ++ b ++ c ++ d ++ e ≡ a ++ (b ++ (c ++ (d ++ e)))
first_of_five a b c d e = simp append_assoc

-- the whole file, with its costs and its salt in front
pub encrypted_file-front : (passphrase salt : List ℕ) (costs : Parameters) (text : List ℕ)
    → (rest : List ℕ) × (encrypted_file passphrase salt costs text ≡ first_48_header_bytes costs salt ++ rest)
unfolding encrypted_file body head header
encrypted_file-front passphrase salt costs text =
    let front : List ℕ = first_48_header_bytes costs salt in
    let code : List ℕ = header_hmac passphrase salt costs in
    let made : List ℕ = counter_mode (cipher_key passphrase salt costs) text in
    let end : List ℕ = final_hmac passphrase salt costs text in
    (checksum front ++ (code ++ (made ++ end)), first_of_five front (checksum front) code made end)

pub costs_of-front : (costs : Parameters) (salt rest : List ℕ) → IsInRange costs → costs_of (first_48_header_bytes costs salt ++ rest) ≡ costs
costs_of-front costs salt rest h =
    let r : costs.r < 2 ^ 32 = omega (arith, h.product, mul-le-mul_left costs.r h.p_low) in
    let p : costs.p < 2 ^ 32 = omega (arith, h.product, mul-le-mul_left costs.p h.r_low) in
    rw (from_be_bytes-to_be_bytes_4 costs.r r, from_be_bytes-to_be_bytes_4 costs.p p) refl

pub salt_of-front : (costs : Parameters) (salt rest : List ℕ) → length salt ≡ 32 → salt_of (first_48_header_bytes costs salt ++ rest) ≡ salt
salt_of-front costs salt rest h = take_at salt rest 32 h

pub costs_of-encrypted_file : (passphrase salt : List ℕ) (costs : Parameters) (text : List ℕ) → IsInRange costs
    → costs_of (encrypted_file passphrase salt costs text) ≡ costs
costs_of-encrypted_file passphrase salt costs text range =
    let whole = encrypted_file-front passphrase salt costs text in
    ap costs_of whole.1 ∙ costs_of-front costs salt whole.0 range

pub salt_of-encrypted_file : (passphrase salt : List ℕ) (costs : Parameters) (text : List ℕ) → length salt ≡ 32
    → salt_of (encrypted_file passphrase salt costs text) ≡ salt
salt_of-encrypted_file passphrase salt costs text long =
    let whole = encrypted_file-front passphrase salt costs text in
    ap salt_of whole.1 ∙ salt_of-front costs salt whole.0 long

-- bytes 48 to 63 are the checksum of bytes 0 to 47
pub checksum-encrypted_file : (passphrase salt : List ℕ) (costs : Parameters) (text : List ℕ) → length salt ≡ 32
    → bytes_at (encrypted_file passphrase salt costs text) 48 16 ≡ checksum (take 48 (encrypted_file passphrase salt costs text))
unfolding encrypted_file body head header
checksum-encrypted_file passphrase salt costs text h =
    let front : List ℕ = first_48_header_bytes costs salt in
    let sum : List ℕ = checksum front in
    let code : List ℕ = header_hmac passphrase salt costs in
    let made : List ℕ = counter_mode (cipher_key passphrase salt costs) text in
    let end : List ℕ = final_hmac passphrase salt costs text in
    let rest : List ℕ = code ++ (made ++ end) in
    let joined = first_of_five front sum code made end in
    let long : length front ≡ 48 = length-first_48_header_bytes costs salt h in
    ap (λ f. bytes_at f 48 16) (joined ∙ sym (append_assoc front sum rest)) ∙ middle front sum rest 48 16 long (length-checksum front)
    ∙ ap checksum (sym (ap (take 48) joined ∙ take_at front (sum ++ rest) 48 long))

-- bytes 64 to 95 are the HMAC of bytes 0 to 63
header_hmac-encrypted_file : (passphrase salt : List ℕ) (costs : Parameters) (text : List ℕ) → length salt ≡ 32
    → (bytes_at (encrypted_file passphrase salt costs text) 64 32 ≡ header_hmac passphrase salt costs)
    × (take 64 (encrypted_file passphrase salt costs text) ≡ header costs salt)
unfolding encrypted_file body head
header_hmac-encrypted_file passphrase salt costs text h =
    let front : List ℕ = header costs salt in
    let code : List ℕ = header_hmac passphrase salt costs in
    let made : List ℕ = counter_mode (cipher_key passphrase salt costs) text in
    let end : List ℕ = final_hmac passphrase salt costs text in
    let joined : front ++ code ++ made ++ end ≡ front ++ code ++ (made ++ end) = append_assoc (front ++ code) made end in (
      ap (λ f. bytes_at f 64 32) joined ∙ middle front code (made ++ end) 64 32 (length-header costs salt h) (length-hmac_sha256 (hmac_key passphrase salt costs) front),
      ap (take 64) (joined ∙ append_assoc front code (made ++ end)) ∙ take_at front (code ++ (made ++ end)) 64 (length-header costs salt h),
    )

pub HasRightHeaderHmac-encrypted_file : (passphrase salt : List ℕ) (costs : Parameters) (text : List ℕ) → length salt ≡ 32 → IsInRange costs
    → HasRightHeaderHmac (encrypted_file passphrase salt costs text) passphrase
HasRightHeaderHmac-encrypted_file passphrase salt costs text long range =
    let code = header_hmac-encrypted_file passphrase salt costs text long in
    rw (costs_of-encrypted_file passphrase salt costs text range, salt_of-encrypted_file passphrase salt costs text long, code.0, code.1) refl

-- ---- the text comes back

bytes_at-encrypted_file : (passphrase salt : List ℕ) (costs : Parameters) (text : List ℕ) → length salt ≡ 32
    → bytes_at (encrypted_file passphrase salt costs text) 96 (length text) ≡ counter_mode (cipher_key passphrase salt costs) text
unfolding encrypted_file body
bytes_at-encrypted_file passphrase salt costs text h =
    let key : List ℕ = cipher_key passphrase salt costs in
    middle (head passphrase salt costs) (counter_mode key text) (final_hmac passphrase salt costs text) 96 (length text)
    (length-head passphrase salt costs h) (length-counter_mode_from key 0 text)

pub released_text-encrypted_file : (passphrase salt : List ℕ) (costs : Parameters) (text : List ℕ) → length salt ≡ 32 → IsInRange costs
    → released_text (encrypted_file passphrase salt costs text) passphrase ≡ text
unfolding released_text
released_text-encrypted_file passphrase salt costs text long range =
    let file : List ℕ = encrypted_file passphrase salt costs text in
    let len = length-encrypted_file passphrase salt costs text long in
    let enough : leb 128 (length file) ≡ true = grind (arith, nat_tests) in
    let count : length file - 128 ≡ length text = omega arith in
    rw (
      enough,
      count,
      costs_of-encrypted_file passphrase salt costs text range,
      salt_of-encrypted_file passphrase salt costs text long,
      bytes_at-encrypted_file passphrase salt costs text long,
    ) (counter_mode_from-twice (cipher_key passphrase salt costs) 0 text)

pub EncryptionRoundTrips-is : (passphrase salt : List ℕ) (costs : Parameters) (text : List ℕ) → length salt ≡ 32 → IsInRange costs → length text < 2 ^ 60
    → EncryptionRoundTrips passphrase salt costs text
EncryptionRoundTrips-is passphrase salt costs text long range short = record {
  code = HasRightHeaderHmac-encrypted_file passphrase salt costs text long range;
  released = released_text-encrypted_file passphrase salt costs text long range;
  encryption = record {
    salt = salt;
    costs = costs;
    salt_has_32_bytes = long;
    in_range = range;
    below_limit = short;
    bytes = refl;
  };
}

-- ---- a running encryption

-- its text is as long as it says
pub bytes_encrypted_so_far-is : (enc : Enc) (passphrase salt : List ℕ) (costs : Parameters) (text : List ℕ) → HasEncrypted enc passphrase salt costs text
    → length text ≡ bytes_encrypted_so_far enc
bytes_encrypted_so_far-is enc passphrase salt costs text h = sym (ap (λ (p : KeyStreamPlace). p.position) h.state.cipher)
