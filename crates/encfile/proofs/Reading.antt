-- What a file's bytes decide before and at its end.
use Rattle.std.proofs.Common.{◌≡◌, ℕ, zero, suc, ◌+◌, ◌-◌, ◌^◌, ◌<◌, ◌≤◌, List, [], ◌∷◌, ◌++◌, length, take, drop, Bool, true, false, leb, arith, refl, ap, ap₂, sym, ◌∙◌, append_assoc, length-append, length-drop, length-take}
use Rattle.std.proofs.lemmas.Bool.Decides.{nat_tests}
use Rattle.std.proofs.lemmas.List.{drop_at, take_all, take_at, take-append-drop}
use Rattle.macs.specs.HmacSha256.{hmac_sha256}
use Rattle.macs.proofs.Keys.{length-hmac_sha256}
use Rattle.aes_ctr.specs.CounterMode.{KeyStreamPlace, counter_mode, counter_mode_from}
use Rattle.aes_ctr.proofs.KeyStream.{counter_mode_from-append, counter_mode_from-twice, length-counter_mode_from}
use Rattle.romix.specs.Costs.{IsInRange, Parameters}
use Rattle.encfile.specs.Header.{bytes_at, checksum, first_48_header_bytes, costs_of, header, salt_of}
use Rattle.encfile.specs.EncryptedFile.{IsEncryptionOf, body, cipher_key, hmac_key, derived_key, encrypted_file, head, header_hmac, released_text, right_header_hmac}
use Rattle.encfile.specs.Encrypting.{FitsSha256}
use Rattle.encfile.specs.Decrypting.{DecryptionHasRead, IsSplit, held_bytes}
use Rattle.encfile.specs.Inside.Lengths.{bytes_read_so_far}
use Rattle.encfile.specs.declared.dec.Dec.{Dec}
use Rattle.encfile.proofs.Files.{costs_of-encrypted_file, costs_of-front, length-head, salt_of-encrypted_file, salt_of-front}
use Rattle.encfile.proofs.Pieces.{bytes_at-take, place_after, same_end}
use Rattle.encfile.proofs.Headers.{costs_of-take}

-- ---- a file that begins with the right 96 bytes

-- with its costs and its salt in front
head-front : (passphrase salt : List ℕ) (costs : Parameters) (more : List ℕ) → (rest : List ℕ) × (head passphrase salt costs ++ more ≡ first_48_header_bytes costs salt ++ rest)
unfolding head header
head-front passphrase salt costs more =
    let front : List ℕ = first_48_header_bytes costs salt in
    let code : List ℕ = header_hmac passphrase salt costs in (
      checksum front ++ (code ++ more),
      append_assoc (front ++ checksum front) code more ∙ append_assoc front (checksum front) (code ++ more),
    )

costs_of-head : (passphrase salt : List ℕ) (costs : Parameters) (more : List ℕ) → IsInRange costs → costs_of (head passphrase salt costs ++ more) ≡ costs
costs_of-head passphrase salt costs more range =
    let whole = head-front passphrase salt costs more in
    ap costs_of whole.1 ∙ costs_of-front costs salt whole.0 range

salt_of-head : (passphrase salt : List ℕ) (costs : Parameters) (more : List ℕ) → length salt ≡ 32 → salt_of (head passphrase salt costs ++ more) ≡ salt
salt_of-head passphrase salt costs more long =
    let whole = head-front passphrase salt costs more in
    ap salt_of whole.1 ∙ salt_of-front costs salt whole.0 long

-- ---- what is released

none_below_one : (done : List ℕ) → length done < 1 → done ≡ []
none_below_one [] h = refl
none_below_one (x ∷ done) h = absurd (omega arith)

released_by : (file passphrase salt : List ℕ) (costs : Parameters) (done held : List ℕ) (enough : Bool) → leb 128 (length file) ≡ enough
    → costs_of file ≡ costs → salt_of file ≡ salt → length file ≡ 96 + (length done + length held) → drop 96 file ≡ done ++ held
    → length held ≤ 32 → (0 < length done → length held ≡ 32)
    → released_text file passphrase ≡ counter_mode (cipher_key passphrase salt costs) done
unfolding released_text counter_mode_from
released_by file passphrase salt costs done held true e same_costs same_salt long rest few full =
    let below : 128 ≤ length file = grind (arith, nat_tests) in
    let n : length file - 128 ≡ length done = grind (arith, nat_tests) in
    rw (e, n, same_costs, same_salt, rest) (ap (counter_mode (cipher_key passphrase salt costs)) (take_at done held (length done) refl))
released_by file passphrase salt costs done held false e same_costs same_salt long rest few full =
    let above : length file < 128 = grind (arith, nat_tests) in
    let none : done ≡ [] = none_below_one done (grind arith) in
    rw (e, none) refl

-- the length of a file in its parts
pub length-split : (file passphrase salt : List ℕ) (costs : Parameters) (done held : List ℕ) → IsSplit file passphrase salt costs done held
    → length file ≡ 96 + (length done + length held)
length-split file passphrase salt costs done held s =
    let front : List ℕ = head passphrase salt costs in
    omega (arith, ap length s.bytes, length-append front (done ++ held), length-append done held, length-head passphrase salt costs s.salt_has_32_bytes)

-- the length of a file that was read
pub length-read : (dec : Dec) (passphrase file : List ℕ) → DecryptionHasRead dec passphrase file → length file ≡ 96 + bytes_read_so_far dec
unfolding bytes_read_so_far
length-read dec passphrase file h = omega (
  arith,
  length-split file passphrase h.salt h.costs h.done h.held h.split,
  ap (λ (place : KeyStreamPlace). place.position) h.state.cipher,
  ap length h.state.held,
)

-- the bytes between the first 96 and the last ones are released
pub released_text-split : (file passphrase salt : List ℕ) (costs : Parameters) (done held : List ℕ) → IsSplit file passphrase salt costs done held
    → released_text file passphrase ≡ counter_mode (cipher_key passphrase salt costs) done
released_text-split file passphrase salt costs done held s =
    let more : List ℕ = done ++ held in
    let front = length-head passphrase salt costs s.salt_has_32_bytes in
    let same_costs : costs_of file ≡ costs = ap costs_of s.bytes ∙ costs_of-head passphrase salt costs more s.in_range in
    let same_salt : salt_of file ≡ salt = ap salt_of s.bytes ∙ salt_of-head passphrase salt costs more s.salt_has_32_bytes in
    let long = length-split file passphrase salt costs done held s in
    released_by file passphrase salt costs done held (leb 128 (length file)) refl same_costs same_salt long
    (ap (drop 96) s.bytes ∙ drop_at (head passphrase salt costs) more 96 front) s.few s.full

done_of : (done held all : ℕ) → all ≡ 96 + (done + held) → held ≤ 32 → (0 < done → held ≡ 32) → all - 128 ≡ done
done_of zero held all sum few full = omega arith
done_of (suc done) held all sum few full = let e : held ≡ 32 = full (omega arith) in omega arith

-- the last ones are held
pub held_bytes-split : (file passphrase salt : List ℕ) (costs : Parameters) (done held : List ℕ) → IsSplit file passphrase salt costs done held
    → held_bytes file ≡ held
held_bytes-split file passphrase salt costs done held s =
    let front = length-head passphrase salt costs s.salt_has_32_bytes in
    let n : length file - 128 ≡ length done =
    done_of (length done) (length held) (length file) (length-split file passphrase salt costs done held s) s.few s.full in
    let rest : drop 96 file ≡ done ++ held =
    ap (drop 96) s.bytes ∙ drop_at (head passphrase salt costs) (done ++ held) 96 front in
    ap₂ (λ (k : ℕ) (l : List ℕ). drop k l) n rest ∙ drop_at done held (length done) refl

-- a file of fewer than 128 bytes releases nothing
pub released_text-short : (file passphrase : List ℕ) → length file < 128 → released_text file passphrase ≡ []
unfolding released_text
released_text-short file passphrase h = let e : leb 128 (length file) ≡ false = grind (arith, nat_tests) in rw e refl

-- ---- the end of a file

-- the file of what some bytes decrypt to
encrypted_file-counter_mode : (passphrase salt : List ℕ) (costs : Parameters) (done : List ℕ)
    → encrypted_file passphrase salt costs (counter_mode (cipher_key passphrase salt costs) done)
    ≡ head passphrase salt costs ++ done ++ hmac_sha256 (hmac_key passphrase salt costs) (head passphrase salt costs ++ done)
unfolding encrypted_file body
encrypted_file-counter_mode passphrase salt costs done = rw (counter_mode_from-twice (cipher_key passphrase salt costs) 0 done) refl

-- where the last bytes are the code of those before, the whole is an encryption
pub encryption_by_code : (file passphrase salt : List ℕ) (costs : Parameters) (done held : List ℕ) → IsSplit file passphrase salt costs done held
    → length file < 2 ^ 60 + 128 → held ≡ hmac_sha256 (hmac_key passphrase salt costs) (head passphrase salt costs ++ done)
    → IsEncryptionOf file passphrase (released_text file passphrase)
encryption_by_code file passphrase salt costs done held s short code =
    let front : List ℕ = head passphrase salt costs in
    let text = released_text-split file passphrase salt costs done held s in
    let n : length held ≡ 32 = ap length code ∙ length-hmac_sha256 (hmac_key passphrase salt costs) (front ++ done) in
    let long = length-split file passphrase salt costs done held s in
    record {
      salt = salt;
      costs = costs;
      salt_has_32_bytes = s.salt_has_32_bytes;
      in_range = s.in_range;
      below_limit = omega (arith, ap length text, length-counter_mode_from (cipher_key passphrase salt costs) 0 done, short, n, long);
      bytes = s.bytes ∙ rw (text, encrypted_file-counter_mode passphrase salt costs done, ← append_assoc front done held, code) refl;
    }

-- where the whole is an encryption, the last bytes are the code of those before
pub code_by_encryption : (file passphrase salt : List ℕ) (costs : Parameters) (done held : List ℕ) → IsSplit file passphrase salt costs done held
    → IsEncryptionOf file passphrase (released_text file passphrase)
    → held ≡ hmac_sha256 (hmac_key passphrase salt costs) (head passphrase salt costs ++ done)
code_by_encryption file passphrase salt costs done held s w =
    let front : List ℕ = head passphrase salt costs in
    let text : List ℕ = released_text file passphrase in
    let made : List ℕ = counter_mode (cipher_key passphrase salt costs) done in
    let code : List ℕ = hmac_sha256 (hmac_key passphrase salt costs) (front ++ done) in
    let same_costs : w.costs ≡ costs =
    sym (ap costs_of w.bytes ∙ costs_of-encrypted_file passphrase w.salt w.costs text w.in_range)
    ∙ (ap costs_of s.bytes ∙ costs_of-head passphrase salt costs (done ++ held) s.in_range) in
    let same_salt : w.salt ≡ salt =
    sym (ap salt_of w.bytes ∙ salt_of-encrypted_file passphrase w.salt w.costs text w.salt_has_32_bytes)
    ∙ (ap salt_of s.bytes ∙ salt_of-head passphrase salt costs (done ++ held) s.salt_has_32_bytes) in
    let sealed : file ≡ front ++ done ++ code =
    w.bytes ∙ ap (λ t. encrypted_file passphrase w.salt w.costs t) (released_text-split file passphrase salt costs done held s)
    ∙ ap (λ t. encrypted_file passphrase t w.costs made) same_salt
    ∙ ap (λ t. encrypted_file passphrase salt t made) same_costs ∙ encrypted_file-counter_mode passphrase salt costs done in
    let both : front ++ (done ++ held) ≡ front ++ (done ++ code) = sym s.bytes ∙ sealed ∙ append_assoc front done code in
    same_end done held code (length done) refl
    (same_end front (done ++ held) (done ++ code) 96 (length-head passphrase salt costs s.salt_has_32_bytes) both)

-- ---- one more piece

full_again : (done moved held piece next : ℕ) → (0 < done → held ≡ 32) → held ≤ 32 → moved + next ≡ held + piece → moved ≡ held + piece - 32
    → 0 < done + moved → next ≡ 32
full_again zero moved held piece next full few all count some = omega arith
full_again (suc done) moved held piece next full few all count some = let e : held ≡ 32 = full (omega arith) in omega arith

pub IsSplit-more : (file passphrase salt : List ℕ) (costs : Parameters) (done held piece moved next : List ℕ)
    → IsSplit file passphrase salt costs done held → moved ++ next ≡ held ++ piece → length moved ≡ length held + length piece - 32
    → length next ≤ 32 → IsSplit (file ++ piece) passphrase salt costs (done ++ moved) next
IsSplit-more file passphrase salt costs done held piece moved next s joined count few =
    let front : List ℕ = head passphrase salt costs in
    let all : length moved + length next ≡ length held + length piece = omega (arith, ap length joined, length-append moved next, length-append held piece) in
    record {
      salt_has_32_bytes = s.salt_has_32_bytes;
      in_range = s.in_range;
      few = few;
      full = λ some. full_again (length done) (length moved) (length held) (length piece) (length next) s.full s.few all count
          (omega (arith, some, length-append done moved));
      bytes = ap (λ l. l ++ piece) s.bytes
          ∙ rw (append_assoc front (done ++ held) piece, append_assoc done held piece, append_assoc done moved next, joined) refl;
    }

-- the text of one more piece
pub released_text-more : (file whole passphrase salt : List ℕ) (costs : Parameters) (done held moved next text : List ℕ) (place : KeyStreamPlace)
    → IsSplit file passphrase salt costs done held → IsSplit whole passphrase salt costs (done ++ moved) next
    → place ≡ place_after (cipher_key passphrase salt costs) (length done) → text ≡ counter_mode_from place.key place.position moved
    → released_text file passphrase ++ text ≡ released_text whole passphrase
released_text-more file whole passphrase salt costs done held moved next text place before after there made =
    let key : List ℕ = cipher_key passphrase salt costs in
    let e : 0 + length done ≡ length done = omega arith in
    rw (
      released_text-split file passphrase salt costs done held before,
      released_text-split whole passphrase salt costs (done ++ moved) next after,
      made,
      there,
      counter_mode_from-append key 0 done moved,
      e,
    ) refl

-- all but the last 32 bytes of a file below the limit fit SHA-256
pub FitsSha256-take : (n : ℕ) (file : List ℕ) → n < 2 ^ 60 + 96 → FitsSha256 (take n file)
FitsSha256-take n file h = omega (arith, length-take n file)

-- ---- the first 96 bytes

-- where they have a right header and a right code, they are the first bytes of a file
pub head_is : (front passphrase salt : List ℕ) (costs : Parameters) → length front ≡ 96 → take 64 front ≡ header costs salt
    → bytes_at front 64 32 ≡ hmac_sha256 (hmac_key passphrase salt costs) (take 64 front) → front ≡ head passphrase salt costs
unfolding head
head_is front passphrase salt costs long first code =
    let rest : take 32 (drop 64 front) ≡ drop 64 front = take_all 32 (drop 64 front) (omega (arith, length-drop 64 front)) in
    sym (take-append-drop 64 front) ∙ ap (λ t. take 64 front ++ t) (sym rest ∙ code) ∙ ap (λ t. t ++ hmac_sha256 (hmac_key passphrase salt costs) t) first

header-front : (costs : Parameters) (salt : List ℕ) → (rest : List ℕ) × (header costs salt ≡ first_48_header_bytes costs salt ++ rest)
unfolding header
header-front costs salt = (checksum (first_48_header_bytes costs salt), refl)

-- the costs and the salt that a header says
pub costs_of-header : (front salt : List ℕ) (costs : Parameters) → IsInRange costs → take 64 front ≡ header costs salt → costs_of front ≡ costs
costs_of-header front salt costs range first =
    let whole = header-front costs salt in
    sym (costs_of-take 64 front (omega arith)) ∙ ap costs_of (first ∙ whole.1) ∙ costs_of-front costs salt whole.0 range

pub salt_of-header : (front salt : List ℕ) (costs : Parameters) → length salt ≡ 32 → take 64 front ≡ header costs salt → salt_of front ≡ salt
salt_of-header front salt costs long first =
    let whole = header-front costs salt in
    sym (bytes_at-take 64 16 32 front (omega arith)) ∙ ap salt_of (first ∙ whole.1) ∙ salt_of-front costs salt whole.0 long

-- what bytes 64 to 95 should be, by the keys of that header
pub right_header_hmac-is : (front passphrase salt keys code : List ℕ) (costs : Parameters) → length salt ≡ 32 → IsInRange costs
    → take 64 front ≡ header costs salt → keys ≡ derived_key passphrase salt costs → code ≡ hmac_sha256 (drop 32 keys) (take 64 front)
    → code ≡ right_header_hmac front passphrase
right_header_hmac-is front passphrase salt keys code costs long range first made h =
    h ∙ ap (λ k. hmac_sha256 (drop 32 k) (take 64 front)) made
    ∙ sym (ap₂ (λ (s : List ℕ) (k : Parameters). hmac_sha256 (hmac_key passphrase s k) (take 64 front))
    (salt_of-header front salt costs long first) (costs_of-header front salt costs range first))
