-- A decryption that reads its file piece by piece.
use Rattle.std.proofs.Common.{◌≡◌, ◌<◌, ◌≤◌, ◌+◌, ◌^◌, ◌++◌, ◌∙◌, inl, inr, ℕ, List, [], Some, None, option_map, take, length, ap, sym, arith, length-append, append_assoc}
use Rattle.std.proofs.lemmas.List.{append-nil}
use Rattle.encfile.specs.Decrypting.{DecryptionHasRead}
use Rattle.encfile.specs.Inside.Lengths.{bytes_read_so_far}
use Rattle.encfile.specs.EncryptedFile.{released_text}
use Rattle.encfile.specs.declared.dec.Dec.{Dec}
use Rattle.encfile.proofs.Reading.{length-read, released_text-short}
use Rattle.encfile.proofs.Fronts.{front_refusal-wrong}
use Rattle.host.specs.HostState.{HostState}
use Rattle.scrypt_run.specs.Decrypting.{DecryptRefused, input_refusal_before_passphrase, released_text_of_header_and_rest}
use Rattle.scrypt_run.specs.Inside.Decrypting.{DecryptionStartRefused}
use Rattle.scrypt_run.specs.Passphrase.{first_line_of_source}
use Rattle.scrypt_run.specs.Refusal.{refusal_of}
use Rattle.scrypt_request.specs.Request.{Task, allowance_of}
use Rattle.scrypt_run.specs.Steps.{after_passphrase_asked}
use Rattle.scrypt_request.specs.declared.refusal.ScryptRefusal.{ScryptRefusal}

-- before the output was opened: the step's refusals among the run's
pub opening_ends : (task : Task) (before after : HostState) (r : ScryptRefusal) → 96 ≤ length before.input → input_refusal_before_passphrase task before ≡ None
    → after ≡ after_passphrase_asked task 96 before → DecryptionStartRefused r (first_line_of_source task.source before) (take 96 before.input) → DecryptRefused r task before after
opening_ends task before after r long checked same (inl refused) = inr (checked, inl (refused, same))
opening_ends task before after r long checked same (inr (inl (is, passphrase, given))) = inr (checked, inr (passphrase, given, inl (is, same)))
opening_ends task before after r long checked same (inr (inr (is, passphrase, given, wrong))) =
    let told = front_refusal-wrong before.input (allowance_of task) passphrase long checked wrong in
    inr (checked, inr (passphrase, given, inr (inl (ap (option_map refusal_of) told ∙ ap Some (sym is), same))))

-- where it has read no more, these are the first 96 bytes
pub length-first : (dec : Dec) (passphrase front : List ℕ) → DecryptionHasRead dec passphrase front → bytes_read_so_far dec ≡ 0 → length front ≡ 96
length-first dec passphrase front h none = omega (arith, length-read dec passphrase front h, none)

pub bytes_read_so_far-first : (dec : Dec) (passphrase front : List ℕ) → DecryptionHasRead dec passphrase front → length front ≡ 96 → bytes_read_so_far dec ≡ 0
bytes_read_so_far-first dec passphrase front h long = omega (arith, length-read dec passphrase front h, long)

-- they release nothing
pub released_text_of_header_and_rest-nil : (passphrase front : List ℕ) → length front ≡ 96 → released_text_of_header_and_rest passphrase front [] ≡ []
released_text_of_header_and_rest-nil passphrase front long =
    ap (λ file. released_text file passphrase) (append-nil front) ∙ released_text-short front passphrase (omega (arith, long))

-- a piece more was read
pub bytes_read_so_far-more : (dec next : Dec) (passphrase file piece : List ℕ) → DecryptionHasRead dec passphrase file → DecryptionHasRead next passphrase (file ++ piece)
    → bytes_read_so_far dec + length piece ≡ bytes_read_so_far next
bytes_read_so_far-more dec next passphrase file piece before after =
    omega (arith, length-read dec passphrase file before, length-read next passphrase (file ++ piece) after, length-append file piece)

-- its text was released
pub released_text_of_header_and_rest-more : (passphrase front done piece text : List ℕ)
    → released_text (front ++ done) passphrase ++ text ≡ released_text (front ++ done ++ piece) passphrase
    → released_text_of_header_and_rest passphrase front (done ++ piece) ≡ released_text_of_header_and_rest passphrase front done ++ text
released_text_of_header_and_rest-more passphrase front done piece text h = ap (λ f. released_text f passphrase) (sym (append_assoc front done piece)) ∙ sym h

-- the bytes after the first 96 stay below the limit
pub bytes_read_so_far-below : (dec : Dec) (passphrase file : List ℕ) → DecryptionHasRead dec passphrase file → bytes_read_so_far dec < 2 ^ 60 + 32
bytes_read_so_far-below dec passphrase file h = omega (arith, length-read dec passphrase file h, h.below_limit)
