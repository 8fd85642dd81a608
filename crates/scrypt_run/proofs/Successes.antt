-- What follows from a request's success: no other comes, `enc` wrote an encryption, and what refuses the request is from outside.
use Rattle.std.proofs.Common.{◌≡◌, ◌<◌, ◌^◌, ◌++◌, ◌⊎◌, inl, inr, ℕ, List, Option, take, length, ap, sym, ◌∙◌, arith}
use Rattle.std.proofs.lemmas.Grind.{common_steps}
use Rattle.encfile.specs.EncryptedFile.{encrypted_file}
use Rattle.encfile.specs.Front.{format_refusal}
use Rattle.host.specs.HostState.{HostState, Text, after_open_output}
use Rattle.scrypt_run.specs.Decrypting.{DecryptSucceeds, released_text_of_header_and_rest}
use Rattle.scrypt_run.specs.Encrypting.{EncryptRefused, EncryptSucceeds, costs_refusal_of, after_salt_asked, salt_used}
use Rattle.scrypt_run.specs.Inspecting.{InspectRefused, InspectSucceeds}
use Rattle.scrypt_run.specs.Laws.{IsFromOutside, IsRefusedFromOutside, WroteAnEncryption}
use Rattle.scrypt_request.specs.Request.{Encryption, Request, Task, decrypt, encrypt, inspect}
use Rattle.scrypt_run.specs.Run.{ScryptRequestRefused, ScryptRequestSucceeds}
use Rattle.scrypt_run.specs.Steps.{after_pull_and_push, after_passphrase_asked}
use Rattle.scrypt_run.specs.Text.{RefusesDuringText}
use Rattle.scrypt_request.specs.declared.refusal.ScryptRefusal.{ScryptRefusal}
use Rattle.scrypt_request.specs.declared.refusal.ScryptRefusal.TheVariants as refusal
use Rattle.scrypt_run.proofs.Openings.{decrypt_from_outside, front_from_outside, none_refuses, one_passphrase, genuine_by_success, passphrase_from_outside}

-- ---- one success

one_encryption : (asked : Encryption) (before a b : HostState) → EncryptSucceeds asked before a → EncryptSucceeds asked before b → a ≡ b
one_encryption asked before a b ha hb =
    let opened = after_salt_asked asked before in
    ha.encrypted.written
    ∙ ap (λ p. after_pull_and_push (encrypted_file p (salt_used asked.salt before) asked.costs) (length opened.input) (after_open_output asked.task.outfile opened))
    (one_passphrase _ ha.passphrase hb.passphrase ha.given hb.given)
    ∙ sym hb.encrypted.written

one_decryption : (task : Task) (before a b : HostState) → DecryptSucceeds task before a → DecryptSucceeds task before b → a ≡ b
one_decryption task before a b ha hb =
    let pulled = after_passphrase_asked task 96 before in
    ha.decrypted.released
    ∙ ap (λ p. after_pull_and_push (released_text_of_header_and_rest p (take 96 before.input)) (length pulled.input) (after_open_output task.outfile pulled))
    (one_passphrase _ ha.passphrase hb.passphrase ha.given hb.given)
    ∙ sym hb.decrypted.released

pub one_success : (request : Request) (before a b : HostState) → ScryptRequestSucceeds request before a → ScryptRequestSucceeds request before b → a ≡ b
one_success (encrypt asked) before a b ha hb = one_encryption asked before a b ha hb
one_success (decrypt task) before a b ha hb = one_decryption task before a b ha hb
one_success (inspect infile) before a b ha hb = ha.written ∙ sym hb.written

-- ---- what `enc` wrote

take_all : (xs : List ℕ) → take (length xs) xs ≡ xs
take_all xs = grind (arith, common_steps)

pub wrote_an_encryption : (asked : Encryption) (before after : HostState) → EncryptSucceeds asked before after → WroteAnEncryption asked before after
wrote_an_encryption asked before after done =
    let file_of : List ℕ → List ℕ = encrypted_file done.passphrase (salt_used asked.salt before) asked.costs in
    record {
      passphrase = done.passphrase;
      file = file_of before.input;
      given = done.given;
      encryption = done.encrypted.encryption;
      written = ap (λ (s : HostState). s.output) done.encrypted.written ∙ ap (λ xs. before.output ++ file_of xs) (take_all before.input);
    }

-- ---- no refusal of the product's own

text_from_outside : (r : ScryptRefusal) (gives decides : List ℕ → List ℕ) (before ended : HostState) → length before.input < 2 ^ 60
    → RefusesDuringText r (2 ^ 60) 4128 gives decides before ended → IsFromOutside r
text_from_outside r gives decides before ended short (inl reading) = inl reading.0
text_from_outside r gives decides before ended short (inr (inl writing)) = inr (inl writing.0)
text_from_outside r gives decides before ended short (inr (inr (is, long))) =
    absurd (let h : ⊥ = omega (arith, short, long.within, long.too_long) in h)

encrypt_from_outside : (asked : Encryption) (before after ended : HostState) (r : ScryptRefusal) → EncryptSucceeds asked before after
    → EncryptRefused r asked before ended → IsRefusedFromOutside (encrypt asked) r
encrypt_from_outside asked before after ended r done (inl told) = absurd (none_refuses (costs_refusal_of asked) r done.admitted told.0)
encrypt_from_outside asked before after ended r done (inr (admitted, inl failed)) = inl (inl failed.0)
encrypt_from_outside asked before after ended r done (inr (admitted, inr (inl refused))) =
    inl (passphrase_from_outside _ done.passphrase r done.given refused.0)
encrypt_from_outside asked before after ended r done (inr (admitted, inr (inr (passphrase, given, inl failed)))) = inr (failed.0, failed.1)
encrypt_from_outside asked before after ended r done (inr (admitted, inr (inr (passphrase, given, inr (inl lacks))))) = inl (inr (inr (inr lacks.0)))
encrypt_from_outside asked before after ended r done (inr (admitted, inr (inr (passphrase, given, inr (inr (inl failed)))))) = inl (inr (inl failed.0))
encrypt_from_outside asked before after ended r done (inr (admitted, inr (inr (passphrase, given, inr (inr (inr ends)))))) =
    inl (text_from_outside r _ _ _ ended done.encrypted.encryption.below_limit ends)

pub line_from_outside : (r : ScryptRefusal) (Unwritten Left CutShort : Type 0)
    → ((r ≡ refusal.OutOfMemory) × Unwritten) ⊎ ((r ≡ refusal.OutputFault) × Left) ⊎ ((r ≡ refusal.OutputFault) × CutShort) → IsFromOutside r
line_from_outside r Unwritten Left CutShort (inl lacks) = inr (inr (inr lacks.0))
line_from_outside r Unwritten Left CutShort (inr (inl failed)) = inr (inl failed.0)
line_from_outside r Unwritten Left CutShort (inr (inr failed)) = inr (inl failed.0)

inspect_from_outside : (infile : Option Text) (before after ended : HostState) (r : ScryptRefusal) → InspectSucceeds infile before after
    → InspectRefused r infile before ended → IsFromOutside r
inspect_from_outside infile before after ended r done (inl front) = front_from_outside (format_refusal before.input) infile before ended r done.valid front
inspect_from_outside infile before after ended r done (inr ends) = line_from_outside r _ _ _ ends.1

pub refused_from_outside : (request : Request) (before after ended : HostState) (r : ScryptRefusal) → ScryptRequestSucceeds request before after
    → ScryptRequestRefused r request before ended → IsRefusedFromOutside request r
refused_from_outside (encrypt asked) before after ended r done refused = encrypt_from_outside asked before after ended r done refused
refused_from_outside (decrypt task) before after ended r done refused =
    decrypt_from_outside task before ended done.passphrase r (genuine_by_success task before after done) refused
refused_from_outside (inspect infile) before after ended r done refused = inspect_from_outside infile before after ended r done refused
