-- The ends of a run do not depend on S, where its costs are admitted.
use Rattle.std.proofs.Common.{◌≡◌, inl, inr, ℕ, List, Option, Some, None, option_map, refl, ap, sym, subst, ◌∙◌}
use Rattle.std.specs.Prelude.{if◌then◌else◌}
use Rattle.std.specs.Option.{option_or}
use Rattle.romix.specs.Allowance.{Allowance}
use Rattle.encfile.specs.Front.{FrontRefusal, allowance_refusal, format_refusal, front_refusal, has_right_header_hmac, file_refusal_before_passphrase}
use Rattle.encfile.specs.Front.FrontRefusal.{WrongPassphrase}
use Rattle.encfile.specs.Header.{costs_of}
use Rattle.encfile.proofs.Fronts.{file_refusal_before_passphrase-costs, file_refusal_before_passphrase-format}
use Rattle.host.specs.HostState.{HostState}
use Rattle.scrypt_run.specs.Decrypting.{DecryptRefused, DecryptSucceeds}
use Rattle.scrypt_run.specs.Encrypting.{EncryptRefused, EncryptSucceeds}
use Rattle.scrypt_run.specs.Laws.{AdmitsCosts, request_with_keep}
use Rattle.scrypt_run.specs.Refusal.{refusal_of}
use Rattle.scrypt_request.specs.Request.{Encryption, Request, Task, allowance_of, decrypt, encrypt, inspect}
use Rattle.scrypt_run.specs.Run.{ScryptRequestRefused, ScryptRequestSucceeds}
use Rattle.scrypt_request.specs.declared.refusal.ScryptRefusal.{ScryptRefusal}
use Rattle.scrypt_run.proofs.Openings.{none_refuses}

-- ---- what refuses a file

by_format : (file : List ℕ) (a b : Allowance) (told : Option FrontRefusal) → format_refusal file ≡ told
    → (format_refusal file ≡ None → allowance_refusal (costs_of file) a ≡ None) → (format_refusal file ≡ None → allowance_refusal (costs_of file) b ≡ None)
    → file_refusal_before_passphrase file a ≡ file_refusal_before_passphrase file b
by_format file a b None valid ha hb = file_refusal_before_passphrase-costs file a valid ∙ ha valid ∙ sym (file_refusal_before_passphrase-costs file b valid ∙ hb valid)
by_format file a b (Some r) told ha hb = file_refusal_before_passphrase-format file a r told ∙ sym (file_refusal_before_passphrase-format file b r told)

-- where both admit its costs, if it has a header
same_limits : (file : List ℕ) (a b : Allowance) → (format_refusal file ≡ None → allowance_refusal (costs_of file) a ≡ None)
    → (format_refusal file ≡ None → allowance_refusal (costs_of file) b ≡ None) → file_refusal_before_passphrase file a ≡ file_refusal_before_passphrase file b
same_limits file a b ha hb = by_format file a b (format_refusal file) refl ha hb

same_front : (file : List ℕ) (a b : Allowance) (passphrase : List ℕ) → file_refusal_before_passphrase file a ≡ file_refusal_before_passphrase file b
    → front_refusal file a passphrase ≡ front_refusal file b passphrase
unfolding front_refusal
same_front file a b passphrase same =
    ap (λ first. option_or first (if has_right_header_hmac file passphrase then None else Some WrongPassphrase)) same

-- ---- the runs

abbrev encryption_with : ℕ → Encryption → Encryption
encryption_with keep asked = let task : Task = record (asked.task) { keep = keep } in record asked { task = task }

abbrev task_with : ℕ → Task → Task
task_with keep task = record task { keep = keep }

encrypted_with : (asked : Encryption) (keep : ℕ) (before after : HostState) → AdmitsCosts (encrypt (encryption_with keep asked)) before
    → EncryptSucceeds asked before after → EncryptSucceeds (encryption_with keep asked) before after
encrypted_with asked keep before after admits done = record {
  admitted = admits;
  passphrase = done.passphrase;
  given = done.given;
  encrypted = done.encrypted;
}

decrypted_with : (task : Task) (keep : ℕ) (before after : HostState)
    → file_refusal_before_passphrase before.input (allowance_of task) ≡ file_refusal_before_passphrase before.input (allowance_of (task_with keep task))
    → DecryptSucceeds task before after → DecryptSucceeds (task_with keep task) before after
decrypted_with task keep before after same done = record {
  passphrase = done.passphrase;
  given = done.given;
  passes = sym (same_front before.input (allowance_of task) (allowance_of (task_with keep task)) done.passphrase same) ∙ done.passes;
  decrypted = done.decrypted;
}

pub succeeds_with_any : (request : Request) (keep : ℕ) (before after : HostState) → AdmitsCosts request before → AdmitsCosts (request_with_keep keep request) before
    → ScryptRequestSucceeds request before after → ScryptRequestSucceeds (request_with_keep keep request) before after
succeeds_with_any (encrypt asked) keep before after one other done = encrypted_with asked keep before after other done
succeeds_with_any (decrypt task) keep before after one other done =
    decrypted_with task keep before after (same_limits before.input (allowance_of task) (allowance_of (task_with keep task)) one other) done
succeeds_with_any (inspect infile) keep before after one other done = done

encrypt_refused_with : (asked : Encryption) (keep : ℕ) (before after : HostState) (r : ScryptRefusal) → AdmitsCosts (encrypt asked) before
    → AdmitsCosts (encrypt (encryption_with keep asked)) before → EncryptRefused r asked before after
    → EncryptRefused r (encryption_with keep asked) before after
encrypt_refused_with asked keep before after r one other (inl told) =
    absurd (none_refuses (allowance_refusal asked.costs (allowance_of asked.task)) r one told.0)
encrypt_refused_with asked keep before after r one other (inr ends) = inr (other, ends.1)

decrypt_refused_with : (task : Task) (keep : ℕ) (before after : HostState) (r : ScryptRefusal)
    → file_refusal_before_passphrase before.input (allowance_of task) ≡ file_refusal_before_passphrase before.input (allowance_of (task_with keep task))
    → DecryptRefused r task before after → DecryptRefused r (task_with keep task) before after
decrypt_refused_with task keep before after r same (inl (inl failed)) = inl (inl failed)
decrypt_refused_with task keep before after r same (inl (inr told)) =
    inl (inr (subst (λ first. option_map refusal_of first ≡ Some r) same told.0, told.1))
decrypt_refused_with task keep before after r same (inr (checked, inl refused)) = inr (sym same ∙ checked, inl refused)
decrypt_refused_with task keep before after r same (inr (checked, inr (passphrase, given, inl lacks))) =
    inr (sym same ∙ checked, inr (passphrase, given, inl lacks))
decrypt_refused_with task keep before after r same (inr (checked, inr (passphrase, given, inr (inl told)))) =
    let front = same_front before.input (allowance_of task) (allowance_of (task_with keep task)) passphrase same in
    inr (sym same ∙ checked, inr (passphrase, given, inr (inl (ap (option_map refusal_of) (sym front) ∙ told.0, told.1))))
decrypt_refused_with task keep before after r same (inr (checked, inr (passphrase, given, inr (inr ends)))) =
    let front = same_front before.input (allowance_of task) (allowance_of (task_with keep task)) passphrase same in
    inr (sym same ∙ checked, inr (passphrase, given, inr (inr (sym front ∙ ends.0, ends.1))))

pub refused_with_any : (request : Request) (keep : ℕ) (before after : HostState) (r : ScryptRefusal) → AdmitsCosts request before
    → AdmitsCosts (request_with_keep keep request) before → ScryptRequestRefused r request before after → ScryptRequestRefused r (request_with_keep keep request) before after
refused_with_any (encrypt asked) keep before after r one other refused = encrypt_refused_with asked keep before after r one other refused
refused_with_any (decrypt task) keep before after r one other refused =
    decrypt_refused_with task keep before after r (same_limits before.input (allowance_of task) (allowance_of (task_with keep task)) one other) refused
refused_with_any (inspect infile) keep before after r one other refused = refused
