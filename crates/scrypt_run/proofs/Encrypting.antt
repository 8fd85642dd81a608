-- The beginnings of an encrypted file, as a run writes them.
use Rattle.std.proofs.Common.{◌≡◌, ◌≤◌, ◌<◌, ◌+◌, ◌^◌, ◌++◌, ◌==◌, ◌∙◌, ◌⊎◌, inl, inr, ℕ, Bool, true, false, List, [], None, IsTrue, take, length, if◌then◌else◌, ap, sym, refl, subst, arith, length-append}
use Rattle.std.proofs.lemmas.Grind.{common_steps}
use Rattle.std.proofs.lemmas.List.{append-nil}
use Rattle.romix.specs.Costs.{Parameters}
use Rattle.encfile.specs.EncryptedFile.{body, encrypted_file, final_hmac}
use Rattle.encfile.specs.Encrypting.{HasEncrypted}
use Rattle.encfile.specs.Inside.Lengths.{bytes_encrypted_so_far}
use Rattle.encfile.specs.declared.enc.Enc.{Enc}
use Rattle.encfile.proofs.Files.{length-body, length-encrypted_file, bytes_encrypted_so_far-is}
use Rattle.host.specs.HostState.{HostState, after_ask_secret, after_open_input, after_pull, after_push}
use Rattle.scrypt_run.specs.Encrypting.{EncryptRefused, after_salt_asked, after_salting, costs_refusal_of, decided, salt_used}
use Rattle.scrypt_run.specs.Inside.Encrypting.{EncryptRefusedFromOutputOn, IsStarted, SaltRefused, StartRefused}
use Rattle.scrypt_run.specs.Passphrase.{HasPassphrase, PassphraseRefused, first_line_of_source}
use Rattle.scrypt_request.specs.Request.{Encryption}
use Rattle.scrypt_run.specs.Steps.{after_pull_and_push}
use Rattle.scrypt_run.specs.Text.{RefusesDuringText, FailsWriting}
use Rattle.scrypt_request.specs.declared.refusal.ScryptRefusal.{ScryptRefusal}
use Rattle.scrypt_request.specs.declared.refusal.ScryptRefusal.TheVariants as refusal
use Rattle.host.proofs.Pulls.{begun_on}
use Rattle.host.proofs.Pushes.{push_push}
use Rattle.scrypt_run.proofs.Ends.{first_line_of_source-reading, salt_used-opening}

-- ---- the passphrase and the salt

-- an encryption that was started after the input's opening has the passphrase and the salt of the run
pub started_before : (tells : Bool) (asked : Encryption) (enc : Enc) (s t u : HostState) → IsTrue tells → t ≡ after_open_input asked.task.infile s → IsStarted tells asked t u enc
    → (passphrase : List ℕ) × HasPassphrase (first_line_of_source asked.task.source s) passphrase × HasEncrypted enc passphrase (salt_used asked.salt s) asked.costs []
    × (u ≡ after_salt_asked asked s)
started_before tells asked enc s t u told opened started =
    let line = ap (first_line_of_source asked.task.source) opened ∙ first_line_of_source-reading asked.task.source asked.task.infile 0 s in
    let salt = started.salted told ∙ ap (salt_used asked.salt) opened ∙ salt_used-opening asked.salt asked.task.infile s in (
      started.passphrase,
      subst (λ l. HasPassphrase l started.passphrase) line (started.given told),
      subst (λ xs. HasEncrypted enc started.passphrase xs asked.costs []) salt started.begun,
      started.asks told ∙ ap (λ w. after_salting asked.salt (after_ask_secret asked.task.source w)) opened,
    )

-- no salt, or no memory
salt_or_memory : (asked : Encryption) (before after : HostState) (passphrase : List ℕ) (r : ScryptRefusal) → SaltRefused asked.salt r ⊎ (r ≡ refusal.OutOfMemory)
    → after ≡ after_salt_asked asked before
    → ((r ≡ refusal.SaltFault) × (asked.salt ≡ None) × (after ≡ after_salt_asked asked before))
    ⊎ ((r ≡ refusal.OutOfMemory) × (after ≡ after_salt_asked asked before))
    ⊎ EncryptRefusedFromOutputOn r passphrase (salt_used asked.salt before) asked.costs asked.task.outfile (after_salt_asked asked before) after
salt_or_memory asked before after passphrase r (inl (is, none)) left = inl (is, none, left)
salt_or_memory asked before after passphrase r (inr is) left = inr (inl (is, left))

-- what refused its start refuses the run
pub start_ends : (asked : Encryption) (before opened after : HostState) (r : ScryptRefusal) → costs_refusal_of asked ≡ None → opened ≡ after_open_input asked.task.infile before
    → StartRefused r asked opened after → EncryptRefused r asked before after
start_ends asked before opened after r passes opens (inl (refused, same)) =
    let line = ap (first_line_of_source asked.task.source) opens ∙ first_line_of_source-reading asked.task.source asked.task.infile 0 before in
    inr (passes, inr (inl (subst (λ l. PassphraseRefused r l) line refused, same ∙ ap (after_ask_secret asked.task.source) opens)))
start_ends asked before opened after r passes opens (inr (same, (passphrase, given), why)) =
    let line = ap (first_line_of_source asked.task.source) opens ∙ first_line_of_source-reading asked.task.source asked.task.infile 0 before in
    let left : after ≡ after_salt_asked asked before = same ∙ ap (λ w. after_salting asked.salt (after_ask_secret asked.task.source w)) opens in
    inr (passes, inr (inr (passphrase, subst (λ l. HasPassphrase l passphrase) line given, salt_or_memory asked before after passphrase r why left)))

-- ---- the text so far

-- a piece more was encrypted
pub bytes_encrypted_so_far-more : (enc next : Enc) (passphrase salt : List ℕ) (costs : Parameters) (text piece : List ℕ) (n : ℕ) → HasEncrypted enc passphrase salt costs text
    → HasEncrypted next passphrase salt costs (text ++ piece) → length piece ≡ n → bytes_encrypted_so_far enc + n ≡ bytes_encrypted_so_far next
bytes_encrypted_so_far-more enc next passphrase salt costs text piece n before after long =
    omega (arith, bytes_encrypted_so_far-is enc passphrase salt costs text before, bytes_encrypted_so_far-is next passphrase salt costs (text ++ piece) after, length-append text piece, long)

-- it stays below the limit
pub bytes_encrypted_so_far-below : (enc : Enc) (passphrase salt : List ℕ) (costs : Parameters) (text : List ℕ) → HasEncrypted enc passphrase salt costs text
    → bytes_encrypted_so_far enc < 2 ^ 60
bytes_encrypted_so_far-below enc passphrase salt costs text h = omega (arith, bytes_encrypted_so_far-is enc passphrase salt costs text h, h.below_limit)

-- ---- what is decided

take_first : (n : ℕ) (xs ys : List ℕ) → n ≤ length xs → take n (xs ++ ys) ≡ take n xs
take_first n xs ys few = grind (arith, common_steps, few)

take_whole : (k : ℕ) (xs : List ℕ) → k ≡ length xs → take k xs ≡ xs
take_whole k xs e = grind (arith, common_steps, e)

eq_self : (n : ℕ) → n == n ≡ true
eq_self n = grind (arith, common_steps)

-- the file is its body and the final code
with_code : (passphrase salt : List ℕ) (costs : Parameters) (text : List ℕ)
    → encrypted_file passphrase salt costs text ≡ body passphrase salt costs text ++ final_hmac passphrase salt costs text
unfolding encrypted_file
with_code passphrase salt costs text = refl

-- of which the code is 32 bytes
length-code : (passphrase salt : List ℕ) (costs : Parameters) (text code : List ℕ) → length salt ≡ 32
    → encrypted_file passphrase salt costs text ≡ body passphrase salt costs text ++ code → length code ≡ 32
length-code passphrase salt costs text code long is =
    omega (arith, length-encrypted_file passphrase salt costs text long, length-body passphrase salt costs text long, ap length is, length-append (body passphrase salt costs text) code)

-- what is decided goes on from the body so far by at most a code; by the test that the text is whole
tail_by : (whole : Bool) (passphrase salt : List ℕ) (costs : Parameters) (text : List ℕ) → length salt ≡ 32
    → (tail : List ℕ) × (length tail ≤ 32)
    × ((if whole then encrypted_file passphrase salt costs text else body passphrase salt costs text) ≡ body passphrase salt costs text ++ tail)
tail_by true passphrase salt costs text long =
    let code = final_hmac passphrase salt costs text in
    let short : length code ≡ 32 = length-code passphrase salt costs text code long (with_code passphrase salt costs text) in
    (code, omega (arith, short), with_code passphrase salt costs text)
tail_by false passphrase salt costs text long = ([], omega arith, sym (append-nil (body passphrase salt costs text)))

tail_of : (passphrase salt : List ℕ) (costs : Parameters) (size : ℕ) (text : List ℕ) → length salt ≡ 32
    → (tail : List ℕ) × (length tail ≤ 32) × (decided passphrase salt costs size text ≡ body passphrase salt costs text ++ tail)
tail_of passphrase salt costs size text long = tail_by (length text == size) passphrase salt costs text long

-- ---- how writing ends early

-- the first 96 bytes were cut short
pub header_cut : (passphrase salt : List ℕ) (costs : Parameters) (n : ℕ) (header : List ℕ) (s t : HostState) → length salt ≡ 32 → header ≡ body passphrase salt costs []
    → n < length header → t ≡ after_push (take n header) s → FailsWriting (2 ^ 60) 4096 (body passphrase salt costs) s t
header_cut passphrase salt costs n header s t long is few pushed = record {
  pulled = 0;
  below = omega arith;
  within = omega arith;
  written = n;
  begun = subst (λ xs. n < length xs) is few;
  missing = omega (arith, length-body passphrase salt costs [] long);
  passes = pushed ∙ ap (λ xs. after_push (take n xs) s) is;
}

-- a beginning of the body so far was written, so one of what is decided, of a text of any size
body_cut : (passphrase salt : List ℕ) (costs : Parameters) (size : ℕ) (s t : HostState) → length salt ≡ 32
    → FailsWriting (2 ^ 60) 4096 (body passphrase salt costs) s t → FailsWriting (2 ^ 60) 4128 (decided passphrase salt costs size) s t
body_cut passphrase salt costs size s t long f =
    let text = take f.pulled s.input in
    let begun = body passphrase salt costs text in
    let tail = tail_of passphrase salt costs size text long in
    let longer : length (decided passphrase salt costs size text) ≡ length begun + length tail.0 = ap length tail.2 ∙ length-append begun tail.0 in
    record {
      pulled = f.pulled;
      below = f.below;
      within = f.within;
      written = f.written;
      begun = omega (arith, f.begun, longer);
      missing = omega (arith, f.missing, longer, tail.1);
      passes = f.passes ∙ ap (λ xs. after_push xs (after_pull f.pulled s)) (sym (ap (take f.written) tail.2 ∙ take_first f.written begun tail.0 (omega (arith, f.begun))));
    }

-- the text's passing ended early
pub passing_ended : (r : ScryptRefusal) (passphrase salt : List ℕ) (costs : Parameters) (size : ℕ) (s t : HostState) → length salt ≡ 32
    → RefusesDuringText r (2 ^ 60) 4096 (body passphrase salt costs) (body passphrase salt costs) s t
    → RefusesDuringText r (2 ^ 60) 4128 (body passphrase salt costs) (decided passphrase salt costs size) s t
passing_ended r passphrase salt costs size s t long (inl f) = inl f
passing_ended r passphrase salt costs size s t long (inr (inl f)) = inr (inl (f.0, body_cut passphrase salt costs size s t long f.1))
passing_ended r passphrase salt costs size s t long (inr (inr f)) = inr (inr f)

-- the final code was cut short
pub code_cut : (passphrase salt : List ℕ) (costs : Parameters) (n : ℕ) (code : List ℕ) (s t u : HostState) → length salt ≡ 32 → length s.input < 2 ^ 60
    → body passphrase salt costs s.input ++ code ≡ encrypted_file passphrase salt costs s.input
    → t ≡ after_pull_and_push (body passphrase salt costs) (length s.input) s → n < length code → u ≡ after_push (take n code) t
    → FailsWriting (2 ^ 60) 4128 (decided passphrase salt costs (length s.input)) s u
code_cut passphrase salt costs n code s t u long short_text is passes few pushed =
    let size = length s.input in
    let begun = body passphrase salt costs s.input in
    let all : decided passphrase salt costs size (take size s.input) ≡ begun ++ code =
    ap (decided passphrase salt costs size) (take_whole size s.input refl)
    ∙ ap (λ b. if b then encrypted_file passphrase salt costs s.input else body passphrase salt costs s.input) (eq_self size) ∙ sym is in
    let longer : length (decided passphrase salt costs size (take size s.input)) ≡ length begun + length code = ap length all ∙ length-append begun code in
    let short : length code ≡ 32 = length-code passphrase salt costs s.input code long (sym is) in
    let so_far : t ≡ after_push begun (after_pull size s) =
    passes ∙ ap (λ xs. after_push (body passphrase salt costs xs) (after_pull size s)) (take_whole size s.input refl) in
    record {
      pulled = size;
      below = short_text;
      within = omega arith;
      written = length begun + n;
      begun = omega (arith, few, longer);
      missing = omega (arith, longer, short);
      passes = pushed ∙ ap (after_push (take n code)) so_far ∙ push_push begun (take n code) (after_pull size s)
          ∙ ap (λ xs. after_push xs (after_pull size s)) (begun_on begun code n ∙ ap (take (length begun + n)) (sym all));
    }
