-- The derivation of a run, said of the host before it; and which ends come after it.
use Rattle.std.proofs.Common.{◌≡◌, ◌∙◌, ◌+◌, ◌≤◌, inl, inr, ℕ, List, Bool, true, false, Option, None, Some, Result, Ok, Err, IfErr, IsTrue, arith, ap, ap₂, refl, sym, subst}
use Rattle.std.proofs.lemmas.Option.{none-some}
use Rattle.romix.specs.Allowance.{Allowance, costs_with_allowed_keep}
use Rattle.romix.specs.Costs.{Parameters, cores}
use Rattle.romix.specs.Sparse.{sparse_table_core_count}
use Rattle.romix.specs.SparseCosts.{CostsAndKeep, cores_bound}
use Rattle.encfile.specs.EncryptedFile.{CountsDerivation, CountsWithinBound}
use Rattle.encfile.specs.Header.{CostsAndSalt, costs_of}
use Rattle.host.specs.HostState.{HostState, Text, after_open_input}
use Rattle.scrypt_run.specs.Asking.{RequestsMemoryBeforeRefusal}
use Rattle.scrypt_run.specs.Encrypting.{salt_used}
use Rattle.scrypt_run.specs.Inside.Decrypting.{DecryptRefusedFromOutputOn}
use Rattle.scrypt_run.specs.Inside.Encrypting.{CountsStart, EncryptRefusedFromOutputOn}
use Rattle.scrypt_run.specs.Inside.Front.{IsFrontOf}
use Rattle.scrypt_run.specs.Inside.Steps.{AsksHeaderMemoryOnce, AsksMemoryOnce, CountsOneDerivation, MayFollowWork, WorksOnce}
use Rattle.scrypt_run.specs.Passphrase.{HasPassphrase, first_line_of_source}
use Rattle.scrypt_request.specs.Refusal.{comes_only_after_work}
use Rattle.scrypt_request.specs.Request.{Encryption, Task, allowance_of}
use Rattle.scrypt_run.specs.Steps.{after_reading_first_bytes}
use Rattle.scrypt_run.specs.Work.{CountsDecryptionWork, CountsEncryptionWork, CountsWorkWithin, DerivesOnce, EndsAfterWork}
use Rattle.scrypt_request.specs.declared.refusal.ScryptRefusal.{ScryptRefusal}
use Rattle.scrypt_run.proofs.Ends.{first_line_of_source-reading, salt_used-opening}

-- ---- the derivation

-- of the same line, salt, costs and S
pub derives_as : (line other : Option (List ℕ)) (salt used : List ℕ) (sparse same : CostsAndKeep) (m n : ℕ) → line ≡ other → salt ≡ used → sparse ≡ same
    → DerivesOnce line salt sparse m n → DerivesOnce other used same m n
derives_as line other salt used sparse same m n hl hs hp derives = record {
  passphrase = derives.passphrase;
  given = subst (λ l. HasPassphrase l derives.passphrase) hl derives.given;
  count = derives.count ∙ ap₂ (λ (xs : List ℕ) (s : CostsAndKeep). m + sparse_table_core_count derives.passphrase xs s) hs hp;
}

-- with a workspace that was reserved for these costs and this S
pub derives_with : (tells : Bool) (line : Option (List ℕ)) (passphrase salt : List ℕ) (reserved sparse : CostsAndKeep) (costs : Parameters) (m n : ℕ) → reserved ≡ sparse → sparse.costs ≡ costs
    → (IsTrue tells → HasPassphrase line passphrase) → CountsDerivation passphrase salt reserved m n → CountsWithinBound reserved m n → (reserved.keep ≡ 1 → n ≡ m + cores costs)
    → CountsOneDerivation tells line salt sparse m n
derives_with tells line passphrase salt reserved sparse costs m n same is given count bound whole = record {
  once = λ t. record { passphrase = passphrase; given = given t; count = count ∙ ap (λ (s : CostsAndKeep). m + sparse_table_core_count passphrase salt s) same };
  whole = λ keep. whole (ap (λ (s : CostsAndKeep). s.keep) same ∙ keep) ∙ ap (λ (c : Parameters). m + cores c) (sym is);
  within = subst (λ s. CountsWithinBound s m n) same bound;
}

-- the derivation of a new file is the one that is asked for
pub start_works : (tells : Bool) (asked : Encryption) (sparse : CostsAndKeep) (s t : HostState) (m n : ℕ) → IsTrue tells → t ≡ after_open_input asked.task.infile s
    → sparse ≡ costs_with_allowed_keep (allowance_of asked.task) asked.costs → CountsStart tells asked sparse t m n → CountsEncryptionWork asked s m n
start_works tells asked sparse s t m n told opens same counts =
    derives_as _ _ _ _ sparse _ m n (ap (first_line_of_source asked.task.source) opens ∙ first_line_of_source-reading asked.task.source asked.task.infile 0 s)
    (ap (salt_used asked.salt) opens ∙ salt_used-opening asked.salt asked.task.infile s) same (counts.once told)

-- the derivation of a file, with what its header says, is that of the input
pub file_works : (task : Task) (s t : HostState) (front : List ℕ) (said : CostsAndSalt) (sparse : CostsAndKeep) (m n : ℕ) → t ≡ after_reading_first_bytes task.infile 96 s
    → IsFrontOf s.input front said → sparse ≡ costs_with_allowed_keep (allowance_of task) said.costs → DerivesOnce (first_line_of_source task.source t) said.salt sparse m n
    → CountsDecryptionWork task s m n
file_works task s t front said sparse m n reads is same derives =
    derives_as _ _ said.salt _ sparse _ m n (ap (first_line_of_source task.source) reads ∙ first_line_of_source-reading task.source task.infile 96 s) is.salt
    (same ∙ ap (costs_with_allowed_keep (allowance_of task)) is.costs) derives

-- with S = 1 it takes the cores of its costs
pub whole_work : (tells : Bool) (line : Option (List ℕ)) (salt : List ℕ) (sparse : CostsAndKeep) (allowed : Allowance) (costs : Parameters) (m n : ℕ)
    → sparse ≡ costs_with_allowed_keep allowed costs → allowed.keep ≡ 1 → CountsOneDerivation tells line salt sparse m n → n ≡ m + cores costs
whole_work tells line salt sparse allowed costs m n same whole counts = (subst (λ s. CountsOneDerivation tells line salt s m n) same counts).whole whole

-- what follows either way
by_test : (b : Bool) (P : Type 0) → (b ≡ true → P) → (b ≡ false → P) → P
by_test true P if_true if_false = if_true refl
by_test false P if_true if_false = if_false refl

-- the work is within its limit, whatever the end
pub works_within : {A : Type 0} (result : Result A ScryptRefusal) (tells : Bool) (line : Option (List ℕ)) (salt : List ℕ) (sparse : CostsAndKeep) (m n most : ℕ)
    → cores_bound sparse ≤ most → WorksOnce result (CountsOneDerivation tells line salt sparse m n) m n → CountsWorkWithin most m n
works_within (Ok a) tells line salt sparse m n most few works = omega (arith, few, works.done.within)
works_within (Err r) tells line salt sparse m n most few works =
    by_test (comes_only_after_work r) _ (λ late. omega (arith, few, (works.worked late).within)) (λ early. omega (arith, works.unworked early))

-- what an end before the work leaves of the count
pub unworked_of : (r : ScryptRefusal) (s : HostState) {P : Type 0} → (EndsAfterWork r s → ⊥) → (comes_only_after_work r ≡ false → P) → P
unworked_of r s early unworked = by_test (comes_only_after_work r) _ (λ late. absurd (early (inl late))) unworked

-- ---- the memory

-- that of the same costs and S, of the same refusal
pub asked_as : {Source : Type 0} (after_workspace : Source → CostsAndKeep → Bool → Source) (before after : Source) (sparse same : CostsAndKeep) (r e : ScryptRefusal) → r ≡ e → sparse ≡ same
    → RequestsMemoryBeforeRefusal (after_workspace before sparse) r before after → RequestsMemoryBeforeRefusal (after_workspace before same) e before after
asked_as after_workspace before after sparse same r e hr hs asks =
    subst (λ x. RequestsMemoryBeforeRefusal (after_workspace before same) x before after) hr (subst (λ (x : CostsAndKeep). RequestsMemoryBeforeRefusal (after_workspace before x) r before after) hs asks)

-- a request that was granted before a step, which ends well or with a refusal that may follow the work
pub granted_before : {Source A : Type 0} (ask : Bool → Source) (r : Result A ScryptRefusal) (before after : Source) → after ≡ ask true → IfErr r MayFollowWork → AsksMemoryOnce ask r before after
granted_before ask (Ok a) before after asked late = asked
granted_before ask (Err e) before after asked late = inr (inr (late, asked))

-- the same of a request by the costs of a header
pub header_granted_before : {Source A : Type 0} (tells : Bool) (input : List ℕ) (ask : Parameters → Bool → Source) (r : Result A ScryptRefusal) (before after : Source) (costs : Parameters)
    → (IsTrue tells → costs ≡ costs_of input) → after ≡ ask costs true → IfErr r MayFollowWork → AsksHeaderMemoryOnce tells input ask r before after
header_granted_before tells input ask (Ok a) before after costs is asked late = record { costs = costs; of_header = is; asked = asked }
header_granted_before tells input ask (Err e) before after costs is asked late = record { costs = costs; of_header = is; asked = inr (inr (late, asked)) }

-- ---- after it, where no output was asked for

-- where no output was asked for, what comes after the work is a late refusal
pub late_of : (r : ScryptRefusal) (s : HostState) → s.output_asked ≡ None → EndsAfterWork r s → comes_only_after_work r ≡ true
late_of r s unasked (inl late) = late
late_of r s unasked (inr asked) = absurd (asked unasked)

-- ---- after it: every end from the output's opening on

-- the output that was asked for is as it was
same_output : (s t : HostState) → t ≡ s → t.output_asked ≡ s.output_asked
same_output s t same = ap (λ (w : HostState). w.output_asked) same

asked_after : (r : ScryptRefusal) (outfile : Option Text) (after : HostState) → after.output_asked ≡ Some outfile → EndsAfterWork r after
asked_after r outfile after asked = inr (λ none. none-some outfile (sym none ∙ asked))

pub release_after : (r : ScryptRefusal) (passphrase front : List ℕ) (outfile : Option Text) (before after : HostState)
    → DecryptRefusedFromOutputOn r passphrase front outfile before after → EndsAfterWork r after
release_after r passphrase front outfile before after (inl failed) = inl (ap comes_only_after_work failed.0)
release_after r passphrase front outfile before after (inr (inl (inl reading))) = asked_after r outfile after (same_output _ after reading.1.passes)
release_after r passphrase front outfile before after (inr (inl (inr (inl writing)))) = inl (ap comes_only_after_work writing.0)
release_after r passphrase front outfile before after (inr (inl (inr (inr long)))) = inl (ap comes_only_after_work long.0)
release_after r passphrase front outfile before after (inr (inr damaged)) = inl (ap comes_only_after_work damaged.0)

pub writing_after : (r : ScryptRefusal) (passphrase salt : List ℕ) (costs : Parameters) (outfile : Option Text) (before after : HostState)
    → EncryptRefusedFromOutputOn r passphrase salt costs outfile before after → EndsAfterWork r after
writing_after r passphrase salt costs outfile before after (inl failed) = inl (ap comes_only_after_work failed.0)
writing_after r passphrase salt costs outfile before after (inr (inl reading)) = asked_after r outfile after (same_output _ after reading.1.passes)
writing_after r passphrase salt costs outfile before after (inr (inr (inl writing))) = inl (ap comes_only_after_work writing.0)
writing_after r passphrase salt costs outfile before after (inr (inr (inr long))) = inl (ap comes_only_after_work long.0)
