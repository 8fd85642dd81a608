-- The secret source that a run asked, at each of its ends.
use Rattle.std.proofs.Common.{◌≡◌, ◌⊎◌, inl, inr, ℕ, List, Option, None, ap}
use Rattle.encfile.specs.Front.{FrontRefusal}
use Rattle.host.specs.Output.{IsOutputCutShort}
use Rattle.host.specs.HostState.{HostState, Text, after_ask_output}
use Rattle.scrypt_run.specs.Decrypting.{DecryptRefused}
use Rattle.scrypt_run.specs.Encrypting.{EncryptRefused}
use Rattle.scrypt_run.specs.Front.{FrontRefused}
use Rattle.scrypt_run.specs.Inside.Decrypting.{DecryptRefusedFromOutputOn}
use Rattle.scrypt_run.specs.Inspecting.{InspectRefused}
use Rattle.scrypt_run.specs.Laws.{AsksNoOtherSecretSource}
use Rattle.scrypt_request.specs.Request.{Encryption, Request, Task, decrypt, encrypt, inspect}
use Rattle.scrypt_run.specs.Run.{ScryptRequestRefused, ScryptRequestSucceeds}
use Rattle.scrypt_run.specs.Text.{RefusesDuringText}
use Rattle.scrypt_request.specs.declared.refusal.ScryptRefusal.{ScryptRefusal}

-- the same host has the same source
same_source : (s t : HostState) → t ≡ s → t.asked ≡ s.asked
same_source s t same = ap (λ (w : HostState). w.asked) same

-- ---- the ends of a step leave the source

of_front : (r : ScryptRefusal) (first : Option FrontRefusal) (infile : Option Text) (before after : HostState) → FrontRefused r first infile before after
    → after.asked ≡ before.asked
of_front r first infile before after (inl (is, inl same)) = same_source _ after same
of_front r first infile before after (inl (is, inr cut)) = same_source _ after cut.reads
of_front r first infile before after (inr told) = same_source _ after told.1

of_text : (r : ScryptRefusal) (limit most : ℕ) (gives decides : List ℕ → List ℕ) (before after : HostState)
    → RefusesDuringText r limit most gives decides before after → after.asked ≡ before.asked
of_text r limit most gives decides before after (inl reading) = same_source _ after reading.1.passes
of_text r limit most gives decides before after (inr (inl writing)) = same_source _ after writing.1.passes
of_text r limit most gives decides before after (inr (inr long)) = same_source _ after long.1.passes

of_release : (r : ScryptRefusal) (passphrase front : List ℕ) (outfile : Option Text) (before after : HostState)
    → DecryptRefusedFromOutputOn r passphrase front outfile before after → after.asked ≡ before.asked
of_release r passphrase front outfile before after (inl failed) = same_source _ after failed.1
of_release r passphrase front outfile before after (inr (inl ends)) = of_text r _ _ _ _ _ after ends
of_release r passphrase front outfile before after (inr (inr damaged)) = same_source _ after damaged.1.released

of_line : (LacksMemory FailsOutput : Type 0) (line : List ℕ) (before after : HostState)
    → (LacksMemory × (after ≡ before)) ⊎ (FailsOutput × (after ≡ after_ask_output None before)) ⊎ (FailsOutput × IsOutputCutShort None line before after) → after.asked ≡ before.asked
of_line LacksMemory FailsOutput line before after (inl lacks) = same_source _ after lacks.1
of_line LacksMemory FailsOutput line before after (inr (inl failed)) = same_source _ after failed.1
of_line LacksMemory FailsOutput line before after (inr (inr cut)) = same_source _ after cut.1.begun

-- ---- the runs

of_enc : (r : ScryptRefusal) (asked : Encryption) (before after : HostState) → EncryptRefused r asked before after → AsksNoOtherSecretSource (encrypt asked) before after
of_enc r asked before after (inl told) = inl (same_source _ after told.1)
of_enc r asked before after (inr (admitted, inl failed)) = inl (same_source _ after failed.1)
of_enc r asked before after (inr (admitted, inr (inl refused))) = inr (same_source _ after refused.1)
of_enc r asked before after (inr (admitted, inr (inr (passphrase, given, inl failed)))) = inr (same_source _ after failed.2)
of_enc r asked before after (inr (admitted, inr (inr (passphrase, given, inr (inl lacks))))) = inr (same_source _ after lacks.1)
of_enc r asked before after (inr (admitted, inr (inr (passphrase, given, inr (inr (inl failed)))))) = inr (same_source _ after failed.1)
of_enc r asked before after (inr (admitted, inr (inr (passphrase, given, inr (inr (inr ends)))))) = inr (of_text r _ _ _ _ _ after ends)

of_dec : (r : ScryptRefusal) (task : Task) (before after : HostState) → DecryptRefused r task before after → AsksNoOtherSecretSource (decrypt task) before after
of_dec r task before after (inl front) = inl (of_front r _ task.infile before after front)
of_dec r task before after (inr (checked, inl refused)) = inr (same_source _ after refused.1)
of_dec r task before after (inr (checked, inr (passphrase, given, inl lacks))) = inr (same_source _ after lacks.1)
of_dec r task before after (inr (checked, inr (passphrase, given, inr (inl told)))) = inr (same_source _ after told.1)
of_dec r task before after (inr (checked, inr (passphrase, given, inr (inr ends)))) = inr (of_release r _ _ _ _ after ends.1)

of_info : (r : ScryptRefusal) (infile : Option Text) (before after : HostState) → InspectRefused r infile before after → AsksNoOtherSecretSource (inspect infile) before after
of_info r infile before after (inl front) = inl (of_front r _ infile before after front)
of_info r infile before after (inr ends) = inl (of_line _ _ _ _ after ends.1)

pub asks_at_success : (request : Request) (before after : HostState) → ScryptRequestSucceeds request before after → AsksNoOtherSecretSource request before after
asks_at_success (encrypt asked) before after done = inr (same_source _ after done.encrypted.written)
asks_at_success (decrypt task) before after done = inr (same_source _ after done.decrypted.released)
asks_at_success (inspect infile) before after done = inl (same_source _ after done.written)

pub asks_at_refusal : (request : Request) (before after : HostState) (r : ScryptRefusal) → ScryptRequestRefused r request before after → AsksNoOtherSecretSource request before after
asks_at_refusal (encrypt asked) before after r refused = of_enc r asked before after refused
asks_at_refusal (decrypt task) before after r refused = of_dec r task before after refused
asks_at_refusal (inspect infile) before after r refused = of_info r infile before after refused
