use Rattle.std.proofs.Common.{length, take, drop, List, ℕ, ◌++◌, ◌-◌, ◌+◌, ◌≡◌, ◌<◌, ◌≤◌, ◌^◌, IsTrue}
use Rattle.encfile.specs.Decrypting.{DecryptionHasRead}
use Rattle.encfile.specs.Inside.Lengths.{bytes_read_so_far}
use Rattle.scrypt_run.specs.Decrypting.{released_text_of_header_and_rest}
use Rattle.scrypt_run.specs.Steps.{after_pull_and_push}
use Rattle.scrypt_run.proofs.decrypt.release.Given as goal

abbrev pub invariant-loop-n : goal.invariant-loop-n
invariant-loop-n g l =
    let before = g.H.Host.seen l.fn.host in
    let j = bytes_read_so_far l.dec in record {
      buf_long : length l.buf ≡ 4096;
      out_long : length l.out ≡ 4128;
      read : (passphrase file : List ℕ) × DecryptionHasRead l.dec passphrase file;
      grants : g.H.Host.grants l.host ≡ g.H.Host.grants l.fn.host;
      same : g.H.Host.faults l.host ≡ g.H.Host.faults l.fn.host;
      below : j < 2 ^ 60 + 32;
      within : IsTrue g.H.Host.tells → j ≤ length before.input;
      left : IsTrue g.H.Host.tells → (g.H.Host.seen l.host).input ≡ drop j before.input;
      holds : IsTrue g.H.Host.tells → (passphrase front : List ℕ) → DecryptionHasRead l.fn.dec passphrase front
          → DecryptionHasRead l.dec passphrase (front ++ take j before.input);
      passes : IsTrue g.H.Host.tells → (passphrase front : List ℕ) → DecryptionHasRead l.fn.dec passphrase front
          → g.H.Host.seen l.host ≡ after_pull_and_push (released_text_of_header_and_rest passphrase front) j before;
    }

abbrev pub decreases-loop-n : goal.decreases-loop-n
decreases-loop-n g l = 2 ^ 60 + 32 - bytes_read_so_far l.dec
