use Rattle.std.proofs.Common.{length, take, drop, [], List, ℕ, ◌-◌, ◌≡◌, ◌<◌, ◌≤◌, ◌^◌, IsTrue}
use Rattle.romix.specs.Costs.{Parameters}
use Rattle.encfile.specs.EncryptedFile.{body}
use Rattle.encfile.specs.Encrypting.{HasEncrypted}
use Rattle.encfile.specs.Inside.Lengths.{bytes_encrypted_so_far}
use Rattle.scrypt_run.specs.Steps.{after_pull_and_push}
use Rattle.scrypt_run.proofs.encrypt.write_header_and_ciphertext.Given as goal

abbrev pub invariant-loop-n : goal.invariant-loop-n
invariant-loop-n g l =
    let before = g.H.Host.seen l.fn.host in
    let j = bytes_encrypted_so_far l.enc in record {
      buf_long : length l.buf ≡ 4096;
      grants : g.H.Host.grants l.host ≡ g.H.Host.grants l.fn.host;
      same : g.H.Host.faults l.host ≡ g.H.Host.faults l.fn.host;
      begun : (passphrase salt : List ℕ) × (costs : Parameters) × (text : List ℕ) × HasEncrypted l.enc passphrase salt costs text;
      below : j < 2 ^ 60;
      within : IsTrue g.H.Host.tells → j ≤ length before.input;
      left : IsTrue g.H.Host.tells → (g.H.Host.seen l.host).input ≡ drop j before.input;
      holds : IsTrue g.H.Host.tells → (passphrase salt : List ℕ) (costs : Parameters) → HasEncrypted l.fn.enc passphrase salt costs []
          → HasEncrypted l.enc passphrase salt costs (take j before.input);
      passes : IsTrue g.H.Host.tells → (passphrase salt : List ℕ) (costs : Parameters) → HasEncrypted l.fn.enc passphrase salt costs []
          → g.H.Host.seen l.host ≡ after_pull_and_push (body passphrase salt costs) j before;
    }

abbrev pub decreases-loop-n : goal.decreases-loop-n
decreases-loop-n g l = 2 ^ 60 - bytes_encrypted_so_far l.enc
