use Rattle.std.proofs.Common.{◌≡◌, ℕ, List, [], ◌++◌, drop, arith, ap, subst, ◌∙◌}
use Rattle.macs.specs.HmacSha256.{hmac_sha256}
use Rattle.romix.specs.Costs.{Parameters}
use Rattle.encfile.specs.Header.{header}
use Rattle.encfile.specs.EncryptedFile.{DerivesKeys, derived_key, head}
use Rattle.encfile.specs.Encrypting.{HasEncryptedWithKeys}
use Rattle.encfile.proofs.enc.Enc.start.Goals as goal

pub returns-clause-begun : goal.returns-clause-begun
unfolding head
returns-clause-begun c =
    let passphrase : List ℕ = c.args.passphrase.now in
    let salt : List ℕ = c.args.salt.now in
    let costs : Parameters = c.args.costs.now in
    let first : List ℕ = header costs salt in
    let keys : c.derived_key-keys.result ≡ derived_key passphrase salt costs = c.derived_key-keys.ensures.key ∙ ap (derived_key passphrase salt) c.requires.workspace in
    let front : c.head.result ≡ head passphrase salt costs = c.head.ensures.bytes ∙ ap (λ (k : List ℕ). first ++ hmac_sha256 (drop 32 k) first) keys in
    record {
      state = subst (λ (k : List ℕ). HasEncryptedWithKeys c.with_keys.result (head passphrase salt costs) k []) keys
          (subst (λ (f : List ℕ). HasEncryptedWithKeys c.with_keys.result f c.derived_key-keys.result []) front c.with_keys.ensures.begun);
      salt_has_32_bytes = c.told-salt;
      in_range = c.head.ensures.in_range;
      below_limit = omega arith;
    }

pub returns-clause-derives : goal.returns-clause-derives
returns-clause-derives c =
    let keys = c.derived_key-keys in
    subst (λ (costs : Parameters). DerivesKeys c.args.passphrase.now c.args.salt.now costs c.args.workspace.now keys.new.workspace c.args.ticks.now keys.new.ticks)
    c.requires.workspace keys.ensures.derives
