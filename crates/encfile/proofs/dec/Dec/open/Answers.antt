use Rattle.std.proofs.Common.{rules, ◌≡◌, ℕ, List, [], arith, append-nil, ap₂, subst, sym, ◌∙◌}
use Rattle.romix.specs.Costs.{Parameters}
use Rattle.encfile.specs.Header.{bytes_at}
use Rattle.encfile.specs.EncryptedFile.{DerivesKeys, derived_key, head}
use Rattle.encfile.specs.Decrypting.{HasDecryptedWithKeys}
use Rattle.encfile.proofs.Reading.{head_is, released_text-short, right_header_hmac-is}
use Rattle.encfile.proofs.dec.Dec.open.Goals as goal

pub returns-then-not-are_same-clause-wrong : goal.returns-then-not-are_same-clause-wrong
returns-then-not-are_same-clause-wrong c right =
    let passphrase : List ℕ = c.args.passphrase.now in
    let salt : List ℕ = c.args.header.salt in
    let costs : Parameters = c.args.header.costs in
    let front : List ℕ = c.args.front.now in
    let keys : c.derived_key-keys.result ≡ derived_key passphrase salt costs =
    c.derived_key-keys.ensures.key ∙ ap₂ (derived_key passphrase) c.salt.ensures.salt c.requires.workspace in
    let due = right_header_hmac-is front passphrase salt c.derived_key-keys.result c.header_hmac.result costs
    c.requires.header.salt_has_32_bytes c.requires.header.in_range c.requires.header.bytes keys c.header_hmac.ensures.code in
    let same = right ∙ sym due in
    search (rules, c.are_same.ensures.same.1 same)

pub returns-clause-right : goal.returns-clause-right
returns-clause-right c =
    let passphrase : List ℕ = c.args.passphrase.now in
    let salt : List ℕ = c.args.header.salt in
    let costs : Parameters = c.args.header.costs in
    let front : List ℕ = c.args.front.now in
    let keys : c.derived_key-keys.result ≡ derived_key passphrase salt costs =
    c.derived_key-keys.ensures.key ∙ ap₂ (derived_key passphrase) c.salt.ensures.salt c.requires.workspace in
    let due = right_header_hmac-is front passphrase salt c.derived_key-keys.result c.header_hmac.result costs
    c.requires.header.salt_has_32_bytes c.requires.header.in_range c.requires.header.bytes keys c.header_hmac.ensures.code in
    let told : bytes_at front 64 32 ≡ c.header_hmac.result = search rules in
    told ∙ due

pub returns-clause-opened : goal.returns-clause-opened
returns-clause-opened c =
    let passphrase : List ℕ = c.args.passphrase.now in
    let salt : List ℕ = c.args.header.salt in
    let costs : Parameters = c.args.header.costs in
    let front : List ℕ = c.args.front.now in
    let keys : c.derived_key-keys.result ≡ derived_key passphrase salt costs =
    c.derived_key-keys.ensures.key ∙ ap₂ (derived_key passphrase) c.salt.ensures.salt c.requires.workspace in
    let whole : front ≡ head passphrase salt costs = head_is front passphrase salt costs c.told-front c.requires.header.bytes (search rules) in
    record {
      salt = salt;
      costs = costs;
      done = [];
      held = [];
      state = subst (λ (k : List ℕ). HasDecryptedWithKeys c.with_keys.result (head passphrase salt costs) k [] []) keys
          (subst (λ (f : List ℕ). HasDecryptedWithKeys c.with_keys.result f c.derived_key-keys.result [] []) whole c.with_keys.ensures.begun);
      split = record {
        salt_has_32_bytes = c.requires.header.salt_has_32_bytes;
        in_range = c.requires.header.in_range;
        few = omega arith;
        full = λ some. absurd (omega arith);
        bytes = whole ∙ sym (append-nil (head passphrase salt costs));
      };
      below_limit = omega (arith, c.told-front);
    }

pub returns-clause-nothing : goal.returns-clause-nothing
returns-clause-nothing c = released_text-short c.args.front.now c.args.passphrase.now (omega (arith, c.told-front))

pub returns-then-not-are_same-clause-derives : goal.returns-then-not-are_same-clause-derives
returns-then-not-are_same-clause-derives c =
    let keys = c.derived_key-keys in
    let derives : List ℕ → Parameters → Type 0 =
    λ salt costs. DerivesKeys c.args.passphrase.now salt costs c.args.workspace.now keys.new.workspace c.args.ticks.now keys.new.ticks in
    subst (λ salt. derives salt c.args.header.costs) c.salt.ensures.salt (subst (derives c.salt.result.now) c.requires.workspace keys.ensures.derives)

pub returns-clause-derives : goal.returns-clause-derives
returns-clause-derives c =
    let keys = c.derived_key-keys in
    let derives : List ℕ → Parameters → Type 0 =
    λ salt costs. DerivesKeys c.args.passphrase.now salt costs c.args.workspace.now keys.new.workspace c.args.ticks.now keys.new.ticks in
    subst (λ salt. derives salt c.args.header.costs) c.salt.ensures.salt (subst (derives c.salt.result.now) c.requires.workspace keys.ensures.derives)
