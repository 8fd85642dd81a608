use Rattle.std.proofs.Common.{◌∙◌, []}
use Rattle.pikhsen_c.specs.Inside.Settings.{costs_of_settings}
use Rattle.pikhsen_c.proofs.streaming.encrypt_start_in.Goals as goal

pub returns-in-Ok-start_encryption-clause-head : goal.returns-in-Ok-start_encryption-clause-head
returns-in-Ok-start_encryption-clause-head c =
    λ _. c.copy_from_slice.ensures.after
    ∙ c.header.ensures.body c.args.passphrase.now c.args.salt.now (costs_of_settings c.args.settings.now) []
    c.in-Ok-start_encryption.ensures.begun
