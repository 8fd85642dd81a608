use Rattle.scrypt_run.proofs.Openings.{file_from_outside, text_is_written}
use Rattle.scrypt_run.proofs.laws.encrypted_file_is_opened.Goals as goal

pub returns : goal.returns
returns c = record {
  text = text_is_written;
  not_refused = file_from_outside;
}
