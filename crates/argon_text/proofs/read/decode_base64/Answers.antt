use Rattle.argon_text.proofs.Symbols.{not_decoded}
use Rattle.argon_text.proofs.read.decode_base64.Goals as goal

pub returns-in-Err-DecodeError-clause-err : goal.returns-in-Err-DecodeError-clause-err
returns-in-Err-DecodeError-clause-err g c =
    not_decoded c.args.symbols.now c.in-Err-DecodeError.field-0 c.in-Err-DecodeError.field-0-0 c.in-Err-DecodeError.field-0-is
    c.in-Err-DecodeError.ensures.err
