use Rattle.std.proofs.Common.{◌≡◌, ℕ, List, slice_index, arith, refl, ap, ap₂, sym, ◌∙◌, eq-eqb}
use Rattle.std.specs.Prelude.{is_some}
use Rattle.romix.specs.Costs.{Parameters}
use Rattle.encfile.specs.Header.{costs_of, header, salt_of}
use Rattle.encfile.specs.HeaderFaults.{are_out_of_range}
use Rattle.encfile.proofs.Headers.{fourth_fault, header_is}
use Rattle.encfile.proofs.header.Header.read.Goals as goal

pub returns-in-Ok-clause-costs : goal.returns-in-Ok-clause-costs
returns-in-Ok-clause-costs c = c.in-Ok.ensures.costs ∙ rw (c.big_endian_u32_at.ensures.number, c.big_endian_u32_at-2.ensures.number) refl

pub returns-in-Ok-clause-header : goal.returns-in-Ok-clause-header
returns-in-Ok-clause-header c =
    let bytes : List ℕ = c.args.bytes.now in
    let costs : c.in-Ok.costs ≡ costs_of bytes = returns-in-Ok-clause-costs c in
    let salt : c.copy_from_slice.new.self ≡ salt_of bytes = c.copy_from_slice.ensures.after in
    let whole = header_is bytes c.told-bytes c.fits-bytes (sym c.has_magic.ensures.magic ∙ c.if-not-has_magic.false) c.if-bytes-ne0.false
    (sym c.has_right_checksum.ensures.checksum ∙ c.if-not-has_right_checksum.false) in
    record {
      salt_has_32_bytes = omega (arith, c.copy_from_slice.auto.self);
      in_range = c.in-Ok.ensures.in_range;
      bytes = whole ∙ ap₂ header (sym costs) (sym salt);
    }

pub returns-in-Err-clause-fault : goal.returns-in-Err-clause-fault
returns-in-Err-clause-fault c =
    let bytes : List ℕ = c.args.bytes.now in
    let read : Parameters = record { log_n = slice_index bytes 7; r = c.big_endian_u32_at.result; p = c.big_endian_u32_at-2.result } in
    let costs : read ≡ costs_of bytes = rw (c.big_endian_u32_at.ensures.number, c.big_endian_u32_at-2.ensures.number) refl in
    fourth_fault _ _ _ _ _ _ _ _ (sym c.has_magic.ensures.magic ∙ c.if-not-has_magic.false) (eq-eqb (slice_index bytes 6) 0 c.if-bytes-ne0.false)
    (sym c.has_right_checksum.ensures.checksum ∙ c.if-not-has_right_checksum.false)
    (sym (ap are_out_of_range costs) ∙ ap is_some c.in-Err.ensures.fault)
