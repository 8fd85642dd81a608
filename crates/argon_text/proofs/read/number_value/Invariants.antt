use Rattle.std.proofs.Common.{◌≡◌, ◌<◌, ◌^◌, take}
use Rattle.argon_text.specs.Grammar.{number_value}
use Rattle.argon_text.proofs.read.number_value.Given as goal

abbrev pub invariant-loop-byte : goal.invariant-loop-byte
invariant-loop-byte l = record {
  number : l.number ≡ number_value (take l.byte-index l.digits);
  small : l.number < 2 ^ 32;
}
