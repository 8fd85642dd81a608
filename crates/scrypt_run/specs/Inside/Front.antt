-- The first 96 bytes of the input, once they are read.
use Rattle.std.specs.Prelude.{◌≡◌, ◌≤◌, List, ℕ, Option, None, Result, MatchResult, length, take}
use Rattle.encfile.specs.Front.{FrontRefusal, format_refusal}
use Rattle.encfile.specs.Header.{CostsAndSalt, costs_of, salt_of}
use Rattle.host.specs.HostState.{HostState, Text}
use Rattle.scrypt_run.specs.Front.{FrontRefused, after_front}
use Rattle.scrypt_request.specs.declared.refusal.ScryptRefusal.{ScryptRefusal}

-- the input has a valid header, these are its first 96 bytes, and its header says these costs and this salt
pub record IsFrontOf (input front : List ℕ) (said : CostsAndSalt) : Type 0 where
  pub valid : format_refusal input ≡ None
  pub long : 96 ≤ length input
  pub bytes : front ≡ take 96 input
  pub costs : said.costs ≡ costs_of input
  pub salt : said.salt ≡ salt_of input

-- a step with this result, and the host before and after it: where it ends well, the input was opened and its first 96
-- bytes were pulled; where it is refused, the run ended at these bytes, and `first` is the reason why they are refused
abbrev pub ReadsFront : {A : Type 0} → Result A ScryptRefusal → Option FrontRefusal → Option Text → HostState → HostState → Type 0
ReadsFront result first infile before after =
    MatchResult result (λ _. after ≡ after_front infile before) (λ r. FrontRefused r first infile before after)
