-- `scrypt info`: what a run comes to.
use Rattle.std.specs.Prelude.{◌≡◌, ◌^◌, ◌++◌, ◌⊎◌, Option, None, codes}
use Rattle.std.specs.Fmt.{decimal}
use Rattle.romix.specs.Costs.{Parameters, cores, table_bytes}
use Rattle.encfile.specs.Front.{format_refusal}
use Rattle.encfile.specs.Header.{costs_of}
use Rattle.host.specs.Output.{IsOutputCutShort, after_writing}
use Rattle.host.specs.HostState.{HostState, Text, after_ask_output}
use Rattle.scrypt_run.specs.Front.{FrontRefused, after_front}
use Rattle.scrypt_request.specs.declared.refusal.ScryptRefusal.{ScryptRefusal}
use Rattle.scrypt_request.specs.declared.refusal.ScryptRefusal.TheVariants as refusal

-- the line that shows costs: N, r, p, the bytes of V and the Salsa20/8 cores of a derivation that keeps V whole, and
-- a line feed
abbrev pub costs_line : Parameters → Text
costs_line c =
    codes "N = " ++ decimal (2 ^ c.log_n)
    ++ codes "; r = " ++ decimal c.r
    ++ codes "; p = " ++ decimal c.p
    ++ codes "; memory = " ++ decimal (table_bytes c)
    ++ codes "; cores = " ++ decimal (cores c)
    ++ codes "\n"

-- the line that shows the costs of the input, which its bytes 7 to 15 say
abbrev pub costs_line_of_input : HostState → Text
costs_line_of_input before = costs_line (costs_of before.input)

-- `info` ends with status 0: the input has a valid header, and standard output got the line of its costs
pub record InspectSucceeds (infile : Option Text) (before after : HostState) : Type 0 where
  pub valid : format_refusal before.input ≡ None
  pub written : after ≡ after_writing None (costs_line_of_input before) (after_front infile before)

-- `info` ends with this refusal, by one of these rows: the first 96 bytes were not read, or their header is refused;
-- no memory for the line; the output could not be opened; the output failed before it had taken the whole line. What
-- stands before the `× (` holds for all rows after it: the header is valid
abbrev pub InspectRefused : ScryptRefusal → Option Text → HostState → HostState → Type 0
InspectRefused r infile before after =
    FrontRefused r (format_refusal before.input) infile before after
    ⊎ ((format_refusal before.input ≡ None) × (
    ((r ≡ refusal.OutOfMemory) × (after ≡ after_front infile before))
    ⊎ ((r ≡ refusal.OutputFault) × (after ≡ after_ask_output None (after_front infile before)))
    ⊎ ((r ≡ refusal.OutputFault) × IsOutputCutShort None (costs_line_of_input before) (after_front infile before) after)))
