-- A stream that was opened in a system in memory.
use Rattle.std.proofs.Common.{◌≡◌, ℕ, List, Option, Some, refl, sym, ap, ◌∙◌, subst}
use Rattle.host.specs.HostState.{Text}
use Rattle.memory_system.specs.Memory.{Memory}
use Rattle.tools.specs.SystemState.{Opens, Source, SystemState, gives, opened_source, stands_at, with_read_stream_state}
use Rattle.tools.specs.declared.system.Reading.{Reading}
use Rattle.tools.specs.declared.system.Reading.TheVariants as reading

-- the input, which gives what is left of it
pub opens-input : (name : Option Text) (w : SystemState) (s : Source) → s ≡ opened_source name w.input.left
    → Opens reading.Input name w (with_read_stream_state reading.Input s w)
opens-input name w s opened =
    record { bytes = w.input.left; given = refl; opened = ap (λ t. with_read_stream_state reading.Input t w) opened }

-- a stream that gives what stands under its name
opens : (r : Reading) (name : Option Text) (bytes : List ℕ) (m before : Memory) (s : Source) → m ≡ before
    → gives r name before.state ≡ Some bytes → s ≡ opened_source name bytes → Opens r name before.state (with_read_stream_state r s m.state)
opens r name bytes m before s same given opened = record {
  bytes = bytes;
  given = given;
  opened = ap (λ (n : Memory). with_read_stream_state r s n.state) same ∙ ap (λ t. with_read_stream_state r t before.state) opened;
}

-- a secret's source, and the random bytes
pub opens-secret : (r : Reading) → r ≡ reading.Secret → (name : Option Text) (bytes : List ℕ) (m before : Memory) (s : Source)
    → m ≡ before → stands_at name before.state ≡ Some bytes → s ≡ opened_source name bytes
    → Opens r name before.state (with_read_stream_state reading.Secret s m.state)
opens-secret r is name bytes m before s same given opened =
    subst (λ q. Opens q name before.state (with_read_stream_state reading.Secret s m.state)) (sym is)
    (opens reading.Secret name bytes m before s same given opened)

pub opens-random : (r : Reading) → r ≡ reading.Random → (name : Option Text) (bytes : List ℕ) (m before : Memory) (s : Source)
    → m ≡ before → stands_at name before.state ≡ Some bytes → s ≡ opened_source name bytes
    → Opens r name before.state (with_read_stream_state reading.Random s m.state)
opens-random r is name bytes m before s same given opened =
    subst (λ q. Opens q name before.state (with_read_stream_state reading.Random s m.state)) (sym is)
    (opens reading.Random name bytes m before s same given opened)
