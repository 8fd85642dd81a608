-- What a stream keeps.
use Rattle.std.specs.Prelude.{◌≡◌, true, is_some}
use Rattle.pikhsen_c.specs.declared.stream.PikhsenStream.{PikhsenStream}

-- the stream keeps what runs in it
abbrev pub KeepsState : PikhsenStream → Type 0
KeepsState stream = is_some stream.kept.value ≡ true
