-- Bytes under names.
use Rattle.std.specs.Prelude.{ℕ, List, Option, option_map, bytes_eq}
use Rattle.std.specs.List.{find}
use Rattle.host.specs.HostState.{Text}

-- a secret under a name
pub record Entry : Type 0 where
  pub name : Text
  pub bytes : List ℕ

-- the bytes of the first entry of this name
abbrev pub lookup : List Entry → Text → Option (List ℕ)
lookup entries name = option_map (λ e. e.bytes) (find (λ e. bytes_eq e.name name) entries)
