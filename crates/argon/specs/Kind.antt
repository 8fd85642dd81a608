-- The types of Argon2 (RFC 9106, 3.1).
use Rattle.std.specs.Prelude.{ℕ}
use Rattle.argon.specs.declared.kind.Kind.{Kind}
use Rattle.argon.specs.declared.kind.Kind.TheVariants.{D, I, Id}

-- y, the number of a type: 0 for Argon2d, 1 for Argon2i, 2 for Argon2id (3.1)
abbrev pub type_number : Kind → ℕ
type_number D = 0
type_number I = 1
type_number Id = 2
