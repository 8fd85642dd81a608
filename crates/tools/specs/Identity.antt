-- Which file a file is.
use Rattle.std.specs.Prelude.{◌≡◌, ◌⊎◌, Bool, true, false, Option, None, Some}
use Rattle.tools.specs.declared.identity.FileIdentity.{FileIdentity}
use Rattle.tools.specs.declared.identity.FileIdentity.TheVariants as identity
use Rattle.tools.specs.declared.identity.IdentitiesOfFilesRead.{IdentitiesOfFilesRead}

-- whether it is a regular file
abbrev pub is_regular : FileIdentity → Bool
is_regular (identity.Regular device inode) = true
is_regular (identity.Block device) = false

-- the file is a regular file or a block device, and one of those that are read
abbrev pub IsAmongFilesRead : IdentitiesOfFilesRead → Option FileIdentity → Type 0
IsAmongFilesRead read None = ⊥
IsAmongFilesRead read (Some identity) = (read.input ≡ Some identity) ⊎ (read.secret ≡ Some identity)
