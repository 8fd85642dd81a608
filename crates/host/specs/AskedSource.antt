-- What contracts see of the secret source that a host was asked for.
use Rattle.std.specs.Prelude.{[], ◌∷◌}
use Rattle.host.specs.HostState.{SecretSource, Text, env, file, stdin_once}
use Rattle.host.specs.declared.asked_source.GhostName.{GhostName, End, Byte'}
use Rattle.host.specs.declared.asked_source.AskedSource.{AskedSource}
use Rattle.host.specs.declared.asked_source.AskedSource.TheVariants as asked

-- the bytes of a name, which is a byte, what is held after it, and the rest of the name; what is held has no bytes
abbrev pub name_bytes : GhostName → Text
name_bytes End = []
name_bytes (Byte' byte held rest) = byte ∷ name_bytes rest

-- the secret source that a host was asked for
abbrev pub asked_source : AskedSource → SecretSource
asked_source asked.StdinOnce = stdin_once
asked_source (asked.Env name) = env (name_bytes name)
asked_source (asked.File name) = file (name_bytes name)
