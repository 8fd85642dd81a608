-- A host whose fields differ from one another.
use Rattle.std.specs.Prelude.{Some, None, codes, if◌then◌else◌}
use Rattle.std.specs.Str.{bytes_eq}
use Rattle.host.specs.HostState.{HostState, placeholder_host_state}

-- an input, an output so far, a secret in each place, and a salt
abbrev pub sample_host : HostState
sample_host = record placeholder_host_state {
  input = codes "abcd";
  output = codes "o";
  stdin = Some (codes "typed\nmore");
  variables = λ name. if bytes_eq name (codes "PW") then Some (codes "set") else None;
  files = λ name. if bytes_eq name (codes "pw") then Some (codes "kept") else None;
  salt = codes "salt";
}
