-- What a host may still be asked for, whether or not it tells its bytes.
use Rattle.std.specs.Prelude.{◌≡◌, Bool, true, false}

-- the calls that a host grants: to open the input, and to pull from it; to open an output, and to push to it; to ask a
-- secret source; and to ask for a salt
pub record CallsGrantedByHost : Type 0 where
  pub input : Bool
  pub readable : Bool
  pub output : Bool
  pub writable : Bool
  pub secret : Bool
  pub salt : Bool

-- nothing was asked for yet: each opening and each asking is granted, and no pull or push
abbrev pub nothing_asked : CallsGrantedByHost
nothing_asked = record { input = true; readable = false; output = true; writable = false; secret = true; salt = true }

-- a host grants each opening and each asking: of the input, of an output, of a secret source and of a salt
pub record GrantsAllHostCalls (g : CallsGrantedByHost) : Type 0 where
  pub input : g.input ≡ true
  pub output : g.output ≡ true
  pub secret : g.secret ≡ true
  pub salt : g.salt ≡ true

-- every call but a pull is granted as before
pub record GrantsAllButPullsAsBefore (before after : CallsGrantedByHost) : Type 0 where
  pub input : after.input ≡ before.input
  pub output : after.output ≡ before.output
  pub writable : after.writable ≡ before.writable
  pub secret : after.secret ≡ before.secret
  pub salt : after.salt ≡ before.salt

-- the input was opened: it may be pulled from, and is not opened again
abbrev pub with_input_opened : CallsGrantedByHost → CallsGrantedByHost
with_input_opened g = record g { input = false; readable = true }

-- an output was asked for, and could not be opened: no other is opened
abbrev pub with_output_asked : CallsGrantedByHost → CallsGrantedByHost
with_output_asked g = record g { output = false }

-- an output was opened: it may be pushed to, and no other is opened
abbrev pub with_output_opened : CallsGrantedByHost → CallsGrantedByHost
with_output_opened g = record g { output = false; writable = true }

-- a secret source was asked, and none is asked again
abbrev pub with_secret_asked : CallsGrantedByHost → CallsGrantedByHost
with_secret_asked g = record g { secret = false }

-- a salt was asked for, and none is asked for again
abbrev pub with_salt_asked : CallsGrantedByHost → CallsGrantedByHost
with_salt_asked g = record g { salt = false }
