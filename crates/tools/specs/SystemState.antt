-- What contracts see of a system that tells its bytes, and what each call leaves of it.
use Rattle.std.specs.Prelude.{◌≡◌, ◌≤◌, ◌==◌, Bool, true, false, not, ℕ, List, [], ◌∷◌, ◌++◌, drop, length, take, Option, None, Some}
use Rattle.host.specs.Entries.{Entry, lookup}
use Rattle.host.specs.HostState.{Text}
use Rattle.tools.specs.Identity.{is_regular}
use Rattle.tools.specs.declared.identity.FileIdentity.{FileIdentity}
use Rattle.tools.specs.declared.system.Reading.{Reading}
use Rattle.tools.specs.declared.system.Reading.TheVariants as reading
use Rattle.tools.specs.declared.system.StreamRole.{StreamRole}
use Rattle.tools.specs.declared.system.StreamRole.TheVariants as stream

-- a stream that is read: the name under which it was opened (None: it isn't opened; Some None: standard input), what
-- is left of it, and whether a read found its end
pub record Source : Type 0 where
  pub opened : Option (Option Text)
  pub left : List ℕ
  pub is_ended : Bool

-- the input, whether that is standard input itself, whatever its name; a secret's source and the random bytes; what was
-- written; the name under which an output was asked for, whatever came of it (None: none was; Some None: standard
-- output); whether nothing that the output held is to be taken away any more, and whether it was emptied; whether it is
-- kept: a regular file or a block device that was opened by its name; whether it was asked to be brought to the disk,
-- whatever came of it, and whether it was brought there; whether a line was asked for, whatever came of it, and the
-- lines said so far; what standard input gives from its beginning, if it is there, and what each file does, other than
-- as the input; and the variables
pub record SystemState : Type 0 where
  pub input : Source
  pub input_is_stdin : Bool
  pub secret : Source
  pub random : Source
  pub output : List ℕ
  pub output_asked : Option (Option Text)
  pub is_new : Bool
  pub is_emptied : Bool
  pub is_kept : Bool
  pub sync_asked : Bool
  pub is_synced : Bool
  pub line_asked : Bool
  pub said : List Text
  pub stdin : Option (List ℕ)
  pub files : List Entry
  pub variables : List Entry

-- which regular file or block device each opened stream is, and standard error, if it is one
pub record Files : Type 0 where
  pub input : Option FileIdentity
  pub secret : Option FileIdentity
  pub output : Option FileIdentity
  pub error : Option FileIdentity

-- which file this stream is
abbrev pub identity_of_stream : StreamRole → Files → Option FileIdentity
identity_of_stream stream.Input f = f.input
identity_of_stream stream.Secret f = f.secret
identity_of_stream stream.Output f = f.output
identity_of_stream stream.Error f = f.error

-- this stream is the input or the secret's source, and was not opened
abbrev pub IsReadStreamUnopened : StreamRole → SystemState → Type 0
IsReadStreamUnopened stream.Input w = w.input.opened ≡ None
IsReadStreamUnopened stream.Secret w = w.secret.opened ≡ None
IsReadStreamUnopened stream.Output w = ⊥
IsReadStreamUnopened stream.Error w = ⊥

-- the output is neither the input nor the secret's source
pub record IsOutputSeparate (f : Files) : Type 0 where
  pub input : (identity : FileIdentity) → f.output ≡ Some identity → f.input ≡ Some identity → ⊥
  pub secret : (identity : FileIdentity) → f.output ≡ Some identity → f.secret ≡ Some identity → ⊥

-- standard error is neither the input nor the secret's source
pub record HasSeparateErrorStream (f : Files) : Type 0 where
  pub input : (identity : FileIdentity) → f.error ≡ Some identity → f.input ≡ Some identity → ⊥
  pub secret : (identity : FileIdentity) → f.error ≡ Some identity → f.secret ≡ Some identity → ⊥

-- ---- streams that are read

-- the state of a stream of the system
abbrev pub state_of_read_stream : Reading → SystemState → Source
state_of_read_stream reading.Input w = w.input
state_of_read_stream reading.Secret w = w.secret
state_of_read_stream reading.Random w = w.random

-- this stream was not opened
abbrev pub IsNotYetOpened : Reading → SystemState → Type 0
IsNotYetOpened r w = (state_of_read_stream r w).opened ≡ None

-- no read of this stream found its end
abbrev pub ReadStreamHasNotEnded : Reading → SystemState → Type 0
ReadStreamHasNotEnded r w = (state_of_read_stream r w).is_ended ≡ false

-- the system with another state of a stream
abbrev pub with_read_stream_state : Reading → Source → SystemState → SystemState
with_read_stream_state reading.Input s w = record w { input = s }
with_read_stream_state reading.Secret s w = record w { secret = s }
with_read_stream_state reading.Random s w = record w { random = s }

-- the bytes that stand under this name (None: standard input), if it is there, for a stream other than the input
abbrev pub stands_at : Option Text → SystemState → Option (List ℕ)
stands_at None w = w.stdin
stands_at (Some name) w = lookup w.files name

-- the bytes that a stream gives which is opened under this name, if it can give any: the input what is left of it,
-- whatever the name, and a secret's source or the random bytes what stands under the name
abbrev pub gives : Reading → Option Text → SystemState → Option (List ℕ)
gives reading.Input name w = Some w.input.left
gives reading.Secret name w = stands_at name w
gives reading.Random name w = stands_at name w

-- a stream that was opened under this name, and gives these bytes
abbrev pub opened_source : Option Text → List ℕ → Source
opened_source name bytes = record { opened = Some name; left = bytes; is_ended = false }

-- a stream was opened under this name, and gives what stands there
pub record Opens (r : Reading) (name : Option Text) (before after : SystemState) : Type 0 where
  pub bytes : List ℕ
  pub given : gives r name before ≡ Some bytes
  pub opened : after ≡ with_read_stream_state r (opened_source name bytes) before

-- a stream after n of its bytes were read; where there were none to give, its end was found
abbrev pub after_reading : ℕ → Source → Source
after_reading n s = record s { left = drop n s.left; is_ended = n == 0 }

-- the system after n bytes of a stream were read; where there were none to give, its end was found
abbrev pub after_read : Reading → ℕ → SystemState → SystemState
after_read r n w = with_read_stream_state r (after_reading n (state_of_read_stream r w)) w

-- the next n bytes of a stream came, none only at its end
pub record Reads (r : Reading) (n : ℕ) (buf : List ℕ) (before after : SystemState) : Type 0 where
  pub bytes : take n buf ≡ take n (state_of_read_stream r before).left
  pub within : n ≤ length (state_of_read_stream r before).left
  pub end : n ≡ 0 → (state_of_read_stream r before).left ≡ []
  pub taken : after ≡ after_read r n before

-- where a stream was opened, it was under this name
abbrev pub OpensNoOther : Option (Option Text) → Source → Type 0
OpensNoOther name s = (other : Option Text) → s.opened ≡ Some other → name ≡ Some other

-- of all that contracts see, this stream alone may have changed
pub record LeavesAllBut (r : Reading) (before after : SystemState) : Type 0 where
  pub source : Source
  pub same : after ≡ with_read_stream_state r source before

-- some of a stream was read, under its name
pub record TakesFrom (r : Reading) (before after : SystemState) : Type 0 where
  pub left : List ℕ
  pub is_ended : Bool
  pub same : after ≡ with_read_stream_state r (let s = state_of_read_stream r before in record s { left = left; is_ended = is_ended }) before

-- ---- the output

-- no output was asked for
abbrev pub IsBeforeOutput : SystemState → Type 0
IsBeforeOutput w = w.output_asked ≡ None

-- the output was not asked to be brought to the disk
abbrev pub IsBeforeSync : SystemState → Type 0
IsBeforeSync w = w.sync_asked ≡ false

-- an output was asked for under this name, and could not be opened, or holds what it held
abbrev pub after_ask_output : Option Text → SystemState → SystemState
after_ask_output name w = record w { output_asked = Some name }

-- what is opened under this name is to be emptied: a regular file that is named
abbrev pub is_to_be_emptied : Option Text → Option FileIdentity → Bool
is_to_be_emptied None identity = false
is_to_be_emptied (Some name) None = false
is_to_be_emptied (Some name) (Some identity) = is_regular identity

-- what is opened under this name is kept, and is to be brought to the disk: a regular file or a block device that is
-- named
abbrev pub is_to_be_synced : Option Text → Option FileIdentity → Bool
is_to_be_synced None identity = false
is_to_be_synced (Some name) None = false
is_to_be_synced (Some name) (Some identity) = true

-- the system after an output was opened under this name, which is that file or none
abbrev pub after_open_output : Option Text → Option FileIdentity → SystemState → SystemState
after_open_output name identity w = record w {
  output_asked = Some name;
  is_new = not (is_to_be_emptied name identity);
  is_kept = is_to_be_synced name identity;
}

-- an output was asked for under this name, and may be new, emptied and kept; nothing else has changed
pub record AsksOutput (name : Option Text) (before after : SystemState) : Type 0 where
  pub is_new : Bool
  pub is_emptied : Bool
  pub is_kept : Bool
  pub same : after ≡ (let w : SystemState = record before { output_asked = Some name; is_new = is_new; is_emptied = is_emptied; is_kept = is_kept } in w)

-- the system after the output was emptied
abbrev pub after_empty : SystemState → SystemState
after_empty w = record w { is_new = true; is_emptied = true }

-- the system after these bytes were written to the output
abbrev pub after_write : List ℕ → SystemState → SystemState
after_write bytes w = record w { output = w.output ++ bytes }

-- the system after the output was asked to be brought to the disk, and was not
abbrev pub after_ask_sync : SystemState → SystemState
after_ask_sync w = record w { sync_asked = true }

-- the system after the output was brought to the disk
abbrev pub after_sync : SystemState → SystemState
after_sync w = record w { sync_asked = true; is_synced = true }

-- what the output held was taken away, if it is a regular file that was opened by its name; what was written is on the
-- disk, where the output is kept; and no other output was asked to be brought there. (Nothing is written or emptied
-- once it was asked to be: that is a condition of these calls.)
pub record IsOutputSynced (w : SystemState) : Type 0 where
  pub new : w.is_new ≡ true
  pub synced : w.is_kept ≡ true → w.is_synced ≡ true
  pub unasked : w.is_kept ≡ false → w.sync_asked ≡ false

-- the same was taken away; the output is kept, was asked to be brought to the disk, and was not
pub record IsOutputUnsynced (w : SystemState) : Type 0 where
  pub new : w.is_new ≡ true
  pub kept : w.is_kept ≡ true
  pub asked : w.sync_asked ≡ true
  pub unsynced : w.is_synced ≡ false

-- ---- the rest

-- no stream was opened yet, no output was asked for, emptied or brought to the disk, and no line was asked for or said
pub record IsUnused (w : SystemState) : Type 0 where
  pub input : w.input.opened ≡ None
  pub secret : w.secret.opened ≡ None
  pub random : w.random.opened ≡ None
  pub output : w.output_asked ≡ None
  pub going : w.input.is_ended ≡ false
  pub unemptied : w.is_emptied ≡ false
  pub unasked : w.sync_asked ≡ false
  pub unsynced : w.is_synced ≡ false
  pub line_unasked : w.line_asked ≡ false
  pub unsaid : w.said ≡ []

-- the system after a line more was said
abbrev pub after_line : Text → SystemState → SystemState
after_line line w = record w { line_asked = true; said = w.said ++ (line ∷ []) }

-- the system after a line was asked for, and could not be said
abbrev pub after_ask_line : SystemState → SystemState
after_ask_line w = record w { line_asked = true }

-- a line may have been asked for; nothing else has changed
abbrev pub MayAskForLine : SystemState → SystemState → Type 0
MayAskForLine before after = after ≡ (let w : SystemState = record before { line_asked = after.line_asked } in w)

-- a line was asked for, unless the input or the secret's source was opened
abbrev pub IsLineAskedUnlessReading : SystemState → Type 0
IsLineAskedUnlessReading w = w.input.opened ≡ None → w.secret.opened ≡ None → w.line_asked ≡ true

-- a stream that stands where a system does not tell its bytes
abbrev pub placeholder_stream : Source
placeholder_stream = record { opened = None; left = []; is_ended = false }

-- stands for what is seen of a system that does not tell its bytes
abbrev pub placeholder_state : SystemState
placeholder_state = record {
  input = placeholder_stream;
  input_is_stdin = false;
  secret = placeholder_stream;
  random = placeholder_stream;
  output = [];
  output_asked = None;
  is_new = false;
  is_emptied = false;
  is_kept = false;
  sync_asked = false;
  is_synced = false;
  line_asked = false;
  said = [];
  stdin = None;
  files = [];
  variables = [];
}

-- stands for the files of a system that does not tell its bytes: no stream is one
abbrev pub placeholder_files : Files
placeholder_files = record { input = None; secret = None; output = None; error = None }
