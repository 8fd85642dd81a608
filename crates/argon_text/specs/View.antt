-- What contracts see of this crate's types.
use Rattle.argon_text.specs.Value.{Value}
use Rattle.argon_text.specs.declared.hash_view.HashView.{HashView}
use Rattle.argon_text.specs.declared.encoded.Encoded.{Encoded}

-- the value of an `Encoded`, without where its bytes lie in memory
abbrev pub value_of : Encoded → Value
value_of e = record {
  kind = e.kind;
  version = e.version;
  memory = e.memory;
  passes = e.passes;
  lanes = e.lanes;
  salt = e.salt.items;
  tag = e.tag.items;
}

-- the value of a `HashView`, by the bytes that are lent
abbrev pub encoded_value_of_hash_view : HashView → Value
encoded_value_of_hash_view view = record {
  kind = view.kind;
  version = view.version;
  memory = view.memory;
  passes = view.passes;
  lanes = view.lanes;
  salt = view.salt.now;
  tag = view.tag.now;
}
