-- Fields as they were read, as private contracts see them.
use Rattle.std.specs.Prelude.{option_map}
use Rattle.argon_text.specs.Grammar.{Fields}
use Rattle.argon_text.specs.declared.fields.Fields.{Fields as Borrowed}

-- the bytes that are lent
abbrev pub fields_of : Borrowed → Fields
fields_of fields = record {
  kind = fields.kind;
  version = option_map (λ digits. digits.now) fields.version;
  memory = fields.memory.now;
  passes = fields.passes.now;
  lanes = fields.lanes.now;
  salt = fields.salt.now;
  tag = fields.tag.now;
}
