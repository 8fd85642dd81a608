-- Texts of the reference program: printf password | argon2 somesalt -d -t 1 -k 8 -e, and with -r in place of -e; the
-- same of -t 2 -m 8 -v 10.
use Rattle.std.specs.Prelude.{ℕ, List, [], ◌∷◌, Some, None, codes}
use Rattle.argon.specs.declared.kind.Kind.TheVariants.{D, I}
use Rattle.argon_text.specs.Grammar.{Fields}
use Rattle.argon_text.specs.Value.{Value}

-- what the text says
abbrev pub sample_encoded_value : Value
sample_encoded_value = record {
  kind = D;
  version = 0x13;
  memory = 8;
  passes = 1;
  lanes = 1;
  salt = codes "somesalt";
  tag = 0xC5 ∷ 0x19 ∷ 0xE6 ∷ 0x03 ∷ 0xAC ∷ 0x60 ∷ 0x3E ∷ 0xC1 ∷ 0xAE ∷ 0xB5 ∷ 0xB7 ∷ 0x1E ∷ 0xC4 ∷ 0x4A ∷ 0x61 ∷ 0x79 ∷
      0xE3 ∷ 0xF3 ∷ 0x97 ∷ 0x5B ∷ 0x14 ∷ 0xC0 ∷ 0xC9 ∷ 0x7E ∷ 0x39 ∷ 0x14 ∷ 0xC7 ∷ 0x9E ∷ 0x63 ∷ 0x63 ∷ 0xE1 ∷ 0x78 ∷ [];
}

-- the text
abbrev pub sample_encoded_text : List ℕ
sample_encoded_text = codes "$argon2d$v=19$m=8,t=1,p=1$c29tZXNhbHQ$xRnmA6xgPsGutbcexEpheePzl1sUwMl+ORTHnmNj4Xg"

-- its fields
abbrev pub sample_encoded_fields : Fields
sample_encoded_fields = record {
  kind = D;
  version = Some (codes "19");
  memory = codes "8";
  passes = codes "1";
  lanes = codes "1";
  salt = codes "c29tZXNhbHQ";
  tag = codes "xRnmA6xgPsGutbcexEpheePzl1sUwMl+ORTHnmNj4Xg";
}

-- what the second text says
abbrev pub version_16_sample_value : Value
version_16_sample_value = record {
  kind = I;
  version = 0x10;
  memory = 256;
  passes = 2;
  lanes = 1;
  salt = codes "somesalt";
  tag = 0xFD ∷ 0x4D ∷ 0xD8 ∷ 0x3D ∷ 0x76 ∷ 0x2C ∷ 0x49 ∷ 0xBD ∷ 0xEA ∷ 0xF5 ∷ 0x7C ∷ 0x47 ∷ 0xBD ∷ 0xCD ∷ 0x0C ∷ 0x2F ∷
      0x1B ∷ 0xAB ∷ 0xF8 ∷ 0x63 ∷ 0xFD ∷ 0xEB ∷ 0x49 ∷ 0x0D ∷ 0xF6 ∷ 0x3E ∷ 0xDE ∷ 0x99 ∷ 0x75 ∷ 0xFC ∷ 0xCF ∷ 0x06 ∷ [];
}

-- the second text
abbrev pub version_16_sample_text : List ℕ
version_16_sample_text = codes "$argon2i$v=16$m=256,t=2,p=1$c29tZXNhbHQ$/U3YPXYsSb3q9XxHvc0MLxur+GP960kN9j7emXX8zwY"

-- the second text without its version
abbrev pub old_short_text : List ℕ
old_short_text = codes "$argon2i$m=256,t=2,p=1$c29tZXNhbHQ$/U3YPXYsSb3q9XxHvc0MLxur+GP960kN9j7emXX8zwY"

-- its fields
abbrev pub old_short_fields : Fields
old_short_fields = record {
  kind = I;
  version = None;
  memory = codes "256";
  passes = codes "2";
  lanes = codes "1";
  salt = codes "c29tZXNhbHQ";
  tag = codes "/U3YPXYsSb3q9XxHvc0MLxur+GP960kN9j7emXX8zwY";
}
