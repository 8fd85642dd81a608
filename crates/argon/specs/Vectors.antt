-- Parameters of the vectors.
use Rattle.argon.specs.Parameters.{Parameters}

-- Argon2i of version 0x13 with three passes, two lanes and 1,610 KiB: 201 columns a segment, and two KiB left over
abbrev pub two_lane_sample_parameters : Parameters
two_lane_sample_parameters = record {
  kind = 1;
  version = 0x13;
  passes = 3;
  lanes = 2;
  memory_kib = 1610;
  tag_len = 32;
  salt_len = 8;
  password_len = 8;
}
