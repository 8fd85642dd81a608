-- A hash by a matrix (RFC 9106, 3.2).
use Rattle.std.specs.Prelude.{◌≡◌, ℕ, List, length}
use Rattle.argon.specs.Argon2.{argon2_tag, first_hash}
use Rattle.argon.specs.Filling.{Filling, IsDone}
use Rattle.argon.specs.Parameters.{Inputs}

-- a matrix hashes these inputs into these bytes: they are the tag; parameters and size stay, and all slices are made, from
-- the H_0 of the inputs
pub record HashesInto (inputs : Inputs) (before after : Filling) (out : List ℕ) : Type 0 where
  pub tag : out ≡ argon2_tag before.parameters inputs
  pub parameters : after.parameters ≡ before.parameters
  pub done : IsDone after
  pub h0 : after.first_hash ≡ first_hash before.parameters inputs
  pub size : length after.blocks ≡ length before.blocks
