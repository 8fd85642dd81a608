-- What is asked of the host of vectors.
use Rattle.std.specs.Prelude.{ℕ, List, [], ◌∷◌, ◌++◌, replicate, Option, Some, None, codes}
use Rattle.host.specs.HostState.{env}
use Rattle.scrypt_request.specs.Request.{Encryption, Task}

-- with these limits and this S
abbrev pub sample_task : ℕ → ℕ → ℕ → Task
sample_task keep max_bytes max_ops = record {
  limits = record { max_bytes = max_bytes; max_ops = max_ops };
  keep = keep;
  source = env (codes "PW");
  infile = Some (codes "in");
  outfile = None;
}

-- a file with log2 N 4, r 1 and p 1, and this salt, if one is given
abbrev pub sample_encryption : Option (List ℕ) → Task → Encryption
sample_encryption salt task = record { costs = record { log_n = 4; r = 1; p = 1 }; salt = salt; task = task }

-- bytes 0 to 15 of a header with log2 N 5, r 1 and p 2; its text is left out
abbrev pub sample_header_costs : List ℕ
sample_header_costs = replicate 7 0 ++ (5 ∷ 0 ∷ 0 ∷ 0 ∷ 1 ∷ 0 ∷ 0 ∷ 0 ∷ 2 ∷ [])
