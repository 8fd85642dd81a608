-- How far an encryption and a decryption are.
use Rattle.std.specs.Prelude.{ℕ, ◌+◌, length}
use Rattle.encfile.specs.declared.dec.Dec.{Dec}
use Rattle.encfile.specs.declared.enc.Enc.{Enc}

-- how many bytes of text it has encrypted
abbrev pub bytes_encrypted_so_far : Enc → ℕ
bytes_encrypted_so_far enc = enc.ctr.position

-- how many bytes of the file it has read after the first 96
unfoldable pub bytes_read_so_far : Dec → ℕ
bytes_read_so_far dec = dec.ctr.position + length dec.held
