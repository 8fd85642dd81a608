-- The one part is the row of the vector of ROMix, which gives what ROMix makes of it.
use Rattle.std.proofs.Common.{◌≡◌, ◌∙◌, List, ℕ, [], ◌∷◌, ap, refl}
use Rattle.sha2.specs.Sha256.{compress, digest_bytes, first_words, hash_after, rounds, schedule, sha256}
use Rattle.macs.specs.HmacSha256.{hmac_sha256, key_block}
use Rattle.macs.specs.Pbkdf2.{joined_blocks, pbkdf2}
use Rattle.romix.specs.Romix.{romix}
use Rattle.romix.specs.Scrypt.{parts_after_romix, octets_of, part_at, scrypt, words_of}
use Rattle.romix_tests.proofs.vectors.scrypt_of_nothing.Goals as goal

abbrev row : List ℕ
row =
    0x650BCEF7 ∷ 0xA4722D3D ∷ 0xABF58C10 ∷ 0xDDFF12E9 ∷ 0xDB167677 ∷ 0x0EA727BB ∷ 0xAEF30482 ∷ 0xAD6F0F2D ∷
    0x488FF689 ∷ 0x7BE8D111 ∷ 0x40D73BCC ∷ 0x29FD9F0A ∷ 0x84014F09 ∷ 0xF3749563 ∷ 0x31A1E59A ∷ 0xD7BC1752 ∷
    0x44914989 ∷ 0x22BB1372 ∷ 0x4DB5256C ∷ 0xFB7063A8 ∷ 0x804398CD ∷ 0xBB664637 ∷ 0xBFB5FC8F ∷ 0xB054C240 ∷
    0x517CD267 ∷ 0xFED54ACE ∷ 0x0BC929D8 ∷ 0x1B575A50 ∷ 0xAD1C4D7F ∷ 0xDA3C526A ∷ 0xBC670E77 ∷ 0x897EAFEA ∷ []

abbrev mixed : List ℕ
mixed =
    0x93C1CC79 ∷ 0xCAEB9D62 ∷ 0x700B7F04 ∷ 0xB6F64B60 ∷ 0x4ADDE32C ∷ 0x55E32696 ∷ 0x9861FCFA ∷ 0x462BEAE6 ∷
    0x671384D5 ∷ 0x29B0993B ∷ 0x57C365D6 ∷ 0x26B41F60 ∷ 0xBBF4B2A0 ∷ 0x9FEE00A2 ∷ 0x9BD1430A ∷ 0x719C1A57 ∷
    0xE64211EF ∷ 0x6F265A5D ∷ 0x2C83CADD ∷ 0x7CAA9FE5 ∷ 0xF19C0BAC ∷ 0xCAFF2BBE ∷ 0xEE010D30 ∷ 0xC4197638 ∷
    0x44FD12AE ∷ 0xA003F238 ∷ 0x7EC4E1E4 ∷ 0x1F8614C3 ∷ 0xCB87904E ∷ 0x686A3933 ∷ 0xD2F9E873 ∷ 0x8E4B9A53 ∷ []

row_is : words_of (part_at (pbkdf2 [] [] 128) 1 0) 32 ≡ row
unfolding first_words schedule rounds compress hash_after digest_bytes sha256 key_block hmac_sha256 joined_blocks pbkdf2 words_of
row_is = refl

key_of_mixed : pbkdf2 [] (octets_of mixed) 64 ≡
    0x77 ∷ 0xD6 ∷ 0x57 ∷ 0x62 ∷ 0x38 ∷ 0x65 ∷ 0x7B ∷ 0x20 ∷ 0x3B ∷ 0x19 ∷ 0xCA ∷ 0x42 ∷ 0xC1 ∷ 0x8A ∷ 0x04 ∷ 0x97 ∷
    0xF1 ∷ 0x6B ∷ 0x48 ∷ 0x44 ∷ 0xE3 ∷ 0x07 ∷ 0x4A ∷ 0xE8 ∷ 0xDF ∷ 0xDF ∷ 0xFA ∷ 0x3F ∷ 0xED ∷ 0xE2 ∷ 0x14 ∷ 0x42 ∷
    0xFC ∷ 0xD0 ∷ 0x06 ∷ 0x9D ∷ 0xED ∷ 0x09 ∷ 0x48 ∷ 0xF8 ∷ 0x32 ∷ 0x6A ∷ 0x75 ∷ 0x3A ∷ 0x0F ∷ 0xC8 ∷ 0x1F ∷ 0x17 ∷
    0xE8 ∷ 0xD3 ∷ 0xE0 ∷ 0xFB ∷ 0x2E ∷ 0x0D ∷ 0x36 ∷ 0x28 ∷ 0xCF ∷ 0x35 ∷ 0xE2 ∷ 0x0C ∷ 0x38 ∷ 0xD1 ∷ 0x89 ∷ 0x06 ∷ []
unfolding first_words schedule rounds compress hash_after digest_bytes sha256 key_block hmac_sha256 joined_blocks pbkdf2
key_of_mixed = refl

pub returns : goal.returns
unfolding parts_after_romix scrypt
returns c = record {
  key = ap (λ (x : List ℕ). pbkdf2 [] (octets_of (romix x 16)) 64) row_is
      ∙ ap (λ (x : List ℕ). pbkdf2 [] (octets_of x) 64) c.romix_vector.ensures.words ∙ key_of_mixed;
}
