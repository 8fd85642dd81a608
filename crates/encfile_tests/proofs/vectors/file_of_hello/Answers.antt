-- The file and its text, part by part: each part is computed from the bytes of those before it. The keys, and the first
-- block of the key stream, are those that Python's `hashlib.scrypt` and `openssl enc -aes-256-ctr` give.
use Rattle.std.proofs.Common.{◌≡◌, List, ℕ, true, [], ◌∷◌, ◌++◌, ◌-◌, length, nat_le, take, drop, codes, refl}
use Rattle.std.specs.List.{range_with_len}
use Rattle.sha2.specs.Sha256.{compress, digest_bytes, first_words, hash_after, rounds, schedule, sha256}
use Rattle.macs.specs.HmacSha256.{hmac_sha256, key_block}
use Rattle.macs.specs.Pbkdf2.{joined_blocks, pbkdf2}
use Rattle.romix.specs.Costs.{Parameters}
use Rattle.romix.specs.BlockMix.{block_mix, block_mix_x_after, every_second_output}
use Rattle.romix.specs.Romix.{integerify, romix, romix_row_after_turns, row_of_v}
use Rattle.romix.specs.Salsa20.{double_rounds, quarter_round, quarter_round_at, quarter_rounds, salsa20_8}
use Rattle.romix.specs.Scrypt.{parts_after_romix, scrypt, words_of}
use Rattle.aes_ctr.specs.CounterMode.{counter_mode, counter_mode_from, key_stream_block}
use Rattle.aes_ctr.specs.Aes.{add_round_key, aes256, affine_bits, cipher, inverse, key_words, mix_columns, polynomial_product, product, product_of_squares, polynomial_remainder, schedule_words, shift_rows, state_after, sub_byte, sub_bytes}
use Rattle.encfile.specs.Header.{bytes_at, costs_of, header, salt_of}
use Rattle.encfile.specs.EncryptedFile.{body, derived_key, encrypted_file, head, released_text}
use Rattle.encfile.specs.Vectors.{front_of_hello}
use Rattle.encfile_tests.proofs.vectors.file_of_hello.Goals as goal

abbrev costs : Parameters
costs = record { log_n = 4; r = 1; p = 1 }

abbrev cipher_bytes : List ℕ
cipher_bytes =
    0x86 ∷ 0xFF ∷ 0xDA ∷ 0x64 ∷ 0xED ∷ 0x88 ∷ 0x50 ∷ 0xB7 ∷ 0x2D ∷ 0xCF ∷ 0x81 ∷ 0xD6 ∷ 0x13 ∷ 0x42 ∷ 0xA2 ∷ 0x18 ∷
    0x71 ∷ 0x3B ∷ 0x1B ∷ 0xAD ∷ 0xCB ∷ 0x10 ∷ 0xCB ∷ 0xAF ∷ 0xD6 ∷ 0xA2 ∷ 0xFA ∷ 0x5C ∷ 0x38 ∷ 0x56 ∷ 0x17 ∷ 0xEC ∷ []

abbrev code_bytes : List ℕ
code_bytes =
    0x86 ∷ 0x22 ∷ 0x6E ∷ 0xB7 ∷ 0x99 ∷ 0xB5 ∷ 0x2F ∷ 0x85 ∷ 0xC6 ∷ 0xDF ∷ 0xB2 ∷ 0x48 ∷ 0x3F ∷ 0x8C ∷ 0xA0 ∷ 0xF2 ∷
    0xC5 ∷ 0x9E ∷ 0x20 ∷ 0x63 ∷ 0xDE ∷ 0xC8 ∷ 0x82 ∷ 0x5E ∷ 0x63 ∷ 0x36 ∷ 0x00 ∷ 0x80 ∷ 0x95 ∷ 0x2B ∷ 0xD3 ∷ 0x9C ∷ []

keys_are : derived_key (codes "pw") (range_with_len 0 32) costs ≡ cipher_bytes ++ code_bytes
unfolding first_words schedule rounds compress hash_after digest_bytes sha256 key_block hmac_sha256 joined_blocks pbkdf2 quarter_round quarter_round_at quarter_rounds double_rounds salsa20_8 block_mix_x_after every_second_output block_mix integerify row_of_v romix_row_after_turns romix words_of parts_after_romix scrypt derived_key
keys_are = refl

block_is : key_stream_block cipher_bytes 0 ≡
    0xCB ∷ 0xAF ∷ 0x37 ∷ 0x34 ∷ 0x69 ∷ 0xF3 ∷ 0x82 ∷ 0x55 ∷ 0xE3 ∷ 0xB3 ∷ 0x5C ∷ 0x68 ∷ 0x91 ∷ 0x86 ∷ 0xA5 ∷ 0xE9 ∷ []
unfolding key_stream_block aes256 cipher state_after add_round_key mix_columns shift_rows sub_bytes schedule_words key_words sub_byte affine_bits inverse product_of_squares product polynomial_product polynomial_remainder
block_is = refl

abbrev header_bytes : List ℕ
header_bytes =
    0x73 ∷ 0x63 ∷ 0x72 ∷ 0x79 ∷ 0x70 ∷ 0x74 ∷ 0x00 ∷ 0x04 ∷ 0x00 ∷ 0x00 ∷ 0x00 ∷ 0x01 ∷ 0x00 ∷ 0x00 ∷ 0x00 ∷ 0x01 ∷
    0x00 ∷ 0x01 ∷ 0x02 ∷ 0x03 ∷ 0x04 ∷ 0x05 ∷ 0x06 ∷ 0x07 ∷ 0x08 ∷ 0x09 ∷ 0x0A ∷ 0x0B ∷ 0x0C ∷ 0x0D ∷ 0x0E ∷ 0x0F ∷
    0x10 ∷ 0x11 ∷ 0x12 ∷ 0x13 ∷ 0x14 ∷ 0x15 ∷ 0x16 ∷ 0x17 ∷ 0x18 ∷ 0x19 ∷ 0x1A ∷ 0x1B ∷ 0x1C ∷ 0x1D ∷ 0x1E ∷ 0x1F ∷
    0x1D ∷ 0x82 ∷ 0xFC ∷ 0x58 ∷ 0xA2 ∷ 0x9C ∷ 0x85 ∷ 0x33 ∷ 0x12 ∷ 0xA1 ∷ 0xE6 ∷ 0xA4 ∷ 0x8F ∷ 0xE9 ∷ 0x8F ∷ 0x8B ∷ []

abbrev header_code_bytes : List ℕ
header_code_bytes =
    0x05 ∷ 0x1B ∷ 0x8B ∷ 0x64 ∷ 0x44 ∷ 0x07 ∷ 0x9B ∷ 0xEF ∷ 0x98 ∷ 0x6B ∷ 0x3D ∷ 0x3C ∷ 0x6D ∷ 0x1D ∷ 0xF8 ∷ 0x6C ∷
    0xF5 ∷ 0xC6 ∷ 0x17 ∷ 0x35 ∷ 0xC7 ∷ 0x3C ∷ 0xCF ∷ 0x3A ∷ 0x91 ∷ 0xC0 ∷ 0x0C ∷ 0x40 ∷ 0x42 ∷ 0xFA ∷ 0xC3 ∷ 0x8A ∷ []

abbrev text_bytes : List ℕ
text_bytes =
    0xA3 ∷ 0xCA ∷ 0x5B ∷ 0x58 ∷ 0x06 ∷ []

abbrev final_code_bytes : List ℕ
final_code_bytes =
    0xFA ∷ 0xF6 ∷ 0x91 ∷ 0x95 ∷ 0x12 ∷ 0x96 ∷ 0xA9 ∷ 0x92 ∷ 0x5E ∷ 0x75 ∷ 0x4D ∷ 0x1B ∷ 0x00 ∷ 0xD8 ∷ 0xF6 ∷ 0xAC ∷
    0xAA ∷ 0x79 ∷ 0x86 ∷ 0x8E ∷ 0x22 ∷ 0x1C ∷ 0xD3 ∷ 0xC4 ∷ 0x0E ∷ 0xFB ∷ 0x4B ∷ 0xDD ∷ 0x9F ∷ 0xFB ∷ 0x35 ∷ 0xB8 ∷ []

header_is : header costs (range_with_len 0 32) ≡ header_bytes
unfolding first_words schedule rounds compress hash_after digest_bytes sha256 header
header_is = refl

header_code_is : hmac_sha256 code_bytes header_bytes ≡ header_code_bytes
unfolding first_words schedule rounds compress hash_after digest_bytes sha256 key_block hmac_sha256
header_code_is = refl

text_is : counter_mode cipher_bytes (codes "hello") ≡ text_bytes
unfolding counter_mode_from
text_is = rw block_is

final_code_is : hmac_sha256 code_bytes (header_bytes ++ header_code_bytes ++ text_bytes) ≡ final_code_bytes
unfolding first_words schedule rounds compress hash_after digest_bytes sha256 key_block hmac_sha256
final_code_is = refl

-- the parts, put together
assembled : (passphrase salt text keys first second third fourth : List ℕ) (numbers : Parameters) → derived_key passphrase salt numbers ≡ keys
    → header numbers salt ≡ first → hmac_sha256 (drop 32 keys) first ≡ second → counter_mode (take 32 keys) text ≡ third
    → hmac_sha256 (drop 32 keys) (first ++ second ++ third) ≡ fourth
    → encrypted_file passphrase salt numbers text ≡ first ++ second ++ third ++ fourth
unfolding head body encrypted_file
assembled passphrase salt text keys first second third fourth numbers k h c t f = rw (k, h, c, t, f)

plain_is : counter_mode cipher_bytes text_bytes ≡ codes "hello"
unfolding counter_mode_from
plain_is = rw block_is

released : (file passphrase salt keys bytes text : List ℕ) (numbers : Parameters) → nat_le 128 (length file) ≡ true
    → salt_of file ≡ salt → costs_of file ≡ numbers → derived_key passphrase salt numbers ≡ keys
    → bytes_at file 96 (length file - 128) ≡ bytes → counter_mode (take 32 keys) bytes ≡ text
    → released_text file passphrase ≡ text
unfolding released_text
released file passphrase salt keys bytes text numbers long s n k b t = rw (long, s, n, k, b, t)

cut_off_is : released_text front_of_hello (codes "pw") ≡ []
unfolding released_text
cut_off_is = refl

pub returns : goal.returns
returns c = record {
  file = assembled _ _ _ (cipher_bytes ++ code_bytes) header_bytes header_code_bytes text_bytes final_code_bytes _ keys_are header_is header_code_is text_is final_code_is;
  text = released _ _ (range_with_len 0 32) (cipher_bytes ++ code_bytes) text_bytes _ costs refl refl refl keys_are refl plain_is;
  cut_off = cut_off_is;
}
