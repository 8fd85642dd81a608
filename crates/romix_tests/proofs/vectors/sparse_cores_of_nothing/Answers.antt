-- The sixteen turns, one lemma each: of each the row before it is written out, so that none computes more than a few
-- BlockMixes.
use Rattle.std.proofs.Common.{◌≡◌, ◌∙◌, ℕ, suc, ◌+◌, ◌*◌, ◌%◌, List, [], ◌∷◌, arith, refl, ap, ap₂}
use Rattle.sha2.specs.Sha256.{compress, digest_bytes, first_words, hash_after, rounds, schedule, sha256}
use Rattle.macs.specs.HmacSha256.{hmac_sha256, key_block}
use Rattle.macs.specs.Pbkdf2.{joined_blocks, pbkdf2}
use Rattle.four_words.specs.Words.{xored_words}
use Rattle.romix.specs.BlockMix.{block_mix, block_mix_x_after, every_second_output}
use Rattle.romix.specs.Romix.{integerify, romix_row_after_turns, row_of_v}
use Rattle.romix.specs.Salsa20.{double_rounds, quarter_round, quarter_round_at, quarter_rounds, salsa20_8}
use Rattle.romix.specs.Scrypt.{part_at, words_of}
use Rattle.romix.specs.Sparse.{mixes, block_mix_count_of_parts, sparse_table_core_count, mix_count_from_kept_rows}
use Rattle.romix.specs.SparseCosts.{CostsAndKeep}
use Rattle.romix_tests.proofs.vectors.sparse_cores_of_nothing.Goals as goal

abbrev kept : ℕ → CostsAndKeep
kept s = record { costs = record { log_n = 4; r = 1; p = 1 }; keep = s }

-- after i turns the row is x, and so many BlockMixes led from kept rows to those that were read, for each S
record IsAt (b x : List ℕ) (i by_2 by_4 by_8 by_16 : ℕ) : Type 0 where
  row : romix_row_after_turns b 16 i ≡ x
  two : mix_count_from_kept_rows b 16 2 i ≡ by_2
  four : mix_count_from_kept_rows b 16 4 i ≡ by_4
  eight : mix_count_from_kept_rows b 16 8 i ≡ by_8
  sixteen : mix_count_from_kept_rows b 16 16 i ≡ by_16

steps_more : (b x : List ℕ) (i s so_far more : ℕ) → romix_row_after_turns b 16 i ≡ x → mix_count_from_kept_rows b 16 s i ≡ so_far → integerify x % s ≡ more
    → mix_count_from_kept_rows b 16 s (suc i) ≡ so_far + more
unfolding mix_count_from_kept_rows
steps_more b x i s so_far more row steps number = ap₂ (λ (m n : ℕ). m + n) steps (ap (λ (y : List ℕ). integerify y % s) row ∙ number)

row_more : (b x y : List ℕ) (i j : ℕ) → romix_row_after_turns b 16 i ≡ x → integerify x % 16 ≡ j → block_mix (xored_words x (row_of_v b j)) ≡ y
    → romix_row_after_turns b 16 (suc i) ≡ y
unfolding romix_row_after_turns
row_more b x y i j row number mixed =
    ap (λ (z : List ℕ). block_mix (xored_words z (row_of_v b (integerify z % 16)))) row
    ∙ ap (λ (k : ℕ). block_mix (xored_words x (row_of_v b k))) number ∙ mixed

-- a turn more, that reads row j
turn : (b x y : List ℕ) (i by_2 by_4 by_8 by_16 j : ℕ) → IsAt b x i by_2 by_4 by_8 by_16 → integerify x % 16 ≡ j → block_mix (xored_words x (row_of_v b j)) ≡ y
    → IsAt b y (suc i) (by_2 + j % 2) (by_4 + j % 4) (by_8 + j % 8) (by_16 + j)
turn b x y i by_2 by_4 by_8 by_16 j at number mixed = record {
  row = row_more b x y i j at.row number mixed;
  two = steps_more b x i 2 by_2 (j % 2) at.row at.two (omega (arith, number));
  four = steps_more b x i 4 by_4 (j % 4) at.row at.four (omega (arith, number));
  eight = steps_more b x i 8 by_8 (j % 8) at.row at.eight (omega (arith, number));
  sixteen = steps_more b x i 16 by_16 j at.row at.sixteen number;
}

-- ---- the rows

-- the one part of B
abbrev b : List ℕ
b =
    0x650BCEF7 ∷ 0xA4722D3D ∷ 0xABF58C10 ∷ 0xDDFF12E9 ∷ 0xDB167677 ∷ 0x0EA727BB ∷ 0xAEF30482 ∷ 0xAD6F0F2D ∷
    0x488FF689 ∷ 0x7BE8D111 ∷ 0x40D73BCC ∷ 0x29FD9F0A ∷ 0x84014F09 ∷ 0xF3749563 ∷ 0x31A1E59A ∷ 0xD7BC1752 ∷
    0x44914989 ∷ 0x22BB1372 ∷ 0x4DB5256C ∷ 0xFB7063A8 ∷ 0x804398CD ∷ 0xBB664637 ∷ 0xBFB5FC8F ∷ 0xB054C240 ∷
    0x517CD267 ∷ 0xFED54ACE ∷ 0x0BC929D8 ∷ 0x1B575A50 ∷ 0xAD1C4D7F ∷ 0xDA3C526A ∷ 0xBC670E77 ∷ 0x897EAFEA ∷ []

-- X before each turn
abbrev x_0 : List ℕ
x_0 =
    0x45844EFE ∷ 0xF4E5630F ∷ 0xE29E98F2 ∷ 0x585F3E7B ∷ 0x5526B8F8 ∷ 0x7939D40E ∷ 0x6BF65DA8 ∷ 0x818B517C ∷
    0xC360D882 ∷ 0xF589B043 ∷ 0x16600945 ∷ 0xB1747358 ∷ 0x32689275 ∷ 0xC1C2B0FC ∷ 0xDDC67D82 ∷ 0xA90614BB ∷
    0x0510A964 ∷ 0xE2B6E8D5 ∷ 0xFFE79F9B ∷ 0x32F08AE0 ∷ 0xDE44BB76 ∷ 0x612F6600 ∷ 0xD8A88BF6 ∷ 0xD0929410 ∷
    0x7F91D0D5 ∷ 0xCEE5CFDF ∷ 0x9DD402CA ∷ 0xA8BA274A ∷ 0x876DC9E4 ∷ 0xC6EFB102 ∷ 0x2FFE93FE ∷ 0xFD0C66DD ∷ []

abbrev x_1 : List ℕ
x_1 =
    0x45BBCA45 ∷ 0x1ECC7B5B ∷ 0x68CD069C ∷ 0x0FC61D38 ∷ 0xE15449BD ∷ 0x7646B537 ∷ 0x542461B3 ∷ 0xE859BBC4 ∷
    0xAFDE9F3A ∷ 0x50413F42 ∷ 0xC25B29C8 ∷ 0x4E76B646 ∷ 0x9B6F8B99 ∷ 0x296A042D ∷ 0xA8EC4B17 ∷ 0x4D5E8FEF ∷
    0xCEE54842 ∷ 0x48CCABF9 ∷ 0x82970C52 ∷ 0xAD6C5620 ∷ 0x97C74089 ∷ 0x8ECCEEB0 ∷ 0x7F3CE625 ∷ 0x4959046D ∷
    0x9441E8D7 ∷ 0x0C9D4AB4 ∷ 0xB5835668 ∷ 0xD56ADD97 ∷ 0x6F340DA7 ∷ 0x24C9F08E ∷ 0x5CBD9654 ∷ 0x5AAF3603 ∷ []

abbrev x_2 : List ℕ
x_2 =
    0x3EFAC8EC ∷ 0xDAD96741 ∷ 0x57610C82 ∷ 0x54E095C1 ∷ 0x5B623E92 ∷ 0xB53CC581 ∷ 0x8825BA92 ∷ 0x28CB6FFA ∷
    0x2A0B6218 ∷ 0xBDE2DC44 ∷ 0x338AD8ED ∷ 0x938BCCC4 ∷ 0x6D14E530 ∷ 0x346B1BB5 ∷ 0x6EA6798B ∷ 0x1F482021 ∷
    0x8E5C8BD5 ∷ 0xF453419F ∷ 0xA8F3F27B ∷ 0xF6CC387B ∷ 0xC4EED596 ∷ 0xA1631A74 ∷ 0x29D2462B ∷ 0x988A1005 ∷
    0x73F0D776 ∷ 0xA82BC729 ∷ 0x43362770 ∷ 0x11D666FB ∷ 0xA0E08B13 ∷ 0x14324955 ∷ 0xD1C5A169 ∷ 0x0F7A4F06 ∷ []

abbrev x_3 : List ℕ
x_3 =
    0x72CBEA06 ∷ 0xD1789ACF ∷ 0x2F20EF17 ∷ 0x8B2F67F6 ∷ 0x0C567E9F ∷ 0xE4595A20 ∷ 0xA5E59A92 ∷ 0xF2A48770 ∷
    0xD5BA3A8F ∷ 0xB9C1F84A ∷ 0x78DC051D ∷ 0xB3EA004B ∷ 0x911E3E7B ∷ 0xEB1B7935 ∷ 0xE36AA032 ∷ 0x19453DE2 ∷
    0xEFD6D637 ∷ 0x056AB3FA ∷ 0x5F3AEE09 ∷ 0xEFA4234F ∷ 0x1D7E4EAB ∷ 0x22EA0F58 ∷ 0xBD8D09F8 ∷ 0xA273DB97 ∷
    0xE5699F45 ∷ 0x164A3E61 ∷ 0x425A33E1 ∷ 0x0A1D6F78 ∷ 0xAF98F2F0 ∷ 0x5BDAF1F4 ∷ 0x7EBA33BF ∷ 0x43F5231C ∷ []

abbrev x_4 : List ℕ
x_4 =
    0xD87E94AB ∷ 0x012FE4DC ∷ 0x4D6A4473 ∷ 0x68D22A04 ∷ 0xD2F2ED64 ∷ 0x0606C303 ∷ 0x0BCF001E ∷ 0x045768E4 ∷
    0xC0A8374B ∷ 0x94E9EC78 ∷ 0x473E90F8 ∷ 0x95911362 ∷ 0xA5951A73 ∷ 0x1C8A307B ∷ 0x23022E7D ∷ 0xE2109D43 ∷
    0xCE7D9E89 ∷ 0x399C73A1 ∷ 0x08714A1A ∷ 0x208EA0EB ∷ 0xD51E6EBF ∷ 0x7AFBBED0 ∷ 0x700F3394 ∷ 0xAE78DE43 ∷
    0x9708B7CB ∷ 0x700DF9AE ∷ 0xCFEAAA14 ∷ 0xBC914560 ∷ 0x1B87874E ∷ 0x8B968481 ∷ 0x44A34B29 ∷ 0x95BA95CF ∷ []

abbrev x_5 : List ℕ
x_5 =
    0x81719FF8 ∷ 0xBA51F1B8 ∷ 0xAE5AE34E ∷ 0x24A05FB2 ∷ 0x503F6DD4 ∷ 0x052F201A ∷ 0x3E57FAB3 ∷ 0x1116B120 ∷
    0xF1EE1E56 ∷ 0x322A5927 ∷ 0xF27FFC60 ∷ 0xA3B28C00 ∷ 0x5DC5A7DD ∷ 0xCBCFE1AE ∷ 0xD0AF4C3B ∷ 0x7278E007 ∷
    0xBF639BE1 ∷ 0x989965AA ∷ 0x026BCAEE ∷ 0xDBF0430C ∷ 0x3534628C ∷ 0x05FFC6BD ∷ 0x2CA53054 ∷ 0xEA9F4973 ∷
    0xE746AA85 ∷ 0x2ACD130B ∷ 0x524B9AF1 ∷ 0x94995F24 ∷ 0x129AFB33 ∷ 0x1FDF9C85 ∷ 0x3EB12670 ∷ 0xEA2DBE84 ∷ []

abbrev x_6 : List ℕ
x_6 =
    0xBE2E8130 ∷ 0xD9FD8D13 ∷ 0xB115727D ∷ 0x063AB7C4 ∷ 0x76AAC4BF ∷ 0xA3870B74 ∷ 0x15419A0D ∷ 0xE5A56A0A ∷
    0x91E98EAA ∷ 0x701C9449 ∷ 0xD13B3CF1 ∷ 0xAD73DDF2 ∷ 0x105C7B4C ∷ 0x835E5954 ∷ 0x18AF0188 ∷ 0xCF769798 ∷
    0xE50BFD07 ∷ 0xD648D313 ∷ 0x2CF76809 ∷ 0xE18D3845 ∷ 0xFF4E4356 ∷ 0xD79B5FCC ∷ 0xF3938BAE ∷ 0xAA48797A ∷
    0xD75D0B7D ∷ 0xAA854569 ∷ 0xD0A0AE0A ∷ 0x0BED1105 ∷ 0x308BD6F0 ∷ 0x586CBD7B ∷ 0x9ED03EFE ∷ 0x5ED72CE1 ∷ []

abbrev x_7 : List ℕ
x_7 =
    0x8D422206 ∷ 0xB286D508 ∷ 0x32D4ADE2 ∷ 0x5315B373 ∷ 0x496E3CCD ∷ 0x7CADCC60 ∷ 0x9C50B5D3 ∷ 0xD8FDC44A ∷
    0x7A0B8A91 ∷ 0x04A9DE30 ∷ 0xBC974B02 ∷ 0x0006A53E ∷ 0xDE1D29BE ∷ 0xF70BA10C ∷ 0x055FA0FD ∷ 0x9A733052 ∷
    0xD6D39472 ∷ 0x9D770FA3 ∷ 0x2EF19D67 ∷ 0x335C830F ∷ 0xE15587F1 ∷ 0xEDC937E4 ∷ 0x6C9F58AD ∷ 0x32301ADF ∷
    0x3639535F ∷ 0xB4564AFF ∷ 0x4D33CB21 ∷ 0xC9C83001 ∷ 0x6C7E5A58 ∷ 0x1F912052 ∷ 0x1037F14C ∷ 0x5D9FF364 ∷ []

abbrev x_8 : List ℕ
x_8 =
    0x718EEF56 ∷ 0x676FE757 ∷ 0xE29D8DD3 ∷ 0xEB510FBA ∷ 0xE7179976 ∷ 0x37ACC3B7 ∷ 0xBB0416C6 ∷ 0x3A491F87 ∷
    0x73B7E206 ∷ 0xB66C680F ∷ 0xFD2CC0D6 ∷ 0x9208C4BC ∷ 0x3ADD0F11 ∷ 0xD768E21E ∷ 0x80ED4DAF ∷ 0xC77B9313 ∷
    0x7BA143CD ∷ 0x23543B14 ∷ 0x6AE6197E ∷ 0x1D1C1D19 ∷ 0xA1749669 ∷ 0x675FC916 ∷ 0x4B44E851 ∷ 0xC3FA54DB ∷
    0x1ADDE421 ∷ 0x013988B8 ∷ 0x30B73399 ∷ 0xD09948AC ∷ 0x08364D5E ∷ 0x71C28FA8 ∷ 0x3E5CDA86 ∷ 0xC83EB34F ∷ []

abbrev x_9 : List ℕ
x_9 =
    0x735990DF ∷ 0xD8E9540E ∷ 0x841D4605 ∷ 0xEFF67050 ∷ 0xB718DCD0 ∷ 0x879FFBE2 ∷ 0xBC541B16 ∷ 0x9429F52B ∷
    0xDA2F97E1 ∷ 0xFA24A18F ∷ 0x987982AE ∷ 0xD75205A3 ∷ 0x438D1B11 ∷ 0x59AB6C63 ∷ 0xBDB407A4 ∷ 0xF9AD32B1 ∷
    0xAB26E332 ∷ 0x7BA3E6DB ∷ 0x0C2A40DD ∷ 0x24FF3C71 ∷ 0xD1300C0B ∷ 0x2EA6BD62 ∷ 0x10EB9B3C ∷ 0x94D080A0 ∷
    0x530E47F8 ∷ 0x4C56D850 ∷ 0xB42729F0 ∷ 0xA0482DFB ∷ 0x2B6ED6ED ∷ 0x054C4129 ∷ 0xD9D55E19 ∷ 0xBDFAD632 ∷ []

abbrev x_10 : List ℕ
x_10 =
    0x4A9D72A6 ∷ 0xF77A7CB4 ∷ 0x9B4F829D ∷ 0xADD8E54D ∷ 0xB481F075 ∷ 0x5E83DB75 ∷ 0x866CC602 ∷ 0x920F69E4 ∷
    0xBF800190 ∷ 0x42394CAB ∷ 0x92FE8036 ∷ 0x4F8FBB92 ∷ 0x1D62870A ∷ 0xE3BA2AC0 ∷ 0xFCAE43D1 ∷ 0xFEDA1024 ∷
    0x2C17948B ∷ 0x751A7D65 ∷ 0x94224F9E ∷ 0xB294F943 ∷ 0x9611719F ∷ 0x94C44496 ∷ 0xDF232450 ∷ 0x36F89B1E ∷
    0x681D66AA ∷ 0xF1A0088B ∷ 0xDBD06044 ∷ 0x7DF8CA7A ∷ 0x7F4317C0 ∷ 0x44B388F2 ∷ 0xCFFEAAAA ∷ 0x79D7A467 ∷ []

abbrev x_11 : List ℕ
x_11 =
    0xCA166AFD ∷ 0x1BD76A64 ∷ 0xA29AB9E2 ∷ 0x42DD6BE4 ∷ 0xE8F01401 ∷ 0xBA932293 ∷ 0x0937001B ∷ 0xA7F3FB8B ∷
    0x35BD0D25 ∷ 0xCB949C97 ∷ 0x80306A77 ∷ 0xE82D0295 ∷ 0x235E70C2 ∷ 0xF750D0B8 ∷ 0x7BE3725C ∷ 0x3B4C7D5E ∷
    0xA407F70A ∷ 0x7571E275 ∷ 0x2C87AB47 ∷ 0xFF58772B ∷ 0x8F6EB964 ∷ 0xA42B16D1 ∷ 0x8676DA2D ∷ 0x074180EA ∷
    0xDF8A61C8 ∷ 0xAD75DCE5 ∷ 0x8BC1C82D ∷ 0xDF5480FA ∷ 0xD6E67834 ∷ 0x9ECEDE31 ∷ 0xEFFCF743 ∷ 0xFBAC8346 ∷ []

abbrev x_12 : List ℕ
x_12 =
    0xA5930709 ∷ 0xBB4D9091 ∷ 0x62C580C0 ∷ 0xD2CC8CA3 ∷ 0x3D5D3AB3 ∷ 0x15411722 ∷ 0x515B954C ∷ 0x0B632F8A ∷
    0x55D373F7 ∷ 0x26D6F1A8 ∷ 0x399FABB4 ∷ 0x8FF5E56B ∷ 0xB50BA8A7 ∷ 0x09FB4E82 ∷ 0x3705F150 ∷ 0xDD0EC3D5 ∷
    0xC22270EA ∷ 0x6DF91F75 ∷ 0x884F3984 ∷ 0xC74ADD10 ∷ 0xDB7CAE18 ∷ 0xB8FC0E59 ∷ 0x1717840D ∷ 0xAD425D80 ∷
    0x70BF1F8D ∷ 0xC00963AB ∷ 0xEDD13329 ∷ 0xF58E11CA ∷ 0xDCEFC38A ∷ 0x7F3FA8D1 ∷ 0x0AD8E053 ∷ 0xB118DD06 ∷ []

abbrev x_13 : List ℕ
x_13 =
    0x122505A0 ∷ 0x13D1B691 ∷ 0x288C3997 ∷ 0xC876B8B1 ∷ 0xB44C1E0D ∷ 0x798111B0 ∷ 0x8200D6E7 ∷ 0xB7D4D83C ∷
    0x4BF9AB87 ∷ 0x8C6478A1 ∷ 0x0E4D51D7 ∷ 0x70E39EE9 ∷ 0xF93AD4EC ∷ 0xFDC2814C ∷ 0x99EE4411 ∷ 0x816A483B ∷
    0x53392D3F ∷ 0xE1DDEA9D ∷ 0x71F26BC2 ∷ 0xDE7C96B2 ∷ 0x98077094 ∷ 0x513C77C2 ∷ 0x2FBC6078 ∷ 0xC4047EBD ∷
    0xEABE6960 ∷ 0x557C67BE ∷ 0x7DD900D8 ∷ 0xA493FD5F ∷ 0xF70660BA ∷ 0x04C81A4F ∷ 0x0BB8FFB0 ∷ 0xAC3EAE01 ∷ []

abbrev x_14 : List ℕ
x_14 =
    0xAA0B34FB ∷ 0xB9766366 ∷ 0x26302EF9 ∷ 0x6552EF63 ∷ 0xC324DECF ∷ 0x2AEBF82C ∷ 0xB60B532B ∷ 0x065978A6 ∷
    0xA37B5DA5 ∷ 0x441139DF ∷ 0x033C861C ∷ 0x5425C3C2 ∷ 0x4C7CDF25 ∷ 0x954E1973 ∷ 0x1DE717BB ∷ 0xD0AF0F1E ∷
    0xD69A191D ∷ 0x9F29DCFD ∷ 0x7567272D ∷ 0xEEB7CEDB ∷ 0xA23AA553 ∷ 0xFB9A9135 ∷ 0x65965E50 ∷ 0xEE589CB0 ∷
    0x7082AA04 ∷ 0xC51AA942 ∷ 0x9B5E8A44 ∷ 0xE582E07B ∷ 0x1123FCC9 ∷ 0xC591096C ∷ 0x7F7E5F96 ∷ 0xD8078026 ∷ []

abbrev x_15 : List ℕ
x_15 =
    0xD4508739 ∷ 0x9B204646 ∷ 0x5588249B ∷ 0x945876BB ∷ 0xB28149C2 ∷ 0x99764666 ∷ 0x27906651 ∷ 0x0A788C85 ∷
    0x4F4CFB80 ∷ 0x56955A22 ∷ 0x38B3513E ∷ 0x2DE9554A ∷ 0xACE913CA ∷ 0xC6F8979C ∷ 0x8A5F119D ∷ 0x9A493235 ∷
    0x0FABE4A2 ∷ 0x2E476993 ∷ 0xB9D66CCC ∷ 0x696B2DFE ∷ 0x9C866020 ∷ 0x2444E62F ∷ 0x405B8AA7 ∷ 0x7DBB0682 ∷
    0xDBE772E4 ∷ 0x18575E98 ∷ 0x28D73C25 ∷ 0x6EF88FA8 ∷ 0xD14CE99B ∷ 0x4D689049 ∷ 0x8D39BEF1 ∷ 0x51BCB84A ∷ []

-- ---- the turns

b_is : words_of (part_at (pbkdf2 [] [] 128) 1 0) 32 ≡ b
unfolding first_words schedule rounds compress hash_after digest_bytes sha256 key_block hmac_sha256 joined_blocks pbkdf2 words_of
b_is = refl

filled : row_of_v b 16 ≡ x_0
unfolding quarter_round quarter_round_at quarter_rounds double_rounds salsa20_8 block_mix_x_after every_second_output block_mix row_of_v
filled = refl

at_0 : IsAt b x_0 0 0 0 0 0
unfolding romix_row_after_turns mix_count_from_kept_rows
at_0 = record { row = filled; two = refl; four = refl; eight = refl; sixteen = refl }

at_1 : IsAt b x_1 1 0 0 4 4
unfolding quarter_round quarter_round_at quarter_rounds double_rounds salsa20_8 block_mix_x_after every_second_output block_mix row_of_v integerify
at_1 = turn b x_0 x_1 0 _ _ _ _ 4 at_0 refl refl

at_2 : IsAt b x_2 2 0 2 6 6
unfolding quarter_round quarter_round_at quarter_rounds double_rounds salsa20_8 block_mix_x_after every_second_output block_mix row_of_v integerify
at_2 = turn b x_1 x_2 1 _ _ _ _ 2 at_1 refl refl

at_3 : IsAt b x_3 3 1 3 11 11
unfolding quarter_round quarter_round_at quarter_rounds double_rounds salsa20_8 block_mix_x_after every_second_output block_mix row_of_v integerify
at_3 = turn b x_2 x_3 2 _ _ _ _ 5 at_2 refl refl

at_4 : IsAt b x_4 4 2 6 18 18
unfolding quarter_round quarter_round_at quarter_rounds double_rounds salsa20_8 block_mix_x_after every_second_output block_mix row_of_v integerify
at_4 = turn b x_3 x_4 3 _ _ _ _ 7 at_3 refl refl

at_5 : IsAt b x_5 5 3 7 19 27
unfolding quarter_round quarter_round_at quarter_rounds double_rounds salsa20_8 block_mix_x_after every_second_output block_mix row_of_v integerify
at_5 = turn b x_4 x_5 4 _ _ _ _ 9 at_4 refl refl

at_6 : IsAt b x_6 6 4 8 20 28
unfolding quarter_round quarter_round_at quarter_rounds double_rounds salsa20_8 block_mix_x_after every_second_output block_mix row_of_v integerify
at_6 = turn b x_5 x_6 5 _ _ _ _ 1 at_5 refl refl

at_7 : IsAt b x_7 7 5 11 27 35
unfolding quarter_round quarter_round_at quarter_rounds double_rounds salsa20_8 block_mix_x_after every_second_output block_mix row_of_v integerify
at_7 = turn b x_6 x_7 6 _ _ _ _ 7 at_6 refl refl

at_8 : IsAt b x_8 8 5 13 29 37
unfolding quarter_round quarter_round_at quarter_rounds double_rounds salsa20_8 block_mix_x_after every_second_output block_mix row_of_v integerify
at_8 = turn b x_7 x_8 7 _ _ _ _ 2 at_7 refl refl

at_9 : IsAt b x_9 9 6 14 34 50
unfolding quarter_round quarter_round_at quarter_rounds double_rounds salsa20_8 block_mix_x_after every_second_output block_mix row_of_v integerify
at_9 = turn b x_8 x_9 8 _ _ _ _ 13 at_8 refl refl

at_10 : IsAt b x_10 10 6 16 36 52
unfolding quarter_round quarter_round_at quarter_rounds double_rounds salsa20_8 block_mix_x_after every_second_output block_mix row_of_v integerify
at_10 = turn b x_9 x_10 9 _ _ _ _ 2 at_9 refl refl

at_11 : IsAt b x_11 11 7 19 39 63
unfolding quarter_round quarter_round_at quarter_rounds double_rounds salsa20_8 block_mix_x_after every_second_output block_mix row_of_v integerify
at_11 = turn b x_10 x_11 10 _ _ _ _ 11 at_10 refl refl

at_12 : IsAt b x_12 12 7 21 41 73
unfolding quarter_round quarter_round_at quarter_rounds double_rounds salsa20_8 block_mix_x_after every_second_output block_mix row_of_v integerify
at_12 = turn b x_11 x_12 11 _ _ _ _ 10 at_11 refl refl

at_13 : IsAt b x_13 13 7 23 43 83
unfolding quarter_round quarter_round_at quarter_rounds double_rounds salsa20_8 block_mix_x_after every_second_output block_mix row_of_v integerify
at_13 = turn b x_12 x_13 12 _ _ _ _ 10 at_12 refl refl

at_14 : IsAt b x_14 14 8 26 50 98
unfolding quarter_round quarter_round_at quarter_rounds double_rounds salsa20_8 block_mix_x_after every_second_output block_mix row_of_v integerify
at_14 = turn b x_13 x_14 13 _ _ _ _ 15 at_13 refl refl

at_15 : IsAt b x_15 15 9 27 55 111
unfolding quarter_round quarter_round_at quarter_rounds double_rounds salsa20_8 block_mix_x_after every_second_output block_mix row_of_v integerify
at_15 = turn b x_14 x_15 14 _ _ _ _ 13 at_14 refl refl

-- of the last turn the row that it reads counts alone
last : integerify x_15 % 16 ≡ 2
unfolding integerify
last = refl

-- ---- the count

counted : (s steps : ℕ) → mix_count_from_kept_rows b 16 s 16 ≡ steps → sparse_table_core_count [] [] (kept s) ≡ 2 * (32 + steps)
unfolding mixes block_mix_count_of_parts sparse_table_core_count
counted s steps h = ap (λ (row : List ℕ). 2 * (0 + (32 + mix_count_from_kept_rows row 16 s 16))) b_is ∙ (let e : 2 * (0 + (32 + mix_count_from_kept_rows b 16 s 16)) ≡ 2 * (32 + steps) = omega (arith, h) in e)

pub returns : goal.returns
returns c = record {
  keep_2 = counted 2 9 (steps_more b x_15 15 2 9 0 at_15.row at_15.two (omega (arith, last)));
  keep_4 = counted 4 29 (steps_more b x_15 15 4 27 2 at_15.row at_15.four (omega (arith, last)));
  keep_8 = counted 8 57 (steps_more b x_15 15 8 55 2 at_15.row at_15.eight (omega (arith, last)));
  keep_16 = counted 16 113 (steps_more b x_15 15 16 111 2 at_15.row at_15.sixteen last);
}
