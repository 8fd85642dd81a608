-- What is asked of a source of memory: the tag, its line and one matrix, in this order, each once.
use Rattle.std.specs.Prelude.{◌≡◌, ◌⊎◌, Bool, true, false, ℕ, Result, MatchResult}
use Rattle.argon.specs.Argon2.{Parameters}
use Rattle.argon2_words.specs.Request.{Request}

-- what a request for so many bytes of zero, for the line of a tag of so many bytes, and for a matrix leave of a
-- source of memory, granted or refused
pub record MemoryRequestEffects (Source : Type 0) : Type 0 where
  pub after_zeros : Source → ℕ → Bool → Source
  pub after_line : Source → Request → ℕ → Bool → Source
  pub after_matrix : Source → Parameters → Bool → Source

-- the source once the memory of the tag was granted
abbrev pub after_tag_request : {Source : Type 0} → MemoryRequestEffects Source → Parameters → Source → Source
after_tag_request ask p before = ask.after_zeros before p.tag_len true

-- the source once the memory of the tag and of its line was granted
abbrev pub after_tag_and_line_requests : {Source : Type 0} → MemoryRequestEffects Source → Request → Parameters → Source → Source
after_tag_and_line_requests ask request p before = ask.after_line (after_tag_request ask p before) request p.tag_len true

-- the source once the memory of the tag, of its line and of the matrix was granted
abbrev pub after_all_requests : {Source : Type 0} → MemoryRequestEffects Source → Request → Parameters → Source → Source
after_all_requests ask request p before = ask.after_matrix (after_tag_and_line_requests ask request p before) p true

-- one of the three requests, for the tag, its line and the matrix, was refused, and none was made after it
abbrev pub OneRequestRefused : {Source : Type 0} → MemoryRequestEffects Source → Request → Parameters → Source → Source → Type 0
OneRequestRefused ask request p before after =
    (after ≡ ask.after_zeros before p.tag_len false)
    ⊎ (after ≡ ask.after_line (after_tag_request ask p before) request p.tag_len false)
    ⊎ (after ≡ ask.after_matrix (after_tag_and_line_requests ask request p before) p false)

-- a hash of these parameters that was made, or for which memory was refused, and the source before and after it: all
-- three requests were granted, or one of them was refused
abbrev pub RequestsMemoryForHash : {Source A E : Type 0} → MemoryRequestEffects Source → Request → Parameters → Result A E → Source → Source → Type 0
RequestsMemoryForHash ask request p result before after =
    MatchResult result (λ _. after ≡ after_all_requests ask request p before) (λ _. OneRequestRefused ask request p before after)
