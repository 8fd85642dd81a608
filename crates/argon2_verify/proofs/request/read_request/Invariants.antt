use Rattle.std.proofs.Common.{◌≡◌, length, map, string_bytes}
use Rattle.argon2_verify.specs.Request.{default_limits, request_after}
use Rattle.argon2_verify.proofs.request.read_request.Given as goal

-- the words that are left decide on, from what has been set
abbrev pub invariant-loop-first : goal.invariant-loop-first
invariant-loop-first l = record { set : request_after default_limits (map string_bytes l.words) ≡ request_after l.limits (map string_bytes l.rest) }

abbrev pub decreases-loop-first : goal.decreases-loop-first
decreases-loop-first l = length l.rest
