use Rattle.std.proofs.Common.{◌≡◌, ◌++◌, ◌<◌, IsTrue, drop, map, string_bytes}
use Rattle.tools.proofs.arguments.words.Given as goal

-- the words so far and those that are left are all words
abbrev pub invariant-loop-place : goal.invariant-loop-place
invariant-loop-place g l = (0 < l.place) × (IsTrue g.S.System.tells
    → map string_bytes l.words.items ++ drop l.place (g.S.System.words l.system) ≡ drop 1 (g.S.System.words l.system))
