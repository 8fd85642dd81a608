use Rattle.std.proofs.Common.{◌≡◌, ◌≤◌, ◌∙◌, ◌+◌, List, ℕ, true, ap, arith, drop, length, min, subst, sym, take}
use Rattle.std.proofs.lemmas.Grind.{common_steps}
use Rattle.std.proofs.Math.Seq.{drop-drop}
use Rattle.host.specs.HostState.{HostState, after_pull}
use Rattle.argon2_verify.specs.Reading.{after_reading, hash_line}
use Rattle.argon2_verify.proofs.Lines.{ended, ended_there, line_within, longer, put}
use Rattle.argon2_verify.proofs.hash.read_line.Goals as goal

-- what is left of the input once k bytes came
left : (file : List ℕ) (k : ℕ) (s u : HostState) → u ≡ after_reading file k s → u.input ≡ drop k s.input
left file k s u taken = ap (λ (w : HostState). w.input) taken

-- one more came
next : (file : List ℕ) (k n : ℕ) (s u v : HostState) → u ≡ after_reading file k s → v ≡ after_pull n u → n ≡ 1 → v ≡ after_reading file (k + 1) s
next file k n s u v before more one =
    more ∙ ap (after_pull n) before ∙ ap (λ xs. let w : HostState = record (after_reading file k s) { input = xs } in w) (drop-drop n k s.input)
    ∙ ap (λ m. after_reading file (k + m) s) one

-- one byte came
one : (n : ℕ) → n ≤ 1 → (n ≡ 0 → ⊥) → n ≡ 1
one n few some = omega (arith, few, some)

pub returns-then-n-eq0-clause-line : goal.returns-then-n-eq0-clause-line
returns-then-n-eq0-clause-line g c = λ t.
    let i = c.loop-len.invariant in
    let s = g.H.Host.seen c.args.host.now in
    i.bytes t ∙ ended_there c.loop-len.len s.input (i.within t)
    (sym (left c.args.file.now c.loop-len.len s (g.H.Host.seen c.loop-len.host) (i.taken t)) ∙ c.in-Ok-pull.ensures.progress t (omega arith) c.if-n-eq0.true)

pub returns-then-is_hash_end-clause-line : goal.returns-then-is_hash_end-clause-line
returns-then-is_hash_end-clause-line g c = λ t.
    let i = c.loop-len.invariant in
    let s = g.H.Host.seen c.args.host.now in
    let only = one c.in-Ok-pull.n c.in-Ok-pull.ensures.bound c.if-n-eq0.false in
    i.bytes t ∙ ended c.loop-len.len s.input c.pull.new.buf (i.within t) c.pull.auto.buf
    (subst (λ n. take n c.pull.new.buf ≡ take n (drop c.loop-len.len s.input)) only
    (c.in-Ok-pull.ensures.bytes t ∙ ap (take c.in-Ok-pull.n) (left c.args.file.now c.loop-len.len s (g.H.Host.seen c.loop-len.host) (i.taken t))))
    (sym c.is_hash_end.ensures.end ∙ c.if-is_hash_end.true)

pub returns-then-is_hash_end-clause-read : goal.returns-then-is_hash_end-clause-read
returns-then-is_hash_end-clause-read g c = λ t.
    let i = c.loop-len.invariant in
    let s = g.H.Host.seen c.args.host.now in
    let k = c.loop-len.len in
    let only = one c.in-Ok-pull.n c.in-Ok-pull.ensures.bound c.if-n-eq0.false in
    let u = g.H.Host.seen c.loop-len.host in
    let rest : c.in-Ok-pull.n ≤ length (drop k s.input) = subst (λ xs. c.in-Ok-pull.n ≤ length xs) (left c.args.file.now k s u (i.taken t)) (c.in-Ok-pull.ensures.within t) in
    let ended_here : length (hash_line s.input) ≡ k = ap length (sym (sym (i.bytes t) ∙ returns-then-is_hash_end-clause-line g c t))
    ∙ grind (arith, common_steps, i.within t, line_within s.input) in
    let count : k + 1 ≡ min (length s.input) (min 8192 (length (hash_line s.input) + 1)) = grind (arith, common_steps, ended_here, rest, only, c.loop-len-test.true) in
    next c.args.file.now k c.in-Ok-pull.n s u (g.H.Host.seen c.pull.new.self) (i.taken t) (c.in-Ok-pull.ensures.taken t) only
    ∙ ap (λ n. after_reading c.args.file.now n s) count

pub loop-len-preserved : goal.loop-len-preserved
loop-len-preserved g c =
    let i = c.loop-len.invariant in
    let s = g.H.Host.seen c.args.host.now in
    let k = c.loop-len.len in
    let only = one c.in-Ok-pull.n c.in-Ok-pull.ensures.bound c.if-n-eq0.false in
    let came : g.H.Host.tells ≡ true → take 1 c.pull.new.buf ≡ take 1 (drop k s.input) =
    λ t. subst (λ n. take n c.pull.new.buf ≡ take n (drop k s.input)) only
    (c.in-Ok-pull.ensures.bytes t ∙ ap (take c.in-Ok-pull.n) (left c.args.file.now k s (g.H.Host.seen c.loop-len.host) (i.taken t))) in record {
      fits = omega (arith, c.loop-len-test.true);
      apart = i.apart;
      grants = c.in-Ok-pull.ensures.granted (omega (arith, only)) ∙ i.grants;
      same = c.in-Ok-pull.ensures.counts ∙ i.same;
      within = λ t. longer k s.input c.pull.new.buf (i.within t) c.pull.auto.buf (came t) (sym c.is_hash_end.ensures.end ∙ c.if-is_hash_end.false);
      bytes = λ t. put k s.input c.pull.new.buf (i.within t) c.pull.auto.buf (came t) c.loop-len.buf (grind (arith, common_steps, c.loop-len-test.true)) (i.bytes t);
      taken = λ t. next c.args.file.now k c.in-Ok-pull.n s (g.H.Host.seen c.loop-len.host) (g.H.Host.seen c.pull.new.self) (i.taken t) (c.in-Ok-pull.ensures.taken t) only;
    }
