use Rattle.std.proofs.Common.{◌≡◌, ◌∙◌, ℕ, List, [], ◌++◌, ◌-◌, length, take, drop, ap, subst, append_assoc}
use Rattle.encfile.specs.EncryptedFile.{body, encrypted_file}
use Rattle.pikhsen_c.proofs.file.make_file_in_place.Goals as goal

pub returns-clause-file : goal.returns-clause-file
returns-clause-file c passphrase salt costs h =
    let out : List ℕ = c.args.out.now in
    let n : ℕ = length out - 128 in
    let part : List ℕ = c.split_at_mut-body.result.0.now in
    let text : part ≡ take n (drop 96 out) =
    c.split_at_mut-body.ensures.front ∙ ap (λ (rest : List ℕ). take n rest) c.split_at_mut-head.ensures.back in
    let written = (c.in_ok-feed.ensures.takes passphrase salt costs [] h).written in
    let fed = (c.in_ok-feed.ensures.takes passphrase salt costs [] h).fed in
    let code = c.finish.ensures.code passphrase salt costs _ fed in
    let whole = subst (λ (t : List ℕ). body passphrase salt costs t ++ c.finish.result ≡ encrypted_file passphrase salt costs t) text code in
    rw (c.copy_from_slice.ensures.after, c.copy_from_slice-2.ensures.after, ← append_assoc c.header.result c.feed.new.bytes c.finish.result, c.header.ensures.body passphrase salt costs [] h, written, text) whole
