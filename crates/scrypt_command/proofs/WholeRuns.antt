-- What the words of scrypt come to with a host.
use Rattle.std.proofs.Common.{◌≡◌, ◌∙◌, ◌⊎◌, inl, inr, ap, sym, subst, List, Option, Some, None, Result, Ok, Err}
use Rattle.std.proofs.lemmas.Option.{none-some, same_Some}
use Rattle.host.specs.HostState.{HostState, Text}
use Rattle.scrypt_run.specs.Laws.{AreOneEnd, IsRefusedFromOutside as RefusesFromOutside}
use Rattle.scrypt_request.specs.Request.{Request}
use Rattle.scrypt_run.specs.Run.{ScryptRequestRefused, ScryptRequestSucceeds}
use Rattle.scrypt_request.specs.declared.refusal.ScryptRefusal.{ScryptRefusal}
use Rattle.scrypt_request.specs.declared.refusal.ScryptRefusal.TheVariants as refusal
use Rattle.scrypt_run.proofs.Refusals.{one_refusal}
use Rattle.scrypt_run.proofs.Successes.{one_success, refused_from_outside}
use Rattle.scrypt_command.specs.Laws.{IsRefusedFromOutside}
use Rattle.scrypt_words.specs.Request.{scrypt_request}
use Rattle.scrypt_command.specs.Run.{IsRefused, RefusesRequest, Succeeds}

-- ---- an answer has one request, or one refusal

abbrev taken : Result Request ScryptRefusal → Option Request
taken (Ok request) = Some request
taken (Err r) = None

abbrev refused : Result Request ScryptRefusal → Option ScryptRefusal
refused (Ok request) = None
refused (Err r) = Some r

pub same_request : (words : List Text) (a b : Request) → scrypt_request words ≡ Ok a → scrypt_request words ≡ Ok b → b ≡ a
same_request words a b ha hb = same_Some b a (ap taken (sym hb ∙ ha))

same_refusal : (words : List Text) (r q : ScryptRefusal) → scrypt_request words ≡ Err r → scrypt_request words ≡ Err q → r ≡ q
same_refusal words r q hr hq = same_Some r q (ap refused (sym hr ∙ hq))

not_both : (words : List Text) (request : Request) (r : ScryptRefusal) → scrypt_request words ≡ Ok request → scrypt_request words ≡ Err r → ⊥
not_both words request r asked told = none-some request (sym (ap taken (sym asked ∙ told)))

-- words that are taken are not refused for themselves
memory_alone : (words : List Text) (request : Request) (r : ScryptRefusal) → scrypt_request words ≡ Ok request
    → (scrypt_request words ≡ Err r) ⊎ (r ≡ refusal.OutOfMemory) → r ≡ refusal.OutOfMemory
memory_alone words request r asked (inl told) = absurd (not_both words request r asked told)
memory_alone words request r asked (inr lacks) = lacks

-- ---- ends

pub one_end : (words : List Text) (before a b : HostState) → Succeeds words before a → Succeeds words before b → a ≡ b
one_end words before a b ha hb =
    one_success ha.request before a b ha.succeeds
    (subst (λ request. ScryptRequestSucceeds request before b) (same_request words ha.request hb.request ha.asked hb.asked) hb.succeeds)

pub ends_from_outside : (words : List Text) (before after ended : HostState) (r : ScryptRefusal) → Succeeds words before after → IsRefused r words before ended
    → IsRefusedFromOutside words r
ends_from_outside words before after ended r h (inl ends) = inl (memory_alone words h.request r h.asked ends.0)
ends_from_outside words before after ended r h (inr ends) = inr (record {
  request = h.request;
  asked = h.asked;
  outside = refused_from_outside h.request before after ended r h.succeeds
      (subst (λ request. ScryptRequestRefused r request before ended) (same_request words h.request ends.request h.asked ends.asked) ends.refused);
})

two_requests : (words : List Text) (before after ended : HostState) (one other : ScryptRefusal) (a : RefusesRequest one words before after)
    → RefusesRequest other words before ended
    → AreOneEnd one other after ended ⊎ RefusesFromOutside a.request one ⊎ RefusesFromOutside a.request other
two_requests words before after ended one other a b =
    one_refusal a.request before after ended one other a.refused
    (subst (λ request. ScryptRequestRefused other request before ended) (same_request words a.request b.request a.asked b.asked) b.refused)

pub one_refusal_of_words : (words : List Text) (before after ended : HostState) (one other : ScryptRefusal)
    → IsRefused one words before after → IsRefused other words before ended
    → AreOneEnd one other after ended ⊎ IsRefusedFromOutside words one ⊎ IsRefusedFromOutside words other
one_refusal_of_words words before after ended one other (inl a) (inr b) = inr (inl (inl (memory_alone words b.request one b.asked a.0)))
one_refusal_of_words words before after ended one other (inr a) (inl b) = inr (inr (inl (memory_alone words a.request other a.asked b.0)))
one_refusal_of_words words before after ended one other (inl a) (inl b) = of_words a.0 b.0
  where
    of_words : (scrypt_request words ≡ Err one) ⊎ (one ≡ refusal.OutOfMemory) → (scrypt_request words ≡ Err other) ⊎ (other ≡ refusal.OutOfMemory)
        → AreOneEnd one other after ended ⊎ IsRefusedFromOutside words one ⊎ IsRefusedFromOutside words other
    of_words (inl told) (inl also) = inl (record { told = same_refusal words one other told also; left = inl (a.1 ∙ sym b.1) })
    of_words (inr lacks) _ = inr (inl (inl lacks))
    of_words (inl told) (inr lacks) = inr (inr (inl lacks))
one_refusal_of_words words before after ended one other (inr a) (inr b) = of_requests (two_requests words before after ended one other a b)
  where
    of_requests : AreOneEnd one other after ended ⊎ RefusesFromOutside a.request one ⊎ RefusesFromOutside a.request other
        → AreOneEnd one other after ended ⊎ IsRefusedFromOutside words one ⊎ IsRefusedFromOutside words other
    of_requests (inl same) = inl same
    of_requests (inr (inl outside)) = inr (inl (inr (record { request = a.request; asked = a.asked; outside = outside })))
    of_requests (inr (inr outside)) = inr (inr (inr (record { request = a.request; asked = a.asked; outside = outside })))
