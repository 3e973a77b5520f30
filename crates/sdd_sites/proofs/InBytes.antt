-- What is known of a mail is known of its network, and the other way round.
use Rattle.sdd_sites.proofs.All.{Bool, Call, Carries, Delivered, Directions, Err, Event, FitsMsg, Global, HasLink, IfOk, Kept, List, MAX_LINK_MESSAGES, Msg, NoMemory, Ok, Result, Site, Spells, Vec, acked_le, ap, delivery, delivery_map, in_bytes, index_of, is_link, length, link, link_map, links, quiet, round, sent_of, sent_on, slice_get, sound, spelled, subst, sym, true, ℕ, ◌<◌, ◌∙◌, ◌≡◌}
use Rattle.sdd_sites.proofs.Fitting.{sent_fit, delivery_fits}
use Rattle.sdd_sites.proofs.Quietness.{count_same, quiet_same, round_same}
use Rattle.sdd_needs.specs.All.{Represents}

-- how many messages a net counts on a link is how many were put on it
pub count_on : (net : Kept (Directions (List ℕ))) (a b : Site) (calls : List (Call (List ℕ))) → HasLink net a b → Represents net calls
    → sent_on net.value a b ≡ length (link a b calls).there.sent
count_on net a b calls there represents =
    sent_of (slice_get net.value.channels (index_of net.value.tms net.value.dms a b)) (link a b calls).there
    (acked_le (link a b calls).there _ (sound a b calls).there) (represents a b there)

-- The mail's view has the network's value: what is known of the one is known of the other.
module _ (now net : Kept (Directions (List ℕ))) (live : Bool) where
  abbrev View : Type 0
  View = ◌≡◌ {A = Kept (Directions (List ℕ))} (record { live = live; value = net.value }) now

  pub represents_in : (tms dms : ℕ) (calls : List (Call Msg)) → View → Carries now tms dms calls → Represents net (in_bytes calls)
  represents_in tms dms calls e h = subst (λ (k : Kept (Directions (List ℕ))). Represents k (in_bytes calls)) (sym e) h.represents

  links_in : (tms dms : ℕ) (calls : List (Call Msg)) → View → Carries now tms dms calls → links net.value.tms net.value.dms ≡ links tms dms
  links_in tms dms calls e h =
      ap (λ n. links n net.value.dms) (ap (λ k. k.value.tms) e ∙ h.tms_are) ∙ ap (λ n. links tms n) (ap (λ k. k.value.dms) e ∙ h.dms_are)

  pub quiet_in : (tms dms : ℕ) (calls : List (Call Msg)) → View → Carries now tms dms calls
      → quiet (links net.value.tms net.value.dms) (in_bytes calls) ≡ quiet (links tms dms) calls
  quiet_in tms dms calls e h = ap (λ ls. quiet ls (in_bytes calls)) (links_in tms dms calls e h) ∙ quiet_same spelled (links tms dms) calls

  pub round_in : (result : Result (Vec Event Global) NoMemory) → View
      → IfOk result (λ events. (calls : List (Call (List ℕ))) → Represents net calls → events.items ≡ round (links net.value.tms net.value.dms) calls)
      → IfOk result (λ events. (tms dms : ℕ) (calls : List (Call Msg)) → Carries now tms dms calls → events.items ≡ round (links tms dms) calls)
  round_in (Err e) v h = tt
  round_in (Ok events) v h = λ tms dms calls c.
      h (in_bytes calls) (represents_in tms dms calls v c)
      ∙ ap (λ ls. round ls (in_bytes calls)) (links_in tms dms calls v c) ∙ round_same spelled (links tms dms) calls

  linked_in : (tms dms : ℕ) (calls : List (Call Msg)) (a b : Site) → View → Carries now tms dms calls → is_link tms dms a b ≡ true → HasLink net a b
  linked_in tms dms calls a b e h l =
      ap (λ n. is_link n net.value.dms a b) (ap (λ k. k.value.tms) e ∙ h.tms_are) ∙ ap (λ n. is_link tms n a b) (ap (λ k. k.value.dms) e ∙ h.dms_are) ∙ l

  pub room_in : (tms dms : ℕ) (calls : List (Call Msg)) (a b : Site) → View → Carries now tms dms calls → is_link tms dms a b ≡ true
      → length (link a b calls).there.sent < MAX_LINK_MESSAGES → sent_on net.value a b < MAX_LINK_MESSAGES
  room_in tms dms calls a b e h l room =
      let count : sent_on net.value a b ≡ length (link a b calls).there.sent =
      count_on net a b (in_bytes calls) (linked_in tms dms calls a b e h l) (represents_in tms dms calls e h) ∙ count_same spelled a b calls in
      subst (λ n. n < MAX_LINK_MESSAGES) (sym count) room

  -- what is handed on in bytes are the spellings of what is handed on
  pub spells_in : (given : Delivered (List ℕ)) (a b : Site) (k : ℕ) → View
      → ((calls : List (Call (List ℕ))) → Represents net calls → given ≡ delivery k (link a b calls))
      → (tms dms : ℕ) (calls : List (Call Msg)) → Carries now tms dms calls → Spells given (delivery k (link a b calls))
  spells_in given a b k e h tms dms calls c = record {
    spelled_so = h (in_bytes calls) (represents_in tms dms calls e c)
        ∙ ap (λ l. delivery k l) (link_map spelled a b calls) ∙ delivery_map spelled k (link a b calls);
    fit = delivery_fits FitsMsg k (link a b calls) (sent_fit FitsMsg a b calls c.fit);
  }
