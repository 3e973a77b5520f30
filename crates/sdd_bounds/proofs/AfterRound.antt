-- What a round does to one link: where a link was at a stage, it is at the next.
use Rattle.sdd_bounds.proofs.All.{Bool, IsSoundLink, Link, List, Packet, Way, [], and_parts, ap, append-nil, arith, cases_Bool, deliver, delivered, drop, false, inl, inr, is_empty, length, ltb-false, ltb-true, nat_lt, numbered, refl, resends_now, subst, suc, sym, true, turned, unacked, with_flight, zero, ℕ, ◌&&◌, ◌++◌, ◌+◌, ◌∙◌, ◌∷◌, ◌≡◌, ◌≤◌, ◌⊎◌}
use Rattle.sdd_bounds.proofs.Stages.{AreAcks, HasAcksOnly, IsAcked, IsAtStage, IsCovered, IsEmptied}
use Rattle.sdd_bounds.proofs.Deliveries.{AreResent, HasAcksBehind, IsAcking, IsResent, acking_done, acking_step, acking_turned, acks_done, acks_step, acks_turned, resent_done, resent_step, resent_turned}

-- a direction, where a round resends on it or doesn't
abbrev pub with_resend : {M : Type 0} → Bool → Way M → Way M
with_resend true w = with_flight (w.flight ++ unacked w) w
with_resend false w = w

-- a link, once a round has resent
abbrev pub resent : {M : Type 0} → Link M → Link M
resent l = record { there = with_resend (resends_now l) l.there; back = with_resend (resends_now (turned l)) l.back }

is_nil : {A : Type 0} (xs : List A) → is_empty xs ≡ true → xs ≡ []
is_nil [] e = refl
is_nil (x ∷ xs) e = cc

-- a link on which a round resends is empty

empty_of : {M : Type 0} (l : Link M) → resends_now l ≡ true → IsEmptied l
empty_of l e =
    let p = and_parts (nat_lt l.there.acked (length l.there.sent)) (is_empty l.there.flight && is_empty l.back.flight) e in
    let q = and_parts (is_empty l.there.flight) (is_empty l.back.flight) p.1 in
    record { there = is_nil l.there.flight q.0; back = is_nil l.back.flight q.1 }

empty_back : {M : Type 0} (l : Link M) → resends_now (turned l) ≡ true → IsEmptied l
empty_back l e = let h = empty_of (turned l) e in record { there = h.back; back = h.there }

lacks : {M : Type 0} (l : Link M) → resends_now l ≡ true → nat_lt l.there.acked (length l.there.sent) ≡ true
lacks l e = (and_parts (nat_lt l.there.acked (length l.there.sent)) (is_empty l.there.flight && is_empty l.back.flight) e).0

-- and not covered

not_covered : {M : Type 0} (l : Link M) → resends_now l ≡ true → IsAcked (length l.there.sent) l.there.acked l.back.flight → ⊥
not_covered l e h =
    let few : length l.there.sent ≤ l.there.acked = subst (IsAcked (length l.there.sent) l.there.acked) (empty_of l e).back h in
    let more = ltb-true l.there.acked (length l.there.sent) (lacks l e) in
    omega arith

-- on an empty link all is resent from the first unacknowledged message on, if there is one

all_after : {M : Type 0} (k : ℕ) (i : ℕ) (sent : List M) → length sent ≤ k → [] ≡ drop k (numbered i sent)
all_after zero i [] l = refl
all_after (suc k) i [] l = refl
all_after zero i (m ∷ sent) l = absurd (omega arith)
all_after (suc k) i (m ∷ sent) l = all_after k (i + 1) sent (omega arith)

flight_of : {M : Type 0} (w v : Way M) → w.flight ≡ [] → v.flight ≡ []
    → (with_resend (nat_lt w.acked (length w.sent) && (is_empty w.flight && is_empty v.flight)) w).flight ≡ drop w.acked (numbered 0 w.sent)
flight_of w v e f =
    elim (cases_Bool (nat_lt w.acked (length w.sent))) [
      | inl more ↦ rw (more, e, f) refl
      | inr none ↦ rw none (e ∙ all_after w.acked 0 w.sent (ltb-false w.acked (length w.sent) none))
    ]

sent_of : {M : Type 0} (b : Bool) (w : Way M) → (with_resend b w).sent ≡ w.sent
sent_of true w = refl
sent_of false w = refl

acked_of : {M : Type 0} (b : Bool) (w : Way M) → (with_resend b w).acked ≡ w.acked
acked_of true w = refl
acked_of false w = refl

arrived_of : {M : Type 0} (b : Bool) (w : Way M) → (with_resend b w).arrived ≡ w.arrived
arrived_of true w = refl
arrived_of false w = refl

half_start : {M : Type 0} (b : Bool) (w : Way M) → w.acked ≤ delivered w → (with_resend b w).flight ≡ drop w.acked (numbered 0 w.sent)
    → IsResent w.acked (with_resend b w).flight [] [] (with_resend b w)
half_start true w l e = record { rest = e; got = l; flight = sym (append-nil (w.flight ++ unacked w)); acks = tt; acked = omega arith }
half_start false w l e = record { rest = e; got = l; flight = sym (append-nil w.flight); acks = tt; acked = omega arith }

-- what is left of a link when its round is done: what holds of each state on the way, if a delivery keeps it
pub record IsDelivered {M : Type 0} (old new : Link M) : Type 1 where
  pub keeps : (P : List (Packet M) → List (Packet M) → Link M → Type 0)
      → ((f b : List (Packet M)) (l : Link M) → P f b l → P b f (turned l))
      → ((p : Packet M) (f b : List (Packet M)) (l : Link M) → P (p ∷ f) b l → P f b (deliver 1 l))
      → P old.there.flight old.back.flight old → P [] [] new

module _ {M : Type 0} (old new : Link M) (sound : IsSoundLink old) (round : IsDelivered (resent old) new) where
  first : HasAcksOnly new
  first = acks_done new (round.keeps HasAcksBehind acks_turned acks_step (record {
    there = record { more = []; is = sym (append-nil (resent old).there.flight); acks = tt };
    back = record { more = []; is = sym (append-nil (resent old).back.flight); acks = tt };
  }))

  -- where nothing is resent, and acknowledgements alone are in flight
  unresent : (C : Type 0) → resends_now old ≡ false → resends_now (turned old) ≡ false → HasAcksOnly old → (C → IsCovered old)
      → IsEmptied new × (C → IsCovered new)
  unresent C e f h c =
      let start : resent old ≡ old = λ i. record { there = with_resend (e i) old.there; back = with_resend (f i) old.back } in
      let now : IsAcking C (resent old).there.flight (resent old).back.flight (resent old) =
      subst (λ l. IsAcking C l.there.flight l.back.flight l) (sym start)
      (record { there = refl; back = refl; acks = h.there; acks_back = h.back; covered = λ x. (c x).there; covered_back = λ x. (c x).back }) in
      acking_done C new (round.keeps (IsAcking C) (acking_turned C) (acking_step C) now)

  -- where the link is empty
  emptied : IsEmptied old → IsCovered new
  emptied h = resent_done new (round.keeps AreResent resent_turned resent_step (record {
    k = old.there.acked;
    j = old.back.acked;
    more = [];
    more_back = [];
    there = half_start (resends_now old) old.there sound.there.acked (flight_of old.there old.back h.there h.back);
    back = half_start (resends_now (turned old)) old.back sound.back.acked (flight_of old.back old.there h.back h.there);
  }))

  second : HasAcksOnly old → IsEmptied new ⊎ IsCovered new
  second h = elim (cases_Bool (resends_now old)) [
    | inl e ↦ inr (emptied (empty_of old e))
    | inr e ↦ elim (cases_Bool (resends_now (turned old))) [
      | inl f ↦ inr (emptied (empty_back old f))
      | inr f ↦ inl (unresent ⊥ e f h (λ x. absurd x)).0
    ]
  ]

  covered : IsCovered old → IsEmptied new × IsCovered new
  covered h = elim (cases_Bool (resends_now old)) [
    | inl e ↦ absurd (not_covered old e h.there)
    | inr e ↦ elim (cases_Bool (resends_now (turned old))) [
      | inl f ↦ absurd (not_covered (turned old) f h.back)
      | inr f ↦ let r = unresent (Unit {0}) e f h.acks (λ x. h) in (r.0, r.1 tt)
    ]
  ]

  third : IsEmptied old ⊎ IsCovered old → IsCovered new
  third h = elim h [ inl e ↦ emptied e | inr c ↦ (covered c).1 ]

  pub next_stage : (k : ℕ) → IsAtStage k old → IsAtStage (suc k) new
  next_stage zero h = first
  next_stage (suc zero) h = second h
  next_stage (suc (suc zero)) h = third h
  next_stage (suc (suc (suc zero))) h = covered h
  next_stage (suc (suc (suc (suc k)))) h = covered h.1
