-- A network that isn't quiet has a round with an event, and each event of a round is of a link.
use Rattle.sdd_log.proofs.All.{All, All-head, All-tail, AtEach, Bool, Call, Deliver, Event, List, None, Option, Resend, Site, Some, [], and_from, are_linked, arith, back_is, both_empty, cond, cons_option, false, filter_map, flat_map, in_flight, is_empty, is_link, is_quiet_link, le-leb, length, link, link_back, link_parts, links, links_exist, list_all, ltb-false, nat_le, nat_lt, quiet, refl, replicate, resends_now, round, same_is, same_site, sites, subst, suc, true, zero, ℕ, ◌&&◌, ◌++◌, ◌+◌, ◌-◌, ◌∷◌, ◌≡◌}
use Rattle.sdd_log.proofs.Steps.{has_site}
use Rattle.sdd_log.proofs.FirstHand.{each_weaker, listed}

-- what holds of each member, of lists that are put together

each_append : {A : Type 0} (P : A → Type 0) (xs ys : List A) → AtEach P xs → AtEach P ys → AtEach P (xs ++ ys)
each_append P [] ys h k = k
each_append P (x ∷ xs) ys h k = (h.0, each_append P xs ys h.1 k)

each_flat : {A B : Type 0} (P : B → Type 0) (f : A → List B) (xs : List A) → AtEach (λ x. AtEach P (f x)) xs → AtEach P (flat_map f xs)
each_flat P f [] h = tt
each_flat P f (x ∷ xs) h = each_append P (f x) (flat_map f xs) h.0 (each_flat P f xs h.1)

each_cons : {B : Type 0} (P : B → Type 0) (o : Option B) (ys : List B) → ((y : B) → o ≡ Some y → P y) → AtEach P ys → AtEach P (cons_option o ys)
each_cons P o ys h k = grind arith

each_filter : {A B : Type 0} (P : B → Type 0) (f : A → Option B) (xs : List A) → AtEach (λ x. (y : B) → f x ≡ Some y → P y) xs → AtEach P (filter_map f xs)
each_filter P f [] h = tt
each_filter P f (x ∷ xs) h = each_cons P (f x) (filter_map f xs) h.0 (each_filter P f xs h.1)

each_replicate : {A : Type 0} (P : A → Type 0) (n : ℕ) (x : A) → P x → AtEach P (replicate n x)
each_replicate P zero x p = tt
each_replicate P (suc n) x p = (p, each_replicate P n x p)

-- and of the parts of a list

of_append : {A : Type 0} (P : A → Type 0) (xs ys : List A) → AtEach P (xs ++ ys) → AtEach P xs × AtEach P ys
of_append P [] ys h = (tt, h)
of_append P (x ∷ xs) ys h = let p = of_append P xs ys h.1 in ((h.0, p.0), p.1)

of_flat : {A B : Type 0} (P : B → Type 0) (f : A → List B) (xs : List A) → AtEach P (flat_map f xs) → AtEach (λ x. AtEach P (f x)) xs
of_flat P f [] h = tt
of_flat P f (x ∷ xs) h = let p = of_append P (f x) (flat_map f xs) h in (p.0, of_flat P f xs p.1)

of_cons : {B : Type 0} (P : B → Type 0) (o : Option B) (ys : List B) → AtEach P (cons_option o ys) → ((y : B) → o ≡ Some y → P y) × AtEach P ys
of_cons P o ys h = grind arith

of_filter : {A B : Type 0} (P : B → Type 0) (f : A → Option B) (xs : List A) → AtEach P (filter_map f xs) → AtEach (λ x. (y : B) → f x ≡ Some y → P y) xs
of_filter P f [] h = tt
of_filter P f (x ∷ xs) h = let p = of_cons P (f x) (filter_map f xs) h in (p.0, of_filter P f xs p.1)

of_site : (P : Site → Type 0) (xs : List Site) (x : Site) → has_site x xs ≡ true → AtEach P xs → P x
of_site P [] x e h = cc
of_site P (y ∷ xs) x e h =
    elim (same_site y x) as (λ b. same_site y x ≡ b → elim b as (λ _. Bool) [ true ↦ true | false ↦ has_site x xs ] ≡ true → P x) [
      | true ↦ λ p q. subst P (same_is y x p) h.0
      | false ↦ λ p q. of_site P xs x q h.1
    ] refl e

-- the list of links

from_all : {A : Type 0} (P : A → Type 0) (xs : List A) → All P xs → AtEach P xs
from_all P [] h = tt
from_all P (x ∷ xs) h = (All-head P x xs h, from_all P xs (All-tail P x xs h))

each_link : (P : Site × Site → Type 0) (tms dms : ℕ) → ((l : Site × Site) → is_link tms dms l.0 l.1 ≡ true → P l) → AtEach P (links tms dms)
each_link P tms dms h =
    each_weaker (λ l. is_link tms dms l.0 l.1 ≡ true) P (links tms dms) h (from_all (λ l. is_link tms dms l.0 l.1 ≡ true) (links tms dms) (links_exist tms dms))

abbrev from_site : List Site → Site → List (Site × Site)
from_site all a = filter_map (λ b. cond (are_linked a b) (Some (a, b)) None) all

of_link : (P : Site × Site → Type 0) (tms dms : ℕ) (a b : Site) → is_link tms dms a b ≡ true → AtEach P (links tms dms) → P (a, b)
of_link P tms dms a b l h =
    let k = link_parts tms dms a b l in
    let f : AtEach P (from_site (sites tms dms) a) = of_site (λ x. AtEach P (from_site (sites tms dms) x)) (sites tms dms) a (listed tms dms a k.from)
    (of_flat P (from_site (sites tms dms)) (sites tms dms) h) in
    of_site (λ y. (z : Site × Site) → cond (are_linked a y) (Some (a, y)) None ≡ Some z → P z) (sites tms dms) b (listed tms dms b k.to)
    (of_filter P (λ y. cond (are_linked a y) (Some (a, y)) None) (sites tms dms) f) (a, b) (rw k.linked refl)

-- each event of a round is a resend, or a delivery of a link's first packet

pub each_of_round : {M : Type 0} (Q : Event → Type 0) (tms dms : ℕ) (calls : List (Call M))
    → ((a b : Site) → is_link tms dms a b ≡ true → Q (Resend a b) × Q (Deliver a b 1)) → AtEach Q (round (links tms dms) calls)
each_of_round Q tms dms calls h =
    each_append Q (filter_map (λ l. cond (resends_now (link l.0 l.1 calls)) (Some (Resend l.0 l.1)) None) (links tms dms))
    (flat_map (λ l. replicate (in_flight (link l.0 l.1 calls)) (Deliver l.0 l.1 1)) (links tms dms))
    (each_filter Q (λ l. cond (resends_now (link l.0 l.1 calls)) (Some (Resend l.0 l.1)) None) (links tms dms)
    (each_link (λ l. (y : Event) → cond (resends_now (link l.0 l.1 calls)) (Some (Resend l.0 l.1)) None ≡ Some y → Q y) tms dms
    (λ l e y p. (grind arith))))
    (each_flat Q (λ l. replicate (in_flight (link l.0 l.1 calls)) (Deliver l.0 l.1 1)) (links tms dms)
    (each_link (λ l. AtEach Q (replicate (in_flight (link l.0 l.1 calls)) (Deliver l.0 l.1 1))) tms dms
    (λ l e. each_replicate Q (in_flight (link l.0 l.1 calls)) (Deliver l.0 l.1 1) (h l.0 l.1 e).1)))

-- a round without events

flat_empty : {A B : Type 0} (f : A → List B) (xs : List A) → flat_map f xs ≡ [] → AtEach (λ x. f x ≡ []) xs
flat_empty f [] e = tt
flat_empty f (x ∷ xs) e = let p = both_empty (f x) (flat_map f xs) e in (p.0, flat_empty f xs p.1)

pub cons_empty : {B : Type 0} (o : Option B) (ys : List B) → cons_option o ys ≡ [] → (o ≡ None) × (ys ≡ [])
cons_empty o ys e = grind arith

filter_empty : {A B : Type 0} (f : A → Option B) (xs : List A) → filter_map f xs ≡ [] → AtEach (λ x. f x ≡ None) xs
filter_empty f [] e = tt
filter_empty f (x ∷ xs) e = let p = cons_empty (f x) (filter_map f xs) e in (p.0, filter_empty f xs p.1)

none_replicated : {A : Type 0} (n : ℕ) (x : A) → replicate n x ≡ [] → n ≡ 0
none_replicated n x e = grind arith

cond_none : {A : Type 0} (b : Bool) (x : A) → cond b (Some x) None ≡ None → b ≡ false
cond_none b x e = grind arith

flight_empty : {A : Type 0} (xs : List A) (n : ℕ) → length xs + n ≡ 0 → is_empty xs ≡ true
flight_empty xs n e = grind arith

first_false : (a b c : Bool) → b ≡ true → c ≡ true → (a && (b && c)) ≡ false → a ≡ false
first_false a b c p q e = grind (arith, and_from)

all_true : {A : Type 0} (f : A → Bool) (xs : List A) → AtEach (λ x. f x ≡ true) xs → list_all f xs ≡ true
all_true f [] h = refl
all_true f (x ∷ xs) h = and_from (f x) (list_all f xs) h.0 (all_true f xs h.1)

module _ {M : Type 0} (tms dms : ℕ) (calls : List (Call M)) (e : round (links tms dms) calls ≡ []) where
  no_resends : AtEach (λ l. cond (resends_now (link l.0 l.1 calls)) (Some (Resend l.0 l.1)) None ≡ None) (links tms dms)
  no_resends =
      let p = both_empty (filter_map (λ l. cond (resends_now (link l.0 l.1 calls)) (Some (Resend l.0 l.1)) None) (links tms dms))
      (flat_map (λ l. replicate (in_flight (link l.0 l.1 calls)) (Deliver l.0 l.1 1)) (links tms dms)) e in
      filter_empty (λ l. cond (resends_now (link l.0 l.1 calls)) (Some (Resend l.0 l.1)) None) (links tms dms) p.0

  no_flights : AtEach (λ l. replicate (in_flight (link l.0 l.1 calls)) (Deliver l.0 l.1 1) ≡ []) (links tms dms)
  no_flights =
      let p = both_empty (filter_map (λ l. cond (resends_now (link l.0 l.1 calls)) (Some (Resend l.0 l.1)) None) (links tms dms))
      (flat_map (λ l. replicate (in_flight (link l.0 l.1 calls)) (Deliver l.0 l.1 1)) (links tms dms)) e in
      flat_empty (λ l. replicate (in_flight (link l.0 l.1 calls)) (Deliver l.0 l.1 1)) (links tms dms) p.1

  no_flight : (a b : Site) → is_link tms dms a b ≡ true → is_empty (link a b calls).there.flight ≡ true
  no_flight a b l =
      flight_empty (link a b calls).there.flight (cond (resends_now (link a b calls)) (length (link a b calls).there.sent - (link a b calls).there.acked) 0)
      (none_replicated (in_flight (link a b calls)) (Deliver a b 1)
      (of_link (λ l. replicate (in_flight (link l.0 l.1 calls)) (Deliver l.0 l.1 1) ≡ []) tms dms a b l no_flights))

  quiet_link : (a b : Site) → is_link tms dms a b ≡ true → is_quiet_link (link a b calls) ≡ true
  quiet_link a b l =
      let here : is_empty (link a b calls).there.flight ≡ true = no_flight a b l in
      let none : resends_now (link a b calls) ≡ false = cond_none (resends_now (link a b calls)) (Resend a b)
      (of_link (λ l. cond (resends_now (link l.0 l.1 calls)) (Some (Resend l.0 l.1)) None ≡ None) tms dms a b l no_resends) in
      let acked : nat_lt (link a b calls).there.acked (length (link a b calls).there.sent) ≡ false = first_false
      (nat_lt (link a b calls).there.acked (length (link a b calls).there.sent)) (is_empty (link a b calls).there.flight)
      (is_empty (link a b calls).back.flight) here
      (subst (λ w. is_empty w.flight ≡ true) (back_is tms dms a b calls l) (no_flight b a (link_back tms dms a b l))) none in
      and_from (is_empty (link a b calls).there.flight) (nat_le (length (link a b calls).there.sent) (link a b calls).there.acked) here
      (le-leb (length (link a b calls).there.sent) (link a b calls).there.acked
      (ltb-false (link a b calls).there.acked (length (link a b calls).there.sent) acked))

  pub no_events_quiet : quiet (links tms dms) calls ≡ true
  no_events_quiet = all_true (λ l. is_quiet_link (link l.0 l.1 calls)) (links tms dms)
      (each_link (λ l. is_quiet_link (link l.0 l.1 calls) ≡ true) tms dms (λ l p. quiet_link l.0 l.1 p))
