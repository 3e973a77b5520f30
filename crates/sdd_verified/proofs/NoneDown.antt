-- Where no event takes a module down, none is down at any time.
use Rattle.sdd_verified.proofs.All.{Bool, Call, Deliver, Down, Event, Input, IsLawful, List, Log, Lose, Mark, Msg, None, Redeclares, Repeat, Resend, Round, Settle, Site, Some, Submit, Tick, Up, [], after_mark, all_links, calls_of, cond, cons_option, false, filter_map, flat_map, from_event, if◌then◌else◌, in_flight, is_down, left, link, list_any, mark_from, mark_of, neither_left, neither_right, next_is_of_events, quiet, refl, replicate, resends_now, round, round_from, subst, suc, tail_of, takes_down, true, turned_by, zero, ℕ, ◌++◌, ◌∷◌, ◌≡◌}
use Rattle.sdd_run.specs.progress.obligations.All.{same_site}

-- events of which none takes a module down
abbrev AreUp : List Event → Type 0
AreUp [] = Unit {0}
AreUp (e ∷ events) = (takes_down e ≡ false) × AreUp events

pub are_up : (events : List Event) → list_any takes_down events ≡ false → AreUp events
are_up [] h = tt
are_up (e ∷ events) h = (
  neither_left (takes_down e) (list_any takes_down events) h,
  are_up events (neither_right (takes_down e) (list_any takes_down events) h),
)

both_up : (xs ys : List Event) → AreUp xs → AreUp ys → AreUp (xs ++ ys)
both_up [] ys h k = k
both_up (x ∷ xs) ys h k = (h.0, both_up xs ys h.1 k)

-- those of a round are such

copies_up : (n : ℕ) (e : Event) → takes_down e ≡ false → AreUp (replicate n e)
copies_up zero e h = tt
copies_up (suc n) e h = (h, copies_up n e h)

resent_up : (ls : List (Site × Site)) (calls : List (Call Msg))
    → AreUp (filter_map (λ l. cond (resends_now (link l.0 l.1 calls)) (Some (Resend l.0 l.1)) None) ls)
resent_up [] calls = tt
resent_up (l ∷ ls) calls =
    elim (resends_now (link l.0 l.1 calls))
    as (λ b. AreUp (cons_option (cond b (Some (Resend l.0 l.1)) None) (filter_map (λ l. cond (resends_now (link l.0 l.1 calls)) (Some (Resend l.0 l.1)) None) ls))) [
      | true ↦ (refl, resent_up ls calls)
      | false ↦ resent_up ls calls
    ]

delivered_up : (ls : List (Site × Site)) (calls : List (Call Msg)) → AreUp (flat_map (λ l. replicate (in_flight (link l.0 l.1 calls)) (Deliver l.0 l.1 1)) ls)
delivered_up [] calls = tt
delivered_up (l ∷ ls) calls = both_up _ _ (copies_up (in_flight (link l.0 l.1 calls)) (Deliver l.0 l.1 1) refl) (delivered_up ls calls)

round_up : (ls : List (Site × Site)) (calls : List (Call Msg)) → AreUp (round ls calls)
round_up ls calls = both_up _ _ (resent_up ls calls) (delivered_up ls calls)

-- of what is left of the events, and of a round

record AreLeftUp (s : List Event × List Event) : Type 0 where
  pub events : AreUp s.0
  pub of_round : AreUp s.1

tail_up : (events : List Event) → AreUp events → AreUp (tail_of events)
tail_up [] h = tt
tail_up (e ∷ events) h = h.1

from_up : (events : List Event) → AreUp events → AreUp (from_event events)
from_up [] h = tt
from_up (Settle ∷ events) h = from_up events h.1
from_up (_ ∷ events) h = h

marked_up : (s : List Event × List Event) → AreLeftUp s → AreLeftUp (after_mark s)
marked_up (events, []) h = record { events = tail_up (from_event events) (from_up events h.events); of_round = tt }
marked_up (events, e ∷ of_round) h = record { events = h.events; of_round = h.of_round.1 }

begun_up : (g : Input) (log : Log) (es : List Event) (s : List Event × List Event) → mark_of g log s ≡ Some (Round es) → AreUp es
begun_up g log es (ws, []) h =
    subst AreUp (round_from g log (quiet (all_links g) (calls_of log)) (round (all_links g) (calls_of log)) ws es h)
    (round_up (all_links g) (calls_of log))
begun_up g log es (ws, e ∷ r) h = cc

mark_from_up : (g : Input) (log : Log) (q : Bool) (r ws : List Event) (e : Event) → mark_from g log q r ws ≡ Some (Mark e) → AreUp ws → takes_down e ≡ false
mark_from_up g log true r (Settle ∷ ws) e h u = mark_from_up g log true r ws e h u.1
mark_from_up g log q r (Down d ∷ ws) e h u = let p : Down d ≡ e = cc in subst (λ x. takes_down x ≡ false) p u.0
mark_from_up g log q r [] e h u = cc
mark_from_up g log q r (x ∷ ws) e h u = let p : x ≡ e = cc in subst (λ y. takes_down y ≡ false) p refl

mark_of_up : (g : Input) (log : Log) (s : List Event × List Event) (e : Event) → mark_of g log s ≡ Some (Mark e) → AreLeftUp s → takes_down e ≡ false
mark_of_up g log (ws, []) e h u = mark_from_up g log (quiet (all_links g) (calls_of log)) (round (all_links g) (calls_of log)) ws e h u.events
mark_of_up g log (ws, x ∷ r) e h u = let p : x ≡ e = cc in subst (λ y. takes_down y ≡ false) p u.of_round.0

left_up : (g : Input) (log : Log) → AreUp g.events → IsLawful g log → AreLeftUp (left g.events log)
left_up g [] u h = record { events = u; of_round = tt }
left_up g (Mark e ∷ log) u h = marked_up (left g.events log) (left_up g log u h.1)
left_up g (Redeclares t ∷ log) u h = marked_up (left g.events log) (left_up g log u h.1)
left_up g (Round es ∷ log) u h =
    record { events = (left_up g log u h.1).events; of_round = begun_up g log es (left g.events log) (next_is_of_events g log (Round es) refl h.0) }
left_up g (_ ∷ log) u h = left_up g log u h.1

stays_up : (at : Site) (e : Event) (b : Bool) → takes_down e ≡ false → b ≡ false → turned_by at e b ≡ false
stays_up at (Down m) b u h = cc
stays_up at (Up m) b u h = elim (same_site m at) as (λ x. (if x then false else b) ≡ false) [ true ↦ refl | false ↦ h ]
stays_up at _ b u h = h

pub none_down : (g : Input) (log : Log) (at : Site) → AreUp g.events → IsLawful g log → is_down at log ≡ false
none_down g [] at u h = refl
none_down g (Mark e ∷ log) at u h =
    stays_up at e (is_down at log) (mark_of_up g log (left g.events log) e (next_is_of_events g log (Mark e) refl h.0) (left_up g log u h.1))
    (none_down g log at u h.1)
none_down g (_ ∷ log) at u h = none_down g log at u h.1
