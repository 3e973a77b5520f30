-- One event more is given: the places in the schedule stay.
use Rattle.sdd_schedule.proofs.All.{Bool, Entry, Event, Input, IsLawful, List, Log, Mark, None, Redeclare, Redeclares, Round, Settle, Some, [], all_links, ap, arith, calls_of, false, from_event, greatest_bound, grows, left, length, mark_from, mark_is_next, mark_of, next, place_of_first, quiet, refl, round, round_at, rounds, scheduled_at, suc, sym, true, with_end, with_event, ℕ, ◌++◌, ◌-◌, ◌∙◌, ◌∷◌, ◌≡◌}
use Rattle.sdd_schedule.proofs.PlacesListed.{place_left, round_at_listed, round_left, rounds_marked, scheduled_listed, unless_over}
use Rattle.sdd_schedule.proofs.EachEvent.{MarksNext, event_of}

-- a mark that is next is that of the first event that is left

pub marked_next : (g : Input) (log : Log) (x : Entry) (e : Event) → event_of x ≡ Some e → next g log ≡ Some x
    → mark_of g log (left g.events log) ≡ Some x
marked_next g log (Mark f) e h n = mark_is_next g log (Mark f) refl n
marked_next g log (Redeclares t) e h n = mark_is_next g log (Redeclares t) refl n
marked_next g log _ e h n = cc

same_mark : (d e : Event) (x : Entry) → event_of x ≡ Some e → Some (Mark d) ≡ Some x → d ≡ e
same_mark d e x h k =
    let p : Mark d ≡ x = cc in
    let q : Some d ≡ Some e = ap event_of p ∙ h in cc

same_list : (t : ℕ) (e : Event) (x : Entry) → event_of x ≡ Some e → Some (Redeclares t) ≡ Some x → Redeclare ≡ e
same_list t e x h k =
    let p : Redeclares t ≡ x = cc in
    let q : Some Redeclare ≡ Some e = ap event_of p ∙ h in cc

no_round : (es : List Event) (e : Event) (x : Entry) → event_of x ≡ Some e → Some (Round es) ≡ Some x → ⊥
no_round es e x h k =
    let p : Round es ≡ x = cc in
    let q : None ≡ Some e = ap event_of p ∙ h in absurd cc

pub first_from : (g : Input) (log : Log) (q : Bool) (r ws : List Event) (x : Entry) (e : Event) → event_of x ≡ Some e
    → mark_from g log q r ws ≡ Some x → (xs : List Event) × (from_event ws ≡ e ∷ xs)
first_from g log q r [] x e h k = cc
first_from g log true r (Settle ∷ ws) x e h k = first_from g log true r ws x e h k
first_from g log false r (Settle ∷ ws) x e h k = absurd (no_round r e x h k)
first_from g log true r (Redeclare ∷ ws) x e h k = (ws, ap (λ d. d ∷ ws) (same_list (greatest_bound g log) e x h k))
first_from g log false r (Redeclare ∷ ws) x e h k = absurd (no_round r e x h k)
first_from g log q r (w ∷ ws) x e h k = (ws, ap (λ y. y ∷ ws) (same_mark w e x h k))

-- one event more at the end

pub one_longer : (ws : List Event) (f : Event) → length (ws ++ f ∷ []) ≡ suc (length ws)
one_longer [] f = refl
one_longer (w ∷ ws) f = ap (λ n. suc n) (one_longer ws f)

from_longer : (ws : List Event) (f e : Event) (xs : List Event) → from_event ws ≡ e ∷ xs
    → length (from_event (ws ++ f ∷ [])) ≡ suc (length (from_event ws))
from_longer [] f e xs h = cc
from_longer (Settle ∷ ws) f e xs h = from_longer ws f e xs h
from_longer (_ ∷ ws) f e xs h = ap (λ n. suc n) (one_longer ws f)

same_place : (total more : ℕ) (events longer : List Event) → more ≡ suc total → length longer ≡ suc (length events)
    → place_of_first more longer ≡ place_of_first total events
same_place total more events longer e h = omega (arith, e, h)

place_more : (g : Input) (f : Event) (log : Log) (x : Entry) (e : Event) (s : List Event × List Event) → event_of x ≡ Some e → mark_of g log s ≡ Some x
    → place_left (length (g.events ++ f ∷ [])) (with_end f s) ≡ place_left (length g.events) s
place_more g f log x e (ws, []) h k =
    let p = first_from g log (quiet (all_links g) (calls_of log)) (round (all_links g) (calls_of log)) ws x e h k in
    same_place (length g.events) (length (g.events ++ f ∷ [])) (from_event ws) (from_event (ws ++ f ∷ [])) (one_longer g.events f) (from_longer ws f e p.0 p.1)
place_more g f log x e (ws, y ∷ r) h k =
    same_place (length g.events) (length (g.events ++ f ∷ [])) ws (ws ++ f ∷ []) (one_longer g.events f) (one_longer ws f)

pub scheduled_more : (g : Input) (f : Event) (log : Log) → IsLawful g log → MarksNext g log → scheduled_at (with_event g f) log ≡ scheduled_at g log
scheduled_more g f log l n =
    scheduled_listed (with_event g f) log
    ∙ ap (place_left (length (g.events ++ f ∷ []))) (grows g f log l)
    ∙ place_more g f log n.entry n.event (left g.events log) n.event_is (marked_next g log n.entry n.event n.event_is n.next_is)
    ∙ sym (scheduled_listed g log)

pub rounds_more : (g : Input) (f : Event) (log : Log) → IsLawful g log → rounds (g.events ++ f ∷ []) log ≡ rounds g.events log
rounds_more g f [] l = refl
rounds_more g f (Mark e ∷ log) l =
    rounds_marked (g.events ++ f ∷ []) e log
    ∙ (λ i. unless_over (grows g f log l.1 i).1 (rounds_more g f log l.1 i))
    ∙ sym (rounds_marked g.events e log)
rounds_more g f (Redeclares t ∷ log) l = refl
rounds_more g f (Round es ∷ log) l = ap (λ n. suc n) (rounds_more g f log l.1)
rounds_more g f (_ ∷ log) l = rounds_more g f log l.1

pub round_more : (g : Input) (f : Event) (log : Log) → IsLawful g log → round_at (with_event g f) log ≡ round_at g log
round_more g f log l =
    round_at_listed (with_event g f) log
    ∙ (λ i. round_left (rounds_more g f log l i) (grows g f log l i).1)
    ∙ sym (round_at_listed g log)
