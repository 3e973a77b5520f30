-- Where a settle or a redeclare is the last of the events, the links are quiet at the end.
use Rattle.sdd_run.proofs.All.{Bool, Event, Input, IsAtRest, IsLawful, List, Log, Mark, None, OnlyMarksAreDue, Redeclare, Redeclares, Settle, Some, Up, [], after_mark, all_links, ap, arith, at_redeclare, calls_of, complete_parts, false, first_none, from_event, hand_due, hand_on, inl, inr, left, mark_from, mark_of, next, next_is_of_events, no_redeclare, none_any_base, none_left, quiet, quiet_at_last, refl, same_part, site_due, subst, suc, sym, tail_of, true, with_event, ℕ, ◌++◌, ◌∙◌, ◌∷◌, ◌≡◌, ◌⊎◌}
use Rattle.sdd_progress.proofs.obligations.logs.Steps.{none_does, none_more}
use Rattle.sdd_progress.specs.obligations.All.{Entry, base_of, does_at, local_of, next_at, nth_era, redeclares, sites}
use Rattle.sdd_progress.specs.obligations.site_module.SiteLog as site

-- whether the last of the events is a redeclare, where it is given what holds of none

is_redeclare : Event → Bool
is_redeclare Redeclare = true
is_redeclare _ = false

ends : Bool → List Event → Bool
ends b [] = b
ends b (e ∷ events) = ends (is_redeclare e) events

ends_so : (b : Bool) (events : List Event) → ends b (events ++ Redeclare ∷ []) ≡ true
unfolding ends is_redeclare
ends_so b [] = refl
ends_so b (e ∷ events) = ends_so (is_redeclare e) events

-- it stays the last where another event is marked
mark_on : (g : Input) (log : Log) (q : Bool) (r ws : List Event) (e : Event) → mark_from g log q r ws ≡ Some (Mark e) → ends false ws ≡ true
    → ends false (tail_of (from_event ws)) ≡ true
unfolding ends is_redeclare
mark_on g log q r [] e h p = absurd (cc)
mark_on g log true r (Settle ∷ ws) e h p = mark_on g log true r ws e h p
mark_on g log false r (Settle ∷ ws) e h p = absurd (cc)
mark_on g log true r (Redeclare ∷ ws) e h p = absurd (cc)
mark_on g log false r (Redeclare ∷ ws) e h p = absurd (cc)
mark_on g log q r (_ ∷ ws) e h p = p

mark_taken : (g : Input) (log : Log) (e : Event) (s : List Event × List Event) → mark_of g log s ≡ Some (Mark e) → ends false s.0 ≡ true
    → ends false (after_mark s).0 ≡ true
mark_taken g log e s h p = grind (arith, mark_on)

-- or is the one that a class list was put in force by

last_or_not : (ws : List Event) → ends true ws ≡ true → (ends false ws ≡ true) ⊎ (ws ≡ [])
unfolding ends is_redeclare
last_or_not [] p = inr refl
last_or_not (x ∷ ws) p = inl p

list_on : (g : Input) (log : Log) (q : Bool) (r ws : List Event) (t : ℕ) → mark_from g log q r ws ≡ Some (Redeclares t) → ends false ws ≡ true
    → (ends false (tail_of (from_event ws)) ≡ true) ⊎ (tail_of (from_event ws) ≡ [])
unfolding ends is_redeclare
list_on g log true r (Settle ∷ ws) t h p = list_on g log true r ws t h p
list_on g log q r (Redeclare ∷ ws) t h p = last_or_not ws p
list_on g log _ r _ t h p = absurd (cc)

list_taken : (g : Input) (log : Log) (t : ℕ) (s : List Event × List Event) → mark_of g log s ≡ Some (Redeclares t) → ends false s.0 ≡ true
    → (ends false (after_mark s).0 ≡ true) ⊎ (after_mark s ≡ ([], []))
list_taken g log t s h p = grind (arith, list_on)

-- after that nothing is due

none_at_site : (g : Input) (t : ℕ) (log : Log) → site_due g log ≡ None → site_due g (Redeclares t ∷ log) ≡ None
none_at_site g t log =
    let more : Log = Redeclares t ∷ log in
    first_none (λ at. does_at at (next_at g log at)) (λ at. does_at at (next_at g more at)) (sites g.catalogue.tms g.catalogue.dms)
    (λ at e. ap (does_at at) (none_more g log more at (λ part. part)
    (λ none. no_redeclare g at (base_of g more) (nth_era g (suc (redeclares log))) t (local_of g at log)
    (none_any_base g at (base_of g log) (base_of g more) (local_of g at log) none)) (none_does at (next_at g log at) e)))

none_to_hand : (g : Input) (t : ℕ) (log : Log) → hand_due g log ≡ None → hand_due g (Redeclares t ∷ log) ≡ None
none_to_hand g t log = first_none (hand_on log) (hand_on (Redeclares t ∷ log)) (all_links g) (λ l e. (grind (arith, same_part)) ∙ e)

record IsDone (g : Input) (log : Log) : Type 0 where
  time : ℕ
  before : Log
  is : log ≡ Redeclares time ∷ before
  none : left g.events log ≡ ([], [])

over : (g : Input) (log : Log) (x : Entry) → IsLawful g log → next g log ≡ Some x → IsDone g log → ⊥
over g log x h n d =
    let lawful : IsLawful g (Redeclares d.time ∷ d.before) = subst (IsLawful g) d.is h in
    let at = at_redeclare g d.before d.time lawful.0 in
    let empty : left g.events (Redeclares d.time ∷ d.before) ≡ ([], []) = sym (ap (left g.events) d.is) ∙ d.none in
    let marks_alone : OnlyMarksAreDue g (Redeclares d.time ∷ d.before) =
    record { no_mark = refl; no_site = none_at_site g d.time d.before at.no_site; no_hand = none_to_hand g d.time d.before at.no_hand } in
    let none : next g log ≡ None = ap (next g) d.is ∙ none_left g (Redeclares d.time ∷ d.before) marks_alone empty in
    let wrong : Some x ≡ None = sym n ∙ none in absurd (cc)

-- so the last event is to come, or is done

IsLast : Input → Log → Type 0
IsLast g log = (ends false (left g.events log).0 ≡ true) ⊎ IsDone g log

to_come : (g : Input) (log : Log) (x : Entry) → IsLawful g (x ∷ log) → IsLast g log → ends false (left g.events log).0 ≡ true
unfolding IsLast
to_come g log x h h5 = grind (arith, over)

last_one : (g : Input) (log : Log) (t : ℕ)
    → (ends false (after_mark (left g.events log)).0 ≡ true) ⊎ (after_mark (left g.events log) ≡ ([], [])) → IsLast g (Redeclares t ∷ log)
unfolding IsLast
last_one g log t h4 = grind arith

is_last : (g : Input) (log : Log) → IsLawful g log → ends false g.events ≡ true → IsLast g log
unfolding IsLast
is_last g [] h p = inl p
is_last g (Mark e ∷ log) h p =
    inl
    (mark_taken g log e (left g.events log) (next_is_of_events g log (Mark e) refl h.0) (to_come g log (Mark e) h (is_last g log h.1 p)))
is_last g (Redeclares t ∷ log) h p =
    last_one g log t (list_taken g log t (left g.events log) (next_is_of_events g log (Redeclares t) refl h.0)
    (to_come g log (Redeclares t) h (is_last g log h.1 p)))
is_last g (x ∷ log) h p = inl (to_come g log x h (is_last g log h.1 p))

-- where it is to come, something is next

none_next : (g : Input) (log : Log) (q : Bool) (r ws : List Event) → mark_from g log q r ws ≡ None → ends false ws ≡ true → ⊥
unfolding ends is_redeclare
none_next g log true r (Settle ∷ ws) h p = none_next g log true r ws h p
none_next g log q r (Up d ∷ ws) h p = absurd (cc)
none_next g log _ r _ h p = absurd (cc)

none_to_come : (g : Input) (log : Log) (s : List Event × List Event) → mark_of g log s ≡ None → ends false s.0 ≡ true → ⊥
none_to_come g log s h p = grind (arith, none_next)

quiet_where : (g : Input) (log : Log) → IsLawful g log → next g log ≡ None → IsLast g log → quiet (all_links g) (calls_of log) ≡ true
unfolding IsLast
quiet_where g log h n h5 = grind (arith, none_to_come, complete_parts, at_redeclare)

-- an event before which rounds go on is the last
pub quiet_at_rest : (g : Input) (last : Event) → IsAtRest last → (log : Log) → IsLawful (with_event g last) log → next (with_event g last) log ≡ None
    → quiet (all_links g) (calls_of log) ≡ true
quiet_at_rest g last at log h n = grind (arith, quiet_at_last, quiet_where, is_last, ends_so)
