-- Where a settle has ended the links are quiet.
use Rattle.std.proofs.Common.{arith}
use Rattle.sdd_progress.proofs.AllEnds.{Bool, Entry, Event, Input, IsLawful, List, Log, Mark, None, Redeclare, Redeclares, Round, Settle, Some, Up, [], after_mark, all_links, ap, calls_of, complete_parts, false, from_event, left, mark_from, mark_of, next, quiet, refl, round, subst, sym, tail_of, true, with_event, ℕ, ◌++◌, ◌∙◌, ◌∷◌, ◌≡◌}
use Rattle.sdd_progress.proofs.Marked.{next_is_of_events}

-- an event after a settle

pub quiet_before : (g : Input) (log : Log) (e : Event) (ws : List Event) → left g.events log ≡ (Settle ∷ ws, []) → next g log ≡ Some (Mark e)
    → quiet (all_links g) (calls_of log) ≡ true
quiet_before g log e ws is h = grind (arith, next_is_of_events)

-- a settle at the end

is_settle : Event → Bool
is_settle Settle = true
is_settle _ = false

-- whether the last of the events is a settle, where it is given what holds of none
ends : Bool → List Event → Bool
ends b [] = b
ends b (e ∷ events) = ends (is_settle e) events

ends_so : (b : Bool) (events : List Event) → ends b (events ++ Settle ∷ []) ≡ true
unfolding ends is_settle
ends_so b [] = refl
ends_so b (e ∷ events) = ends_so (is_settle e) events

-- it stays the last where another event is marked

ends_later : (ws : List Event) (e : Event) (rest : List Event) → from_event ws ≡ e ∷ rest → ends true ws ≡ ends false ws
unfolding ends
ends_later [] e rest h = absurd (cc)
ends_later (x ∷ ws) e rest h = refl

ends_on : (ws : List Event) (e : Event) (rest : List Event) → from_event ws ≡ e ∷ rest → ends false ws ≡ true → ends false rest ≡ true
unfolding ends is_settle
ends_on [] e rest h p = absurd (cc)
ends_on (Settle ∷ ws) e rest h p = ends_on ws e rest h (sym (ends_later ws e rest h) ∙ p)
ends_on (w ∷ ws) e rest h p = subst (λ xs. ends false xs ≡ true) (ap tail_of h) p

-- a mark or a class list is that of the first event with a mark

abbrev TakesFirst : Entry → List Event → Type 0
TakesFirst (Mark e) ws = (f : Event) × (rest : List Event) × (from_event ws ≡ f ∷ rest)
TakesFirst (Redeclares t) ws = (f : Event) × (rest : List Event) × (from_event ws ≡ f ∷ rest)
TakesFirst _ ws = Unit {0}

settle_first : (x : Entry) (ws : List Event) → TakesFirst x ws → TakesFirst x (Settle ∷ ws)
settle_first x ws h = grind arith

round_first : (events ws : List Event) (x : Entry) → Some (Round events) ≡ Some x → TakesFirst x ws
round_first events ws x h = grind arith

first_taken : (g : Input) (log : Log) (q : Bool) (events ws : List Event) (x : Entry) → mark_from g log q events ws ≡ Some x → TakesFirst x ws
first_taken g log q events [] x h = absurd (cc)
first_taken g log true events (Settle ∷ ws) x h = settle_first x ws (first_taken g log true events ws x h)
first_taken g log false events (Settle ∷ ws) x h = round_first events (Settle ∷ ws) x h
first_taken g log _ events (w ∷ ws) x h = (grind arith)

after_first : (ws : List Event) → (f : Event) × (rest : List Event) × (from_event ws ≡ f ∷ rest) → ends false ws ≡ true
    → ends false (tail_of (from_event ws)) ≡ true
after_first ws t p = subst (λ xs. ends false (tail_of xs) ≡ true) (sym t.2) (ends_on ws t.0 t.1 t.2 p)

mark_taken : (g : Input) (log : Log) (e : Event) (rest : List Event × List Event) → mark_of g log rest ≡ Some (Mark e) → ends false rest.0 ≡ true
    → ends false (after_mark rest).0 ≡ true
mark_taken g log e (ws, []) h p = after_first ws (first_taken g log (quiet (all_links g) (calls_of log)) (round (all_links g) (calls_of log)) ws (Mark e) h) p
mark_taken g log e (ws, x ∷ events) h p = p

redeclare_taken : (g : Input) (log : Log) (t : ℕ) (rest : List Event × List Event) → mark_of g log rest ≡ Some (Redeclares t) → ends false rest.0 ≡ true
    → ends false (after_mark rest).0 ≡ true
redeclare_taken g log t (ws, []) h p =
    after_first ws (first_taken g log (quiet (all_links g) (calls_of log)) (round (all_links g) (calls_of log)) ws (Redeclares t) h) p
redeclare_taken g log t (ws, x ∷ events) h p = absurd (cc)

still_ends : (g : Input) (log : Log) → IsLawful g log → ends false g.events ≡ true → ends false (left g.events log).0 ≡ true
still_ends g [] h p = p
still_ends g (Mark e ∷ log) h p = mark_taken g log e (left g.events log) (next_is_of_events g log (Mark e) refl h.0) (still_ends g log h.1 p)
still_ends g (Redeclares t ∷ log) h p = redeclare_taken g log t (left g.events log) (next_is_of_events g log (Redeclares t) refl h.0) (still_ends g log h.1 p)
still_ends g (_ ∷ log) h p = still_ends g log h.1 p

-- so nothing is next only where the links are quiet

none_next : (g : Input) (log : Log) (q : Bool) (events ws : List Event) → mark_from g log q events ws ≡ None → ends false ws ≡ true → q ≡ true
unfolding ends
none_next g log true events (Settle ∷ ws) h p = refl
none_next g log true events (Redeclare ∷ ws) h p = refl
none_next g log q events (Up d ∷ ws) h p = absurd (cc)
none_next g log _ events _ h p = absurd (cc)

none_left : (g : Input) (log : Log) (rest : List Event × List Event) → mark_of g log rest ≡ None → ends false rest.0 ≡ true
    → quiet (all_links g) (calls_of log) ≡ true
none_left g log rest h p = grind (arith, none_next)

pub quiet_at_last : (g : Input) (log : Log) → IsLawful (with_event g Settle) log → next (with_event g Settle) log ≡ None
    → quiet (all_links g) (calls_of log) ≡ true
quiet_at_last g log h e = grind (arith, none_left, complete_parts, still_ends, ends_so)
