-- Which events are left, and how many rounds were begun.
use Rattle.sdd_schedule.proofs.All.{Bool, Does, Entry, Event, Hand, Input, IsLawful, List, Log, Mark, None, Notes, Redeclare, Redeclares, Round, Settle, Some, Submitted, Up, [], after_mark, all_links, ap, calls_of, complete_parts, false, grows, inl, inr, left, mark_from, mark_is_next, mark_of, marks, next, no_events_quiet, quiet, refl, round, rounds, suc, sym, true, with_end, ℕ, ◌++◌, ◌∙◌, ◌∷◌, ◌≡◌, ◌≢◌, ◌⊎◌}
use Rattle.sdd_schedule.proofs.PlacesListed.{rounds_marked, unless_over}
use Rattle.sdd_schedule.proofs.EachEvent.{event_of, one_only}

-- A round begins where no round is in progress and the links aren't quiet, and it has an event.
pub record BeginsRound (g : Input) (log : Log) (es : List Event) : Type 0 where
  pub no_round : (left g.events log).1 ≡ []
  pub some_left : (left g.events log).0 ≢ []
  pub some : es ≢ []
  pub is_loud : quiet (all_links g) (calls_of log) ≡ false

round_from : (g : Input) (log : Log) (q : Bool) (r ws es : List Event) → mark_from g log q r ws ≡ Some (Round es) → (q ≡ false) × (r ≡ es) × (ws ≢ [])
round_from g log true r (Settle ∷ ws) es h = let i = round_from g log true r ws es h in absurd (let no = i.0 in cc)
round_from g log false r (Settle ∷ ws) es h = (refl, (let p : r ≡ es = cc in p), λ e. cc)
round_from g log false r (Redeclare ∷ ws) es h = (refl, (let p : r ≡ es = cc in p), λ e. cc)
round_from g log _ r _ es h = cc

round_of : (g : Input) (log : Log) (s : List Event × List Event) (es : List Event) → mark_of g log s ≡ Some (Round es)
    → (s.1 ≡ []) × (s.0 ≢ []) × (es ≢ []) × (quiet (all_links g) (calls_of log) ≡ false)
round_of g log (ws, []) es h =
    let i = round_from g log (quiet (all_links g) (calls_of log)) (round (all_links g) (calls_of log)) ws es h in
    (refl, i.2, (λ none. loud (i.1 ∙ none) i.0), i.0)
  where
    loud : round (all_links g) (calls_of log) ≡ [] → quiet (all_links g) (calls_of log) ≡ false → ⊥
    loud none still =
        let quieted : quiet (all_links g) (calls_of log) ≡ true = no_events_quiet g.catalogue.tms g.catalogue.dms (calls_of log) none in
        let clash : true ≡ false = sym quieted ∙ still in absurd cc
round_of g log (ws, x ∷ r) es h = cc

pub begins_round : (g : Input) (log : Log) (es : List Event) → next g log ≡ Some (Round es) → BeginsRound g log es
begins_round g log es n =
    let p = round_of g log (left g.events log) es (mark_is_next g log (Round es) refl n) in
    record { no_round = p.0; some_left = p.1; some = p.2; is_loud = p.3 }

-- where no event is left, no round was begun for one
pub no_rounds_begun : (g : Input) (log : Log) → IsLawful g log → (left g.events log).0 ≡ [] → rounds g.events log ≡ 0
no_rounds_begun g [] l h = refl
no_rounds_begun g (Mark e ∷ log) l h = rounds_marked g.events e log ∙ marked (left g.events log) (λ none. no_rounds_begun g log l.1 none) h
  where
    marked : (s : List Event × List Event) → (s.0 ≡ [] → rounds g.events log ≡ 0) → (after_mark s).0 ≡ [] → unless_over s.1 (rounds g.events log) ≡ 0
    marked (ws, []) before none = refl
    marked (ws, x ∷ r) before none = before none
no_rounds_begun g (Redeclares t ∷ log) l h = refl
no_rounds_begun g (Round es ∷ log) l h = absurd ((begins_round g log es l.0).some_left h)
no_rounds_begun g (_ ∷ log) l h = no_rounds_begun g log l.1 h

-- where a log is complete and the links aren't quiet, nothing is left

none_from : (g : Input) (log : Log) (r ws : List Event) → mark_from g log false r ws ≡ None → ws ≡ []
none_from g log r [] h = refl
none_from g log r (Up at ∷ ws) h = cc
none_from g log r (_ ∷ ws) h = cc

none_of : (g : Input) (log : Log) (s : List Event × List Event) → quiet (all_links g) (calls_of log) ≡ false → mark_of g log s ≡ None
    → s ≡ ([], [])
none_of g log (ws, []) loud h =
    let r = round (all_links g) (calls_of log) in
    ap (λ es. (es, [])) (none_from g log r ws (sym (ap (λ q. mark_from g log q r ws) loud) ∙ h))
none_of g log (ws, x ∷ r) loud h = cc

pub none_left_loud : (g : Input) (log : Log) → next g log ≡ None → quiet (all_links g) (calls_of log) ≡ false → left g.events log ≡ ([], [])
none_left_loud g log n loud = none_of g log (left g.events log) loud (complete_parts g log n).no_next

-- no round is in progress after a complete log
pub none_in_round : (g : Input) (log : Log) → next g log ≡ None → (left g.events log).1 ≡ []
none_in_round g log n = of_round (left g.events log) (complete_parts g log n).no_next
  where
    of_round : (s : List Event × List Event) → mark_of g log s ≡ None → s.1 ≡ []
    of_round (ws, []) h = refl
    of_round (ws, x ∷ r) h = cc

-- an event more that is reached by rounds: where some come, it alone is left, and none was begun for it
pub one_is_left : (g : Input) (log : Log) (e : Event) → IsLawful g log → next g log ≡ None → quiet (all_links g) (calls_of log) ≡ false
    → left (g.events ++ e ∷ []) log ≡ (e ∷ [], [])
one_is_left g log e l n loud = grows g e log l ∙ ap (with_end e) (none_left_loud g log n loud)

-- after one event more

-- the events that are left stay where only one mark stands above a log
pub left_above : (events : List Event) (m : Log) (x : Entry) (e : Event) (log : Log) → event_of x ≡ Some e
    → marks (m ++ x ∷ log) ≡ suc (marks log) → (left events (m ++ x ∷ log)).0 ≡ (left events (x ∷ log)).0
left_above events [] x e log h k = refl
left_above events (Mark f ∷ m) x e log h k = absurd (one_only m x e log h k)
left_above events (Redeclares t ∷ m) x e log h k = absurd (one_only m x e log h k)
left_above events (_ ∷ m) x e log h k = left_above events m x e log h k

-- By how many rounds were begun, and what is left of the last one, now and before: none was begun since
pub record NoneBegun (now before : ℕ) (left_now left_before : List Event) : Type 0 where
  pub rounds_are : now ≡ before
  pub round_is : left_now ≡ left_before

-- or one was, after the last event of the round before it
pub record OneBegun (left_now left_before : List Event) : Type 0 where
  pub some : left_now ≢ []
  pub none : left_before ≡ []

abbrev Begun : Input → Log → Log → Type 0
Begun g now before =
    NoneBegun (rounds g.events now) (rounds g.events before) (left g.events now).1 (left g.events before).1
    ⊎ OneBegun (left g.events now).1 (left g.events before).1

rounds_above : (g : Input) (m : Log) (x : Entry) (e : Event) (log : Log) → IsLawful g (m ++ x ∷ log) → event_of x ≡ Some e
    → marks (m ++ x ∷ log) ≡ suc (marks log) → Begun g (m ++ x ∷ log) (x ∷ log)
rounds_above g [] x e log l h k = inl (record { rounds_are = refl; round_is = refl })
rounds_above g (Mark f ∷ m) x e log l h k = absurd (one_only m x e log h k)
rounds_above g (Redeclares t ∷ m) x e log l h k = absurd (one_only m x e log h k)
rounds_above g (Round es ∷ m) x e log l h k =
    let b = begins_round g (m ++ x ∷ log) es l.0 in
    elim (rounds_above g m x e log l.1 h k) as (λ _. Begun g (Round es ∷ (m ++ x ∷ log)) (x ∷ log)) [
      | inl none ↦ inr (record { some = b.some; none = sym none.round_is ∙ b.no_round })
      | inr one ↦ absurd (one.some b.no_round)
    ]
rounds_above g (_ ∷ m) x e log l h k = rounds_above g m x e log l.1 h k

-- where as many events of the round are left as after the mark, no round was begun
pub rounds_stay : (g : Input) (m : Log) (x : Entry) (e : Event) (log : Log) → IsLawful g (m ++ x ∷ log) → event_of x ≡ Some e
    → marks (m ++ x ∷ log) ≡ suc (marks log) → (left g.events (m ++ x ∷ log)).1 ≡ (left g.events (x ∷ log)).1
    → rounds g.events (m ++ x ∷ log) ≡ rounds g.events (x ∷ log)
rounds_stay g m x e log l h k same =
    elim (rounds_above g m x e log l h k) [ inl p ↦ p.rounds_are | inr p ↦ absurd (p.some (same ∙ p.none)) ]

-- after the last event that is left no mark stands
pub no_mark_more : (g : Input) (m log : Log) → IsLawful g (m ++ log) → left g.events log ≡ ([], [])
    → (marks (m ++ log) ≡ marks log) × (left g.events (m ++ log) ≡ ([], []))
no_mark_more g [] log l h = (refl, h)
no_mark_more g (Hand a b n x ∷ m) log l h = no_mark_more g m log l.1 h
no_mark_more g (Submitted a n ∷ m) log l h = no_mark_more g m log l.1 h
no_mark_more g (Notes ∷ m) log l h = no_mark_more g m log l.1 h
no_mark_more g (Does a act ∷ m) log l h = no_mark_more g m log l.1 h
no_mark_more g (x ∷ m) log l h =
    let i = no_mark_more g m log l.1 h in
    let no : None ≡ Some x = sym (ap (mark_of g (m ++ log)) i.1) ∙ mark_is_next g (m ++ log) x refl l.0 in absurd cc
