-- Each entry of a log leaves less to come: of marks and rounds, else of messages to be handed over, else of acts.
use Rattle.sdd_progress.proofs.AllEnds.{Act, Bool, Entry, Event, Input, IsPermitted, List, Log, MAX_RUN_EVENTS, Mark, Notes, Option, Redeclares, Round, Settle, Site, Some, [], all_links, ap, arith, calls_of, does_at, false, false≢true, found_at, hand_due, hand_on, is_past, left, length, ltb-false, mark_due, mark_from, mark_of, marks, next, next_at, next_mark_is, note_if, one_of, quiet, refl, round, same_Some, site_due, sites, slice_get, subst, sym, true, ℕ, ◌*◌, ◌+◌, ◌-◌, ◌<◌, ◌∙◌, ◌∷◌, ◌≡◌, ◌≤◌}
use Rattle.sdd_progress.proofs.Beginning.{round_begins}
use Rattle.sdd_progress.proofs.Marked.{is_of_events}
use Rattle.sdd_progress.proofs.Sites.{act_hands, acts_left, does_falls, hand_falls, hands_left, is_hand_on}

-- whether no round is in progress, and whether a mark is the last entry
abbrev pub between_rounds : List Event → ℕ
between_rounds [] = 1
between_rounds (e ∷ events) = 0

abbrev pub just_marked : Log → ℕ
just_marked (Mark e ∷ log) = 1
just_marked _ = 0

abbrev pub stage : Input → Log → ℕ
stage g log = 4 * (MAX_RUN_EVENTS - marks log) + 2 * between_rounds (left g.events log).1 + just_marked log

pub data Falls (g : Input) (new old : Log) : Type 0 where
  in_stage : stage g new < stage g old → Falls g new old
  in_hands : stage g new ≤ stage g old → hands_left g new < hands_left g old → Falls g new old
  in_acts : stage g new ≤ stage g old → hands_left g new ≤ hands_left g old → acts_left g new < acts_left g old → Falls g new old

-- right after a mark

noted : (g : Input) (ev : Event) (log : Log) (b : Bool) (e : Entry) → note_if b ≡ Some e → Falls g (e ∷ Mark ev ∷ log) (Mark ev ∷ log)
noted g ev log false e h = absurd (cc)
noted g ev log true e h = subst (λ x. Falls g (x ∷ Mark ev ∷ log) (Mark ev ∷ log)) (same_Some Notes e h) (in_stage (omega arith))

-- an act, and a message that is handed over

by_act : (g : Input) (log : Log) (k : ℕ) (at : Site) (o : Option Act) (e : Entry) → IsPermitted g log
    → slice_get (sites g.catalogue.tms g.catalogue.dms) k ≡ Some at → next_at g log at ≡ o → does_at at o ≡ Some e → Falls g (e ∷ log) log
by_act g log k at o e h there due is = grind (arith, Falls, same_Some, act_hands, does_falls)

by_hand : (g : Input) (log : Log) (k : ℕ) (l : Site × Site) (e : Entry) → slice_get (all_links g) k ≡ Some l → hand_on log l ≡ Some e → Falls g (e ∷ log) log
by_hand g log k (a, b) e there h =
    let i = is_hand_on log a b e h in
    subst (λ x. Falls g (x ∷ log) log) (sym i.is) (in_hands (omega arith) (hand_falls log a b i.number i.msg i.next i.there g k there))

-- a mark, a round, a class list

of_events : (g : Input) (log : Log) (q : Bool) (events ws : List Event) (e : Entry) → mark_from g log q events ws ≡ Some e → is_of_events e ≡ true
of_events g log q events [] e h = absurd (cc)
of_events g log true events (Settle ∷ ws) e h = of_events g log true events ws e h
of_events g log false events (Settle ∷ ws) e h = sym (ap is_of_events (same_Some _ e h))
of_events g log _ events (_ ∷ ws) e h = sym (ap is_of_events (same_Some _ e h))

of_lists : (g : Input) (log : Log) (s : List Event × List Event) (e : Entry) → mark_of g log s ≡ Some e → is_of_events e ≡ true
of_lists g log (ws, []) e h = of_events g log (quiet (all_links g) (calls_of log)) (round (all_links g) (calls_of log)) ws e h
of_lists g log (ws, x ∷ r) e h = sym (ap is_of_events (same_Some _ e h))

none_between : (events : List Event) → 0 < length events → between_rounds events ≡ 0
none_between events l = grind arith

by_event : (g : Input) (log : Log) (e : Entry) → next g log ≡ Some e → is_of_events e ≡ true → is_past log e ≡ false → Falls g (e ∷ log) log
by_event g log (Mark ev) h k p = grind (arith, ltb-false)
by_event g log (Redeclares t) h k p = grind (arith, ltb-false)
by_event g log (Round es) h k p = grind (arith, round_begins, between_rounds, none_between)
by_event g log _ h k p = absurd (false≢true k)

pub falls : (g : Input) (log : Log) (e : Entry) → IsPermitted g log → next g log ≡ Some e → is_past log e ≡ false → Falls g (e ∷ log) log
falls g log e h is p =
    one_of (Falls g (e ∷ log) log) (mark_due g log) _ e (λ m. (grind (arith, Falls, same_Some, noted)))
    (one_of (Falls g (e ∷ log) log) (site_due g log) _ e
    (λ m. let r = found_at (λ at. does_at at (next_at g log at)) (sites g.catalogue.tms g.catalogue.dms) e
    m in by_act g log r.0 r.1 (next_at g log r.1) e h r.2 refl r.3)
    (one_of (Falls g (e ∷ log) log) (hand_due g log) _ e
    (λ m. let r = found_at (hand_on log) (all_links g) e m in by_hand g log r.0 r.1 e r.2 r.3)
    (λ m. by_event g log e is (of_lists g log (left g.events log) e (sym (next_mark_is g log) ∙ m)) p))) is
