-- Before the first event of a run nothing is in flight, in a queue or in a pipe: what a reader begins with is what there is.
use Rattle.std.proofs.Common.{ap, arith, sym, ◌∙◌}
use Rattle.std.specs.Prelude.{ℕ, ◌≡◌, true, List, [], ◌∷◌, map, Some, refl}
use Rattle.sdd_inside_laws.proofs.EachMoment.{marks_at}
use Rattle.sdd_inside_laws.proofs.QueuesRead.{all_queues, of_class}
use Rattle.sdd_inside_laws.specs.Reader.{known, queue_classes}
use Rattle.sdd_inside_laws.specs.WholeRun.{empty_queue, nothing_yet}
use Rattle.sdd_app_inside.proofs.watch.obligations.logs.Beginning.{rests_at_first}
use Rattle.sdd_app_inside.proofs.watch.obligations.logs.Completing.{OnlyMarksAreDue, next_is_mark}
use Rattle.sdd_app_inside.proofs.watch.obligations.logs.FirstHand.{none_to_hand}
use Rattle.sdd_app_inside.specs.watch.obligations.All.{D, Entry, Event, Input, IsLawful, Log, Mark, Msg, Redeclare, Redeclares, Settle, Site, T, U, all_links, class_no, home, local_of, mark_from, mark_of, marks, next, queue, quiet, round, setting_of, txn_no}
use Rattle.sdd_app_inside.proofs.watch.EachEvent.{lawful_at}
use Rattle.sdd_app_inside.specs.watch.moments.Moments.{at_event}

-- at first all links are quiet, so what is next is an event

quiet_first : (ls : List (Site × Site)) → quiet {M = Msg} ls [] ≡ true
quiet_first [] = refl
quiet_first (l ∷ ls) = quiet_first ls

marks_from : (g : Input) (r ws : List Event) (x : Entry) → mark_from g [] true r ws ≡ Some x → marks (x ∷ []) ≡ 1
marks_from g r [] x e = cc
marks_from g r (Settle ∷ ws) x e = marks_from g r ws x e
marks_from g r (Redeclare ∷ ws) (Redeclares t) e = refl
marks_from g r (Redeclare ∷ ws) _ e = cc
marks_from g r (_ ∷ ws) (Mark f) e = refl
marks_from g r (_ ∷ ws) _ e = cc

free_first : (g : Input) → OnlyMarksAreDue g []
free_first g = let r = rests_at_first g in record { no_mark = r.no_mark; no_site = r.no_site; no_hand = none_to_hand g [] r.handed_all }

first_marks : (g : Input) (x : Entry) → next g [] ≡ Some x → marks (x ∷ []) ≡ 1
first_marks g x e =
    let q = quiet_first (all_links g) in
    let mark : next g [] ≡ mark_of g [] (g.events, []) = next_is_mark g [] (mark_of g [] (g.events, [])) (free_first g) refl in
    let by_quiet = ap (λ b. mark_from g [] b (round {M = Msg} (all_links g) []) g.events) q in
    marks_from g (round {M = Msg} (all_links g) []) g.events x (sym by_quiet ∙ sym mark ∙ e)

-- so before the first event the log is empty

pub none_before : (g : Input) (log : Log) → IsLawful g log → marks log ≡ 0 → log ≡ []
none_before g [] h e = refl
none_before g (x ∷ log) h e =
    let none : marks log ≡ 0 = no_more x log e in
    let rest : log ≡ [] = none_before g log h.1 none in
    let one : marks (x ∷ []) ≡ 1 = first_marks g x (ap (next g) (sym rest) ∙ h.0) in
    let same : marks (x ∷ log) ≡ marks (x ∷ []) = ap (λ l. marks (x ∷ l)) rest in
    absurd (omega (arith, one, same, e))
  where
    no_more : (x : Entry) (log : Log) → marks (x ∷ log) ≡ 0 → marks log ≡ 0
    no_more (Mark e) log h = absurd (omega (arith, h))
    no_more (Redeclares t) log h = absurd (omega (arith, h))
    no_more _ log h = h

-- what is known of the empty log

queue_first : (g : Input) (at : Site) (c : ℕ) → queue (setting_of g at) c (local_of g at []) ≡ []
queue_first g U c = refl
queue_first g (T t) c = refl
queue_first g (D d) c = refl

queues_first : (g : Input) (cs : List ℕ) → map (of_class g []) cs ≡ map empty_queue cs
queues_first g [] = refl
queues_first g (c ∷ cs) =
    let none = ap (map (λ q. txn_no q.number)) (queue_first g (home g.catalogue c) c) in
    let one : of_class g [] c ≡ empty_queue c = (λ i. record { class = class_no c; queue = none i }) in
    λ i. one i ∷ queues_first g cs i

pub known_first : (g : Input) → known g [] ≡ nothing_yet g
known_first g =
    let queues = all_queues g [] ∙ queues_first g (queue_classes g) in
    λ i. record (nothing_yet g) { queues = queues i }

pub known_before : (g : Input) (log : Log) → IsLawful g log → known g (at_event 0 log) ≡ nothing_yet g
known_before g log h =
    ap (known g) (none_before g (at_event 0 log) (lawful_at g 0 log h) (marks_at 0 log (omega arith))) ∙ known_first g
