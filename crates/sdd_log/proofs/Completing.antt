-- The complete log of what was given, with one event more; rounds, and when they end.
use Rattle.sdd_log.proofs.All.{Bool, EndsIn, Entry, Event, Input, IsLawful, List, Log, Mark, None, Option, Redeclare, Redeclares, Round, Settle, Some, TakesRounds, [], after_mark, all_links, ap, arith, calls_of, false, from_event, greatest_bound, hand_due, left, mark_due, mark_from, mark_of, next, next_mark, or_none, quiet, refl, round, settles_before, site_due, suc, tail_of, true, with_event, zero, ℕ, ◌++◌, ◌∙◌, ◌∷◌, ◌≡◌, sym}
use Rattle.sdd_log.proofs.AsLists.{next_mark_is}
use Rattle.sdd_log.proofs.Grows.{grows, with_end}

-- nothing is due at all
pub record IsOver (g : Input) (log : Log) : Type 0 where
  pub no_mark : mark_due g log ≡ None
  pub no_site : site_due g log ≡ None
  pub no_hand : hand_due g log ≡ None
  pub no_next : mark_of g log (left g.events log) ≡ None

no_mark_next : (g : Input) (log : Log) → next g log ≡ None → next_mark g log ≡ None
no_mark_next g log e = grind (arith, or_none)

pub complete_parts : (g : Input) (log : Log) → next g log ≡ None → IsOver g log
complete_parts g log e = record {
  no_mark = grind (arith, or_none);
  no_site = grind (arith, or_none);
  no_hand = grind (arith, or_none);
  no_next = sym (next_mark_is g log) ∙ no_mark_next g log e;
}

-- nothing is due but a mark, whatever came before
pub record OnlyMarksAreDue (g : Input) (log : Log) : Type 0 where
  pub no_mark : mark_due g log ≡ None
  pub no_site : site_due g log ≡ None
  pub no_hand : hand_due g log ≡ None

pub next_is_mark : (g : Input) (log : Log) (o : Option Entry) → OnlyMarksAreDue g log → mark_of g log (left g.events log) ≡ o → next g log ≡ o
next_is_mark g log o f e = rw (f.no_mark, f.no_site, f.no_hand) (next_mark_is g log ∙ e)

-- an event that is carried out by itself
abbrev pub IsSingle : Event → Type 0
IsSingle Settle = ⊥
IsSingle Redeclare = ⊥
IsSingle _ = Unit {0}

-- an event more after events of which nothing is left
more_marked : (g : Input) (log : Log) (q : Bool) (r ws : List Event) (e : Event) → IsSingle e → mark_from g log q r ws ≡ None
    → mark_from (with_event g e) log q r (ws ++ e ∷ []) ≡ Some (Mark e)
more_marked g log q r [] Settle i h = absurd i
more_marked g log q r [] Redeclare i h = absurd i
more_marked g log true r (Settle ∷ ws) e i h = more_marked g log true r ws e i h
more_marked g log false r (Settle ∷ ws) e i h = cc
more_marked g log _ r (_ ∷ ws) e i h = cc
more_marked g log q r [] _ i h = refl

more_taken : (g : Input) (log : Log) (q : Bool) (r ws : List Event) (e : Event) → IsSingle e → mark_from g log q r ws ≡ None
    → tail_of (from_event (ws ++ e ∷ [])) ≡ []
more_taken g log q r [] Settle i h = absurd i
more_taken g log q r [] Redeclare i h = absurd i
more_taken g log true r (Settle ∷ ws) e i h = more_taken g log true r ws e i h
more_taken g log false r (Settle ∷ ws) e i h = cc
more_taken g log _ r (_ ∷ ws) e i h = cc
more_taken g log q r [] _ i h = refl

by_left : (g : Input) (e : Event) (log : Log) (s : List Event × List Event) → IsSingle e → mark_of g log s ≡ None
    → (mark_of (with_event g e) log (with_end e s) ≡ Some (Mark e)) × (after_mark (with_end e s) ≡ ([], []))
by_left g e log s i h = grind (arith, more_marked, more_taken)

free : (g : Input) (e : Event) (log : Log) → IsOver g log → OnlyMarksAreDue (with_event g e) log
free g e log n = record { no_mark = n.no_mark; no_site = n.no_site; no_hand = n.no_hand }

-- on a complete log an event more is next, and after it nothing is left
pub one_more : (g : Input) (e : Event) (log : Log) → IsSingle e → IsLawful g log → next g log ≡ None
    → (next (with_event g e) log ≡ Some (Mark e)) × (after_mark (left (with_event g e).events log) ≡ ([], []))
one_more g e log i l h =
    let n = complete_parts g log h in
    let w = by_left g e log (left g.events log) i n.no_next in
    let s : left (with_event g e).events log ≡ with_end e (left g.events log) = grows g e log l in
    (next_is_mark (with_event g e) log (Some (Mark e)) (free g e log n) (ap (mark_of (with_event g e) log) s ∙ w.0), ap after_mark s ∙ w.1)

-- no event is left
pub none_left : (g : Input) (log : Log) → OnlyMarksAreDue g log → left g.events log ≡ ([], []) → next g log ≡ None
none_left g log f e = next_is_mark g log None f (ap (mark_of g log) e)

-- an event more that is reached by rounds

more_rounds : (g : Input) (log : Log) (q : Bool) (r ws : List Event) (e : Event) → mark_from g log q r ws ≡ None → EndsIn e (ws ++ e ∷ [])
more_rounds g log q r [] e h = (0, refl)
more_rounds g log true r (Settle ∷ ws) e h = let i = more_rounds g log true r ws e h in (suc i.0, ap (λ xs. Settle ∷ xs) i.1)
more_rounds g log false r (Settle ∷ ws) e h = cc
more_rounds g log _ r (_ ∷ ws) e h = cc

by_end : (g : Input) (e : Event) (log : Log) (s : List Event × List Event) → mark_of g log s ≡ None
    → (ws : List Event) × (with_end e s ≡ (ws, [])) × EndsIn e ws
by_end g e log (ws, []) h = (ws ++ e ∷ [], refl, more_rounds g log (quiet (all_links g) (calls_of log)) (round (all_links g) (calls_of log)) ws e h)
by_end g e log (ws, x ∷ r) h = cc

-- on a complete log only an event more is left, and settles before it
pub event_left : (g : Input) (e : Event) (log : Log) → IsLawful g log → next g log ≡ None
    → (ws : List Event) × (left (with_event g e).events log ≡ (ws, [])) × EndsIn e ws
event_left g e log l h =
    let w = by_end g e log (left g.events log) (complete_parts g log h).no_next in
    (w.0, grows g e log l ∙ w.1, w.2)

round_from : (g : Input) (log : Log) (r : List Event) (e : Event) (n : ℕ) → TakesRounds e → mark_from g log false r (settles_before n e) ≡ Some (Round r)
round_from g log r e n h = grind arith

settled_from : (g : Input) (log : Log) (r : List Event) (n : ℕ) → mark_from g log true r (settles_before n Settle) ≡ None
settled_from g log r zero = refl
settled_from g log r (suc n) = settled_from g log r n

listed_from : (g : Input) (log : Log) (r : List Event) (n : ℕ) → mark_from g log true r (settles_before n Redeclare) ≡ Some (Redeclares (greatest_bound g log))
listed_from g log r zero = refl
listed_from g log r (suc n) = listed_from g log r n

none_behind : (n : ℕ) → after_mark (settles_before n Redeclare, []) ≡ ([], [])
none_behind zero = refl
none_behind (suc n) = none_behind n

-- the next mark, where these events are left and the links are quiet or not
mark_at : (g : Input) (log : Log) (q : Bool) (ws : List Event) (o : Option Entry) → left g.events log ≡ (ws, []) → quiet (all_links g) (calls_of log) ≡ q
    → mark_from g log q (round (all_links g) (calls_of log)) ws ≡ o → mark_of g log (left g.events log) ≡ o
mark_at g log q ws o e s h = ap (mark_of g log) e ∙ ap (λ b. mark_from g log b (round (all_links g) (calls_of log)) ws) s ∙ h

-- where nothing is in flight and all is acknowledged, a settle ends
pub settled : (g : Input) (log : Log) (ws : List Event) → OnlyMarksAreDue g log
    → left g.events log ≡ (ws, []) → EndsIn Settle ws → quiet (all_links g) (calls_of log) ≡ true → next g log ≡ None
settled g log ws f e s q = grind (arith, next_is_mark, mark_at, settled_from)

-- and a redeclare is next, after which nothing is left
pub redeclare_next : (g : Input) (log : Log) (ws : List Event) → OnlyMarksAreDue g log
    → left g.events log ≡ (ws, []) → EndsIn Redeclare ws → quiet (all_links g) (calls_of log) ≡ true
    → (next g log ≡ Some (Redeclares (greatest_bound g log))) × (after_mark (left g.events log) ≡ ([], []))
redeclare_next g log ws f e s q = grind (arith, next_is_mark, mark_at, listed_from, none_behind)

-- else a round is next
pub round_next : (g : Input) (log : Log) (ws : List Event) (e : Event) → OnlyMarksAreDue g log
    → left g.events log ≡ (ws, []) → TakesRounds e → EndsIn e ws → quiet (all_links g) (calls_of log) ≡ false
    → next g log ≡ Some (Round (round (all_links g) (calls_of log)))
round_next g log ws e f l t s q = grind (arith, next_is_mark, mark_at, round_from)

-- in a round its next event is next
pub in_round : (g : Input) (log : Log) (ws : List Event) (e : Event) (rest : List Event) → OnlyMarksAreDue g log → left g.events log ≡ (ws, e ∷ rest)
    → next g log ≡ Some (Mark e)
in_round g log ws e rest f l = next_is_mark g log (Some (Mark e)) f (ap (mark_of g log) l)
