-- Where the events submit each transaction at most once, the marks of a lawful log submit no number twice, so it is
-- permitted.
use Rattle.sdd_log.proofs.All.{AreSubmittedOnce, Bool, Call, Deliver, Down, Event, Input, IsLawful, IsPermitted, List, Log, Lose, Mark, Msg, None, Redeclare, Redeclares, Repeat, Resend, Round, Settle, Site, Some, Submit, Tick, Up, [], after_mark, ap, arith, cond, cons_option, eq-eqb, false, filter_map, flat_map, from_event, in_flight, is_new_mark, left, link, mark_from, mark_of, not, one_if, refl, replicate, resends_now, round, submits_by, submits_in, suc, true, was_marked, zero, ℕ, ◌++◌, ◌+◌, ◌==◌, ◌||◌, ◌∷◌, ◌≡◌, ◌≤◌}
use Rattle.sdd_log.proofs.NextMark.{mark_is_next}
use Rattle.sdd_log.proofs.Permitted.{HasNewMarks, permitted_if_new}

-- how often transaction n is submitted by marks
abbrev pub marked : ℕ → Log → ℕ
marked n [] = 0
marked n (Mark e ∷ log) = submits_by n e + marked n log
marked n (_ ∷ log) = marked n log

-- a round submits nothing
none_in : (n : ℕ) (xs ys : List Event) → submits_in n xs ≡ 0 → submits_in n ys ≡ 0 → submits_in n (xs ++ ys) ≡ 0
none_in n [] ys h k = k
none_in n (x ∷ xs) ys h k = let i = none_in n xs ys (omega arith) k in omega arith

none_replicate : (n k : ℕ) (e : Event) → submits_by n e ≡ 0 → submits_in n (replicate k e) ≡ 0
none_replicate n zero e h = refl
none_replicate n (suc k) e h = let i = none_replicate n k e h in omega arith

none_resent : (n : ℕ) (ls : List (Site × Site)) (calls : List (Call Msg))
    → submits_in n (filter_map (λ l. cond (resends_now (link l.0 l.1 calls)) (Some (Resend l.0 l.1)) None) ls) ≡ 0
none_resent n [] calls = refl
none_resent n (l ∷ ls) calls = grind (arith, cons_option, filter_map, (none_resent n ls calls))

none_delivered : (n : ℕ) (ls : List (Site × Site)) (calls : List (Call Msg))
    → submits_in n (flat_map (λ l. replicate (in_flight (link l.0 l.1 calls)) (Deliver l.0 l.1 1)) ls) ≡ 0
none_delivered n [] calls = refl
none_delivered n (l ∷ ls) calls = none_in n _ _ (none_replicate n (in_flight (link l.0 l.1 calls)) (Deliver l.0 l.1 1) refl) (none_delivered n ls calls)

none_round : (n : ℕ) (ls : List (Site × Site)) (calls : List (Call Msg)) → submits_in n (round ls calls) ≡ 0
none_round n ls calls = none_in n _ _ (none_resent n ls calls) (none_delivered n ls calls)

-- what is left and what was marked are the events
pub record IsLeft (n : ℕ) (events : List Event) (s : List Event × List Event) (m : ℕ) : Type 0 where
  pub all : m + submits_in n s.0 ≡ submits_in n events
  pub round_none : submits_in n s.1 ≡ 0

from_event_same : (n : ℕ) (ws : List Event) → submits_in n (from_event ws) ≡ submits_in n ws
from_event_same n (Settle ∷ ws) = let i = from_event_same n ws in omega arith
from_event_same n _ = refl

-- the event that is marked is the first of those left
pub marks_first : (g : Input) (log : Log) (q : Bool) (r ws : List Event) (e : Event) → mark_from g log q r ws ≡ Some (Mark e)
    → (rest : List Event) × (from_event ws ≡ e ∷ rest)
marks_first g log true r (Settle ∷ ws) e h = marks_first g log true r ws e h
marks_first g log q r (Submit k ∷ ws) e h = let p : Submit k ≡ e = cc in (ws, ap (λ x. x ∷ ws) p)
marks_first g log q r (Deliver a b k ∷ ws) e h = let p : Deliver a b k ≡ e = cc in (ws, ap (λ x. x ∷ ws) p)
marks_first g log q r (Lose a b k ∷ ws) e h = let p : Lose a b k ≡ e = cc in (ws, ap (λ x. x ∷ ws) p)
marks_first g log q r (Repeat a b k ∷ ws) e h = let p : Repeat a b k ≡ e = cc in (ws, ap (λ x. x ∷ ws) p)
marks_first g log q r (Resend a b ∷ ws) e h = let p : Resend a b ≡ e = cc in (ws, ap (λ x. x ∷ ws) p)
marks_first g log q r (Tick t k ∷ ws) e h = let p : Tick t k ≡ e = cc in (ws, ap (λ x. x ∷ ws) p)
marks_first g log q r (Down d ∷ ws) e h = let p : Down d ≡ e = cc in (ws, ap (λ x. x ∷ ws) p)
marks_first g log q r (Up d ∷ ws) e h = let p : Up d ≡ e = cc in (ws, ap (λ x. x ∷ ws) p)
marks_first g log _ r _ e h = cc

-- and so is the `redeclare` that is carried out
pub redeclares_first : (g : Input) (log : Log) (q : Bool) (r ws : List Event) (t : ℕ) → mark_from g log q r ws ≡ Some (Redeclares t)
    → (rest : List Event) × (from_event ws ≡ Redeclare ∷ rest)
redeclares_first g log true r (Settle ∷ ws) t h = redeclares_first g log true r ws t h
redeclares_first g log true r (Redeclare ∷ ws) t h = (ws, refl)
redeclares_first g log q r (Up d ∷ ws) t h = cc
redeclares_first g log _ r _ t h = cc

pub marks_round : (g : Input) (log : Log) (q : Bool) (r ws es : List Event) → mark_from g log q r ws ≡ Some (Round es) → r ≡ es
marks_round g log true r (Settle ∷ ws) es h = marks_round g log true r ws es h
marks_round g log q r (Up d ∷ ws) es h = cc
marks_round g log _ r _ es h = cc

mark_step : (g : Input) (log : Log) (n m : ℕ) (e : Event) (s : List Event × List Event) → mark_of g log s ≡ Some (Mark e) → IsLeft n g.events s m
    → IsLeft n g.events (after_mark s) (submits_by n e + m)
mark_step g log n m e s h i = grind (arith, marks_first, from_event_same)

redeclare_step : (g : Input) (log : Log) (n m t : ℕ) (s : List Event × List Event) → mark_of g log s ≡ Some (Redeclares t) → IsLeft n g.events s m
    → IsLeft n g.events (after_mark s) m
redeclare_step g log n m t s h i = grind (arith, redeclares_first, from_event_same)

round_step : (g : Input) (log : Log) (n m : ℕ) (es : List Event) (s : List Event × List Event) → mark_of g log s ≡ Some (Round es) → IsLeft n g.events s m
    → IsLeft n g.events (s.0, es) m
round_step g log n m es s h i = grind (arith, marks_round, none_round)

pub left_is : (g : Input) (n : ℕ) (log : Log) → IsLawful g log → IsLeft n g.events (left g.events log) (marked n log)
left_is g n [] h = record { all = omega arith; round_none = refl }
left_is g n (Mark e ∷ log) h = mark_step g log n (marked n log) e (left g.events log) (mark_is_next g log (Mark e) refl h.0) (left_is g n log h.1)
left_is g n (Round es ∷ log) h = round_step g log n (marked n log) es (left g.events log) (mark_is_next g log (Round es) refl h.0) (left_is g n log h.1)
left_is g n (Redeclares t ∷ log) h =
    redeclare_step g log n (marked n log) t (left g.events log) (mark_is_next g log (Redeclares t) refl h.0) (left_is g n log h.1)
left_is g n (_ ∷ log) h = left_is g n log h.1

counts_mark : (n : ℕ) (log : Log) → was_marked n log ≡ true → 1 ≤ marked n log
counts_mark n [] h = cc
counts_mark n (Mark (Submit k) ∷ log) h =
    elim (k.0 == n) as (λ b. (b || was_marked n log) ≡ true → 1 ≤ one_if b + marked n log) [
      | true ↦ λ p. omega arith
      | false ↦ λ p. let i = counts_mark n log p in omega arith
    ] h
counts_mark n (Mark _ ∷ log) h = let i = counts_mark n log h in omega arith
counts_mark n (_ ∷ log) h = counts_mark n log h

new_event : (g : Input) (log : Log) (e : Event) → AreSubmittedOnce g.events → IsLawful g (Mark e ∷ log) → is_new_mark e log ≡ true
new_event g log (Submit k) once h =
    let i = left_is g k.0 (Mark (Submit k) ∷ log) h in
    let own : submits_by k.0 (Submit k) ≡ 1 = ap one_if (eq-eqb k.0 k.0 refl) in
    let le : submits_in k.0 g.events ≤ 1 = once k.0 in
    elim (was_marked k.0 log) as (λ b. was_marked k.0 log ≡ b → not b ≡ true) [
      | true ↦ λ p. (let l : 1 ≤ marked k.0 log = counts_mark k.0 log p in absurd (omega (arith, i.all)))
      | false ↦ λ p. refl
    ] refl
new_event g log _ once h = refl

pub new_marks : (g : Input) (log : Log) → AreSubmittedOnce g.events → IsLawful g log → HasNewMarks log
new_marks g [] once h = tt
new_marks g (Mark e ∷ log) once h = (new_event g log e once h, new_marks g log once h.1)
new_marks g (_ ∷ log) once h = (tt, new_marks g log once h.1)

-- every lawful log is permitted
pub lawful_permitted : (g : Input) (log : Log) → AreSubmittedOnce g.events → IsLawful g log → IsPermitted g log
lawful_permitted g log once h = permitted_if_new g log h (new_marks g log once h)
