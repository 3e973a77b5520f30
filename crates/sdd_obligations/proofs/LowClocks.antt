-- The clocks of a run whose schedule has few events, and that has few attempts: ticks come from the schedule alone, and each
-- Start is an attempt.
use Rattle.sdd_obligations.proofs.All.{AllFewTicks, Bool, Call, Deliver, Does, Down, Event, History, Input, IsLawful, IsSmall, List, Log, Lose, MAX_EVENTS, MAX_TICKS, Mark, Msg, None, Rec, Redeclares, Repeat, Resend, Round, Settle, Site, Some, Start, Submit, Tick, Up, [], after_mark, all_links, ap, arith, attempt_of, attempts, calls_of, clock, cond, cons_option, filter_map, flat_map, from_event, height, history, in_flight, left, length, link, local_of, mark_from, mark_is_next, mark_of, marks, placed, quiet, refl, replicate, resends_now, starts_by, subst, suc, suc-mul, tail_of, ticks_of, true, zero, ℕ, ◌*◌, ◌++◌, ◌+◌, ◌<◌, ◌^◌, ◌∙◌, ◌∷◌, ◌≡◌, ◌≤◌}
use Rattle.sdd_obligations.proofs.Early.{is_under}
use Rattle.sdd_needs.proofs.OfNext.{of_next}

-- the ticks of events

abbrev all_ticks : List Event → ℕ
all_ticks [] = 0
all_ticks (e ∷ es) = ticks_of e + all_ticks es

ticks_few : (es : List Event) → AllFewTicks es → all_ticks es ≤ length es * MAX_TICKS
ticks_few [] f = omega arith
ticks_few (e ∷ es) f = (let e = suc-mul (length es) MAX_TICKS in omega (arith, f.0, (ticks_few es f.1), e))

-- rounds have none

ticks_join : (xs ys : List Event) → all_ticks (xs ++ ys) ≡ all_ticks xs + all_ticks ys
ticks_join [] ys = omega arith
ticks_join (x ∷ xs) ys = let i = ticks_join xs ys in omega (arith, i)

none_join : (xs ys : List Event) → all_ticks xs ≡ 0 → all_ticks ys ≡ 0 → all_ticks (xs ++ ys) ≡ 0
none_join xs ys a b = let j = ticks_join xs ys in omega (arith, j, a, b)

resend_none : (b : Bool) (x y : Site) (es : List Event) → all_ticks es ≡ 0 → all_ticks (cons_option (cond b (Some (Resend x y)) None) es) ≡ 0
resend_none b x y es e = grind arith

resends_none : (calls : List (Call Msg)) (ls : List (Site × Site))
    → all_ticks (filter_map (λ l. cond (resends_now (link l.0 l.1 calls)) (Some (Resend l.0 l.1)) None) ls) ≡ 0
resends_none calls [] = refl
resends_none calls (l ∷ ls) = resend_none (resends_now (link l.0 l.1 calls)) l.0 l.1 _ (resends_none calls ls)

replicate_none : (n : ℕ) (x y : Site) → all_ticks (replicate n (Deliver x y 1)) ≡ 0
replicate_none zero x y = refl
replicate_none (suc n) x y = let i = replicate_none n x y in omega (arith, i)

delivers_none : (calls : List (Call Msg)) (ls : List (Site × Site))
    → all_ticks (flat_map (λ l. replicate (in_flight (link l.0 l.1 calls)) (Deliver l.0 l.1 1)) ls) ≡ 0
delivers_none calls [] = refl
delivers_none calls (l ∷ ls) = none_join _ _ (replicate_none (in_flight (link l.0 l.1 calls)) l.0 l.1) (delivers_none calls ls)

-- what a mark takes from the events that are left

drop_ticks : (ws : List Event) → all_ticks (tail_of (from_event ws)) ≤ all_ticks ws
drop_ticks (Settle ∷ ws) = let i = drop_ticks ws in omega (arith, i)
drop_ticks _ = omega arith

same_mark : (x e : Event) (n : ℕ) → Some (Mark x) ≡ Some (Mark e) → ticks_of e + n ≤ ticks_of x + n
same_mark x e n p = let s : x ≡ e = cc in subst (λ (y : Event). ticks_of y + n ≤ ticks_of x + n) s (omega arith)

mark_ticks : (g : Input) (log : Log) (q : Bool) (r ws : List Event) (e : Event) → mark_from g log q r ws ≡ Some (Mark e)
    → ticks_of e + all_ticks (tail_of (from_event ws)) ≤ all_ticks ws
mark_ticks g log true r (Settle ∷ ws) e p = let i = mark_ticks g log true r ws e p in omega (arith, i)
mark_ticks g log q r (Submit n ∷ ws) e p = same_mark (Submit n) e (all_ticks ws) p
mark_ticks g log q r (Deliver a b k ∷ ws) e p = same_mark (Deliver a b k) e (all_ticks ws) p
mark_ticks g log q r (Lose a b k ∷ ws) e p = same_mark (Lose a b k) e (all_ticks ws) p
mark_ticks g log q r (Repeat a b k ∷ ws) e p = same_mark (Repeat a b k) e (all_ticks ws) p
mark_ticks g log q r (Resend a b ∷ ws) e p = same_mark (Resend a b) e (all_ticks ws) p
mark_ticks g log q r (Tick t n ∷ ws) e p = same_mark (Tick t n) e (all_ticks ws) p
mark_ticks g log q r (Down d ∷ ws) e p = same_mark (Down d) e (all_ticks ws) p
mark_ticks g log q r (Up d ∷ ws) e p = same_mark (Up d) e (all_ticks ws) p
mark_ticks g log _ r _ e p = cc

-- n ticks are done, those of the events that are left come besides, and those of a round are none
abbrev AreLeft : ℕ → List Event × List Event → ℕ → Type 0
AreLeft n s most = (n + all_ticks s.0 ≤ most) × (all_ticks s.1 ≡ 0)

marked : (g : Input) (log : Log) (s : List Event × List Event) (e : Event) (n most : ℕ) → mark_of g log s ≡ Some (Mark e) → AreLeft n s most
    → AreLeft (ticks_of e + n) (after_mark s) most
marked g log s e n most p h = grind (arith, mark_ticks, quiet, same_mark)

redeclared : (s : List Event × List Event) (n most : ℕ) → AreLeft n s most → AreLeft n (after_mark s) most
redeclared s n most h = grind (arith, drop_ticks)

abbrev log_ticks : Log → ℕ
log_ticks [] = 0
log_ticks (Mark e ∷ log) = ticks_of e + log_ticks log
log_ticks (_ ∷ log) = log_ticks log

ticks_left : (g : Input) (log : Log) → AllFewTicks g.events → IsLawful g log → AreLeft (log_ticks log) (left g.events log) (all_ticks g.events)
ticks_left g [] f h = (omega arith, refl)
ticks_left g (Mark e ∷ log) f h =
    marked g log (left g.events log) e (log_ticks log) (all_ticks g.events) (mark_is_next g log (Mark e) refl h.0) (ticks_left g log f h.1)
ticks_left g (Redeclares t ∷ log) f h = redeclared (left g.events log) (log_ticks log) (all_ticks g.events) (ticks_left g log f h.1)
ticks_left g (Round es ∷ log) f h =
    ((ticks_left g log f h.1).0, ap all_ticks (of_next g log (Round es) f h.1 h.0) ∙ (none_join _ _ (resends_none (calls_of log) (all_links g)) (delivers_none (calls_of log) (all_links g))))
ticks_left g (_ ∷ log) f h = ticks_left g log f h.1

-- each Start of the log is an attempt of its history

abbrev log_starts : Log → ℕ
log_starts [] = 0
log_starts (Does at act ∷ log) = starts_by act + log_starts log
log_starts (_ ∷ log) = log_starts log

height_is : (log : Log) → height log ≡ log_ticks log + log_starts log
height_is [] = refl
height_is (e ∷ log) = grind (arith, (height_is log))

abbrev start_of : Rec → ℕ
start_of (Start txn attempt class ts p2 uses) = 1
start_of _ = 0

abbrev starts_in : History → ℕ
starts_in [] = 0
starts_in (e ∷ h) = start_of e.1 + starts_in h

attempts_count : (k : ℕ) (h : History) → length (filter_map attempt_of (placed k h)) ≡ starts_in h
attempts_count k [] = refl
attempts_count k (e ∷ h) = (grind arith) ∙ ap (λ n. start_of e.1 + n) (attempts_count (suc k) h)

starts_join : (h more : History) → starts_in (h ++ more) ≡ starts_in h + starts_in more
starts_join [] more = omega arith
starts_join (e ∷ h) more = let i = starts_join h more in omega (arith, i)

starts_are : (log : Log) → starts_in (history log) ≡ log_starts log
starts_are [] = refl
starts_are (e ∷ log) = grind (arith, starts_in, log_starts, starts_join, history, marks, (starts_are log))

-- so both are few

pub clock_low : (g : Input) (log : Log) (at : Site) → IsSmall g → IsLawful g log → length g.events ≤ MAX_EVENTS
    → length (attempts (history log)) ≤ 2 ^ 22 → (clock at (local_of g at log)).ticks < 2 ^ 39
clock_low g log at s l events few = grind (arith, ticks_few, attempts_count, starts_are, is_under, height_is, ticks_left)
