-- At a T no more HELDs are sent than HOLDs were handed, and between a HELD and its RELEASE every class is idle.
use Rattle.sdd_invariants.proofs.All.{Act, AllIdle, Attempt, Bases, Bool, D, Did, Each, Held, HoldCounts, HoldRule, IsFairT, IsStill, List, Log, Msg, None, NoneHold, Option, Question, Queued, QuietSends, Rec, Records, SendRule, Sends, Setting, Site, Some, U, [], active, ap, append-nil, arith, asks_rows, at_map, bound, by_ask, by_exchange, by_hold, commit_act, dm_no, effect, false, first_send, hands, head_of, holds, holds_handed, if◌then◌else◌, in_mapped, inl, inr, is_a_held, is_idle, is_none, is_over, list_all, map, modules_asked, nat_lt, nat_tests, not, null_at, on_hold, one_if, or_else, puts_to, refl, runs, sends_of_act, start_at, start_of, start_read, subst, tally, time_at, to_site, true, write_to, ℕ, ◌&&◌, ◌<◌, ◌==◌, ◌∷◌, ◌≡◌, ◌≤◌}
use Rattle.sdd_invariants.proofs.Turns.{none_hold_join, tally_append}
use Rattle.sdd_invariants.proofs.ReadsPut.{start_puts}
use Rattle.sdd_invariants.proofs.WritesPut.{commit_puts, goes_write}
use Rattle.sdd_invariants.proofs.Bools.{if_way}
use Rattle.sdd_invariants.proofs.Exchanges.{asks_next}
use Rattle.sdd_invariants.proofs.Lists.{all_at}
use Rattle.sdd_invariants.proofs.Sites.{none_to}
use Rattle.sdd_invariants.proofs.Places.{none_handed, none_sent}
use Rattle.sdd_log.specs.tm.Due.{IsDue, by_start}
use Rattle.sdd_log.specs.tm.Views.{class_view, view_of}

quiet_mapped : (f : ℕ → Msg) (dms : List ℕ) → to_site U (map (λ d. (D (dm_no d), f d)) dms) ≡ []
quiet_mapped f [] = refl
quiet_mapped f (d ∷ dms) = quiet_mapped f dms

quiet_start : (s : Setting) (c : ℕ) (log : Log) (q : Queued) → QuietSends (sends_of_act (start_at s c log q))
quiet_start s c log q = (
  (λ b. elim (start_puts s c b log q) [
    | inl e ↦ rw e tt
    | inr p ↦ (rw p.1 (refl, refl, tt))
  ]),
  quiet_mapped (start_read s c log q) (modules_asked s c q.text),
)

quiet_commit : (s : Setting) (c : ℕ) (bases : Bases) (a : Attempt) → QuietSends (sends_of_act (commit_act s.catalogue bases c a))
quiet_commit s c bases a = (
  (λ b. elim (commit_puts s c bases b a) [ inl e ↦ rw e tt | inr p ↦ rw p.1 (refl, refl, tt) ]),
  none_to (write_to s.catalogue c a (effect s.catalogue (bases a.ts) a.text).changes) U 1 s.catalogue.dms
      (goes_write s.catalogue c a (effect s.catalogue (bases a.ts) a.text).changes) (λ d l. refl),
)

asks_rule : (s : Setting) (log : Log) (to : Site) (ts c : ℕ) (m : Msg) → asks_rows ts c m ≡ true → SendRule s log to m
asks_rule s log to ts c m e = grind arith

rule_is : (s : Setting) (log : Log) (x a : Act) → HoldRule s log x → Some x ≡ Some a → HoldRule s log a
rule_is s log x a h e = let p : x ≡ a = cc in subst (HoldRule s log) p h

over_rule : (s : Setting) (log : Log) (bases : Bases) (c : ℕ) (a : Attempt) (b : Bool) (act : Act)
    → (if b then Some (commit_act s.catalogue bases c a) else None) ≡ Some act → HoldRule s log act
over_rule s log bases c a true act e = rule_is s log (commit_act s.catalogue bases c a) act (quiet_commit s c bases a) e
over_rule s log bases c a false act e = cc

send_rule : (s : Setting) (log : Log) (bases : Bases) (c : ℕ) (a : Attempt) (ms : List (ℕ × Msg)) (act : Act)
    → active s c log ≡ Some a → a.exchange.to_send ≡ ms
    → or_else (first_send ms) (if is_over a.exchange.phase then Some (commit_act s.catalogue bases c a) else None) ≡ Some act → HoldRule s log act
send_rule s log bases c a [] act i p e = over_rule s log bases c a (is_over a.exchange.phase) act e
send_rule s log bases c a (m ∷ rest) act i p e =
    rule_is s log (Sends (D (dm_no m.0)) m.1 None) act (asks_rule s log (D (dm_no m.0)) a.ts c m.1 (asks_next s c log a m i (ap head_of p))) e

null_rule : (s : Setting) (log : Log) (q : Question) (b : Bool) (o : Option ℕ) (act : Act) → (if b then null_at q o else None) ≡ Some act → HoldRule s log act
null_rule s log q b o act e = grind (arith, rule_is)

pub none_of : (o : Option Attempt) → is_none o ≡ true → o ≡ None
none_of o e = grind arith

pub lt_is : (a b : ℕ) → nat_lt a b ≡ true → a < b
lt_is a b e = grind (arith, nat_tests)

pub not_lt_is : (a b : ℕ) → nat_lt a b ≡ false → b ≤ a
not_lt_is a b e = grind (arith, nat_tests)

held_rule : (s : Setting) (log : Log) (a b c : Bool) (hand : Option ℕ) (act : Act) → (b ≡ true → AllIdle s log)
    → (c ≡ true → (holds log).helds < (holds log).holds)
    → (if a && (b && c) then Some (Sends U (Held (time_at (bound s log))) hand) else None) ≡ Some act → HoldRule s log act
held_rule s log a b c hand act f g e = grind (arith, rule_is, bound)

start_rule : (s : Setting) (log : Log) (a b : Bool) (c : ℕ) (o : Option Queued) (act : Act) → (a ≡ false → (holds log).holds ≤ (holds log).releases)
    → (if not a && b then start_of s.catalogue (view_of s log) c o else None) ≡ Some act → HoldRule s log act
start_rule s log false true c (Some q) act f e = rule_is s log (start_at s c log q) act (f refl, quiet_start s c log q) e
start_rule s log _ _ c _ act f e = cc

pub hold_rule : (s : Setting) (bases : Bases) (log : Log) (act : Act) → IsDue s.catalogue bases (view_of s log) act → HoldRule s log act
hold_rule s bases log act (by_exchange k c p e) = grind (arith, in_mapped, send_rule)
hold_rule s bases log act (by_ask k n c q p r e) = null_rule s log q (q.class == c.class) _ act e
hold_rule s bases log act (by_hold e) =
    held_rule s log (on_hold (view_of s log)) (list_all is_idle (view_of s log).classes) (nat_lt (holds log).helds (holds log).holds) _ act
    (λ i k c p. none_of (active s c log) (all_at is_idle (view_of s log).classes k (class_view s log c) i (at_map (class_view s log) (runs s) k c p)))
    (λ l. lt_is _ _ l) e
hold_rule s bases log act (by_start k c p e) = start_rule s log (on_hold (view_of s log)) (is_idle c) c.class (head_of c.queue) act (λ l. not_lt_is _ _ l) e

pub hold_same : (n : ℕ) (m : Msg) (h : HoldCounts)
    → (h.releases ≤ (holds_handed n m h).releases) × (h.holds ≤ (holds_handed n m h).holds) × ((holds_handed n m h).helds ≡ h.helds)
hold_same n m h = grind arith

pub still : (s : Setting) (log : Log) → Each (IsFairT s) log → IsStill s log
still s [] h = record { owed = omega arith; idle = λ p. absurd (omega arith) }
still s (e ∷ log) h = grind (arith, hold_same, hands, holds, none_handed, active, none_sent, if_way, hold_rule, (still s log h.1))

pub t_none : (s : Setting) (b : Site) (log : Log) → Each (IsFairT s) log → NoneHold (puts_to b log)
t_none s b [] h = tt
t_none s b (Did act ∷ log) h = grind (arith, none_hold_join, if_way, hold_rule, (t_none s b log h.1))
t_none s b (_ ∷ log) h = t_none s b log h.1

pub hand_helds : (n : ℕ) (m : Msg) (h : HoldCounts) → (holds_handed n m h).helds ≡ h.helds
hand_helds n m h = (hold_same n m h).2

rule_quiet : (s : Setting) (log : Log) (k : ℕ) (r : Rec) (sends : List (Site × Msg)) → HoldRule s log (Records k r sends) → QuietSends sends
rule_quiet s log k r sends h = grind arith

act_helds : (s : Setting) (log : Log) (act : Act) → HoldRule s log act → (holds log).helds ≡ tally is_a_held (puts_to U log)
    → (holds (Did act ∷ log)).helds ≡ tally is_a_held (puts_to U (Did act ∷ log))
act_helds s log act h e = grind (arith, one_if, holds, tally_append, tally, is_a_held, puts_to, append-nil, rule_quiet)

pub t_helds : (s : Setting) (log : Log) → Each (IsFairT s) log → (holds log).helds ≡ tally is_a_held (puts_to U log)
t_helds s [] h = refl
t_helds s (e ∷ log) h = grind (arith, hand_helds, hands, holds, act_helds, hold_rule, (t_helds s log h.1))
