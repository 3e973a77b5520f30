-- At a T: the HELD that was sent as number n + 1 and the log before it, its time, and that a Start comes where it isn't on hold.
use Rattle.sdd_invariants.proofs.All.{Act, AllIdle, Bases, Did, Entry, Handed, Held, IsHeldAt, IsStep, Log, Option, Queued, Sends, Setting, Site, Ts, [], ap, arith, bound, hands, holds, refl, start_at, suc, sym, ℕ, ◌++◌, ◌∙◌, ◌∷◌, ◌≡◌, ◌≤◌}
use Rattle.sdd_invariants.proofs.Holding.{hand_helds, hold_rule}
use Rattle.sdd_invariants.proofs.Active.{step_way}
use Rattle.sdd_log.specs.tm.Due.{IsDue}
use Rattle.sdd_log.specs.tm.Views.{view_of}

held_more : (e : Entry) (log : Log) (n : ℕ) → IsHeldAt log n → IsHeldAt (e ∷ log) n
held_more e log n h = record { later = e ∷ h.later; before = h.before; to = h.to; time = h.time; hand = h.hand; is = ap (λ l. e ∷ l) h.is; count = h.count }

held_by : (act : Act) (log : Log) (n : ℕ) → ((holds log).helds ≡ suc n → IsHeldAt log n) → (holds (Did act ∷ log)).helds ≡ suc n → IsHeldAt (Did act ∷ log) n
held_by (Sends to (Held t) hand) log n f e = record { later = []; before = log; to = to; time = t; hand = hand; is = refl; count = omega (arith, e) }
held_by act log n f e = held_more (Did act) log n (f e)

pub held_rose : (log : Log) (n : ℕ) → (holds log).helds ≡ suc n → IsHeldAt log n
held_rose [] n e = cc
held_rose (Handed from m ∷ log) n e = held_more (Handed from m) log n (held_rose log n (sym (hand_helds (suc (hands log)) m (holds log)) ∙ e))
held_rose (Did act ∷ log) n e = held_by act log n (held_rose log n) e
held_rose (x ∷ log) n e = held_more x log n (held_rose log n e)

pub helds_grow : (later log : Log) → (holds log).helds ≤ (holds (later ++ log)).helds
helds_grow [] log = omega arith
helds_grow (e ∷ later) log = grind (arith, hand_helds, hands, holds, (helds_grow later log))

-- a HELD promises the bound
abbrev HeldSays : Setting → Log → Act → Type 0
HeldSays s log (Sends to (Held t) hand) = t.0 ≡ bound s log
HeldSays s log act = Unit {0}

pub held_time : (s : Setting) (log : Log) (to : Site) (t : Ts) (hand : Option ℕ) → IsStep s log (Sends to (Held t) hand) → t.0 ≡ bound s log
held_time s log to t hand i = grind (arith, step_way, HeldSays)

pub start_off : (s : Setting) (bases : Bases) (log : Log) (c : ℕ) (q : Queued)
    → IsDue s.catalogue bases (view_of s log) (start_at s c log q) → (holds log).holds ≤ (holds log).releases
start_off s bases log c q d = (hold_rule s bases log (start_at s c log q) d).0

pub held_idle : (s : Setting) (bases : Bases) (log : Log) (to : Site) (t : Ts) (hand : Option ℕ)
    → IsDue s.catalogue bases (view_of s log) (Sends to (Held t) hand) → AllIdle s log
held_idle s bases log to t hand d = (hold_rule s bases log (Sends to (Held t) hand) d).1
