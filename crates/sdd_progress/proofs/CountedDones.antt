-- The DONEs that were handed to the module for undeclared transactions, against those that it counts for its last Commit.
use Rattle.sdd_progress.proofs.All.{Act, Attempt, Bases, Did, Each, Handed, Input, IsFair, IsFairU, IsPermitted, IsStepU, Msg, Option, Setting, Site, Some, U, [], active, active_sent, ap, arith, bound, bound_below_next, bound_rises, commit_act, dec_le, dm_no, done_fits, dones_of, each_local, eqb-true, from_a_d, hand_ts, hand_was_put, handed, is_done_of, last_served, limit_le, limit_of, local_of, number_of, numbers_to, refl, setting_of, slice_get, subst, tm_no, true, ts_of, u_due, u_way, ℕ, ◌<◌, ◌∙◌, ◌∷◌, ◌≡◌, ◌≤◌}
use Rattle.sdd_obligations.specs.site_module.SiteLog.{Entry, Log}
use Rattle.sdd_obligations.specs.logs.Entries as whole

-- each DONE that is handed is for the last Commit

abbrev pub IsCurrent : Setting → Log → Entry → Type 0
IsCurrent s log (Handed from m) = (x : ℕ) → is_done_of x m ≡ true → (last_served s log).ts ≡ x
IsCurrent s log _ = Unit {0}

pub all_current : (g : Input) (k t : ℕ) → slice_get (numbers_to g.catalogue.tms) k ≡ Some t → (log : whole.Log) → IsPermitted g log
    → Each (IsCurrent (setting_of g U)) (local_of g U log)
all_current g k t i = each_local g U (IsCurrent (setting_of g U)) (grind (arith, handed, hand_was_put, from_a_d, done_fits, slice_get, eqb-true))

-- the counts

pub record IsCountedOff (s : Setting) (log : Log) : Type 0 where
  pub low : (last_served s log).ts ≤ bound s log
  pub attempt_above : (a : Attempt) → active s 0 log ≡ Some a → (last_served s log).ts < a.ts
  pub handed_low : (x : ℕ) → 0 < dones_of x log → x ≤ (last_served s log).ts
  pub counted : dones_of (last_served s log).ts log ≡ (last_served s log).dones

-- an entry that leaves what was served last, and hands no DONE
same_counts : (s : Setting) (e : Entry) (log : Log) → last_served s (e ∷ log) ≡ last_served s log → ((x : ℕ) → dones_of x (e ∷ log) ≡ dones_of x log)
    → ((a : Attempt) → active s 0 (e ∷ log) ≡ Some a → (last_served s log).ts < a.ts) → IsCountedOff s log → IsCountedOff s (e ∷ log)
same_counts s e log served dones above h = grind (arith, bound_rises)

sent_ts : (c : ℕ) (m : Msg) (o : Option Attempt) (a : Attempt) → active_sent c m o ≡ Some a → (b : Attempt) × (o ≡ Some b) × (b.ts ≡ a.ts)
sent_ts c m o a e = grind arith

above_same : (s : Setting) (log : Log) (o : Option Attempt) (a : Attempt) → IsCountedOff s log
    → (b : Attempt) × (active s 0 log ≡ Some b) × (b.ts ≡ a.ts) → (last_served s log).ts < a.ts
above_same s log o a h b = subst (λ x. (last_served s log).ts < x) b.2 (h.attempt_above b.0 b.1)

counted_hand : (s : Setting) (from : Site) (m : Msg) (log : Log) → IsCurrent s log (Handed from m) → IsCountedOff s log → IsCountedOff s (Handed from m ∷ log)
counted_hand s from m log now h = grind (arith, hand_ts, bound_rises, above_same)

counted_commit : (s : Setting) (log : Log) (bases : Bases) (a : Attempt) → number_of s.site ≤ 63
    → Each (IsFair s) log → active s 0 log ≡ Some a → IsCountedOff s log → IsCountedOff s (Did (commit_act s.catalogue bases 0 a) ∷ log)
counted_commit s log bases a small fair e h =
    let act : Act = commit_act s.catalogue bases 0 a in
    let ts : (last_served s (Did act ∷ log)).ts ≡ a.ts = ap (λ o. ts_of o) e in
    let above = h.attempt_above a e in
    let most : a.ts ≤ bound s log = subst (λ o. limit_of (bound s log) o ≤ bound s log) e (limit_le s log 0 small fair) in
    let none : dones_of a.ts log ≡ 0 = elim (dec_le 1 (dones_of a.ts log)) [
      | yes l ↦ (let i = h.handed_low a.ts l in absurd (omega (arith, i, above)))
      | no l ↦ omega (arith, l)
    ] in
    record {
      low = (let r = bound_rises s (Did act) log in omega (arith, ts, most, r));
      attempt_above = λ x p. cc;
      handed_low = λ x l. (let i = h.handed_low x l in omega (arith, i, above, ts));
      counted = ap (λ x. dones_of x log) ts ∙ none;
    }

counted_act : (s : Setting) (log : Log) (act : Act) → number_of s.site ≤ 63 → Each (IsFair s) log
    → IsStepU s log act → IsCountedOff s log → IsCountedOff s (Did act ∷ log)
counted_act s log act small fair step h =
    u_way s log act (λ x. IsCountedOff s (Did x ∷ log)) (λ q i z r. (grind (arith, bound_below_next, same_counts))) (λ bases a i. counted_commit s log bases a small fair i h)
    (grind (arith, same_counts, dm_no, above_same, active, sent_ts))
    (grind (arith, same_counts, tm_no, above_same, active, sent_ts))
    (grind (arith, same_counts, tm_no, above_same, active, sent_ts))
    step

pub counted_off : (s : Setting) (log : Log) → number_of s.site ≤ 63 → Each (IsFair s) log → Each (IsFairU s) log → Each (IsCurrent s) log → IsCountedOff s log
counted_off s [] small fair table now = record { low = omega arith; attempt_above = λ a p. cc; handed_low = λ x l. absurd (omega (arith, l)); counted = refl }
counted_off s (Handed from m ∷ log) small fair table now = counted_hand s from m log now.0 (counted_off s log small fair.1 table.1 now.1)
counted_off s (Did act ∷ log) small fair table now =
    counted_act s log act small fair.1 (u_due s table.0.0.0 log act table.0.0.1) (counted_off s log small fair.1 table.1 now.1)
counted_off s (y ∷ log) small fair table now = grind (arith, same_counts, (counted_off s log small fair.1 table.1 now.1))
