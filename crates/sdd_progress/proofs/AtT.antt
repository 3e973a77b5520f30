-- A transaction module has less left to do after each act.
use Rattle.sdd_progress.proofs.AllEnds.{Act, Attempt, Bases, Bool, Did, Each, Held, HoldCounts, IsFair, IsNew, IsServed, None, Sends, Setting, Some, U, active, and_right, arith, asks, asks_next, by_ask, by_exchange, by_hold, by_start, commit_act, false, filter_short, holds, if◌then◌else◌, in_mapped, length, ltb-true, nat_lt, queue, queue_is, runs, same_Some, same_number, slice_get, subst, time_at, true, ℕ, ◌&&◌, ◌+◌, ◌-◌, ◌<◌, ◌∷◌, ◌≡◌}
use Rattle.sdd_progress.proofs.Lines.{class_work, commit_falls, commit_other, send_falls, send_up, start_falls, start_other}
use Rattle.sdd_progress.proofs.Sums.{by_class, filter_shorter, total, total_less, total_up}
use Rattle.sdd_obligations.specs.site_module.SiteLog.{Log}
use Rattle.sdd_obligations.specs.tm.Due.{IsDue}
use Rattle.sdd_obligations.specs.tm.Views.{view_of}

abbrev pub helds_left : HoldCounts → ℕ
helds_left h = h.holds - h.helds

abbrev pub t_work : Setting → Log → ℕ
t_work s log = total (class_work s log) (runs s) + length (asks log) + helds_left (holds log)

-- the other parts never rise

module _ (s : Setting) (bases : Bases) (log : Log) (fair : Each (IsFair s) log) (new : Each IsNew log) where
  served : (c : ℕ) → IsServed (active s c log) (queue s c log)
  served c = (queue_is s c log fair new).served

  -- an exchange

  over_falls : (n c : ℕ) (a : Attempt) (b : Bool) (act : Act) → slice_get (runs s) n ≡ Some c → active s c log ≡ Some a
      → (if b then Some (commit_act s.catalogue bases c a) else None) ≡ Some act → t_work s (Did act ∷ log) < t_work s log
  over_falls n c a false act at is e = absurd (cc)
  over_falls n c a true act at is e =
      subst (λ x. t_work s (Did x ∷ log) < t_work s log) (same_Some (commit_act s.catalogue bases c a) act e)
      (let own = commit_falls s bases c log a is (served c) in
      let all = total_less (class_work s (Did (commit_act s.catalogue bases c a) ∷ log)) (class_work s log) (runs s) n c at
      (by_class _ _ c own (λ k f. commit_other s bases c k log a f)) own in
      omega (arith, all))

  -- a NULL

  -- a HELD

  held_falls : (b : Bool) (t : ℕ) (act : Act) → (b ≡ true → (holds log).helds < (holds log).holds)
      → (if b then Some (Sends U (Held (time_at t)) (Some (holds log).last)) else None) ≡ Some act → t_work s (Did act ∷ log) < t_work s log
  held_falls b t act more e = grind (arith, t_work, same_Some, total_up, class_work, send_up, filter_short)

  -- a Start

  more_holds : (a b : Bool) (x y : ℕ) → (a && (b && nat_lt x y)) ≡ true → x < y
  more_holds a b x y e = ltb-true x y (and_right b (nat_lt x y) (and_right a (b && nat_lt x y) e))

  pub t_falls : (act : Act) → IsDue s.catalogue bases (view_of s log) act → t_work s (Did act ∷ log) < t_work s log
  t_falls act (by_exchange n k p e) =
      grind (arith, in_mapped, over_falls, t_work, same_Some, send_falls, asks_next, total_less, class_work, send_up, filter_short, holds)
  t_falls act (by_ask n m k q p at e) = grind (arith, in_mapped, t_work, same_Some, total_up, class_work, send_up, same_number, filter_shorter, holds)
  t_falls act (by_hold e) = held_falls _ _ act (λ b. more_holds _ _ _ _ b) e
  t_falls act (by_start n k p e) = grind (arith, in_mapped, t_work, same_Some, class_work, start_falls, total_less, by_class, start_other)
