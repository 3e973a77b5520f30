-- The module for undeclared transactions has less left to do after each act.
use Rattle.sdd_progress.proofs.AllEnds.{Act, Attempt, Bases, Bool, Did, Each, Hold, IsFair, IsNew, IsServed, List, None, Option, Queued, Release, Sends, Setting, Some, T, TmCounts, Ts, active, arith, asks_next, attempt_due, by_release, commit_act, committed_short, counts, counts_tm, eq-eqb, eqb-true, false, head_of, idle_of, if◌then◌else◌, in_mapped, last_served, length, ltb-true, nat_lt, ne_eqb, numbers_to, queue, queue_is, refl, same_Some, same_or_not, slice_get, subst, suc, tm_no, true, ℕ, ◌&&◌, ◌+◌, ◌-◌, ◌<◌, ◌==◌, ◌∷◌, ◌≡◌, ◌≤◌}
use Rattle.sdd_progress.proofs.Lines.{class_work, commit_falls, send_falls, send_up, start_falls, tried_long}
use Rattle.sdd_progress.proofs.Sums.{total, total_less, total_up}
use Rattle.sdd_obligations.specs.site_module.SiteLog.{Log}
use Rattle.sdd_obligations.specs.umod.Due.{IsDue, by_exchange, by_hold, by_start, start_of}
use Rattle.sdd_obligations.specs.umod.Views.{view_of}

-- of one T, where there are so many transactions, served or to be served: two for each RELEASE that it may get, and one
-- where the next HOLD may go out

abbrev pub one_where : Bool → ℕ
one_where true = 1
one_where false = 0

abbrev pub signs_left : ℕ → TmCounts → ℕ
signs_left txns k = (txns - k.releases) + (txns - k.releases) + one_where (k.releases == k.holds)

abbrev pub txns_in : Setting → Log → ℕ
txns_in s log = (last_served s log).commits + length (queue s 0 log)

abbrev pub all_signs : Setting → Log → ℕ
all_signs s log = total (λ t. signs_left (txns_in s log) (counts t log)) (numbers_to s.catalogue.tms)

abbrev pub u_work : Setting → Log → ℕ
u_work s log = class_work s log 0 + all_signs s log

one_le : (b : Bool) → one_where b ≤ 1
one_le b = grind arith

released_less : (n r h : ℕ) → r < n → (n - suc r) + (n - suc r) + one_where (suc r == h) < (n - r) + (n - r) + one_where (r == h)
released_less n r h l = let o = one_le (suc r == h) in omega (arith, l, o)

held_less : (n r h : ℕ) → (r == h) ≡ true → (n - r) + (n - r) + one_where (r == suc h) < (n - r) + (n - r) + one_where (r == h)
held_less n r h e = grind (arith, eqb-true, ne_eqb)

-- the sign that goes to one T

module _ (log : Log) (n t : ℕ) (g : TmCounts → TmCounts) (less : signs_left n (g (counts t log)) < signs_left n (counts t log)) where
  abbrev counts_then : ℕ → TmCounts
  counts_then u = if t == (counts u log).tm then g (counts u log) else counts u log

  signs_fewer : (u : ℕ) → signs_left n (counts_then u) ≤ signs_left n (counts u log)
  signs_fewer u = grind (arith, same_or_not, counts_tm, signs_left, eq-eqb)

  pub one_signs_fewer : (tms : List ℕ) (k : ℕ) → slice_get tms k ≡ Some t
      → total (λ u. signs_left n (counts_then u)) tms < total (λ u. signs_left n (counts u log)) tms
  one_signs_fewer tms k at =
      total_less (λ u. signs_left n (counts_then u)) (λ u. signs_left n (counts u log)) tms k t at signs_fewer (grind (arith, eq-eqb, counts_tm))

module _ (s : Setting) (bases : Bases) (log : Log) (fair : Each (IsFair s) log) (new : Each IsNew log) where
  served : IsServed (active s 0 log) (queue s 0 log)
  served = (queue_is s 0 log fair new).served

  -- the line of class 0

  over_falls : (a : Attempt) (b : Bool) (act : Act) → active s 0 log ≡ Some a
      → (if b then Some (commit_act s.catalogue bases 0 a) else None) ≡ Some act → u_work s (Did act ∷ log) < u_work s log
  over_falls a false act is e = absurd (cc)
  over_falls a true act is e =
      subst (λ x. u_work s (Did x ∷ log) < u_work s log) (same_Some (commit_act s.catalogue bases 0 a) act e)
      (let own = commit_falls s bases 0 log a is served in
      let short = committed_short a (queue s 0 log) (subst (λ o. IsServed o (queue s 0 log)) is served) in
      let fewer : txns_in s (Did (commit_act s.catalogue bases 0 a) ∷ log) ≤ txns_in s log = omega (arith, short) in
      let up = total_up (λ t. signs_left (txns_in s (Did (commit_act s.catalogue bases 0 a) ∷ log))
      (counts t log)) (λ t. signs_left (txns_in s log) (counts t log)) (numbers_to s.catalogue.tms) (λ t. (omega arith)) in
      omega (arith, own, up))

  exchange_falls : (o : Option Attempt) (act : Act) → active s 0 log ≡ o → attempt_due s.catalogue bases 0 o ≡ Some act
      → u_work s (Did act ∷ log) < u_work s log
  exchange_falls o act is e = grind (arith, over_falls, u_work, same_Some, send_falls, asks_next)

  start_falls_of : (o : Option Queued) (act : Act) → head_of (queue s 0 log) ≡ o → start_of s.catalogue (view_of s log) o ≡ Some act
      → u_work s (Did act ∷ log) < u_work s log
  start_falls_of o act head e = grind (arith, u_work, same_Some, start_falls, idle_of, served, txns_in, tried_long, total_up, signs_left)

  -- the signs to Ts

  released_falls : (k t : ℕ) (b c : Bool) (ts : Ts) (act : Act) → slice_get (numbers_to s.catalogue.tms) k ≡ Some t
      → (b ≡ true → (counts t log).releases < (last_served s log).commits)
      → (if b && c then Some (Sends (T (tm_no t)) (Release ts) None) else None) ≡ Some act → u_work s (Did act ∷ log) < u_work s log
  released_falls k t true true ts act at f e =
      subst (λ x. u_work s (Did x ∷ log) < u_work s log) (same_Some (Sends (T (tm_no t)) (Release ts) None) act e)
      (let own = send_up s 0 log (T (tm_no t)) (Release ts) None in
      let less = released_less (txns_in s log) (counts t log).releases (counts t log).holds (omega (arith, (f refl))) in
      let all = one_signs_fewer log (txns_in s log) t (λ k. record k { releases = suc k.releases }) less (numbers_to s.catalogue.tms) k at in
      omega (arith, own, all))
  released_falls k t _ _ ts act at f e = absurd (cc)

  held_falls : (k t : ℕ) (b : Bool) (act : Act) → slice_get (numbers_to s.catalogue.tms) k ≡ Some t → ((counts t log).releases == (counts t log).holds) ≡ b
      → (if b then Some (Sends (T (tm_no t)) Hold None) else None) ≡ Some act → u_work s (Did act ∷ log) < u_work s log
  held_falls k t false act at f e = absurd (cc)
  held_falls k t true act at f e =
      subst (λ x. u_work s (Did x ∷ log) < u_work s log) (same_Some (Sends (T (tm_no t)) Hold None) act e)
      (let own = send_up s 0 log (T (tm_no t)) Hold None in
      let less = held_less (txns_in s log) (counts t log).releases (counts t log).holds f in
      omega (arith, own, (one_signs_fewer log (txns_in s log) t (λ k. record k { holds = suc k.holds }) less (numbers_to s.catalogue.tms) k at)))

  pub u_falls : (act : Act) → IsDue s.catalogue bases (view_of s log) act → u_work s (Did act ∷ log) < u_work s log
  u_falls act (by_exchange e) = exchange_falls (active s 0 log) act refl e
  u_falls act (by_release j k p e) = grind (arith, in_mapped, released_falls, nat_lt, ltb-true, counts_tm)
  u_falls act (by_start e) = start_falls_of (head_of (queue s 0 log)) act refl e
  u_falls act (by_hold j k p e) = grind (arith, in_mapped, held_falls, counts_tm)
