-- The writers by which the attempts of a transaction are rejected: each has a later timestamp than the ones before.
use Rattle.sdd_progress.proofs.All.{AllByRecursion, Catalogue, Commit, Committed, Cond, Eras, History, IsAgain, IsAttempt, IsCommitted, IsConditionOf, IsDistinct-cons, IsRecordAt, KeepsRejections, KeepsStarts, List, Option, Some, Ts, Txn, [], ap, arith, cases_lt, commits_of_others, condition_time, eqb, false, is_commit_of_other, length, ne_eqb, not, one_start, option_map, refl, same_Some, same_commit, same_start, start_counts, subst, suc, sym, txn_no, unwrap_or, zero, ℕ, ◌<◌, ◌∙◌, ◌∷◌, ◌≡◌, ◌≢◌, ◌≤◌, ◌⊎◌}
use Rattle.std.specs.List.{IsDistinct}
use Rattle.sdd_progress.proofs.Places.{Passes, few_places}
use Rattle.sdd_obligations.specs.links.Attempts.{Attempt}
use Rattle.sdd_progress.proofs.FewClasses.{each_weaker}

-- the lower one of an attempt's two times
abbrev pub low_time : Attempt → ℕ
low_time a = unwrap_or (option_map (λ t. t.0) a.p2) a.ts

below_low : (o : Option Ts) (ts write : ℕ) → write < ts → ((p2 : Ts) → o ≡ Some p2 → write < p2.0) → write < unwrap_or (option_map (λ (t : Ts). t.0) o) ts
below_low o ts write l f = grind arith

low_is_least : (o : Option Ts) (ts time : ℕ) → ((p2 : Ts) → o ≡ Some p2 → p2.0 < ts)
    → (time ≡ ts) ⊎ ((p2 : Ts) × (o ≡ Some p2) × (time ≡ p2.0)) → unwrap_or (option_map (λ (t : Ts). t.0) o) ts ≤ time
low_is_least o ts time f h5 = grind (arith, same_Some)

-- the place of the Commit of a transaction other than n, with a timestamp below the bound
pub record IsWriterBelow (h : History) (n bound place : ℕ) : Type 0 where
  pub txn : Committed
  pub committed : IsCommitted h txn
  pub at : txn.place ≡ place
  pub other : txn.start.txn ≢ n
  pub below : txn.start.ts < bound

-- so many of them
pub record WritersBelow (h : History) (n bound count : ℕ) : Type 0 where
  pub places : List ℕ
  pub many : length places ≡ count
  pub differ : IsDistinct eqb places
  pub each : AllByRecursion (IsWriterBelow h n bound) places

none_below : (h : History) (n bound : ℕ) → WritersBelow h n bound 0
unfolding IsDistinct
none_below h n bound = record { places = []; many = refl; differ = tt; each = tt }

writers_up : (h : History) (n bound most count : ℕ) → bound ≤ most → WritersBelow h n bound count → WritersBelow h n most count
writers_up h n bound most count l w = grind (arith, each_weaker)

passing : (h : History) (n bound place : ℕ) → IsWriterBelow h n bound place → Passes (is_commit_of_other n) h place
passing h n bound place w =
    let t = w.txn in
    record {
      rec = Commit (txn_no t.start.txn) t.start.number t.reply t.changes t.values t.rows;
      is_recorded = subst (λ k. IsRecordAt h k (Commit (txn_no t.start.txn) t.start.number t.reply t.changes t.values t.rows)) w.at w.committed.committed;
      passes = ap not (ne_eqb t.start.txn n w.other);
    }

-- they are among the Commits of other transactions
pub writers_count : (h : History) (n bound count : ℕ) → WritersBelow h n bound count → count ≤ commits_of_others h n
writers_count h n bound count w =
    omega (arith, (few_places (is_commit_of_other n) h w.places w.differ (each_weaker (λ k x. passing h n bound k x) w.places w.each)), w.many)

module _ (cat : Catalogue) (eras : Eras) (txns : List Txn) (h : History) (starting : KeepsStarts cat eras txns h) where
  -- the attempts of a transaction have one class
  pub one_class : (a b : Attempt) → IsAttempt h a → IsAttempt h b → a.txn ≡ b.txn → a.class ≡ b.class
  one_class a b p q e = grind (arith, same_Some)

  -- two Commits at one place have one timestamp
  one_time_at : (t u : Committed) → IsCommitted h t → IsCommitted h u → t.place ≡ u.place → t.start.ts ≡ u.start.ts
  one_time_at t u p q e = grind (arith, same_commit, one_start, same_start)

  -- one more, whose timestamp is at or above the bound
  pub one_more : (n bound count : ℕ) (t : Committed) → IsCommitted h t → t.start.txn ≢ n → bound ≤ t.start.ts
      → WritersBelow h n bound count → WritersBelow h n (suc t.start.ts) (suc count)
  one_more n bound count t is other least w =
      let apart : (k : ℕ) → IsWriterBelow h n bound k → eqb t.place k ≡ false =
      λ k x. ne_eqb t.place k (λ e. let same = one_time_at x.txn t x.committed is (x.at ∙ sym e) in let b = x.below in absurd (omega arith)) in
      let new : IsWriterBelow h n (suc t.start.ts) t.place = record { txn = t; committed = is; at = refl; other = other; below = omega arith } in
      record {
        places = t.place ∷ w.places;
        many = let m = w.many in omega arith;
        differ = IsDistinct-cons eqb t.place w.places (each_weaker apart w.places w.each) w.differ;
        each = (new, each_weaker (λ k x. (record { txn = x.txn; committed = x.committed; at = x.at; other = x.other; below = let b = x.below in omega arith })) w.places w.each);
      }

  -- a condition's time isn't below an attempt's lower one
  pub low_of_condition : (a : Attempt) (d : ℕ) (c : Cond) → IsAttempt h a → IsConditionOf cat eras h a d c → low_time a ≤ c.time.0
  low_of_condition a d c p condition =
      low_is_least a.p2 a.ts c.time.0 (λ p2 e. (starting.bound a p2 p e).below)
      (condition_time cat condition.table a d c condition.there (starting.bound_there a p))

  module _ (rejecting : KeepsRejections cat eras h) where
    other_writer : (a : Attempt) → IsAttempt h a → (g : IsAgain cat eras h a) → g.writer.start.txn ≢ a.txn
    other_writer a p g e = grind (arith, cases_lt, start_counts, one_class, same_start)

    again_more : (count : ℕ) (a : Attempt) → IsAttempt h a → (g : IsAgain cat eras h a)
        → WritersBelow h g.earlier.txn (low_time g.earlier) count → WritersBelow h a.txn (low_time a) (suc count)
    again_more count a p g w =
        let least = low_of_condition g.earlier g.dm g.cond g.started g.condition in
        let time = g.writer_time in
        let below = below_low a.p2 a.ts g.write g.below g.below_bound in
        let from : WritersBelow h a.txn (low_time g.earlier) count = subst (λ n. WritersBelow h n (low_time g.earlier) count) g.txn_is w in
        writers_up h a.txn (suc g.writer.start.ts) (low_time a) (suc count) (omega (arith, g.late))
        (one_more a.txn (low_time g.earlier) count g.writer g.committed (other_writer a p g) (omega arith) from)

    -- as many as there were attempts before
    pub writers : (count : ℕ) (a : Attempt) → IsAttempt h a → a.number ≡ suc count → WritersBelow h a.txn (low_time a) count
    writers zero a p e = none_below h a.txn (low_time a)
    writers (suc count) a p e =
        let g = rejecting.again a p (omega arith) in
        again_more count a p g (writers count g.earlier g.started (omega (arith, g.number_is)))
