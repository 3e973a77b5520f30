-- A transaction starts again only since another one was committed: each Start but the first has a writer of its own.
use Rattle.sdd_laws.proofs.All.{AllByRecursion, AreFew, Attempt, Bool, Catalogue, Commit, Committed, Eras, History, IsAgain, IsAttempt, IsCommitted, IsDistinct-cons, IsRecordAt, KeepsRejections, KeepsStarts, List, Rec, Some, Start, Ts, Txn, [], ap, arith, cases_Bool, cases_lt, commits_of_others, cond, each_more, eq-eqb, eqb, eqb-true, false, filter, inl, inr, is_commit_of_other, is_start_of, length, length-le_from_is_member, list_any, nat_eq_equiv, nat_tests, ne_eqb, not, or_left, or_right, refl, same_Some, same_commit, same_start, starts_before, starts_of, subst, suc, sym, take, true, txn_no, zero, ℕ, ◌+◌, ◌<◌, ◌||◌, ◌∙◌, ◌∷◌, ◌≡◌, ◌≢◌, ◌≤◌}
use Rattle.std.specs.List.{IsDistinct}
use Rattle.sdd_laws.proofs.NumberedStarts.{one_start, start_counts}
use Rattle.sdd_laws.proofs.Times.{condition_time}

-- places of records that pass a test

places_of : (Rec → Bool) → ℕ → History → List ℕ
places_of test k [] = []
places_of test k (e ∷ h) = cond (test e.1) (k ∷ places_of test (suc k) h) (places_of test (suc k) h)

as_many : (test : Rec → Bool) (k : ℕ) (h : History) → length (places_of test k h) ≡ length (filter (λ e. test e.1) h)
unfolding places_of
as_many test k [] = refl
as_many test k (e ∷ h) = grind (arith, places_of, (as_many test (suc k) h))

place_there : (test : Rec → Bool) (k : ℕ) (h : History) (j : ℕ) (r : Rec) → IsRecordAt h j r → test r ≡ true
    → list_any (eqb (k + j)) (places_of test k h) ≡ true
unfolding places_of
place_there test k [] j r s t = absurd (cc)
place_there test k (e ∷ h) zero r s t = grind (arith, list_any, places_of, same_Some, or_left, eq-eqb)
place_there test k (e ∷ h) (suc j) r s t = grind (arith, list_any, places_of, or_right, (place_there test (suc k) h j r s t))

-- the last of the records that pass
pub record LastPassing (test : Rec → Bool) (h : History) (n : ℕ) : Type 0 where
  pub place : ℕ
  pub rec : Rec
  pub is_recorded : IsRecordAt h place rec
  pub passes : test rec ≡ true
  pub before : length (filter (λ e. test e.1) (take place h)) ≡ n

last_passing : (test : Rec → Bool) (h : History) (n : ℕ) → length (filter (λ e. test e.1) h) ≡ suc n → LastPassing test h n
last_passing test [] n e = absurd (omega arith)
last_passing test (x ∷ h) n e =
    elim (test x.1) as (λ b. test x.1 ≡ b → length (cond b (x ∷ filter (λ d. test d.1) h) (filter (λ d. test d.1) h)) ≡ suc n → LastPassing test (x ∷ h) n) [
      | true ↦ λ t l. elim n as (λ m. n ≡ m → LastPassing test (x ∷ h) m) [
        | zero ↦ λ z. record { place = 0; rec = x.1; is_recorded = refl; passes = t; before = refl }
        | suc m ↦ λ z.
            let r = last_passing test h m (omega arith) in
            record {
              place = suc r.place;
              rec = r.rec;
              is_recorded = r.is_recorded;
              passes = r.passes;
              before = grind arith;
            }
      ] refl
      | false ↦ λ t l.
          let r = last_passing test h n l in
          record {
            place = suc r.place;
            rec = r.rec;
            is_recorded = r.is_recorded;
            passes = r.passes;
            before = ap (λ b. length (cond b (x ∷ filter (λ d. test d.1) (take r.place h)) (filter (λ d. test d.1) (take r.place h)))) t ∙ r.before;
          }
    ] refl e

-- a Start at a place is that of an attempt
attempt_at : (h : History) (n k : ℕ) (r : Rec) → IsRecordAt h k r → is_start_of n r ≡ true
    → (a : Attempt) × IsAttempt h a × (a.txn ≡ n) × (a.place ≡ k)
attempt_at h n k (Start txn attempt class ts p2 uses) s t = (
  record { txn = txn.0; number = attempt; class = class.0; ts = ts.0; p2 = p2; uses = uses; place = k },
  s,
  eqb-true txn.0 n t,
  refl,
)
attempt_at h n k _ s t = absurd (cc)

no_places : IsDistinct eqb []
unfolding IsDistinct
no_places = tt

module _ (cat : Catalogue) (eras : Eras) (txns : List Txn) (h : History) (starting : KeepsStarts cat eras txns h) (rejecting : KeepsRejections cat eras h) where
  -- the attempts of a transaction have one class
  one_class : (a b : Attempt) → IsAttempt h a → IsAttempt h b → a.txn ≡ b.txn → a.class ≡ b.class
  one_class a b p q e = grind (arith, same_Some)

  -- the place of the Commit of a transaction other than that of the attempt, with a timestamp below the attempt's times
  pub record IsWriterOf (a : Attempt) (place : ℕ) : Type 0 where
    pub txn : Committed
    pub committed : IsCommitted h txn
    pub at : txn.place ≡ place
    pub other : txn.start.txn ≢ a.txn
    pub below : txn.start.ts < a.ts
    pub below_bound : (p2 : Ts) → a.p2 ≡ Some p2 → txn.start.ts < p2.0

  -- as many of them as there were attempts before
  pub record Writers (a : Attempt) (n : ℕ) : Type 0 where
    pub places : List ℕ
    pub many : length places ≡ n
    pub differ : IsDistinct eqb places
    pub each : AllByRecursion (IsWriterOf a) places

  -- the writer on which an attempt starts again isn't one of those before
  writer_of : (a : Attempt) (p : IsAttempt h a) (g : IsAgain cat eras h a) → IsWriterOf a g.writer.place
  writer_of a p g =
      record {
        txn = g.writer;
        committed = g.committed;
        at = refl;
        other = grind (arith, cases_lt, start_counts, one_class, same_start);
        below = let l = g.below in let same = g.writer_time in omega arith;
        below_bound = λ p2 e. let l = g.below_bound p2 e in let same = g.writer_time in omega arith;
      }

  -- an earlier writer is below the writer
  below_writer : (a : Attempt) (g : IsAgain cat eras h a) (q : ℕ) (w : IsWriterOf g.earlier q) → w.txn.start.ts < g.writer.start.ts
  below_writer a g q w =
      elim (condition_time cat g.condition.table g.earlier g.dm g.cond g.condition.there (starting.bound_there g.earlier g.started)) [
        | inl e ↦ let l = w.below in omega (arith, g.late)
        | inr e ↦ let l = w.below_bound e.0 e.1 in let f = e.2 in omega arith
      ]

  later_writer : (a : Attempt) (g : IsAgain cat eras h a) (q : ℕ) → IsWriterOf g.earlier q → IsWriterOf a q
  later_writer a g q w =
      let m = below_writer a g q w in
      grind (arith, nat_tests)

  -- two Commits at one place have one timestamp
  one_time_at : (t u : Committed) → IsCommitted h t → IsCommitted h u → t.place ≡ u.place → t.start.ts ≡ u.start.ts
  one_time_at t u p q e = grind (arith, same_commit, one_start, same_start)

  apart_from : (a : Attempt) (g : IsAgain cat eras h a) (q : ℕ) → IsWriterOf g.earlier q → eqb g.writer.place q ≡ false
  apart_from a g q w =
      ne_eqb g.writer.place q (λ e. let t = one_time_at w.txn g.writer w.committed g.committed (w.at ∙ sym e) in absurd (omega (arith, below_writer a g q w)))

  one_writer_more : (a : Attempt) → IsAttempt h a → (g : IsAgain cat eras h a) (n : ℕ) → Writers g.earlier n → Writers a (suc n)
  one_writer_more a p g n rest =
      record {
        places = g.writer.place ∷ rest.places;
        many = let m = rest.many in omega arith;
        differ =
            IsDistinct-cons eqb g.writer.place rest.places
            (each_more (IsWriterOf g.earlier) (λ q. eqb g.writer.place q ≡ false) (apart_from a g) rest.places rest.each) rest.differ;
        each = (writer_of a p g, each_more (IsWriterOf g.earlier) (IsWriterOf a) (later_writer a g) rest.places rest.each);
      }

  writers : (n : ℕ) (a : Attempt) → IsAttempt h a → a.number ≡ suc n → Writers a n
  writers zero a p e = record { places = []; many = refl; differ = no_places; each = tt }
  writers (suc n) a p e =
      let g = rejecting.again a p (omega arith) in
      one_writer_more a p g n (writers n g.earlier g.started (omega arith))

  -- they are among the Commits of other transactions
  counted_place : (a : Attempt) (q : ℕ) → IsWriterOf a q → list_any (eqb q) (places_of (is_commit_of_other a.txn) 0 h) ≡ true
  counted_place a q w =
      let t = w.txn in
      let r : Rec = Commit (txn_no t.start.txn) t.start.number t.reply t.changes t.values t.rows in
      subst (λ k. list_any (eqb k) (places_of (is_commit_of_other a.txn) 0 h) ≡ true) (omega (arith, w.at))
      (place_there (is_commit_of_other a.txn) 0 h t.place r w.committed.committed (ap not (ne_eqb t.start.txn a.txn w.other)))

  counted : (a : Attempt) (places : List ℕ) → AllByRecursion (IsWriterOf a) places → (q : ℕ) → list_any (eqb q) places ≡ true
      → list_any (eqb q) (places_of (is_commit_of_other a.txn) 0 h) ≡ true
  counted a [] all q e = absurd (cc)
  counted a (k ∷ places) all q e =
      elim (cases_Bool (eqb q k)) [
        | inl t ↦ subst (λ z. list_any (eqb z) (places_of (is_commit_of_other a.txn) 0 h) ≡ true) (sym (eqb-true q k t)) (counted_place a k all.0)
        | inr f ↦ counted a places all.1 q (ap (λ b. b || list_any (eqb q) places) (sym f) ∙ e)
      ]

  few_of : (n m : ℕ) → starts_of h n ≡ suc m → m ≤ commits_of_others h n
  few_of n m e =
      let l = last_passing (is_start_of n) h m e in
      let at = attempt_at h n l.place l.rec l.is_recorded l.passes in
      let a = at.0 in
      let w = writers m a at.1 (starting.numbered a at.1 ∙ ap suc (ap (λ z. starts_before h z a.place) at.2 ∙ ap (λ z. starts_before h n z) at.3 ∙ l.before)) in
      let fits = length-le_from_is_member nat_eq_equiv w.places (places_of (is_commit_of_other a.txn) 0 h) w.differ (counted a w.places w.each) in
      omega (arith, ap (commits_of_others h) at.2, fits, w.many, as_many (is_commit_of_other a.txn) 0 h)

  pub are_few : AreFew h
  are_few n =
      elim (starts_of h n) as (λ m. starts_of h n ≡ m → m ≤ suc (commits_of_others h n)) [
        | zero ↦ λ e. omega arith
        | suc m ↦ λ e. let l = few_of n m e in omega arith
      ] refl
