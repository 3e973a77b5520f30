-- Short runs are runs under snapshot isolation.
use Rattle.sdd_short_runs.proofs.All.{Catalogue, Contains, Contains-cases, Contains-here, Contains-later, Contains-nil, Database, Effect, FirstWins, InTurn, IsSnapshotRun, List, Log, SeesSnapshots, Txn, [], after_changes, after_effects, ap, arith, begins, begun, change_one_item, contains, database, effect, ended, ended_since, ends, eq-eqb, false, in_turn, inl, inr, length, list_all, list_any, ne_eqb, refl, subst, succeeds, suc, sym, true, ℕ, ◌+◌, ◌<◌, ◌==◌, ◌∙◌, ◌∷◌, ◌≡◌, ◌≤◌, ◌⊎◌}

same_number : (n : ℕ) → (n == n) ≡ true
same_number n = eq-eqb n n refl

smaller : (n m : ℕ) → n < m → (n == m) ≡ false
smaller n m l = ne_eqb n m (λ e. omega arith)

same_or_less : (m n : ℕ) → m < suc n → (m ≡ n) ⊎ (m < n)
same_or_less m n l = grind arith

-- a function gives these values from a number on
abbrev pub AreNumbered : {X : Type 0} → (ℕ → X) → ℕ → List X → Type 0
AreNumbered f n [] = Unit {0}
AreNumbered f n (x ∷ xs) = (f n ≡ x) × AreNumbered f (suc n) xs

module _ (cat : Catalogue) (txns : ℕ → Txn) (first : Database) (effects : ℕ → Effect) (outer : ℕ) where
  -- a run that saw the database after the log, and ends, since it changes nothing that the outer one changes
  pub record IsNext (n : ℕ) (log : Log) : Type 0 where
    pub saw : effect cat (database cat first effects log) (txns n) ≡ effects n
    pub success : succeeds (effects n).reply ≡ true
    pub apart : change_one_item cat (effects n) (effects outer) ≡ false

  -- a log in which the outer one has begun, and those below n have begun and ended
  pub record IsBegun (n : ℕ) (log : Log) : Type 0 where
    pub turns : InTurn log
    pub sees : SeesSnapshots cat txns first effects log
    pub fresh : (m : ℕ) → n ≤ m → m < outer → contains (begun log) m ≡ false
    pub not_ended : (m : ℕ) → n ≤ m → contains (ended log) m ≡ false
    pub outer_begun : contains (begun log) outer ≡ true
    pub succeed : list_all (λ m. succeeds (effects m).reply) (ended log) ≡ true
    pub wins : FirstWins cat effects log
    pub none : list_any (λ m. change_one_item cat (effects m) (effects outer)) (ended_since log outer) ≡ false
    pub within : (m : ℕ) → Contains (ended log) m → m < n
    pub all : (m : ℕ) → m < n → Contains (ended log) m

  pub begins_alone : effect cat first (txns outer) ≡ effects outer → IsBegun 0 (begins outer ∷ [])
  begins_alone saw =
      record {
        turns = (refl, tt);
        sees = (saw, tt);
        fresh = λ m l below. grind (arith, ne_eqb outer m (λ e. omega arith));
        not_ended = λ m l. refl;
        outer_begun = grind (arith, same_number outer);
        succeed = refl;
        wins = tt;
        none = grind (arith, same_number outer);
        within = λ m h. absurd (Contains-nil m h);
        all = λ m l. absurd (omega arith);
      }

  one_more : (n : ℕ) (log : Log) → n < outer → IsBegun n log → IsNext n log → IsBegun (suc n) (ends n ∷ begins n ∷ log)
  one_more n log below is next =
      record {
        turns = ((grind (arith, same_number n), is.not_ended n (omega arith)), (is.fresh n (omega arith) below, is.turns));
        sees = (next.saw, is.sees);
        fresh = λ m l less. grind (arith, smaller n m (omega arith), is.fresh m (omega arith) less);
        not_ended = λ m l. grind (arith, smaller n m (omega arith), is.not_ended m (omega arith));
        outer_begun = grind (arith, is.outer_begun);
        succeed = grind (arith, next.success, is.succeed);
        wins = (grind (arith, same_number n), is.wins);
        none = grind (arith, smaller n outer below, next.apart, is.none);
        within = λ m h. elim (Contains-cases n (ended log) m h) [
          | inl e ↦ omega arith
          | inr old ↦ (let l = is.within m old in omega arith)
        ];
        all = λ m l. elim (same_or_less m n l) [
          | inl e ↦ subst (Contains (n ∷ ended log)) (sym e) (Contains-here n (ended log))
          | inr less ↦ Contains-later n (ended log) m (is.all m less)
        ];
      }

  -- transactions of which each is next
  abbrev pub AreNext : ℕ → List Txn → Log → Type 0
  AreNext n [] log = Unit {0}
  AreNext n (txn ∷ rest) log = IsNext n log × AreNext (suc n) rest (ends n ∷ begins n ∷ log)

  pub all_more : (n : ℕ) (inner : List Txn) (log : Log) → n + length inner ≡ outer → IsBegun n log → AreNext n inner log
      → IsBegun outer (in_turn n inner log)
  all_more n [] log e is next = subst (λ m. IsBegun m log) (omega arith) is
  all_more n (txn ∷ rest) log e is next =
      all_more (suc n) rest (ends n ∷ begins n ∷ log) (omega arith) (one_more n log (omega arith) is next.0) next.1

  -- the outer one ends
  pub is_run : (log : Log) → IsBegun outer log → succeeds (effects outer).reply ≡ true → IsSnapshotRun cat txns first effects (ends outer ∷ log)
  is_run log is ok =
      record {
        in_turn = ((is.outer_begun, is.not_ended outer (omega arith)), is.turns);
        sees = is.sees;
        succeed = grind (arith, ok, is.succeed);
        first_wins = (is.none, is.wins);
      }

  -- which then are those that ended
  pub ended_are : (log : Log) → IsBegun outer log → (m : ℕ) → Contains (outer ∷ ended log) m → m < suc outer
  ended_are log is m h = elim (Contains-cases outer (ended log) m h) [
    | inl e ↦ omega arith
    | inr old ↦ (let l = is.within m old in omega arith)
  ]

  pub are_ended : (log : Log) → IsBegun outer log → (m : ℕ) → m < suc outer → Contains (outer ∷ ended log) m
  are_ended log is m l = elim (same_or_less m outer l) [
    | inl e ↦ subst (Contains (outer ∷ ended log)) (sym e) (Contains-here outer (ended log))
    | inr less ↦ Contains-later outer (ended log) m (is.all m less)
  ]

  -- the database after the log with the effects of these numbers
  pub database_after : (n : ℕ) (inner : List Txn) (log : Log) (made : List Effect) → AreNumbered effects n made → length made ≡ length inner
      → database cat first effects (in_turn n inner log) ≡ after_effects cat (database cat first effects log) made
  database_after n [] log [] are long = refl
  database_after n [] log (e ∷ made) are long = absurd (omega arith)
  database_after n (txn ∷ rest) log [] are long = absurd (omega arith)
  database_after n (txn ∷ rest) log (e ∷ made) are long =
      database_after (suc n) rest (ends n ∷ begins n ∷ log) made are.1 (omega arith)
      ∙ ap (λ (f : Effect). after_effects cat (after_changes cat (database cat first effects log) f.changes) made) are.0
