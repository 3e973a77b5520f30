-- An order of those that ended in which none stands before one that has to come first.
use Rattle.sdd_snapshot_replay.proofs.All.{Bool, Catalogue, Contains, IsOrderly, IsPath, List, Log, Numbered, Precedes, Txn, and_parts, arith, begin_of, by_seen, by_unseen, by_writes, cases_Bool, contains, end_of, ended, eqb-false, false, false≢true, fragments_of, inl, inr, length, list_any, ltb-true, member_passes, nat_lt, not, not-true, or_cases, read_set, ready_for, run_of, sym, system_of, taken, taken_is, taken_whole, tests_of, true, write_set, ℕ, [], ◌&&◌, ◌==◌, ◌||◌, ◌∙◌, ◌∷◌, ◌≡◌, ◌≢◌}
use Rattle.sdd_snapshot_replay.specs.Logs as logs
use Rattle.sdd_snapshot_replay.proofs.Listed.{member_is}
use Rattle.sdd_snapshot_replay.proofs.Sessions.{times}

module _ (cat : Catalogue) (txns : ℕ → Txn) (class : ℕ → ℕ) (log : Log) where
  abbrev pub may_read : ℕ → ℕ → Bool
  may_read n f = contains (read_set cat (txns n)) f

  abbrev pub may_change : ℕ → ℕ → Bool
  may_change n f = contains (write_set cat (txns n)) f

  -- at the fragment the first changes what the second changes later; or reads what the second changes, unseen; or the
  -- second reads what it changes, and saw it
  abbrev pub clashes : ℕ → ℕ → ℕ → Bool
  clashes x y f =
      (may_change x f && (may_change y f && nat_lt (end_of log x) (end_of log y)))
      || ((may_read x f && (may_change y f && not (nat_lt (end_of log y) (begin_of log x))))
      || (may_change x f && (may_read y f && nat_lt (end_of log x) (begin_of log y))))

  -- the first has to come before the second
  abbrev pub comes_before : ℕ → ℕ → Bool
  comes_before x y = not (x == y) && list_any (clashes x y) (fragments_of cat)

  abbrev Ended : Type 0
  Ended = Numbered (tests_of (run_of cat txns class log))

  abbrev numbered : (n : ℕ) → contains (ended log) n ≡ true → Ended
  numbered n is = record { no = n; is = is }

  precedes : (x y : ℕ) (a : contains (ended log) x ≡ true) (b : contains (ended log) y ≡ true) → comes_before x y ≡ true
      → Precedes (system_of (run_of cat txns class log)) (numbered x a) (numbered y b)
  precedes x y a b e =
      let p = and_parts (not (x == y)) (list_any (clashes x y) (fragments_of cat)) e in
      let differ : x ≢ y = eqb-false x y (not-true (x == y) p.0) in
      let m = member_passes (clashes x y) (fragments_of cat) p.1 in
      let f : ℕ = m.0 in
      elim (or_cases (may_change x f && (may_change y f && nat_lt (end_of log x) (end_of log y))) _ m.2) [
        | inl w ↦
            let q = and_parts (may_change x f) _ w in
            let r = and_parts (may_change y f) _ q.1 in
            by_writes differ f q.0 r.0 (ltb-true (end_of log x) (end_of log y) r.1)
        | inr others ↦ elim (or_cases (may_read x f && (may_change y f && not (nat_lt (end_of log y) (begin_of log x)))) _ others) [
          | inl w ↦
              let q = and_parts (may_read x f) _ w in
              let r = and_parts (may_change y f) _ q.1 in
              by_unseen differ f q.0 r.0 (λ seen. false≢true (sym (not-true (nat_lt (end_of log y) (begin_of log x)) r.1) ∙ seen))
          | inr w ↦
              let q = and_parts (may_change x f) _ w in
              let r = and_parts (may_read y f) _ q.1 in
              by_seen differ f q.0 r.0 r.1
        ]
      ]

  abbrev Comes : ℕ → ℕ → Type 0
  Comes x y = (contains (ended log) x ≡ true) × (contains (ended log) y ≡ true) × (comes_before x y ≡ true)

  path_of : (x : ℕ) (m : List ℕ) (y : ℕ) (a : contains (ended log) x ≡ true) (b : contains (ended log) y ≡ true) → IsPath Comes x m y
      → (k : List Ended) × IsPath (Precedes (system_of (run_of cat txns class log))) (numbered x a) k (numbered y b)
  path_of x [] y a b p = ([], precedes x y a b p.2)
  path_of x (z ∷ m) y a b p =
      let is = p.0.1 in
      let rest = path_of z m y is b p.1 in
      (numbered z is ∷ rest.0, (precedes x z a is p.0.2, rest.1))

  first_of : (x : ℕ) (m : List ℕ) (y : ℕ) → IsPath Comes x m y → contains (ended log) x ≡ true
  first_of x [] y p = p.0
  first_of x (z ∷ m) y p = p.0.0

  no_cycle : IsOrderly (Precedes (system_of (run_of cat txns class log))) → IsOrderly Comes
  no_cycle orderly x m p =
      let is = first_of x m x p in
      let k = path_of x m x is is p in
      orderly (numbered x is) k.0 k.1

  abbrev pub order : List ℕ
  order = taken comes_before (end_of log) (length (ended log)) (ended log)

  module _ (sessions : logs.HasSessions class log) (orderly : IsOrderly (Precedes (system_of (run_of cat txns class log)))) where
    one_of : (some : List ℕ) → ((y : ℕ) → Contains some y → Contains (ended log) y) → (s : ℕ) → Contains some s
        → (r : ℕ) × Contains some r × ((y : ℕ) → Contains some y → comes_before y r ≡ false)
    one_of some within s h =
        let is : (y : ℕ) → Contains some y → contains (ended log) y ≡ true = λ y k. member_is (ended log) y (within y k) in
        let r =
        ready_for Comes (λ y. contains (ended log) y ≡ true)
        (λ x y a b. elim (cases_Bool (comes_before x y)) [ inl t ↦ inl (a, b, t) | inr f ↦ inr (λ c. false≢true (sym f ∙ c.2)) ])
        (no_cycle orderly) some is s h in (
          r.ready,
          r.member,
          (λ y k. elim (cases_Bool (comes_before y r.ready)) [
            | inl t ↦ absurd (r.first y k (is y k, is r.ready r.member, t))
            | inr f ↦ f
          ]),
        )

    -- it has all of them
    pub all_in : (x : ℕ) → Contains (ended log) x → Contains order x
    all_in x h =
        taken_whole (end_of log) comes_before (length (ended log)) (ended log) (omega arith)
        (λ n m a b e. (times class log sessions).one_end n m (member_is (ended log) n a) (member_is (ended log) m b) e)
        one_of x h

  -- and no others
  pub of_ended : (x : ℕ) → Contains order x → Contains (ended log) x
  of_ended x h = taken_is (end_of log) comes_before (length (ended log)) (ended log) x h
