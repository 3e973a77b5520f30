-- What is known of a run under snapshot isolation: the databases on which its effects are made.
use Rattle.sdd_robust_laws.proofs.All.{All, All-contains, Bool, Catalogue, Change, ChangesItems, Contains, Database, Effect, FitsTxn, HasSessions, InTurn, IsDatabase, IsSoundCatalogue, IsWorkload, Item, List, Log, None, Option, PutsHeld, Row, SeesSnapshots, Some, Stmt, Txn, after_changes, and_parts, ap, begins, begun, changed_at, changes_items, changes_stay, contains, database, effect, effect_once, ended, ends, false, false≢true, inl, inr, is_in, is_some, item_of, list_any, may_delete, not, not-true, passes_member, refl, row_at, some_change, stays, subst, sym, true, untouched_at, with_head, ℕ, [], ◌∙◌, ◌∷◌, ◌≡◌}
use Rattle.sdd_robust_laws.proofs.Changed.{change_explained}

-- each run is a session of its own
pub sessions : (log : Log) → InTurn log → HasSessions (λ n. n) log
sessions [] r = tt
sessions (begins n ∷ log) r =
    ((r.0, (λ m e h. absurd (false≢true (sym r.0 ∙ subst (λ z. contains (begun log) z ≡ true) e h)))), sessions log r.1)
sessions (ends n ∷ log) r = (r.0, sessions log r.1)

-- runs of which each is a session of its own begin once, and end once
pub in_turn : (log : Log) → HasSessions (λ n. n) log → InTurn log
in_turn [] r = tt
in_turn (begins n ∷ log) r = (r.0.0, in_turn log r.1)
in_turn (ends n ∷ log) r = (r.0, in_turn log r.1)

module _ (cat : Catalogue) (sound : IsSoundCatalogue cat) (work : List Txn) (of : IsWorkload cat work) (first : Database) (first_is : IsDatabase cat first)
    (txns : ℕ → Txn) (in_work : (n : ℕ) → Contains work (txns n)) (effects : ℕ → Effect) where
  pub fits : (n : ℕ) → FitsTxn cat (txns n)
  fits n = All-contains (FitsTxn cat) work (txns n) of.0 (in_work n)

  pub held : (n : ℕ) → All PutsHeld (txns n).statements
  held n = All-contains (λ (txn : Txn). All PutsHeld txn.statements) work (txns n) of.1 (in_work n)

  -- the rows that stay are there
  abbrev pub HasStaying : Database → Type 0
  HasStaying db = (item : Item) → stays cat work first item ≡ true → is_some (row_at db item) ≡ true

  -- the effect is one on such a database
  pub record IsBased (n : ℕ) : Type 0 where
    pub db : Database
    pub is : IsDatabase cat db
    pub has : HasStaying db
    pub effect_is : effect cat db (txns n) ≡ effects n

  items_changed : (n : ℕ) → IsBased n → ChangesItems cat (effects n)
  items_changed n b = subst (ChangesItems cat) b.effect_is (changes_items cat sound (txns n) (fits n) (held n) b.db b.is)

  -- of an item one change
  pub changes_once : (n : ℕ) → IsBased n → (c d : Change) → Contains (effects n).changes c → Contains (effects n).changes d → item_of cat c ≡ item_of cat d → c ≡ d
  changes_once n b =
      subst (λ (e : Effect). (c d : Change) → Contains e.changes c → Contains e.changes d → item_of cat c ≡ item_of cat d → c ≡ d) b.effect_is
      (λ c d h k. effect_once cat sound (txns n) (fits n) (held n) b.db b.is c d (is_in _ c h) (is_in _ d k))

  -- a change that deletes a row is one of a row that doesn't stay
  deleted : (n : ℕ) → IsBased n → (c : Change) → Contains (effects n).changes c → c.row ≡ None → stays cat work first (item_of cat c) ≡ true → ⊥
  deleted n b c h none stay =
      let within = subst (λ (e : Effect). Contains e.changes c) (sym b.effect_is) h in
      let x = change_explained cat sound work first b.db b.is (txns n) (fits n) (held n) c within in
      let some : list_any (λ (txn : Txn). list_any (may_delete cat (item_of cat c)) txn.statements) work ≡ true =
      passes_member (λ (txn : Txn). list_any (may_delete cat (item_of cat c)) txn.statements) work (txns n) (in_work n) (x.deletes none) in
      let parts = and_parts (is_some (row_at first (item_of cat c))) (not (list_any (λ (txn : Txn). list_any (may_delete cat (item_of cat c)) txn.statements) work)) stay in
      false≢true (sym (not-true _ parts.1) ∙ some)

  some_row : (o : Option Row) → (o ≡ None → ⊥) → is_some o ≡ true
  some_row None refuted = absurd (refuted refl)
  some_row (Some row) refuted = refl

  pub stay_after : (n : ℕ) → IsBased n → (db : Database) → IsDatabase cat db → HasStaying db → HasStaying (after_changes cat db (effects n).changes)
  stay_after n b db is has item stay =
      elim (some_change cat (effects n).changes item) [
        | inl c ↦
            let row : row_at (after_changes cat db (effects n).changes) item ≡ c.0.row =
            sym (ap (row_at (after_changes cat db (effects n).changes)) c.2) ∙ changed_at cat db (effects n).changes c.0 is.ascends (changes_once n b) c.1 in
            subst (λ o. is_some o ≡ true) (sym row) (some_row c.0.row (λ none. deleted n b c.0 c.1 none (subst (λ i. stays cat work first i ≡ true) (sym c.2) stay)))
        | inr un ↦ subst (λ o. is_some o ≡ true) (sym (untouched_at cat db (effects n).changes item is.ascends un)) (has item stay)
      ]

  pub after_is : (n : ℕ) → IsBased n → (db : Database) → IsDatabase cat db → IsDatabase cat (after_changes cat db (effects n).changes)
  after_is n b db is = changes_stay cat sound db (effects n).changes is (items_changed n b)

  pub record AreBased (log : Log) : Type 0 where
    pub is : IsDatabase cat (database cat first effects log)
    pub has : HasStaying (database cat first effects log)
    pub each : (n : ℕ) → contains (begun log) n ≡ true → IsBased n

  pub databases : (log : Log) → InTurn log → SeesSnapshots cat txns first effects log → AreBased log
  databases [] r s =
      record {
        is = first_is;
        has = λ item stay. (and_parts (is_some (row_at first item)) _ stay).0;
        each = λ n h. absurd (false≢true h);
      }
  databases (begins n ∷ log) r s =
      let d = databases log r.1 s.1 in
      record {
        is = d.is;
        has = d.has;
        each = λ m h. elim (with_head (begun log) n m h) [
          | inl e ↦ subst IsBased e (record { db = database cat first effects log; is = d.is; has = d.has; effect_is = s.0 })
          | inr old ↦ d.each m old
        ];
      }
  databases (ends n ∷ log) r s =
      let d = databases log r.1 s in
      let b = d.each n r.0.0 in
      record {
        is = after_is n b (database cat first effects log) d.is;
        has = stay_after n b (database cat first effects log) d.is d.has;
        each = d.each;
      }
