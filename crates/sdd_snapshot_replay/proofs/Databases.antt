-- The database of a run holds what the changes of those that ended leave, dated by their ends.
use Rattle.sdd_snapshot_replay.proofs.All.{AreWriters, Catalogue, Change, ChangesItems, Contains, Contains-later, Database, Effect, HasValues, IsDatabase, IsOfClass, IsPlaced, IsSoundCatalogue, Ledger, List, Log, MayComeFirst, SeesSnapshots, Txn, ap, arith, at_start, begins, begun, both_write, cases_Bool, changes_items, changes_stay, contains, database, effect, effect_once, effect_placed, ended, ends, false≢true, inl, inr, is_in, item_of, lt-ltb, ltb-true, nat_lt, not, one_more, reads_write, subst, true, writers, writes_read, ℕ, [], ◌<◌, ◌∷◌, ◌≡◌, ◌≤◌}
use Rattle.sdd_snapshot_replay.specs.Logs as logs
use Rattle.sdd_snapshot_replay.proofs.Begun.{Rises}
use Rattle.sdd_snapshot_replay.proofs.Sessions.{with_head}

not_below : (a b : ℕ) → a < b → not (nat_lt b a) ≡ true
not_below a b l = elim (cases_Bool (nat_lt b a)) [ inl t ↦ absurd (let m = ltb-true b a t in omega arith) | inr f ↦ ap not f ]

module _ (cat : Catalogue) (sound : IsSoundCatalogue cat) (txns : ℕ → Txn) (class : ℕ → ℕ) (of : (n : ℕ) → IsOfClass cat (txns n) (class n))
    (first : Database) (first_is : IsDatabase cat first) (effects : ℕ → Effect) where
  -- the effect is one on some database
  pub record Based (n : ℕ) : Type 0 where
    pub db : Database
    pub is : IsDatabase cat db
    pub effect_is : effect cat db (txns n) ≡ effects n

  pub items_changed : (n : ℕ) → Based n → ChangesItems cat (effects n)
  items_changed n b = subst (ChangesItems cat) b.effect_is (changes_items cat sound (txns n) (of n).fits (of n).puts_held b.db b.is)

  pub databases : (log : Log) → logs.HasSessions class log → SeesSnapshots cat txns first effects log
      → IsDatabase cat (database cat first effects log) × ((n : ℕ) → contains (begun log) n ≡ true → Based n)
  databases [] r s = (first_is, (λ n h. absurd (false≢true h)))
  databases (begins n ∷ log) r s =
      let d = databases log r.1 s.1 in (
        d.0,
        (λ m h. elim (with_head (begun log) n m h) [
          | inl e ↦ subst Based e (record { db = database cat first effects log; is = d.0; effect_is = s.0 })
          | inr old ↦ d.1 m old
        ]),
      )
  databases (ends n ∷ log) r s =
      let d = databases log r.1 s in
      (changes_stay cat sound (database cat first effects log) (effects n).changes d.0 (items_changed n (d.1 n r.0.0)), d.1)

  -- those that ended, dated by a time; each saw those with earlier times
  abbrev pub by_time : (ℕ → ℕ) → Ledger ℕ
  by_time time = record { txn = txns; ts = time; result = effects; saw = λ x f y. nat_lt (time y) (time x) }

  pub writers_ok : (time : ℕ → ℕ) (commits : List ℕ) → ((n : ℕ) → Contains commits n → Based n) → ((n : ℕ) → Contains commits n → 1 ≤ time n)
      → ((n m : ℕ) → Contains commits n → Contains commits m → time n ≡ time m → n ≡ m) → AreWriters cat (writers (by_time time)) commits
  writers_ok time commits based some one =
      record {
        time = some;
        one_time = λ x y a b e. ap (λ n. (effects n).changes) (one x y a b e);
        placed = λ x there.
            let b = based x there in
            subst (λ (e : Effect). (c : Change) → Contains e.changes c → IsPlaced cat c) b.effect_is
            (λ c h. effect_placed cat sound (txns x) (of x).fits (of x).puts_held b.db b.is c (is_in _ c h));
        once = λ x there.
            let b = based x there in
            subst (λ (e : Effect). (c d : Change) → Contains e.changes c → Contains e.changes d → item_of cat c ≡ item_of cat d → c ≡ d) b.effect_is
            (λ c d h k. effect_once cat sound (txns x) (of x).fits (of x).puts_held b.db b.is c d (is_in _ c h) (is_in _ d k));
      }

  in_order : (time : ℕ → ℕ) (x y : ℕ) → time x < time y → MayComeFirst cat (by_time time) x y
  in_order time x y l m (both_write c d h k e) = lt-ltb (time x) (time y) l
  in_order time x y l m (writes_read c h r) = lt-ltb (time x) (time y) l
  in_order time x y l m (reads_write c h r) = not_below (time x) (time y) l

  pub values : (time : ℕ → ℕ) (commits : List ℕ) → AreWriters cat (writers (by_time time)) commits → (log : Log) → Rises time log
      → logs.HasSessions class log → SeesSnapshots cat txns first effects log → ((n : ℕ) → Contains (ended log) n → Contains commits n)
      → HasValues cat first (by_time time) (ended log) (database cat first effects log)
  values time commits ok [] t r s within = at_start cat sound first first_is (by_time time)
  values time commits ok (begins n ∷ log) t r s within = values time commits ok log t r.1 s.1 within
  values time commits ok (ends n ∷ log) t r s within =
      one_more cat sound first first_is (by_time time) commits ok (ended log) n within
      (λ m h. in_order time m n (t.0 m h)) (database cat first effects log)
      (values time commits ok log t.1 r.1 s (λ m h. within m (Contains-later n (ended log) m h)))
      (databases (ends n ∷ log) r s).0
