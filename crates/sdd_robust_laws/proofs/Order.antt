-- An order of the runs that ended in which none stands before one that has to come first.
use Rattle.sdd_robust_laws.proofs.All.{Access, Bool, Catalogue, Change, Contains, Effect, HasSessions, IsOrderly, Item, List, Log, and_from, and_parts, ap, arith, begin_of, cases_Bool, columns_meet, contains, end_of, ended, eq-eqb, eqb-false, eqb-true, false, false≢true, inl, inr, is_eq, item_cmp, item_cmp_exact, item_cmp_total, item_of, length, list_any, lt-ltb, ltb-false, ltb-true, member_is, member_passes, nat_lt, ne_eqb, not, not-true, or_cases, or_left, or_right, passes_member, ready_for, refl, same_key, subst, sym, taken, taken_is, taken_whole, test_own, times, true, ℕ, ◌&&◌, ◌<◌, ◌==◌, ◌||◌, ◌∙◌, ◌≡◌, ◌≢◌, ◌≤◌}
use Rattle.sdd_robust_laws.proofs.Covered.{covers}
use Rattle.sdd_robust_laws.proofs.Cycles.{Comes, Ended}
use Rattle.sdd_robust_laws.proofs.Cycles.Comes.{both_change, misses, sees}

not_below : (a b : ℕ) → b ≤ a → not (nat_lt a b) ≡ true
not_below a b l = elim (cases_Bool (nat_lt a b)) [ inl t ↦ absurd (let m = ltb-true a b t in omega arith) | inr f ↦ ap not f ]

module _ (cat : Catalogue) (acc : ℕ → List Access) (effects : ℕ → Effect) (log : Log) where
  -- an access of the run reads the column of the row, or may change it
  abbrev pub may_read : ℕ → Item × ℕ → Bool
  may_read n cell = list_any (λ x. x.reads && (covers x cell.0 && (x.column == cell.1))) (acc n)

  abbrev pub touch : ℕ → Item → ℕ → Bool
  touch n item k = list_any (λ x. x.changes && (covers x item && columns_meet k x.column)) (acc n)

  -- some column of the row the first may change and the second read
  abbrev crosses : Item → List Access → List Access → Bool
  crosses item xs ys = list_any (λ x. x.changes && (covers x item && list_any (λ y. y.reads && (covers y item && columns_meet y.column x.column)) ys)) xs

  abbrev changes_item : ℕ → Item → Bool
  changes_item n item = list_any (λ d. is_eq (item_cmp item (item_of cat d))) (effects n).changes

  -- by an item that the first changed, or that the second did
  abbrev from_change : ℕ → ℕ → Change → Bool
  from_change x y c =
      (changes_item y (item_of cat c) && nat_lt (end_of log x) (end_of log y))
      || (crosses (item_of cat c) (acc x) (acc y) && nat_lt (end_of log x) (begin_of log y))

  abbrev to_change : ℕ → ℕ → Change → Bool
  to_change x y d = crosses (item_of cat d) (acc y) (acc x) && not (nat_lt (end_of log y) (begin_of log x))

  -- the first has to come before the second
  abbrev pub comes_before : ℕ → ℕ → Bool
  comes_before x y = not (x == y) && (list_any (from_change x y) (effects x).changes || list_any (to_change x y) (effects y).changes)

  -- the runs that ended
  abbrev pub runs : Ended
  runs =
      record {
        Is = λ n. contains (ended log) n ≡ true;
        begin = begin_of log;
        end = end_of log;
        Item = Item;
        Changes = λ n item. (c : Change) × Contains (effects n).changes c × (item_of cat c ≡ item);
        Cell = Item × ℕ;
        Reads = λ n cell. may_read n cell ≡ true;
        Touches = λ n cell. ((c : Change) × Contains (effects n).changes c × (item_of cat c ≡ cell.0)) × (touch n cell.0 cell.1 ≡ true);
      }

  -- the column that crosses
  record Crossing (m n : ℕ) (item : Item) : Type 0 where
    column : ℕ
    touches : touch m item column ≡ true
    reads : may_read n (item, column) ≡ true

  crossing_of : (m n : ℕ) (item : Item) → crosses item (acc m) (acc n) ≡ true → Crossing m n item
  crossing_of m n item e =
      let x = member_passes (λ x. x.changes && (covers x item && list_any (λ y. y.reads && (covers y item && columns_meet y.column x.column)) (acc n))) (acc m) e in
      let p = and_parts (x.0).changes _ x.2 in
      let q = and_parts (covers x.0 item) _ p.1 in
      let y = member_passes (λ y. y.reads && (covers y item && columns_meet y.column (x.0).column)) (acc n) q.1 in
      let r = and_parts (y.0).reads _ y.2 in
      let s = and_parts (covers y.0 item) _ r.1 in
      record {
        column = (y.0).column;
        touches = passes_member (λ x. x.changes && (covers x item && columns_meet (y.0).column x.column)) (acc m) x.0 x.1
            (and_from (x.0).changes _ p.0 (and_from (covers x.0 item) _ q.0 s.1));
        reads = passes_member (λ z. z.reads && (covers z item && (z.column == (y.0).column))) (acc n) y.0 y.1
            (and_from (y.0).reads _ r.0 (and_from (covers y.0 item) _ s.0 (eq-eqb (y.0).column (y.0).column refl)));
      }

  crosses_by : (m n : ℕ) (item : Item) (k : ℕ) → touch m item k ≡ true → may_read n (item, k) ≡ true → crosses item (acc m) (acc n) ≡ true
  crosses_by m n item k t r =
      let x = member_passes (λ x. x.changes && (covers x item && columns_meet k x.column)) (acc m) t in
      let p = and_parts (x.0).changes _ x.2 in
      let q = and_parts (covers x.0 item) _ p.1 in
      let y = member_passes (λ y. y.reads && (covers y item && (y.column == k))) (acc n) r in
      let u = and_parts (y.0).reads _ y.2 in
      let v = and_parts (covers y.0 item) _ u.1 in
      let meet : columns_meet (y.0).column (x.0).column ≡ true = subst (λ z. columns_meet z (x.0).column ≡ true) (sym (eqb-true (y.0).column k v.1)) q.1 in
      passes_member (λ x. x.changes && (covers x item && list_any (λ y. y.reads && (covers y item && columns_meet y.column x.column)) (acc n))) (acc m) x.0 x.1
      (and_from (x.0).changes _ p.0 (and_from (covers x.0 item) _ q.0
      (passes_member (λ y. y.reads && (covers y item && columns_meet y.column (x.0).column)) (acc n) y.0 y.1
      (and_from (y.0).reads _ u.0 (and_from (covers y.0 item) _ v.0 meet)))))

  pub comes_is : (x y : ℕ) → contains (ended log) x ≡ true → contains (ended log) y ≡ true → comes_before x y ≡ true → Comes runs x y
  comes_is x y a b e =
      let p = and_parts (not (x == y)) _ e in
      let apart : x ≢ y = eqb-false x y (not-true (x == y) p.0) in
      elim (or_cases (list_any (from_change x y) (effects x).changes) _ p.1) [
        | inl w ↦
            let c = member_passes (from_change x y) (effects x).changes w in
            elim (or_cases (changes_item y (item_of cat c.0) && nat_lt (end_of log x) (end_of log y)) _ c.2) [
              | inl v ↦
                  let q = and_parts (changes_item y (item_of cat c.0)) _ v in
                  let d = member_passes (λ d. is_eq (item_cmp (item_of cat c.0) (item_of cat d))) (effects y).changes q.0 in
                  let same = same_key item_cmp item_cmp_total item_cmp_exact (item_of cat c.0) (item_of cat d.0) d.2 in
                  both_change (item_of cat c.0) a b (c.0, c.1, refl) (d.0, d.1, sym same) (ltb-true (end_of log x) (end_of log y) q.1)
              | inr v ↦
                  let q = and_parts (crosses (item_of cat c.0) (acc x) (acc y)) _ v in
                  let k = crossing_of x y (item_of cat c.0) q.0 in
                  sees (item_of cat c.0, k.column) a b ((c.0, c.1, refl), k.touches) k.reads (ltb-true (end_of log x) (begin_of log y) q.1)
            ]
        | inr w ↦
            let d = member_passes (to_change x y) (effects y).changes w in
            let q = and_parts (crosses (item_of cat d.0) (acc y) (acc x)) _ d.2 in
            let k = crossing_of y x (item_of cat d.0) q.0 in
            let l = ltb-false (end_of log y) (begin_of log x) (not-true _ q.1) in
            misses (item_of cat d.0, k.column) a b apart k.reads ((d.0, d.1, refl), k.touches) (omega arith)
      ]

  before_by : (x y : ℕ) → x ≢ y → (list_any (from_change x y) (effects x).changes || list_any (to_change x y) (effects y).changes) ≡ true → comes_before x y ≡ true
  before_by x y apart e = and_from (not (x == y)) _ (ap not (ne_eqb x y apart)) e

  -- at the item of the change
  crosses_at : (m n : ℕ) (item other : Item) (k : ℕ) → other ≡ item → touch m item k ≡ true → may_read n (item, k) ≡ true → crosses other (acc m) (acc n) ≡ true
  crosses_at m n item other k e t r = subst (λ i. crosses i (acc m) (acc n) ≡ true) (sym e) (crosses_by m n item k t r)

  pub is_before : (forward : (n : ℕ) → contains (ended log) n ≡ true → begin_of log n < end_of log n) (x y : ℕ) → Comes runs x y → comes_before x y ≡ true
  is_before forward x y (both_change i a b c d l) =
      let apart : x ≢ y = λ e. (let t : end_of log x ≡ end_of log y = ap (end_of log) e in omega arith) in
      before_by x y apart (or_left _ _ (passes_member (from_change x y) (effects x).changes c.0 c.1
      (or_left _ _ (and_from (changes_item y (item_of cat c.0)) _
      (passes_member (λ d. is_eq (item_cmp (item_of cat c.0) (item_of cat d))) (effects y).changes d.0 d.1
      (test_own item_cmp item_cmp_total item_cmp_exact (item_of cat c.0) (item_of cat d.0) (c.2 ∙ sym d.2)))
      (lt-ltb (end_of log x) (end_of log y) l)))))
  is_before forward x y (sees i a b c r l) =
      let f = forward y b in
      let apart : x ≢ y = λ e. (let t : end_of log x ≡ end_of log y = ap (end_of log) e in omega arith) in
      before_by x y apart (or_left _ _ (passes_member (from_change x y) (effects x).changes c.0.0 c.0.1
      (or_right _ _ (and_from (crosses (item_of cat c.0.0) (acc x) (acc y)) _ (crosses_at x y i.0 (item_of cat c.0.0) i.1 c.0.2 c.1 r)
      (lt-ltb (end_of log x) (begin_of log y) l)))))
  is_before forward x y (misses i a b apart r d l) =
      before_by x y apart (or_right _ _ (passes_member (to_change x y) (effects y).changes d.0.0 d.0.1
      (and_from (crosses (item_of cat d.0.0) (acc y) (acc x)) _ (crosses_at y x i.0 (item_of cat d.0.0) i.1 d.0.2 d.1 r) (not_below (end_of log y) (begin_of log x) l))))

  abbrev pub order : List ℕ
  order = taken comes_before (end_of log) (length (ended log)) (ended log)

  module _ (sessions : HasSessions (λ n. n) log) (orderly : IsOrderly (Comes runs)) where
    -- of some that are left one may be next
    one_of : (some : List ℕ) → ((y : ℕ) → Contains some y → Contains (ended log) y) → (s : ℕ) → Contains some s
        → (r : ℕ) × Contains some r × ((y : ℕ) → Contains some y → comes_before y r ≡ false)
    one_of some within s h =
        let is : (y : ℕ) → Contains some y → contains (ended log) y ≡ true = λ y k. member_is (ended log) y (within y k) in
        let forward = (times (λ z. z) log sessions).forward in
        let r =
        ready_for (Comes runs) (λ y. contains (ended log) y ≡ true)
        (λ x y a b. elim (cases_Bool (comes_before x y)) [ inl t ↦ inl (comes_is x y a b t) | inr f ↦ inr (λ c. false≢true (sym f ∙ is_before forward x y c)) ])
        orderly some is s h in (
          r.ready,
          r.member,
          (λ y k. elim (cases_Bool (comes_before y r.ready)) [
            | inl t ↦ absurd (r.first y k (comes_is y r.ready (is y k) (is r.ready r.member) t))
            | inr f ↦ f
          ]),
        )

    -- it has all of them
    pub all_in : (x : ℕ) → Contains (ended log) x → Contains order x
    all_in x h =
        taken_whole (end_of log) comes_before (length (ended log)) (ended log) (omega arith)
        (λ n m a b e. (times (λ z. z) log sessions).one_end n m (member_is (ended log) n a) (member_is (ended log) m b) e)
        one_of x h

  -- and no others
  pub of_ended : (x : ℕ) → Contains order x → Contains (ended log) x
  of_ended x h = taken_is (end_of log) comes_before (length (ended log)) (ended log) x h
