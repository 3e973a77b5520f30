-- A pivot of a run is one of the test.
use Rattle.sdd_robust_laws.proofs.All.{Access, AreLinked, Bool, Catalogue, Change, Contains, Contains-map, Database, Effect, IsBeside, IsDangerous, IsDatabase, IsSnapshotRun, IsSoundCatalogue, IsWorkload, Item, List, Log, Txn, accesses, and_from, and_parts, ap, are_apart, are_of_one_row, arith, at_most, cases_Bool, changes_for, changes_with, columns_meet, conflict, contains, effect, ended, eq-eqb, eqb-true, false, false≢true, inl, inr, int_le, ints, is_one_key, item_of, le_true, list_all, list_any, map, meets, member_is, is_member, member_passes, or_cases, or_left, or_right, passes_member, reads_from, refl, rows_meet, subst, succeeds, sym, times, true, ℕ, ℤ, [], ◌&&◌, ◌==◌, ◌||◌, ◌∙◌, ◌∷◌, ◌≡◌, ◌≤ℤ◌}
use Rattle.sdd_robust_laws.specs.Shown.AreLinked.{further, itself}
use Rattle.sdd_robust_laws.proofs.Changed.{IsExplained, change_explained}
use Rattle.sdd_robust_laws.proofs.Covered.{covers}
use Rattle.sdd_robust_laws.proofs.Cycles.{AreBeside, Comes, HasPivot, Leads}
use Rattle.sdd_robust_laws.proofs.Cycles.Comes.{both_change, misses, sees}
use Rattle.sdd_robust_laws.proofs.Cycles.Leads.{ends_at, goes_on}
use Rattle.sdd_robust_laws.proofs.Order.{may_read, runs, touch}
use Rattle.sdd_robust_laws.proofs.Snapshots.{IsBased, databases, fits, held, sessions}
use Rattle.sdd_robust_laws.proofs.SureRows.{sure_changed}

-- accesses that have one item meet

pub covers_parts : (x : Access) (i : Item) → covers x i ≡ true → (x.rel.0 ≡ i.0) × (x.least ≤ℤ i.1) × (i.1 ≤ℤ x.greatest)
covers_parts x i e =
    let p = and_parts (x.rel.0 == i.0) _ e in
    let q = and_parts (int_le x.least i.1) (int_le i.1 x.greatest) p.1 in
    (eqb-true x.rel.0 i.0 p.0, at_most x.least i.1 q.0, at_most i.1 x.greatest q.1)

pub covers_meet : (x y : Access) (i : Item) → covers x i ≡ true → covers y i ≡ true → rows_meet x y ≡ true
covers_meet x y i e f =
    let a = covers_parts x i e in
    let b = covers_parts y i f in
    let one = a.1 in
    let two = a.2 in
    let three = b.1 in
    let four = b.2 in
    and_from (x.rel.0 == y.rel.0) _ (eq-eqb x.rel.0 y.rel.0 (a.0 ∙ sym b.0))
    (and_from (int_le x.least y.greatest) _ (le_true x.least y.greatest (omega (arith, ints))) (le_true y.least x.greatest (omega (arith, ints))))

-- what reads a column meets what may change it
cell_meet : (x y : Access) (i : Item) (k : ℕ) → covers x i ≡ true → x.column ≡ k → covers y i ≡ true → columns_meet k y.column ≡ true → meets x y ≡ true
cell_meet x y i k e same f meet =
    and_from (rows_meet x y) _ (covers_meet x y i e f) (subst (λ z. columns_meet z y.column ≡ true) (sym same) meet)

equal_keys : (a b : ℤ) → a ≤ℤ b → b ≤ℤ a → a ≡ b
equal_keys a b l m = omega (arith, ints)

same_item : (i j : Item) → i.0 ≡ j.0 → i.1 ≡ j.1 → i ≡ j
same_item i j e f = ap (λ (n : ℕ). (n, i.1)) e ∙ ap (λ (k : ℤ). (j.0, k)) f

-- items of one and the same row are one
one_item : (x y : Access) (i j : Item) → covers x i ≡ true → covers y j ≡ true → are_of_one_row x y ≡ true → i ≡ j
one_item x y i j e f one =
    let a = covers_parts x i e in
    let b = covers_parts y j f in
    let p = and_parts (rows_meet x y) _ one in
    let q = and_parts (x.rel.0 == y.rel.0) _ p.0 in
    let r = and_parts (int_le x.least y.greatest) (int_le y.least x.greatest) q.1 in
    let s = and_parts (is_one_key x.least x.greatest) (is_one_key y.least y.greatest) p.1 in
    let of_x = at_most x.greatest x.least (and_parts (int_le x.least x.greatest) (int_le x.greatest x.least) s.0).1 in
    let of_y = at_most y.greatest y.least (and_parts (int_le y.least y.greatest) (int_le y.greatest y.least) s.1).1 in
    let m = at_most x.least y.greatest r.0 in
    let n = at_most y.least x.greatest r.1 in
    let a1 = a.1 in
    let a2 = a.2 in
    let b1 = b.1 in
    let b2 = b.2 in
    same_item i j (sym a.0 ∙ eqb-true x.rel.0 y.rel.0 q.0 ∙ b.0) (equal_keys i.1 j.1 (omega (arith, ints)) (omega (arith, ints)))

pub all_pass : (p : ℕ → Bool) (xs : List ℕ) (n : ℕ) → list_all p xs ≡ true → contains xs n ≡ true → p n ≡ true
all_pass p [] n e h = absurd (false≢true h)
all_pass p (x ∷ xs) n e h =
    let both = and_parts (p x) (list_all p xs) e in
    elim (or_cases (x == n) (contains xs n) h) [
      | inl s ↦ subst (λ z. p z ≡ true) (eqb-true x n s) both.0
      | inr k ↦ all_pass p xs n both.1 k
    ]

module _ (cat : Catalogue) (sound : IsSoundCatalogue cat) (work : List Txn) (of : IsWorkload cat work) (first : Database) (first_is : IsDatabase cat first)
    (txns : ℕ → Txn) (in_work : (n : ℕ) → Contains work (txns n)) (effects : ℕ → Effect) (log : Log) (run : IsSnapshotRun cat txns first effects log) where
  abbrev acc : ℕ → List Access
  acc n = accesses cat work first (txns n)

  abbrev all : List (List Access)
  all = map (accesses cat work first) work

  abbrev Is : ℕ → Type 0
  Is n = contains (ended log) n ≡ true

  abbrev Changes : ℕ → Item → Type 0
  Changes n item = (c : Change) × Contains (effects n).changes c × (item_of cat c ≡ item)

  there : (n : ℕ) → Contains all (acc n)
  there n = Contains-map (accesses cat work first) work (txns n) (in_work n)

  based : (n : ℕ) → Is n → IsBased cat sound work of first first_is txns in_work effects n
  based n h =
      (databases cat sound work of first first_is txns in_work effects log run.in_turn run.sees).each n
      ((times (λ z. z) log (sessions log run.in_turn)).had_begun n h)

  -- what is changed lies in a changing access
  record IsIn (n : ℕ) (item : Item) : Type 0 where
    access : Access
    member : Contains (acc n) access
    changes : access.changes ≡ true
    covered : covers access item ≡ true

  change_in : (n : ℕ) → Is n → (item : Item) → Changes n item → IsIn n item
  change_in n h item c =
      let b = based n h in
      let x =
      (change_explained cat sound work first b.db b.is (txns n) (fits cat sound work of first first_is txns in_work effects n)
      (held cat sound work of first first_is txns in_work effects n) c.0 (subst (λ (e : Effect). Contains e.changes c.0) (sym b.effect_is) c.1)).touches in
      record { access = x.access; member = x.member; changes = x.changes; covered = subst (λ i. covers x.access i ≡ true) c.2 x.covered }

  -- an access that may change the column
  record IsTouched (n : ℕ) (cell : Item × ℕ) : Type 0 where
    access : Access
    member : Contains (acc n) access
    changes : access.changes ≡ true
    covered : covers access cell.0 ≡ true
    column : columns_meet cell.1 access.column ≡ true

  touch_in : (n : ℕ) (cell : Item × ℕ) → touch cat acc effects log n cell.0 cell.1 ≡ true → IsTouched n cell
  touch_in n cell e =
      let x = member_passes (λ (x : Access). x.changes && (covers x cell.0 && columns_meet cell.1 x.column)) (acc n) e in
      let p = and_parts (x.0).changes _ x.2 in
      let q = and_parts (covers x.0 cell.0) _ p.1 in
      record { access = x.0; member = x.1; changes = p.0; covered = q.0; column = q.1 }

  record IsRead (n : ℕ) (cell : Item × ℕ) : Type 0 where
    access : Access
    member : Contains (acc n) access
    reads : access.reads ≡ true
    covered : covers access cell.0 ≡ true
    column : access.column ≡ cell.1

  read_in : (n : ℕ) (cell : Item × ℕ) → may_read cat acc effects log n cell ≡ true → IsRead n cell
  read_in n cell e =
      let x = member_passes (λ (x : Access). x.reads && (covers x cell.0 && (x.column == cell.1))) (acc n) e in
      let p = and_parts (x.0).reads _ x.2 in
      let q = and_parts (covers x.0 cell.0) _ p.1 in
      record { access = x.0; member = x.1; reads = p.0; covered = q.0; column = eqb-true (x.0).column cell.1 q.1 }

  -- the sure row of a run that ended is changed
  record IsSure (n : ℕ) (x : Access) : Type 0 where
    changes : Changes n (x.rel.0, x.least)
    one : x.greatest ≤ℤ x.least

  sure_in : (n : ℕ) → Is n → (x : Access) → Contains (acc n) x → x.sure ≡ true → IsSure n x
  sure_in n h x k sure =
      let b = based n h in
      let done = all_pass (λ n. succeeds (effects n).reply) (ended log) n run.succeed h in
      let c =
      sure_changed cat sound work first b.db b.is b.has (txns n) (fits cat sound work of first first_is txns in_work effects n)
      (held cat sound work of first first_is txns in_work effects n) x k sure (subst (λ (e : Effect). succeeds e.reply ≡ true) (sym b.effect_is) done) in
      record { changes = (c.0, subst (λ (e : Effect). Contains e.changes c.0) b.effect_is c.1, c.2); one = c.3 }

  -- two sure accesses of one row are of one item, which both changed
  both_sure : (m n : ℕ) → Is m → Is n → AreBeside (runs cat acc effects log) m n → (x y : Access) → Contains (acc m) x → x.sure ≡ true
      → Contains (acc n) y → y.sure ≡ true → rows_meet x y ≡ true → ⊥
  both_sure m n a b none x y h p k q met =
      let of_x = sure_in m a x h p in
      let of_y = sure_in n b y k q in
      let one = of_x.one in
      let two = of_y.one in
      let r = and_parts (x.rel.0 == y.rel.0) _ met in
      let s = and_parts (int_le x.least y.greatest) (int_le y.least x.greatest) r.1 in
      let l = at_most x.least y.greatest s.0 in
      let g = at_most y.least x.greatest s.1 in
      let same : ◌≡◌ {A = Item} (y.rel.0, y.least) (x.rel.0, x.least) =
      same_item (y.rel.0, y.least) (x.rel.0, x.least) (sym (eqb-true x.rel.0 y.rel.0 r.0)) (equal_keys y.least x.least (omega (arith, ints)) (omega (arith, ints))) in
      none (x.rel.0, x.least) of_x.changes (subst (Changes n) same of_y.changes)

  -- two that changed no item both aren't apart
  not_apart : (m n : ℕ) → Is m → Is n → AreBeside (runs cat acc effects log) m n → are_apart (acc m) (acc n) ≡ false
  not_apart m n a b none =
      elim (cases_Bool (are_apart (acc m) (acc n))) [
        | inl t ↦
            let x = member_passes (λ (x : Access). x.sure && list_any (λ y. y.sure && rows_meet x y) (acc n)) (acc m) t in
            let p = and_parts (x.0).sure _ x.2 in
            let y = member_passes (λ (y : Access). y.sure && rows_meet x.0 y) (acc n) p.1 in
            let q = and_parts (y.0).sure (rows_meet x.0 y.0) y.2 in
            absurd (both_sure m n a b none x.0 y.0 x.1 p.0 y.1 q.0 q.1)
        | inr f ↦ f
      ]

  -- what has to come before conflicts
  conflicts : (m n : ℕ) → Comes (runs cat acc effects log) m n → conflict (acc m) (acc n) ≡ true
  conflicts m n (both_change i a b c d l) =
      let x = change_in m a i c in
      let y = change_in n b i d in
      passes_member (λ x. reads_from x (acc n) || (changes_for x (acc n) || changes_with x (acc n))) (acc m) x.access x.member
      (or_right _ _ (or_right _ _ (and_from x.access.changes _ x.changes
      (passes_member (λ (y : Access). y.changes && rows_meet x.access y) (acc n) y.access y.member
      (and_from y.access.changes _ y.changes (covers_meet x.access y.access i x.covered y.covered))))))
  conflicts m n (sees i a b c r l) =
      let x = touch_in m i c.1 in
      let y = read_in n i r in
      passes_member (λ x. reads_from x (acc n) || (changes_for x (acc n) || changes_with x (acc n))) (acc m) x.access x.member
      (or_right _ _ (or_left _ _ (and_from x.access.changes _ x.changes
      (passes_member (λ (y : Access). y.reads && meets y x.access) (acc n) y.access y.member
      (and_from y.access.reads _ y.reads (cell_meet y.access x.access i.0 i.1 y.covered y.column x.covered x.column))))))
  conflicts m n (misses i a b apart r d l) =
      let x = read_in m i r in
      let y = touch_in n i d.1 in
      passes_member (λ x. reads_from x (acc n) || (changes_for x (acc n) || changes_with x (acc n))) (acc m) x.access x.member
      (or_left _ _ (and_from x.access.reads _ x.reads
      (passes_member (λ (y : Access). y.changes && meets x.access y) (acc n) y.access y.member
      (and_from y.access.changes _ y.changes (cell_meet x.access y.access i.0 i.1 x.covered x.column y.covered y.column)))))

  beside : (b c : ℕ) → Is b → Is c → AreBeside (runs cat acc effects log) b c → IsBeside all (acc b) (acc c)
  beside b c is h none = record { there = there c; may_both = not_apart b c is h none }

  linked : (b c a : ℕ) → Is b → Leads (runs cat acc effects log) b c a → AreLinked all (acc b) (acc c) (acc a)
  linked b _ _ is (ends_at c h none) = itself (acc c) (beside b c is h none)
  linked b _ _ is (goes_on c d a h none step rest) =
      further (acc c) (acc d) (acc a) (beside b c is h none) (conflicts c d step) (linked b d a is rest)

  first_beside : (b c a : ℕ) → Leads (runs cat acc effects log) b c a → AreBeside (runs cat acc effects log) b c
  first_beside b _ _ (ends_at c h none) = none
  first_beside b _ _ (goes_on c d a h none step rest) = none

  missed_is : (b c a : ℕ) → Leads (runs cat acc effects log) b c a → Is c
  missed_is b _ _ (ends_at c h none) = h
  missed_is b _ _ (goes_on c d a h none step rest) = h

  pub dangerous : (p : HasPivot (runs cat acc effects log)) → IsDangerous all (acc p.pivot)
  dangerous p =
      let x = read_in p.pivot p.unread p.reads in
      let y = touch_in p.pivot p.cell p.touches.1 in
      let c = touch_in p.missed p.unread p.was_touched.1 in
      let a = read_in p.missing p.cell p.was_read in
      record {
        missed = acc p.missed;
        missing = acc p.missing;
        linked = linked p.pivot p.missed p.missing p.is p.leads;
        read = x.access;
        change = y.access;
        of_read = x.member;
        of_change = y.member;
        reads = and_from x.access.reads _ x.reads
            (passes_member (λ (y : Access). y.changes && meets x.access y) (acc p.missed) c.access c.member
            (and_from c.access.changes _ c.changes (cell_meet x.access c.access p.unread.0 p.unread.1 x.covered x.column c.covered c.column)));
        changes = and_from y.access.changes _ y.changes
            (passes_member (λ (x : Access). x.reads && meets x y.access) (acc p.missing) a.access a.member
            (and_from a.access.reads _ a.reads (cell_meet a.access y.access p.cell.0 p.cell.1 a.covered a.column y.covered y.column)));
        differ = elim (cases_Bool (are_of_one_row x.access y.access)) [
          | inl t ↦
              let same = one_item x.access y.access p.unread.0 p.cell.0 x.covered y.covered t in
              absurd (first_beside p.pivot p.missed p.missing p.leads p.unread.0 (subst (Changes p.pivot) (sym same) p.touches.0) p.was_touched.0)
          | inr f ↦ f
        ];
      }

  pub is_there : (n : ℕ) → Contains all (acc n)
  is_there n = there n
