-- A module to which nothing was handed represents the empty log.
use Rattle.sdd_dm.proofs.All.{All-contains, Catalogue, Contains, Contains-cases, Contains-nil, D, Database, DatesDiffer, DmNo, IsDatabase, IsDistinct, IsDistinct-from_sorted, IsDistinct-head, IsDistinct-tail, IsEntry, IsSoundCatalogue, IsTrue, Item, List, None, RelNo, Represent, Row, Setting, Shows, State, [], ap, append-nil, arith, classes_of, database_of, dated, empty_digest, empty_pipe, eq_by_cmp, false, first_none, first_row, first_rows, first_step, flat_map, fragment_at, fragment_holds, fragment_of, frozen, has_copy, home_of, inl, inr, is_empty_digest, is_here, item_cmp, key_in_range, keys_of, length, length-replicate, map, nat_tests, refl, replicate, slice_index_or, subst, suc, sym, true, waits, ℕ, ◌++◌, ◌+◌, ◌∙◌, ◌∷◌, ◌≡◌}
use Rattle.sdd_dm.proofs.Dates.{from_map, each_map, own_item}

-- lists of one thing
at_replicate : {A : Type 0} (n c : ℕ) (x : A) → slice_index_or (replicate n x) c x ≡ x
at_replicate (suc n) (suc c) x = at_replicate n c x
at_replicate _ _ x = refl

pub flat_none : {A B : Type 0} (xs : List A) → flat_map {A = B} (λ x. []) xs ≡ []
flat_none [] = refl
flat_none (x ∷ xs) = flat_none xs

-- of the entries of a database one has each item

same_item : (x y : Item) → x ≡ y → eq_by_cmp item_cmp x y ≡ true
same_item x y e = rw e (own_item y.0 y.1)

one_entry : (db : Database) (x y : Item × Row) → IsDistinct (eq_by_cmp item_cmp) (keys_of db) → Contains db x → Contains db y → x.0 ≡ y.0 → x ≡ y
one_entry [] x y d i j e = absurd (Contains-nil x i)
one_entry (z ∷ db) x y d i j e =
    let apart = IsDistinct-head (eq_by_cmp item_cmp) z.0 (keys_of db) d in
    elim (Contains-cases z db x i) as (λ _. x ≡ y) [
      | inl a ↦ elim (Contains-cases z db y j) as (λ _. x ≡ y) [
        | inl b ↦ a ∙ sym b
        | inr b ↦ absurd (let yes = same_item z.0 y.0 (ap (λ w. w.0) (sym a) ∙ e) in absurd cc (each_map (λ j. eq_by_cmp item_cmp z.0 j ≡ false) (λ x. x.0) db y apart b))
      ]
      | inr a ↦ elim (Contains-cases z db y j) as (λ _. x ≡ y) [
        | inl b ↦ absurd (let yes = same_item z.0 x.0 (ap (λ w. w.0) (sym b) ∙ sym e) in absurd cc (each_map (λ j. eq_by_cmp item_cmp z.0 j ≡ false) (λ x. x.0) db x apart a))
        | inr b ↦ one_entry db x y (IsDistinct-tail (eq_by_cmp item_cmp) z.0 (keys_of db) d) a b e
      ]
    ]

-- the rows with which a module begins are of different items

first_differ : (cat : Catalogue) (db : Database) → IsSoundCatalogue cat → IsDatabase cat db → DatesDiffer (map (first_row cat) db)
first_differ cat db sound is = λ x y i j frag key time.
    let p = from_map (first_row cat) db x i in
    let q = from_map (first_row cat) db y j in
    let f : fragment_of cat p.0.0.0 p.0.0.1 ≡ fragment_of cat q.0.0.0 q.0.0.1 = ap (λ c. c.1.frag.0) (sym p.2) ∙ frag ∙ ap (λ c. c.1.frag.0) q.2 in
    let rel : p.0.0.0 ≡ q.0.0.0 =
    sym ((fragment_holds cat sound p.0.0.0 p.0.0.1 (All-contains (IsEntry cat) db p.0 is.entries p.1).relation.0
    (All-contains (IsEntry cat) db p.0 is.entries p.1).relation.1
    (key_in_range p.0.0.1 (All-contains (IsEntry cat) db p.0 is.entries p.1).key_held)).there.rel_is)
    ∙ ap (λ n. (fragment_at cat n).rel.0) f
    ∙ ((fragment_holds cat sound q.0.0.0 q.0.0.1 (All-contains (IsEntry cat) db q.0 is.entries q.1).relation.0
    (All-contains (IsEntry cat) db q.0 is.entries q.1).relation.1
    (key_in_range q.0.0.1 (All-contains (IsEntry cat) db q.0 is.entries q.1).key_held)).there.rel_is) in
    let item : p.0.0 ≡ q.0.0 = ap (λ r. (r, p.0.0.1)) rel ∙ ap (λ n. (q.0.0.0, n)) (ap (λ c. c.1.key) (sym p.2) ∙ key ∙ ap (λ c. c.1.key) q.2) in
    let same : p.0 ≡ q.0 = one_entry db p.0 q.0 (IsDistinct-from_sorted item_cmp (keys_of db) is.ascends) p.1 q.1 item in
    p.2 ∙ ap (first_row cat) same ∙ sym q.2

-- nothing is in the pipes

abbrev setting_of : Catalogue → DmNo → List (RelNo × Row) → Setting
setting_of cat dm rows = record { catalogue = cat; site = D dm; rows = rows }

pub first_shown : (cat : Catalogue) (dm : DmNo) (rows : List (RelNo × Row)) (n : ℕ) (st : State) → IsSoundCatalogue cat → IsDatabase cat (database_of cat rows)
    → n ≡ length cat.classes + 1
    → st.home ≡ home_of (setting_of cat dm rows) → st.pipes ≡ replicate n empty_digest → st.waits ≡ replicate n false
    → st.frozen ≡ replicate n None
    → IsTrue st.pipes_live → IsTrue st.copies.live → Represent st.copies.value (map (first_row cat) (database_of cat rows))
    → ((f : ℕ) → has_copy cat dm.0 f ≡ true → is_here st.copies.value f ≡ true) → Shows (setting_of cat dm rows) st []
first_shown cat dm rows n st sound is many home pipes waits frozen pipes_live live represent here =
    let s : Setting = setting_of cat dm rows in
    let all : dated s [] ≡ first_rows s = ap (λ xs. first_rows s ++ xs) (flat_none (classes_of s)) ∙ append-nil (first_rows s) in
    record {
      home = home;
      pipes = ap length pipes ∙ length-replicate n empty_digest ∙ many ∙ omega arith;
      waits = ap length waits ∙ length-replicate n false ∙ many ∙ omega arith;
      frozen = ap length frozen ∙ length-replicate n None ∙ many ∙ omega arith;
      classes = grind (arith, nat_tests, empty_pipe, slice_index_or, empty_digest, at_replicate, is_empty_digest);
      answered = refl;
      pipes_live = pipes_live;
      live = live;
      copies = subst (Represent st.copies.value) (sym all) represent;
      here = here;
      dates = subst DatesDiffer (sym (append-nil (first_rows s))) (first_differ cat (database_of cat rows) sound is);
      reads = tt;
    }

pub first_quiet : (st : State) (n : ℕ) → st.pipes ≡ replicate n empty_digest → st.waits ≡ replicate n false → first_step st.pipes st.waits ≡ None
first_quiet st n pipes waits = grind (arith, first_none, at_replicate)
