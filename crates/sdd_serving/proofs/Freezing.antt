-- What the modules freeze are rows of the database, and each row that a use wants is frozen somewhere.
use Rattle.sdd_serving.proofs.All.{All-contains, Catalogue, Condition, Contains, Contains-filter, Contains-from_filter, Contains-from_map, Contains-map, Contains-nil, CopyRows, Database, Decides-eqb, Delete, FitsTxn, FragNo, Has, Has-append, Has-filter, Has-filter_from, Has-filter_map, Has-filter_map_from, Has-flat_map, Has-flat_map_from, Has-map, Has-map_from, HasCopies, IsEntry, IsHeldAt, IsRowOf, IsSoundCatalogue, Item, List, None, Put, Query, RelNo, Row, Some, Stmt, Txn, Update, Use, [], all_rows, allowed_keys, and_parts, ap, arith, chosen, cond, contains, entries_of, exact_signed, false, filter, flat_map, fold, frag_no, fragment_at, fragment_of, fragments_for, frozen_space, gathered_from, gathered_there, inl, inr, int_cmp, int_cmp_total, is_read_at, item_cmp, item_cmp_exact, item_cmp_total, key_column, length, list_all, map, meets, meets_keys, nat_tests, numbers_to, one_entry, part_uses, refl, restrictions_of, rows_for, rows_in_fragment, sorted_nil, statement_uses, subst, sym, true, use_of, use_there, uses_at, uses_from, uses_of, with_frags, with_keyed, ℕ, ℤ, ◌+◌, ◌==◌, ◌||◌, ◌∙◌, ◌∷◌, ◌≡◌}
use Rattle.sdd_serving.proofs.Enough.{Begins}
use Rattle.sdd_serving.proofs.Held.{has_row, row_there}
use Rattle.sdd_serving.proofs.Lies.{lies_in_fragment}
use Rattle.sdd_serving.proofs.Members.{to_has, of_has}
use Rattle.sdd_laws.specs.lang.Database as databases

-- the fragments of a use are of its relation

abbrev OfRelation : Catalogue → Use → Type 0
OfRelation cat u = (f : FragNo) → Has u.frags f → (fragment_at cat f.0).rel.0 ≡ u.rel.0

for_relation : (cat : Catalogue) (rel : ℕ) (u : Use) → u.frags ≡ fragments_for cat rel u.restrictions → u.rel.0 ≡ rel → OfRelation cat u
for_relation cat rel u e r f h = grind (arith, nat_tests, allowed_keys, key_column, Has-map_from, frag_no, meets_keys, numbers_to, Has-filter_from, and_parts, fragment_at)

part_of_relation : (cat : Catalogue) (before : ℕ) (conds : List Condition) (k : ℕ) (rels : List RelNo) (u : Use)
    → Has (part_uses cat before conds k rels) u → OfRelation cat u
part_of_relation cat before conds k [] u h = absurd h
part_of_relation cat before conds k (rel ∷ rels) u (inl same) =
    subst (OfRelation cat) same (for_relation cat rel.0 (use_of cat (before + k) rel (restrictions_of k conds)) refl refl)
part_of_relation cat before conds k (rel ∷ rels) u (inr there) = part_of_relation cat before conds (k + 1) rels u there

statement_of_relation : (cat : Catalogue) (before : ℕ) (s : Stmt) (u : Use) → Has (statement_uses cat before s) u → OfRelation cat u
statement_of_relation cat before (Put rel row) u h = absurd h
statement_of_relation cat before (Query out rels conds) u h = part_of_relation cat before conds 1 rels u h
statement_of_relation cat before (Update rel sets conds) u h = part_of_relation cat before conds 1 (rel ∷ []) u h
statement_of_relation cat before (Delete rel conds) u h = part_of_relation cat before conds 1 (rel ∷ []) u h

uses_of_relation : (cat : Catalogue) (before : ℕ) (statements : List Stmt) (u : Use) → Has (uses_from cat before statements) u → OfRelation cat u
uses_of_relation cat before [] u h = absurd h
uses_of_relation cat before (s ∷ rest) u h = grind (arith, Has-append, statement_uses, uses_from, statement_of_relation, (uses_of_relation cat (before + length (statement_uses cat before s)) rest u))

-- a use at a module

pub record IsThere (cat : Catalogue) (c d : ℕ) (u v : Use) : Type 0 where
  pub number : v.number ≡ u.number
  pub restrictions : v.restrictions ≡ u.restrictions
  pub from : (f : FragNo) → Has v.frags f → Has u.frags f × (is_read_at cat c d f.0 ≡ true)

pub there_is : (cat : Catalogue) (c d : ℕ) (u v : Use) → use_there cat c d u ≡ Some v → IsThere cat c d u v
there_is cat c d u v e =
    by (filter (λ f. is_read_at cat c d f.0) u.frags) (λ f h. Has-filter_from (λ f. is_read_at cat c d f.0) u.frags f h) e
  where
    by : (fs : List FragNo) → ((f : FragNo) → Has fs f → Has u.frags f × (is_read_at cat c d f.0 ≡ true)) → with_frags u fs ≡ Some v → IsThere cat c d u v
    by [] h e = cc
    by (f ∷ fs) h e =
        let same : ◌≡◌ {A = Use} (record u { frags = f ∷ fs }) v = cc in
        subst (λ z. IsThere cat c d u z) same (record { number = refl; restrictions = refl; from = h })

pub is_there : (cat : Catalogue) (c d : ℕ) (u : Use) (f : FragNo) → Has u.frags f → is_read_at cat c d f.0 ≡ true
    → (v : Use) × (use_there cat c d u ≡ Some v) × Has v.frags f
is_there cat c d u f h t =
    by (filter (λ f. is_read_at cat c d f.0) u.frags) (Has-filter (λ f. is_read_at cat c d f.0) u.frags f h t)
  where
    by : (fs : List FragNo) → Has fs f → (v : Use) × (with_frags u fs ≡ Some v) × Has v.frags f
    by [] h = absurd h
    by (g ∷ fs) h = (record u { frags = g ∷ fs }, refl, h)

-- a number among fragments
among : (fs : List FragNo) (n : ℕ) → contains (map (λ f. f.0) fs) n ≡ true → (f : FragNo) × Has fs f × (f.0 ≡ n)
among [] n h = absurd cc
among (f ∷ fs) n h =
    elim (f.0 == n) as (λ b. (f.0 == n) ≡ b → (b || contains (map (λ f. f.0) fs) n) ≡ true → (g : FragNo) × Has (f ∷ fs) g × (g.0 ≡ n)) [
      | true ↦ λ e k. (f, inl refl, (Decides-eqb f.0 n).0 e)
      | false ↦ λ e k. let r = among fs n k in (r.0, inr r.1, r.2)
    ] refl h

-- rows of a relation

entry_of : (db : Database) (rel : ℕ) (row : Row) → Has (databases.rows_of db rel) row → (e : Item × Row) × Contains db e × (e.0.0 ≡ rel) × (e.1 ≡ row)
entry_of db rel row h = grind (arith, nat_tests, Has-filter_map_from, of_has)

row_of : (db : Database) (rel : ℕ) (e : Item × Row) → Contains db e → e.0.0 ≡ rel → Has (databases.rows_of db rel) e.1
row_of db rel e h r =
    let t : (e.0.0 == rel) ≡ true = (Decides-eqb e.0.0 rel).1 r in
    Has-filter_map (λ (e : Item × Row). cond (e.0.0 == rel) (Some e.1) None) db e e.1 (to_has db e h) (ap (λ b. cond b (Some e.1) None) t)

abbrev entry : Catalogue → ℕ → ℤ × Row → Item × Row
entry cat f e = (((fragment_at cat f).rel.0, e.0), e.1)

module _ (cat : Catalogue) (sound : IsSoundCatalogue cat) (c : ℕ) (txn : Txn) (fits : FitsTxn cat txn) (dms : List ℕ)
    (copies : ℕ → CopyRows) (db : Database) (ok : HasCopies cat c txn dms copies db) where
  -- a row of a copy is one of the database
  copied : (d f : ℕ) (e : ℤ × Row) → rows_in_fragment cat db f ≡ entries_of cat f (copies d f) → Contains (copies d f) e → Contains db (entry cat f e)
  copied d f e t h =
      (Contains-from_filter (λ (e : Item × Row). fragment_of cat e.0.0 e.0.1 == f) db (entry cat f e)
      (subst (λ z. Contains z (entry cat f e)) (sym t) (Contains-map (entry cat f) (copies d f) e h))).0

  -- and a row of the database is in the copy of its fragment
  in_copy : (d f : ℕ) (e : Item × Row) → rows_in_fragment cat db f ≡ entries_of cat f (copies d f) → Contains db e
      → fragment_of cat e.0.0 e.0.1 ≡ f → Contains (copies d f) (e.0.1, e.1)
  in_copy d f e t h at =
      let there : Contains (rows_in_fragment cat db f) e = grind (arith, nat_tests, Contains-filter, fragment_of) in
      let m = Contains-from_map (entry cat f) (copies d f) e (subst (λ z. Contains z e) t there) in
      subst (Contains (copies d f)) (ap (λ (z : Item × Row). (z.0.1, z.1)) (sym m.2)) m.1

  -- the rows that a module chooses for a use, with their keys
  abbrev found : ℕ → Use → List (ℤ × Row)
  found d v = flat_map (λ f. chosen v.restrictions (copies d f.0)) v.frags

  -- each is one of the database, of the use's relation, and meets its restrictions
  of_use : (d : ℕ) (u v : Use) (e : ℤ × Row) → Has (uses_of cat txn) u → IsThere cat c d u v → Contains (found d v) e
      → Contains {X = Item × Row} db ((u.rel.0, e.0), e.1) × (list_all (meets e.1) v.restrictions ≡ true)
  of_use d u v e h is k =
      let m =
      Has-flat_map_from (λ (f : FragNo). chosen v.restrictions (copies d f.0)) v.frags e (to_has (found d v) e k) in
      let f : FragNo = m.0 in
      let from = is.from f m.1 in
      let met = Has-filter_from (λ (e : ℤ × Row). list_all (meets e.1) v.restrictions) (copies d f.0) e m.2 in (
        subst (λ r. Contains {X = Item × Row} db ((r, e.0), e.1)) (uses_of_relation cat 0 txn.statements u h f from.0)
            (copied d f.0 e (ok.rows d u f h from.0 from.1) (of_has (copies d f.0) e met.0)),
        met.1,
      )

  one_row : (d : ℕ) (u v : Use) (e x : ℤ × Row) → Has (uses_of cat txn) u → IsThere cat c d u v
      → Contains (found d v) e → Contains (found d v) x → x.0 ≡ e.0 → x ≡ e
  one_row d u v e x h is i k same =
      let rows : x.1 ≡ e.1 =
      one_entry item_cmp item_cmp_total item_cmp_exact db (u.rel.0, e.0) x.1 e.1 ok.is.ascends
      (subst (λ z. Contains {X = Item × Row} db ((u.rel.0, z), x.1)) same (of_use d u v x h is k).0) (of_use d u v e h is i).0 in
      ap (λ z. (z, x.1)) same ∙ ap (λ z. (e.0, z)) rows

  first_of : (ts d n : ℕ) (row : Row) → Has (all_rows (frozen_space cat c txn ts copies d)) (n, row)
      → (u : Use) × Has (uses_of cat txn) u × (u.number ≡ n) × IsRowOf db u.rel.0 u.restrictions row
  first_of ts d n row h =
      let k = has_row (frozen_space cat c txn ts copies d) n row h in
      let w = Has-map_from (λ (u : Use). (u.number, rows_for (copies d) u)) (uses_at cat c txn d) k.entry k.there in
      let v : Use = w.0 in
      let p = Has-filter_map_from (use_there cat c d) (uses_of cat txn) v w.1 in
      let u : Use = p.0 in
      let is : IsThere cat c d u v = there_is cat c d u v p.2 in
      let q =
      Has-map_from (λ (e : ℤ × Row). e.1) (fold with_keyed [] (found d v)) row (subst (λ (z : ℕ × List Row). Has z.1 row) (sym w.2) k.has) in
      let e : ℤ × Row = q.0 in
      let there : Contains (found d v) e =
      elim (gathered_from int_cmp int_cmp_total exact_signed [] (found d v) e (sorted_nil int_cmp)
      (of_has (fold with_keyed [] (found d v)) e q.1)) [ inl nothing ↦ absurd (Contains-nil e nothing) | inr t ↦ t ] in
      let o = of_use d u v e p.1 is there in
      grind (arith, nat_tests, row_of, list_all, meets)

  -- an entry that a use wants is chosen for it at the module where its fragment is read
  in_found : (d : ℕ) (u v : Use) (f : FragNo) (e : Item × Row) → Has (uses_of cat txn) u → IsThere cat c d u v
      → Has u.frags f → is_read_at cat c d f.0 ≡ true → Has v.frags f → Contains db e → fragment_of cat e.0.0 e.0.1 ≡ f.0
      → list_all (meets e.1) u.restrictions ≡ true → Contains (found d v) (e.0.1, e.1)
  in_found d u v f e h is of t k there at met =
      let x : ℤ × Row = (e.0.1, e.1) in
      let passes : list_all (meets e.1) v.restrictions ≡ true = ap (list_all (meets e.1)) is.restrictions ∙ met in
      let here : Has (chosen v.restrictions (copies d f.0)) x = grind (arith, nat_tests, Has-filter, list_all, meets, to_has, in_copy) in
      of_has (found d v) x (Has-flat_map (λ (f : FragNo). chosen v.restrictions (copies d f.0)) v.frags f x k here)

  -- and what is chosen for a use is frozen
  chosen_frozen : (ts d : ℕ) (u v : Use) (e : ℤ × Row) → Has (uses_of cat txn) u → use_there cat c d u ≡ Some v → IsThere cat c d u v → Contains (found d v) e
      → Has (all_rows (frozen_space cat c txn ts copies d)) (u.number, e.1)
  chosen_frozen ts d u v e h w is k =
      let folded : Contains (fold with_keyed [] (found d v)) e =
      gathered_there int_cmp int_cmp_total exact_signed [] (found d v) e (sorted_nil int_cmp) (λ y i same. one_row d u v e y h is k i same) k in
      row_there (frozen_space cat c txn ts copies d) u.number e.1
      (record {
        entry = (v.number, rows_for (copies d) v);
        there = Has-map (λ (u : Use). (u.number, rows_for (copies d) u)) (uses_at cat c txn d) v (Has-filter_map (use_there cat c d) (uses_of cat txn) u v h w);
        number = is.number;
        has = Has-map (λ (e : ℤ × Row). e.1) (fold with_keyed [] (found d v)) e (to_has (fold with_keyed [] (found d v)) e folded);
      })

  entry_there : (ts : ℕ) (u : Use) → Has (uses_of cat txn) u → (e : Item × Row) → Contains db e → e.0.0 ≡ u.rel.0
      → list_all (meets e.1) u.restrictions ≡ true → IsHeldAt dms (frozen_space cat c txn ts copies) u.number e.1
  entry_there ts u h e there rel met =
      let a =
      among u.frags (fragment_of cat e.0.0 e.0.1)
      (lies_in_fragment cat sound e (All-contains (IsEntry cat) db e ok.is.entries there) txn fits u h rel met) in
      let p = ok.place u a.0 h a.1 in
      let w = is_there cat c p.0 u a.0 a.1 p.2 in
      let is : IsThere cat c p.0 u w.0 = there_is cat c p.0 u w.0 w.1 in
      record
      { at = p.0; there = p.1; held = chosen_frozen ts p.0 u w.0 (e.0.1, e.1) h w.1 is (in_found p.0 u w.0 a.0 e h is a.1 p.2 w.2 there (sym a.2) met) }

  first_there : (ts : ℕ) (u : Use) → Has (uses_of cat txn) u → (row : Row) → IsRowOf db u.rel.0 u.restrictions row
      → IsHeldAt dms (frozen_space cat c txn ts copies) u.number row
  first_there ts u h row r = grind (arith, nat_tests, entry_of, frozen_space, entry_there, list_all, meets)

  -- what is frozen is a beginning
  pub begins : (ts : ℕ) → Begins cat txn db dms (frozen_space cat c txn ts copies)
  begins ts = record { of = first_of ts; there = first_there ts }
