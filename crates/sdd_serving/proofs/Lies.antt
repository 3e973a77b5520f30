-- An entry that meets the restrictions of a use lies in one of its fragments.
use Rattle.sdd_serving.proofs.All.{AllByRecursion, Catalogue, Condition, Decides-eqb, Delete, FitsCondition, FitsStatement, FitsTxn, Has, IsEntry, IsRelation, IsSoundCatalogue, Item, List, Put, Query, RelNo, Row, Stmt, Txn, Update, Use, [], ap, arith, contains, fragment_of, get_or_default, inl, inr, length, lies_in_use, list_all, map, meets, nat_tests, part_uses, recursion_from_All, rel, rel_of, slice_index_or as get_or, statement_uses, subst, suc, true, uses_from, uses_in, uses_of, ℕ, ◌+◌, ◌-◌, ◌<◌, ◌∷◌, ◌≡◌}
use Rattle.sdd_serving.proofs.Uses.{uses_split}

module _ (cat : Catalogue) (sound : IsSoundCatalogue cat) (e : Item × Row) (entry : IsEntry cat e) where
  abbrev pub Lies : Use → Type 0
  Lies u = e.0.0 ≡ u.rel.0 → list_all (meets e.1) u.restrictions ≡ true → contains (map (λ f. f.0) u.frags) (fragment_of cat e.0.0 e.0.1) ≡ true

  part_lies : (all : List RelNo) (conds : List Condition) → AllByRecursion (FitsCondition cat all) conds → (before part : ℕ) (rels : List RelNo)
      → ((n : ℕ) (d : RelNo) → n < length rels → rel_of all (part + n) ≡ (get_or rels n d).0)
      → AllByRecursion (λ (rel : RelNo). IsRelation cat rel.0) rels → (u : Use) → Has
      (part_uses cat before conds part rels) u → Lies u
  part_lies all conds fits before part [] named there u h = absurd h
  part_lies all conds fits before part (rel ∷ rels) named there u (inl same) =
      let of : rel_of all part ≡ rel.0 = subst (λ p. rel_of all p ≡ rel.0) (omega arith) (named 0 rel (omega arith)) in
      subst Lies same
      (λ is met.
      lies_in_use cat sound all part conds rel.0 of there.0 fits e entry ((Decides-eqb e.0.0 rel.0).1 is) met)
  part_lies all conds fits before part (rel ∷ rels) named there u (inr k) = grind (arith, nat_tests, rel_of, get_or, (part_lies all conds fits before (part + 1) rels (λ n d within. let e : part + suc n ≡ part + 1 + n = omega arith in subst (λ p. rel_of all p ≡ (get_or rels n d).0) e (named (suc n) d (omega arith))) there.1 u k))

  numbered : (rels : List RelNo) (n : ℕ) (d : RelNo) → n < length rels → rel_of rels (1 + n) ≡ (get_or rels n d).0
  numbered rels n d within =
      let e : n ≡ 1 + n - 1 = omega arith in
      ap (λ (r : RelNo). r.0) (subst (λ k. get_or rels k (record { 0 = 0 }) ≡ get_or rels n d) e (get_or_default rels n (record { 0 = 0 }) d within))

  statement_lies : (before : ℕ) (s : Stmt) → FitsStatement cat s → (u : Use) → Has (statement_uses cat before s) u → Lies u
  statement_lies before (Put rel row) fits u h = absurd h
  statement_lies before (Query out rels conds) fits u h =
      part_lies rels conds (recursion_from_All (FitsCondition cat rels) conds fits.4.1) before 1 rels (numbered rels)
      (recursion_from_All (λ (rel : RelNo). IsRelation cat rel.0) rels fits.1) u h
  statement_lies before (Update rel sets conds) fits u h =
      part_lies (rel ∷ []) conds (recursion_from_All (FitsCondition cat (rel ∷ [])) conds fits.3.1) before 1
      (rel ∷ []) (numbered (rel ∷ [])) (fits.0, tt) u h
  statement_lies before (Delete rel conds) fits u h =
      part_lies (rel ∷ []) conds (recursion_from_All (FitsCondition cat (rel ∷ [])) conds fits.1.1) before 1
      (rel ∷ []) (numbered (rel ∷ [])) (fits.0, tt) u h

  statements_lie : (before : ℕ) (statements : List Stmt) → AllByRecursion (FitsStatement cat) statements → (u : Use)
      → Has (uses_from cat before statements) u → Lies u
  statements_lie before [] fits u h = absurd h
  statements_lie before (s ∷ rest) fits u h = grind (arith, uses_split, statement_lies, uses_in, (statements_lie (before + uses_in s) rest fits.1 u))

  pub lies_in_fragment : (txn : Txn) → FitsTxn cat txn → (u : Use) → Has (uses_of cat txn) u → Lies u
  lies_in_fragment txn fits u h = statements_lie 0 txn.statements (recursion_from_All (FitsStatement cat) txn.statements fits.statements) u h
