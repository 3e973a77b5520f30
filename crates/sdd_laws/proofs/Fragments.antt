-- A database that has the values has in a fragment what a copy does to which those are applied that change the fragment.
use Rattle.sdd_laws.proofs.All.{ArePlaced, AreWriters, Catalogue, Change, ChangesOf, Contains, Database, Dated, Decides-eqb, HasValues, IsDatabase, IsSoundCatalogue, IsValue, Item, Ledger, List, Option, Row, Some, all_dated, ap, contents, entries_of, filtered_sorted, fragment_at, fragment_of, item_cmp, item_cmp_exact, item_cmp_total, row_at, rows_in_fragment, rules, subst, sym, writers, ℕ, ℤ, ◌==◌, ◌∙◌, ◌≡◌}
use Rattle.sdd_laws.proofs.CopyEntries.{entries_ascend}
use Rattle.sdd_laws.proofs.LookUps.{entry_at, at_entry, same_members}
use Rattle.sdd_laws.proofs.Members.{Contains-map, Contains-from_map, Contains-filter, Contains-from_filter}
use Rattle.sdd_laws.proofs.Origins.{origin, from_origin, all_placed, all_leave_one_row}
use Rattle.sdd_laws.proofs.Origins.Origin.{initial, made}
use Rattle.sdd_laws.proofs.Values.{one_value, same_value, fragment_is, contents_value, value_contents}

-- the relation of an item that has a row is that of its fragment
rel_is : (cat : Catalogue) (xs : Dated) (item : Item) (row : Row) → ArePlaced cat xs → IsValue cat xs item (Some row)
    → (fragment_at cat (fragment_of cat item.0 item.1)).rel.0 ≡ item.0
rel_is cat xs item row placed e = search rules

abbrev entry : Catalogue → ℕ → ℤ × Row → Item × Row
entry cat f e = (((fragment_at cat f).rel.0, e.0), e.1)

module _ {T : Type 0} (cat : Catalogue) (sound : IsSoundCatalogue cat) (first : Database) (is : IsDatabase cat first)
    (L : Ledger T) (commits : List T) (ok : AreWriters cat (writers L) commits) where
  abbrev pub Within : List T → Type 0
  Within txns = (t : T) → Contains txns t → Contains commits t

  abbrev all_of : List T → Dated
  all_of txns = all_dated cat first (writers L) txns

  -- those of the first that change the fragment are among the second
  abbrev pub AreAmong : ℕ → List T → List T → Type 0
  AreAmong f us vs = (t : T) → Contains us t → ChangesOf L t f → Contains vs t

  dated_among : (f : ℕ) (us vs : List T) → AreAmong f us vs → (x : ℕ × Change) → x.1.frag.0 ≡ f
      → Contains (all_of us) x → Contains (all_of vs) x
  dated_among f us vs among x e h =
      elim (origin cat first (writers L) us x h) [
        | initial d k same ↦ from_origin cat first (writers L) vs x (initial d k same)
        | made t k c m same ↦
            from_origin cat first (writers L) vs x
            (made t (among t k (c, m, ap (λ (z : ℕ × Change). z.1.frag.0) (sym same) ∙ e)) c m same)
      ]

  placed_of : (txns : List T) → Within txns → ArePlaced cat (all_of txns)
  placed_of txns within = all_placed cat first (writers L) sound is commits ok txns within

  moved : (f : ℕ) (us vs : List T) (item : Item) (v : Option Row) → Within us → Within vs
      → fragment_of cat item.0 item.1 ≡ f → AreAmong f us vs → AreAmong f vs us → IsValue cat (all_of us) item v
      → IsValue cat (all_of vs) item v
  moved f us vs item v wu wv holder go come =
      same_value cat (all_of us) (all_of vs) item v
      (λ x o h. dated_among f us vs go x (fragment_is cat (all_of us) item x (placed_of us wu) h o ∙ holder) h)
      (λ x o h. dated_among f vs us come x (fragment_is cat (all_of vs) item x (placed_of vs wv) h o ∙ holder) h)

  pub rows_agree : (done seen : List T) (db : Database) (f : ℕ) → Within done → Within seen
      → HasValues cat first L done db → AreAmong f done seen → AreAmong f seen done
      → rows_in_fragment cat db f ≡ entries_of cat f (contents f (all_of seen))
  rows_agree done seen db f wd ws has go come =
      same_members item_cmp item_cmp_total item_cmp_exact (rows_in_fragment cat db f)
      (entries_of cat f (contents f (all_of seen)))
      (filtered_sorted item_cmp (λ e. fragment_of cat e.0.0 e.0.1 == f) db has.is.ascends)
      (entries_ascend cat f (all_of seen)) forth back
    where
      forth : (e : Item × Row) → Contains (rows_in_fragment cat db f) e
          → Contains (entries_of cat f (contents f (all_of seen))) e
      forth e h =
          let k = Contains-from_filter (λ (e : Item × Row). fragment_of cat e.0.0 e.0.1 == f) db e h in
          let holder : fragment_of cat e.0.0 e.0.1 ≡ f = (Decides-eqb (fragment_of cat e.0.0 e.0.1) f).0 k.1 in
          let row : row_at db e.0 ≡ Some e.1 =
          at_entry item_cmp item_cmp_total item_cmp_exact db e.0 e.1 has.is.ascends k.0 in
          let v : IsValue cat (all_of seen) e.0 (Some e.1) =
          moved f done seen e.0 (Some e.1) wd ws holder go come
          (subst (IsValue cat (all_of done) e.0) row (has.value e.0)) in
          let there : Contains (contents f (all_of seen)) (e.0.1, e.1) =
          subst (λ z. Contains (contents z (all_of seen)) (e.0.1, e.1)) holder
          (value_contents cat (all_of seen) e.0 e.1 (placed_of seen ws)
          (all_leave_one_row cat first (writers L) sound is commits ok seen ws) v)
          in
          let rel : (fragment_at cat f).rel.0 ≡ e.0.0 =
          ap (λ z. (fragment_at cat z).rel.0) (sym holder) ∙ rel_is cat (all_of seen) e.0 e.1 (placed_of seen ws) v in
          subst (λ r. Contains (entries_of cat f (contents f (all_of seen))) ((r, e.0.1), e.1)) rel
          (Contains-map (entry cat f) (contents f (all_of seen)) (e.0.1, e.1) there)

      back : (e : Item × Row) → Contains (entries_of cat f (contents f (all_of seen))) e
          → Contains (rows_in_fragment cat db f) e
      back e h =
          let m = Contains-from_map (entry cat f) (contents f (all_of seen)) e h in
          let d : ℤ × Row = m.0 in
          let c = contents_value cat (all_of seen) f d.0 d.1 (placed_of seen ws) m.1 in
          let item : Item = ((fragment_at cat f).rel.0, d.0) in
          let v : IsValue cat (all_of done) item (Some d.1) =
          moved f seen done item (Some d.1) ws wd c.1 come go c.0 in
          let row : row_at db item ≡ Some d.1 =
          one_value cat (all_of done) item (row_at db item) (Some d.1)
          (all_leave_one_row cat first (writers L) sound is commits ok done wd) (has.value item) v in
          subst (Contains (rows_in_fragment cat db f)) (sym m.2)
          (Contains-filter (λ (e : Item × Row). fragment_of cat e.0.0 e.0.1 == f) db (item, d.1)
          (entry_at item_cmp item_cmp_total item_cmp_exact db item d.1 row)
          ((Decides-eqb (fragment_of cat item.0 item.1) f).1 c.1))
