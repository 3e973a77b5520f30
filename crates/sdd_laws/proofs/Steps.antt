-- The values of the items before the first transaction, and with one more.
use Rattle.sdd_laws.proofs.All.{AreWriters, Catalogue, Change, Contains, Contains-cases, Contains-here, Contains-later, Contains-nil, Database, HasValues, IsDatabase, IsSoundCatalogue, IsValue, Item, Ledger, List, MayComeFirst, None, Option, Row, Some, Writes, [], after_changes, all_dated, ap, arith, both_write, first_row, fragment_of, inl, inr, item_cmp, item_cmp_exact, item_cmp_total, item_of, nat_tests, refl, row_at, rules, subst, sym, time_at, untouched, writers, written, ℕ, ◌<◌, ◌∙◌, ◌∷◌, ◌≡◌, ◌≤◌, ◌⊎◌}
use Rattle.sdd_laws.proofs.LookUps.{entry_at, at_entry}
use Rattle.sdd_laws.proofs.Origins.{Origin, origin, from_origin, first_item, more_origins}
use Rattle.sdd_laws.proofs.Origins.Origin.{initial, made}
use Rattle.sdd_laws.proofs.Values.{same_value}
use Rattle.sdd_laws.proofs.Changes.{Untouched, some_change, untouched_at, changed_at}
use Rattle.sdd_laws.specs.Ledger.{changes}

-- two that change one item stand in the order of their timestamps
pub written_in_order : {T : Type 0} (cat : Catalogue) (L : Ledger T) (x y : T) (c d : Change)
    → MayComeFirst cat L x y → Contains (changes L x) c → Contains (changes L y) d → c.frag.0 ≡ d.frag.0
    → L.ts x < L.ts y
written_in_order cat L x y c d may h k e = grind (arith, nat_tests, may (Writes (time_at (L.ts x)) (time_at (L.ts y))) (both_write c d h k e))

module _ {T : Type 0} (cat : Catalogue) (sound : IsSoundCatalogue cat) (first : Database) (is : IsDatabase cat first) (L : Ledger T) where
  abbrev all_of : List T → List (ℕ × Change)
  all_of txns = all_dated cat first (writers L) txns

  pub at_start : HasValues cat first L [] first
  at_start = record { is = is; value = λ item. by item (row_at first item) refl }
    where
      newest : (y : ℕ × Change) → Origin cat first (writers L) [] y → y.0 ≤ 0
      newest y (initial d k same) = let zero_is : y.0 ≡ 0 = ap (λ (z : ℕ × Change). z.0) same in omega arith
      newest y (made t k c m same) = absurd (Contains-nil t k)

      none : (item : Item) → row_at first item ≡ None → (x : ℕ × Change) → Origin cat first (writers L) [] x
          → item_of cat x.1 ≡ item → ⊥
      none item gone x (initial d k same) of =
          let at : d.0 ≡ item =
          sym (first_item cat first (writers L) sound is d k) ∙ ap (λ (z : ℕ × Change). item_of cat z.1) (sym same)
          ∙ of in
          let there : row_at first d.0 ≡ Some d.1 =
          at_entry item_cmp item_cmp_total item_cmp_exact first d.0 d.1 is.ascends k in
          let here : row_at first item ≡ Some d.1 = subst (λ i. row_at first i ≡ Some d.1) at there in
          cc
      none item gone x (made t k c m same) of = absurd (Contains-nil t k)

      by : (item : Item) (o : Option Row) → row_at first item ≡ o → IsValue cat (all_of []) item o
      by item None e = untouched (λ x h of. none item e x (origin cat first (writers L) [] x h) of) refl
      by item (Some row) e =
          let h : Contains first (item, row) = entry_at item_cmp item_cmp_total item_cmp_exact first item row e in
          written (first_row cat (item, row))
          (record {
            there = from_origin cat first (writers L) [] (first_row cat (item, row)) (initial (item, row) h refl);
            of = first_item cat first (writers L) sound is (item, row) h;
            newest = λ y k o. newest y (origin cat first (writers L) [] y k);
          })
          refl

  module _ (commits : List T) (ok : AreWriters cat (writers L) commits) (done : List T) (x : T)
      (within : (t : T) → Contains (x ∷ done) t → Contains commits t)
      (before : (z : T) → Contains done z → MayComeFirst cat L z x) where
    x_there : Contains commits x
    x_there = within x (Contains-here x done)

    sub : (y : ℕ × Change) → Contains (all_of done) y → Contains (all_of (x ∷ done)) y
    sub y h = search (rules, from_origin, more_origins, Contains-later, origin)

    own_in : (c : Change) → Contains (changes L x) c → Contains (all_of (x ∷ done)) (L.ts x, c)
    own_in c h = from_origin cat first (writers L) (x ∷ done) (L.ts x, c) (made x (Contains-here x done) c h refl)

    split : (y : ℕ × Change) → Contains (all_of (x ∷ done)) y
        → Contains (all_of done) y ⊎ ((c : Change) × Contains (changes L x) c × (y ≡ (L.ts x, c)))
    split y h =
        elim (origin cat first (writers L) (x ∷ done) y h) [
          | initial e k same ↦ inl (from_origin cat first (writers L) done y (initial e k same))
          | made t k c m same ↦ elim (Contains-cases x done t k) [
            | inl here ↦ inr (c, subst (λ z. Contains (changes L z) c) here m, same ∙ ap (λ z. (L.ts z, c)) here)
            | inr there ↦ inl (from_origin cat first (writers L) done y (made t there c m same))
          ]
        ]

    -- what stood before has an earlier date
    earlier : (y : ℕ × Change) (c : Change) → Contains (changes L x) c → item_of cat y.1 ≡ item_of cat c
        → Contains (all_of done) y → y.0 < L.ts x
    earlier y c k o h =
        elim (origin cat first (writers L) done y h) [
          | initial e there same ↦ grind (arith, nat_tests, x_there)
          | made t there d m same ↦
              let items : item_of cat d ≡ item_of cat c = ap (λ (z : ℕ × Change). item_of cat z.1) (sym same) ∙ o in
              let frags : d.frag.0 ≡ c.frag.0 =
              sym (ok.placed t (within t (Contains-later x done t there)) d m)
              ∙ ap (λ (i : Item). fragment_of cat i.0 i.1) items ∙ ok.placed x x_there c k in
              let less : L.ts t < L.ts x = written_in_order cat L t x d c (before t there) m k frags in
              let date : y.0 ≡ L.ts t = ap (λ (z : ℕ × Change). z.0) same in
              omega (arith, less)
        ]

    back : (item : Item) → Untouched cat (changes L x) item → (y : ℕ × Change) → item_of cat y.1 ≡ item
        → Contains (all_of (x ∷ done)) y → Contains (all_of done) y
    back item un y o h =
        elim (split y h) [ inl old ↦ old | inr new ↦ absurd (un new.0 new.1 (ap (λ (z : ℕ × Change). item_of cat z.1) (sym new.2) ∙ o)) ]

    -- and the database has the values with it too
    pub one_more : (db : Database) → HasValues cat first L done db → IsDatabase cat (after_changes cat db (changes L x))
        → HasValues cat first L (x ∷ done) (after_changes cat db (changes L x))
    one_more db has after = record { is = after; value = λ item. value item (some_change cat (changes L x) item) }
      where
        here : (item : Item) (c : Change) → Contains (changes L x) c → item_of cat c ≡ item → (y : ℕ × Change)
            → Contains (all_of (x ∷ done)) y → item_of cat y.1 ≡ item → y.0 ≤ L.ts x
        here item c h of y k o =
            elim (split y k) [
              | inl old ↦ let l = earlier y c h (o ∙ sym of) old in omega (arith, l)
              | inr new ↦ let d : y.0 ≡ L.ts x = ap (λ (z : ℕ × Change). z.0) new.2 in omega arith
            ]

        value : (item : Item)
            → ((c : Change) × Contains (changes L x) c × (item_of cat c ≡ item)) ⊎ Untouched cat (changes L x) item
            → IsValue cat (all_of (x ∷ done)) item (row_at (after_changes cat db (changes L x)) item)
        value item (inl m) =
            written (L.ts x, m.0) (record { there = own_in m.0 m.1; of = m.2; newest = here item m.0 m.1 m.2 })
            (sym (changed_at cat db (changes L x) m.0 has.is.ascends (ok.once x x_there) m.1)
            ∙ ap (row_at (after_changes cat db (changes L x))) m.2)
        value item (inr un) =
            subst (IsValue cat (all_of (x ∷ done)) item)
            (sym (untouched_at cat db (changes L x) item has.is.ascends un))
            (same_value cat (all_of done) (all_of (x ∷ done)) item (row_at db item) (λ y o h. sub y h)
            (λ y o h. back item un y o h) (has.value item))
