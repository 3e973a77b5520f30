-- A log in which no further class list was put in force has one era.
use Rattle.sdd_lawful.proofs.All.{AreEras, AreErasOf, Catalogue, History, Input, IsEra, IsEraOf, KeepsEras, Log, Redeclares, Some, [], arith, era_of_itself, marks, nat_le, nth_era, one_era, redeclares, refl, slice_get, slice_index_or, true_or_false, ℕ, ◌++◌, ◌∷◌, ◌≡◌}

each_era : (cat : Catalogue) (k : ℕ) (a : ℕ × Catalogue) → slice_get (one_era cat) k ≡ Some a → IsEraOf cat a.1
each_era cat k a e = grind (arith, era_of_itself)

are_eras : (cat : Catalogue) → AreEras cat (one_era cat)
are_eras cat = record { first = (cat, refl); rise = λ k a b e f. (cc); each = each_era cat }

none_before : (later before : Log) → redeclares (later ++ before) ≡ 0 → redeclares before ≡ 0
none_before [] before e = e
none_before (Redeclares t ∷ later) before e = absurd (omega arith)
none_before (_ ∷ later) before e = none_before later before e

pub of_one_era : (g : Input) (log : Log) → IsEra (nth_era g 0) → (nth_era g 0).catalogue ≡ g.catalogue → redeclares log ≡ 0
    → AreErasOf g log (one_era g.catalogue)
of_one_era g log era same none = record {
  are_eras = are_eras g.catalogue;
  era_is = grind (arith, none_before, redeclares, nat_le, slice_index_or, marks, nth_era);
  tabled = grind (arith, nth_era, none_before, redeclares);
}

pub keeps_eras : (cat : Catalogue) (h : History) → KeepsEras cat (one_era cat) h
keeps_eras cat h = grind (arith, one_era, true_or_false)
