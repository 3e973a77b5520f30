-- The class of an active attempt covers its transaction, whatever class list was in force.
use Rattle.sdd_obligations.proofs.All.{Attempt, Catalogue, Each, HasEras, Input, IsCovered, IsEraOf, IsPermitted, Redeclared, Setting, Site, Some, Txn, [], active, all_new, arith, class_for, covered, covered_in_era, current_era, each_local, eqb-true, era_of_itself, home, home_fair, inl, inr, is_for, length, local_of, only_right, same_or_not, setting_of, some_class, sym, true, ℕ, ◌==◌, ◌∷◌, ◌≡◌, ◌≤◌, ◌⊎◌}
use Rattle.sdd_obligations.proofs.Texts.{SubmitHas, active_so}
use Rattle.sdd_invariants.specs.site_module.SiteLog.{Entry, Log}
use Rattle.sdd_invariants.specs.logs.Entries as whole

-- a class list that a site puts in force is one of the catalogue
abbrev EraIs : Catalogue → Log → Entry → Type 0
EraIs cat log (Redeclared era t) = IsEraOf cat era.catalogue
EraIs cat log _ = Unit {0}

eras_are : (g : Input) → HasEras g → (at : Site) (log : whole.Log) → IsPermitted g log → Each (EraIs g.catalogue) (local_of g at log)
eras_are g eras at = grind (arith, each_local)

current_era_is : (s : Setting) (log : Log) → Each (EraIs s.catalogue) log → IsEraOf s.catalogue (current_era s log).catalogue
current_era_is s [] h = era_of_itself s.catalogue
current_era_is s (Redeclared era t ∷ log) h = h.0
current_era_is s (_ ∷ log) h = current_era_is s log h.1

-- class 0, or a class that covers the transaction
abbrev pub Covers : Catalogue → ℕ → Txn → Type 0
Covers cat c txn = (c ≡ 0) ⊎ IsCovered cat txn c

covers_for : (cat era : Catalogue) → IsEraOf cat era → (c : ℕ) (txn : Txn) → is_for c era txn ≡ true → Covers cat c txn
covers_for cat era of c txn e = elim (same_or_not c 0) [
  | inl z ↦ inl z
  | inr n ↦ inr (covered_in_era cat era of txn c
      (covered era txn c (sym (eqb-true (class_for era txn) c (only_right (c == 0) (class_for era txn == c) n e))) (some_class c n)))
]

submitted_covered : (g : Input) → HasEras g → (at : Site) (c : ℕ) (log : whole.Log) → IsPermitted g log
    → Each (SubmitHas (Covers g.catalogue c) (setting_of g at) c) (local_of g at log)
submitted_covered g eras at c = grind (arith, each_local, covers_for, current_era, current_era_is, eras_are)

pub attempt_covered : (g : Input) → HasEras g → (c : ℕ) (log : whole.Log) (a : Attempt)
    → IsPermitted g log → active (setting_of g (home g.catalogue c)) c
    (local_of g (home g.catalogue c) log) ≡ Some a → Covers g.catalogue c a.text
attempt_covered g eras c log a h e =
    let at : Site = home g.catalogue c in
    active_so (Covers g.catalogue c) (setting_of g at) c (local_of g at log) a (home_fair g c log h)
    (all_new g at log h) (submitted_covered g eras at c log h) e

pub class_within : (cat : Catalogue) (c : ℕ) (txn : Txn) → Covers cat c txn → c ≤ length cat.classes
class_within cat c txn e = grind arith
