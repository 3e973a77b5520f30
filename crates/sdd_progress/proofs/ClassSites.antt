-- The sites that run classes: they are there, and have small numbers.
use Rattle.sdd_progress.proofs.AllWaits.{Catalogue, Class, Input, IsClassOf, IsServedClass, IsSoundCatalogue, Some, T, ap, arith, at_number, class_at, dec_le, get_or_past, home, kept_there, length, not_zero, number_of, numbers_to, range_there, refl, runs, same_number, same_or_not, setting_of, slice_get, sound_classes, sound_whole, tm_no, ℕ, ◌-◌, ◌==◌, ◌≡◌, ◌≤◌}

pub class_served : (cat : Catalogue) (i : ℕ) → IsSoundCatalogue cat → IsClassOf cat i → IsServedClass cat (class_at cat i)
class_served cat i sound c = at_number (IsServedClass cat) cat.classes i _ (sound_classes cat sound) c.from c.to

pub home_of_class : (cat : Catalogue) (i : ℕ) → IsClassOf cat i → home cat i ≡ T (tm_no (class_at cat i).tm.0)
home_of_class cat i c = rw (not_zero i c.from) refl

pub in_runs : (g : Input) (i : ℕ) → IsClassOf g.catalogue i → (j : ℕ) × (slice_get (runs (setting_of g (T (tm_no (class_at g.catalogue i).tm.0)))) j ≡ Some i)
in_runs g i c =
    let t : ℕ = (class_at g.catalogue i).tm.0 in
    let r = range_there 1 (length g.catalogue.classes) i c.from (let l = c.to in omega arith) in
    kept_there (λ k. (class_at g.catalogue k).tm.0 == t) (numbers_to (length g.catalogue.classes)) r.0 i r.1 (same_number t)

module_small : (cat : Catalogue) (c : ℕ) → IsSoundCatalogue cat → (class_at cat c).tm.0 ≤ 16
module_small cat c sound =
    let few : cat.tms ≤ 16 = (sound_whole cat sound).few_tms in
    elim (dec_le (length cat.classes) (c - 1)) [
      | yes past ↦ (let e : (class_at cat c).tm.0 ≡ 0 = ap (λ (k : Class). k.tm.0) (get_or_past cat.classes (c - 1) _ past) in omega arith)
      | no there ↦ elim (dec_le 1 c) [
        | yes from ↦ (let to = (class_served cat c sound (record { from = from; to = omega (arith, there) })).module_to in omega arith)
        | no none ↦ (let z : c ≡ 0 = omega (arith, none) in
            let same : (class_at cat c).tm.0 ≡ (class_at cat 1).tm.0 = ap (λ k. (class_at cat k).tm.0) z in
            let to = (class_served cat 1 sound (record { from = omega arith; to = omega (arith, there) })).module_to in omega arith)
      ]
    ]

-- so that no timestamps of two sites are equal
abbrev pub HasSmallHomes : Input → Type 0
HasSmallHomes g = (c : ℕ) → number_of (home g.catalogue c) ≤ 63

pub small_homes : (g : Input) → IsSoundCatalogue g.catalogue → HasSmallHomes g
small_homes g sound c = grind (arith, same_or_not, module_small)
