-- The sites that run classes have small numbers, which differ.
use Rattle.sdd_lawful.proofs.All.{Catalogue, Class, IsServedClass, IsSoundCatalogue, Site, ap, arith, at_number, class_at, dec_le, differ, false, get_or_past, home, length, number_of, same_or_not, sound_classes, sound_whole, ℕ, ◌-◌, ◌==◌, ◌≡◌, ◌≢◌, ◌≤◌, ◌⊎◌}

-- the module of a class is there
pub served : (cat : Catalogue) → IsSoundCatalogue cat → (c : ℕ) → 1 ≤ c → c ≤ length cat.classes → IsServedClass cat (class_at cat c)
served cat sound c from to = at_number (IsServedClass cat) cat.classes c _ (sound_classes cat sound) from to

-- a class that isn't there has no module
module_past : (cat : Catalogue) (c : ℕ) → length cat.classes ≤ c - 1 → (class_at cat c).tm.0 ≡ 0
module_past cat c h = ap (λ (k : Class). k.tm.0) (get_or_past cat.classes (c - 1) _ h)

module_small : (cat : Catalogue) → IsSoundCatalogue cat → (c : ℕ) → (class_at cat c).tm.0 ≤ 16
module_small cat sound c = elim (dec_le (length cat.classes) (c - 1)) [
  | yes p ↦ (let e = module_past cat c p in omega arith)
  | no p ↦ (let w = sound_whole cat sound in let few : cat.tms ≤ 16 = w.few_tms in
      elim (dec_le 1 c) [
        | yes q ↦ (let s = (served cat sound c q (omega (arith, p))).module_to in omega arith)
        | no q ↦ grind (arith, class_at, served)
      ])
]

pub home_small : (cat : Catalogue) → IsSoundCatalogue cat → (c : ℕ) → number_of (home cat c) ≤ 16
home_small cat sound c = grind (arith, same_or_not, module_small, class_at)

pub positive : (c : ℕ) → (c == 0) ≡ false → 1 ≤ c
positive c p = elim (dec_le 1 c) [ yes q ↦ q | no q ↦ absurd (differ c 0 p (omega (arith, q))) ]

-- two classes that are there are run by one site, or by two with different numbers
abbrev pub DifferOrSame : Site → Site → Type 0
DifferOrSame a b = (a ≡ b) ⊎ (number_of a ≢ number_of b)

pub homes_differ : (cat : Catalogue) → IsSoundCatalogue cat → (c d : ℕ) → c ≤ length cat.classes → d ≤ length cat.classes → DifferOrSame (home cat c) (home cat d)
homes_differ cat sound c d hc hd = grind (arith, same_or_not, positive, served, class_at, differ)
