-- Eras: the catalogues that are in force one after the other, each with the event from which it is in force. The catalogue beside
-- them has the classes of all eras with their sets.
use Rattle.std.specs.Prelude.{ℕ, suc, nat_le, ◌-◌, ◌<◌, ◌≡◌, List, filter, length, Some, slice_get, slice_index_or}
use Rattle.sdd_lang.specs.All.{Catalogue}
use Rattle.sdd_eras.specs.EraOf.{IsEraOf}

abbrev pub Eras : Type 0
Eras = List (ℕ × Catalogue)

-- how many eras have begun by an event
abbrev pub eras_begun : Eras → ℕ → ℕ
eras_begun eras event = length (filter (λ e. nat_le e.0 event) eras)

-- the catalogue in force at an event: that of the last era that has begun
abbrev pub catalogue_at : Catalogue → Eras → ℕ → Catalogue
catalogue_at cat eras event = (slice_index_or eras (eras_begun eras event - 1) (0, cat)).1

pub record AreEras (cat : Catalogue) (eras : Eras) : Type 0 where
  -- there is one from the beginning
  pub first : (era : Catalogue) × (slice_get eras 0 ≡ Some (0, era))
  -- the later one begins later
  pub rise : (k : ℕ) (a b : ℕ × Catalogue) → slice_get eras k ≡ Some a → slice_get eras (suc k) ≡ Some b → a.0 < b.0
  pub each : (k : ℕ) (a : ℕ × Catalogue) → slice_get eras k ≡ Some a → IsEraOf cat a.1
