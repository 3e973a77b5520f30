-- What the changes of a transaction are like.
use Rattle.std.specs.Prelude.{ℕ, ℤ, ◌≡◌, true, List, Option, Some, None}
use Rattle.std.specs.List.{All, AllByRecursion, Contains}
use Rattle.sdd_base.specs.Words.{contains}
use Rattle.sdd_base.specs.declared.change.Change.{Change}
use Rattle.sdd_catalog.specs.Catalogue.{Catalogue, fragment_of}
use Rattle.sdd_lang.specs.declared.effect.Effect.{Effect}
use Rattle.sdd_lang.specs.Database.{Row, key_in}
use Rattle.sdd_lang.specs.Fits.{IsRelation, FitsRow}
use Rattle.sdd_lang.specs.Serial.{item_of}
use Rattle.sdd_lang.specs.Update.{in_range}

-- what a change leaves at an item of a relation: no row, or one that fits, with the item's key
abbrev pub HasRow : Catalogue → ℕ → ℤ → Option Row → Type 0
HasRow cat rel key None = Unit {0}
HasRow cat rel key (Some row) = FitsRow cat rel row × (key ≡ key_in cat rel row)

-- a change of an item of a relation, which names the fragment that holds the item
pub record IsChange (cat : Catalogue) (c : (ℕ × ℤ) × Option Row) : Type 0 where
  pub rel : ℕ
  pub there : IsRelation cat rel
  pub held : in_range c.0.1 ≡ true
  pub frag : c.0.0 ≡ fragment_of cat rel c.0.1
  pub row : HasRow cat rel c.0.1 c.1

-- the changes of an effect are changes of items
abbrev pub ChangesItems : Catalogue → Effect → Type 0
ChangesItems cat e = AllByRecursion (λ (c : Change). IsChange cat ((c.frag.0, c.key), c.row)) e.changes

-- they lie in these fragments
abbrev pub LieIn : List ℕ → Effect → Type 0
LieIn frags e = All (λ (c : Change). contains frags c.frag.0 ≡ true) e.changes

-- each names the fragment that holds its item
abbrev pub ArePlaced : Catalogue → Effect → Type 0
ArePlaced cat e = All (λ (c : Change). fragment_of cat (item_of cat c).0 (item_of cat c).1 ≡ c.frag.0) e.changes

-- and of an item there is one
abbrev pub OneAnItem : Catalogue → Effect → Type 0
OneAnItem cat e = (c d : Change) → Contains e.changes c → Contains e.changes d → item_of cat c ≡ item_of cat d → c ≡ d
