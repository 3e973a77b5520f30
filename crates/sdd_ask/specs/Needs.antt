-- The text that names the modules that classes need.
use Rattle.std.specs.Prelude.{ℕ, ◌≡◌, ◌↔◌, Bool, true, List}
use Rattle.sdd_base.specs.declared.site.Site.{Site}
use Rattle.sdd_catalog.specs.Catalogue.{Catalogue}
use Rattle.sdd_outage.specs.Needs.{Needs}
use Rattle.sdd_outage.specs.Tasks.{Task}
use Rattle.sdd_protocol.specs.Protocols.{IsTable}
use Rattle.sdd_protocol.specs.declared.entry.Entry.{Entry}
use Rattle.sdd_ask.specs.Texts.{needs_text}

-- the test tells what is needed
abbrev pub TellsNeeds : Catalogue → List Entry → (Task → Site → Bool) → Type 0
TellsNeeds cat entries needed = (task : Task) (s : Site) → (needed task s ≡ true) ↔ Needs cat entries task s

-- the text names the modules that the classes of the catalogue need, by its protocol table
pub record IsNeedsText (cat : Catalogue) (text : List ℕ) : Type 0 where
  pub entries : List Entry
  pub table : IsTable cat entries
  pub needed : Task → Site → Bool
  pub tells : TellsNeeds cat entries needed
  pub spelled : text ≡ needs_text cat needed
