-- What is given to a run: a sound catalogue, transactions and first rows that fit it, class lists of it, and events that tick few times.
use Rattle.std.specs.List.{All}
use Rattle.std.specs.Prelude.{List, Some, [], ℕ, ◌∷◌, ◌≡◌, ◌≤◌}
use Rattle.sdd_eras.specs.EraOf.{IsEraOf}
use Rattle.sdd_log.specs.Entries.{Input}
use Rattle.sdd_log.specs.Locals.{nth_era, rows_of, txn_at}
use Rattle.sdd_log.specs.Permitted.{AreSubmittedOnce}
use Rattle.sdd_log.specs.base.declared.event.Event.{Event}
use Rattle.sdd_log.specs.base.declared.event.Event.TheVariants.{Tick}
use Rattle.sdd_log.specs.base.declared.limits.TheConstants.{MAX_TICKS}
use Rattle.sdd_log.specs.base.declared.number.DmNo.{DmNo}
use Rattle.sdd_log.specs.base.declared.site.Site.TheVariants.{D}
use Rattle.sdd_log.specs.catalog.Catalogue.{Catalogue}
use Rattle.sdd_log.specs.catalog.Rules.{IsSoundCatalogue}
use Rattle.sdd_log.specs.lang.Database.{database_of}
use Rattle.sdd_log.specs.lang.Fits.{FitsTxn}
use Rattle.sdd_log.specs.lang.Sound.{IsDatabase, PutsHeld}
use Rattle.sdd_log.specs.lang.declared.transaction.Txn.{Txn}

-- a transaction that fits the catalogue and puts numbers of 64 bits
pub record FitsText (cat : Catalogue) (txn : Txn) : Type 0 where
  pub fits : FitsTxn cat txn
  pub held : All PutsHeld txn.statements

-- The catalogue is one that a program may have, each transaction fits it, and the rows with which each data module begins
-- make a database of it.
pub record FitsInput (g : Input) : Type 0 where
  pub sound : IsSoundCatalogue g.catalogue
  pub txns : (n : ℕ) (txn : Txn) → txn_at g n ≡ Some txn → FitsText g.catalogue txn
  pub rows : (d : DmNo) → IsDatabase g.catalogue (database_of g.catalogue (rows_of g (D d)))

-- each class list is one of the catalogue: its classes have the sets that they have there, or none
abbrev pub HasEras : Input → Type 0
HasEras g = (k : ℕ) → IsEraOf g.catalogue (nth_era g k).catalogue

-- by how many ticks an event lets a clock go on
abbrev pub ticks_of : Event → ℕ
ticks_of (Tick t n) = n
ticks_of _ = 0

-- no event lets a clock go on by more than the limit
abbrev pub AllFewTicks : List Event → Type 0
AllFewTicks [] = Unit {0}
AllFewTicks (e ∷ es) = (ticks_of e ≤ MAX_TICKS) × AllFewTicks es

-- all that is needed of what is given, so that the modules can take what comes next
pub record IsGoodInput (g : Input) : Type 0 where
  pub given : FitsInput g
  pub eras : HasEras g
  pub few_ticks : AllFewTicks g.events
  pub once : AreSubmittedOnce g.events
