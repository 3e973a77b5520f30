-- What is given is sound; and the eras of a log.
use Rattle.std.specs.Prelude.{ℕ, ◌≡◌, ◌≤◌, ◌∷◌, ◌++◌, List, [], length}
use Rattle.std.specs.List.{All}
use Rattle.sdd_invariants.specs.All.{AreSubmittedOnce, Catalogue, D, FitsStart, FitsTxn, Input, IsEra, IsHeld, IsSoundCatalogue, Log, Mark, PutsHeld, RelNo, Row, Submit, TxnNo, dm_no, marks, nth_era, redeclares, rows_of, submits_in}
use Rattle.sdd_laws.specs.All.{AreEras, Eras, IsFrom1To, IsModule, catalogue_at}

-- the catalogue is valid
pub record IsSoundInput (g : Input) : Type 0 where
  pub catalogue : IsSoundCatalogue g.catalogue

-- every data module begins with these rows, which fit the catalogue, as the transactions do; and the rows and what the
-- transactions put hold numbers of 64 bits
pub record HasSoundData (g : Input) (rows : List (RelNo × Row)) : Type 0 where
  pub txns_fit : All (FitsTxn g.catalogue) g.txns
  pub txns_held : All (λ t. All PutsHeld t.statements) g.txns
  pub rows_fit : All (FitsStart g.catalogue) rows
  pub rows_held : All (λ r. All IsHeld r.1) rows
  pub alike : (d : ℕ) → IsModule g.catalogue d → rows_of g (D (dm_no d)) ≡ rows

-- these are the eras of the log: at each of its events the catalogue of the class list that was put in force last,
-- which has its protocol table
pub record AreErasOf (g : Input) (log : Log) (eras : Eras) : Type 0 where
  pub are_eras : AreEras g.catalogue eras
  pub era_is : (later before : Log) → log ≡ later ++ before
      → catalogue_at g.catalogue eras (marks before) ≡ (nth_era g (redeclares before)).catalogue
  pub tabled : (later before : Log) → log ≡ later ++ before → IsEra (nth_era g (redeclares before))

-- the eras of a log in which no further class list is put in force: the one of the catalogue
abbrev pub one_era : Catalogue → Eras
one_era cat = (0, cat) ∷ []

-- the events that submit name transactions that are given, which are numbered from 1
abbrev pub AreNumbered : Input → Log → Type 0
AreNumbered g log = (later before : Log) (n : TxnNo) → log ≡ later ++ Mark (Submit n) ∷ before → IsFrom1To (length g.txns) n.0

-- the events submit each transaction at most once, and only such as are given
pub record SubmitGiven (g : Input) : Type 0 where
  pub once : AreSubmittedOnce g.events
  pub given : (n : ℕ) → 1 ≤ submits_in n g.events → IsFrom1To (length g.txns) n
