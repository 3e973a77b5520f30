-- Histories that keep all laws, and that break one.
use Rattle.std.specs.Prelude.{List}
use Rattle.std.specs.List.{All}
use Rattle.sdd_laws.specs.All.{Catalogue, Eras, FitTogether, HasNoCycle, History, IsSoundCatalogue, KeepsAnswers, KeepsApplies, KeepsConditions, KeepsEras, KeepsLaws, KeepsRejections, KeepsStarts, KeepsUndeclared, RelNo, Row, Txn}

-- the catalogue, and that of each class list, is valid
pub record AreSound (cat : Catalogue) (eras : Eras) : Type 0 where
  pub whole : IsSoundCatalogue cat
  pub each : All (λ e. IsSoundCatalogue e.1) eras

-- it keeps every law
pub record KeepsAll (cat : Catalogue) (eras : Eras) (rows : List (RelNo × Row)) (txns : List Txn) (h : History) : Type 0 where
  pub sound : AreSound cat eras
  pub fit : FitTogether cat eras rows txns h
  pub laws : KeepsLaws cat eras rows txns h
  pub rejections : KeepsRejections cat eras h

-- it keeps every law but that of read conditions
pub record KeepsOthers (cat : Catalogue) (eras : Eras) (rows : List (RelNo × Row)) (txns : List Txn) (h : History) : Type 0 where
  pub sound : AreSound cat eras
  pub fit : FitTogether cat eras rows txns h
  pub starts : KeepsStarts cat eras txns h
  pub answers : KeepsAnswers cat rows txns h
  pub applies : KeepsApplies cat h
  pub undeclared : KeepsUndeclared cat h
  pub redeclares : KeepsEras cat eras h
  pub rejections : KeepsRejections cat eras h

-- it breaks that one alone, and has a cycle of precedence
pub record BreaksConditions (cat : Catalogue) (eras : Eras) (rows : List (RelNo × Row)) (txns : List Txn) (h : History) : Type 0 where
  pub others : KeepsOthers cat eras rows txns h
  pub broken : ¬ KeepsConditions cat eras h
  pub cycle : ¬ HasNoCycle cat h
