-- Histories that keep the laws.
use Rattle.std.specs.Prelude.{List, length}
use Rattle.std.specs.List.{All}
use Rattle.sdd_lang.specs.All.{Catalogue, FitsStart, FitsTxn, RelNo, Row}
use Rattle.sdd_history.specs.Records.{History}
use Rattle.sdd_lang.specs.declared.transaction.Txn.{Txn}
use Rattle.sdd_laws.specs.Answers.{KeepsAnswers}
use Rattle.sdd_laws.specs.Applies.{KeepsApplies}
use Rattle.sdd_laws.specs.Conditions.{KeepsConditions}
use Rattle.sdd_laws.specs.Eras.{Eras, AreEras}
use Rattle.sdd_links.specs.Numbers.{NumbersExist}
use Rattle.sdd_laws.specs.Numbers.{TxnsExist}
use Rattle.sdd_laws.specs.Redeclares.{KeepsEras}
use Rattle.sdd_laws.specs.Starts.{KeepsStarts}
use Rattle.sdd_laws.specs.Undeclared.{KeepsUndeclared}

-- what the laws speak of fits together
pub record FitTogether (cat : Catalogue) (eras : Eras) (rows : List (RelNo × Row)) (txns : List Txn) (h : History) : Type 0 where
  pub are_eras : AreEras cat eras
  pub rows_fit : All (FitsStart cat) rows
  pub txns_fit : All (FitsTxn cat) txns
  pub numbers_exist : NumbersExist cat h
  pub txns_exist : TxnsExist (length txns) h

-- the laws by which there is a serial order, and by which it gives the replies
pub record KeepsLaws (cat : Catalogue) (eras : Eras) (rows : List (RelNo × Row)) (txns : List Txn) (h : History) : Type 0 where
  pub starts : KeepsStarts cat eras txns h
  pub answers : KeepsAnswers cat rows txns h
  pub applies : KeepsApplies cat h
  pub conditions : KeepsConditions cat eras h
  pub undeclared : KeepsUndeclared cat h
  pub redeclares : KeepsEras cat eras h
