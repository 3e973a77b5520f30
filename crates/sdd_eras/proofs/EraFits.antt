-- A transaction that fits the whole catalogue fits each catalogue in force.
use Rattle.sdd_eras.proofs.All.{Catalogue, Class, FitsStatement, FitsTxn, IsEraOf, List, Stmt, Txn, arith, subst, sym}
use Rattle.sdd_eras.proofs.EraSets.{era_is, with_classes}

module _ (cat : Catalogue) (classes : List Class) where
  abbrev other : Catalogue
  other = with_classes cat classes

  statement_fits : (s : Stmt) → FitsStatement cat s → FitsStatement other s
  statement_fits s h = grind (arith, other)

  txn_fits : (txn : Txn) → FitsTxn cat txn → FitsTxn other txn
  txn_fits txn f = grind (arith, other, statement_fits)

pub fits_in_era : (cat era : Catalogue) → IsEraOf cat era → (txn : Txn) → FitsTxn cat txn → FitsTxn era txn
fits_in_era cat era h txn f = subst (λ c. FitsTxn c txn) (sym (era_is cat era h)) (txn_fits cat era.classes txn f)
