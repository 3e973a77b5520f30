-- The transactions of the worked histories fit the catalogues, whatever the classes.
use Rattle.sdd_history_examples.proofs.All.{Class, FitsStart, FitsStatement, FitsTxn, IsFrom1To, List, Op, Stmt, [], all_rows, arith, given_to, lit≤, named, put_row, refl, rel_no, row_of, values_by, with_classes, ℕ, ◌∷◌}

module _ (high : ℕ) (classes : List Class) where
  pub row_fits : (id value : ℕ) → FitsStart (named (with_classes high classes)) (rel_no 1, row_of id value)
  row_fits id value = ((lit≤ tt, lit≤ tt), refl)

  pub put_fits : (id value : ℕ) → FitsStatement (named (with_classes high classes)) (put_row id value)
  put_fits id value = ((lit≤ tt, lit≤ tt), refl)

  pub values_fit : (op : Op) (bound : ℕ) → FitsStatement (named (with_classes high classes)) (values_by op bound)
  values_fit op bound = grind arith

  pub all_fit : FitsStatement (named (with_classes high classes)) all_rows
  all_fit = grind arith

  -- a transaction of one statement, and of two
  pub one_fits : (t : ℕ) → IsFrom1To 2 t → (s : Stmt) → FitsStatement (named (with_classes high classes)) s → FitsTxn (named (with_classes high classes)) (given_to t (s ∷ []))
  one_fits t m s p = grind arith

  pub two_fit : (t : ℕ) → IsFrom1To 2 t → (r s : Stmt) → FitsStatement (named (with_classes high classes)) r → FitsStatement (named (with_classes high classes)) s
      → FitsTxn (named (with_classes high classes)) (given_to t (r ∷ s ∷ []))
  two_fit t m r s p q = grind arith
