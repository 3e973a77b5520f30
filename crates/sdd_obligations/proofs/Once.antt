-- Along a run each module keeps the rows of a use once.
use Rattle.sdd_obligations.proofs.All.{Bool, KeepsOnce, List, Resting, Runs, Space, Stage, Stmt, Telling, arith, asks, differ, inl, inr, reduced_once, rests, same_or_not, sends, subst, sym, tells, ℕ}
use Rattle.sdd_serving.specs.Runs.Runs.{begins, reduces}
use Rattle.sdd_serving.specs.Runs.Stage.{Reducing}

module _ (dms : List ℕ) (statements : List Stmt) (asked : ℕ → ℕ → Bool) (first : Space) (once : (d : ℕ) → KeepsOnce (first d)) where
  pub runs_once : (space : Space) (stage : Stage) → Runs dms statements asked first space stage → (d : ℕ) → KeepsOnce (space d)
  runs_once space stage begins = once
  runs_once space stage (asks r m q lacks all) = runs_once space Resting r
  runs_once space stage (tells m lacks union r d values all) = runs_once space (Telling m lacks union) r
  runs_once space stage (sends m lacks union r none) = runs_once space (Telling m lacks union) r
  runs_once space stage (reduces {space = before} m union r at here elsewhere) = λ d.
      elim (same_or_not d at) [
        | inl p ↦ grind (arith, KeepsOnce, reduced_once, (runs_once before (Reducing m union) r))
        | inr p ↦ subst KeepsOnce (sym (elsewhere d (λ e. differ d at p e))) (runs_once before (Reducing m union) r d)
      ]
  runs_once space stage (rests m union r) = runs_once space (Reducing m union) r
