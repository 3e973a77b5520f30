-- A run of the exchange is a sequence of reductions each of which has the values of all rows of its source.
use Rattle.sdd_serving.proofs.All.{Bool, Has, Has-filter, IsHeldAt, IsMoveAlong, List, Reducing, Resting, Row, Runs, Space, Stage, Stmt, Telling, all_rows, arith, asks, begins, cases_Bool, column, inl, is_among, may_reduce, nat_tests, reduces, rests, sends, tells, true, ℕ, ◌≡◌, ◌⊎◌}
use Rattle.sdd_serving.proofs.Keeps.{Leads, Reduces, was_held, all_were}
use Rattle.sdd_serving.proofs.Keeps.Leads.{none, more}
use Rattle.sdd_serving.proofs.ValuesOfModules.{old_among, new_among}

none_has : (lacks : List ℕ) → may_reduce lacks ≡ true → (d : ℕ) → ¬ Has lacks d
none_has lacks e d h = grind (arith, nat_tests)

-- what is known at a stage
abbrev pub Knows : List ℕ → Space → Stage → Type 0
Knows dms space Resting = Unit {0}
Knows dms space (Telling m lacks union) =
    (row : Row) → (h : IsHeldAt dms space m.source.part row) → Has lacks h.at ⊎
    (is_among union (column row m.source.column) ≡ true)
Knows dms space (Reducing m union) = (row : Row) → IsHeldAt dms space m.source.part row → is_among union (column row m.source.column) ≡ true

-- its move is one of the statements'
abbrev pub IsOf : List Stmt → Stage → Type 0
IsOf statements Resting = Unit {0}
IsOf statements (Telling m lacks union) = IsMoveAlong 0 statements m
IsOf statements (Reducing m union) = IsMoveAlong 0 statements m

pub record State (dms : List ℕ) (statements : List Stmt) (first space : Space) (stage : Stage) : Type 0 where
  pub leads : Leads dms statements first space
  pub knows : Knows dms space stage
  pub move : IsOf statements stage

module _ (dms : List ℕ) (statements : List Stmt) (asked : ℕ → ℕ → Bool) (first : Space)
    (held_where_asked : (d u : ℕ) (row : Row) → Has (all_rows (first d)) (u, row) → asked d u ≡ true) where
  pub runs_lead : (space : Space) (stage : Stage) → Runs dms statements asked first space stage → State dms statements first space stage
  runs_lead space stage begins = record { leads = none; knows = tt; move = tt }
  runs_lead space stage (asks r m q lacks all) =
      let s = runs_lead space Resting r in
      record {
        leads = s.leads;
        knows =
            λ row h.
            inl (all h.at h.there (held_where_asked h.at m.source.part row (all_were dms statements first space s.leads h.at m.source.part row h.held)));
        move = q;
      }
  runs_lead space stage (tells m lacks union r d values all) =
      let s = runs_lead space (Telling m lacks union) r in (grind (arith, nat_tests, old_among, column, cases_Bool, new_among, all_rows, Has-filter))
  runs_lead space stage (sends m lacks union r none_lacks) =
      let s = runs_lead space (Telling m lacks union) r in (grind (arith, nat_tests, none_has))
  runs_lead space stage (reduces {space = before} m union r at here elsewhere) =
      let s = runs_lead before (Reducing m union) r in
      let step : Reduces dms m before space = grind (arith, nat_tests) in
      record {
        leads = more s.leads m s.move step;
        knows = λ row h. s.knows row (record { at = h.at; there = h.there; held = was_held dms m before space step h.at m.source.part row h.held });
        move = s.move;
      }
  runs_lead space stage (rests m union r) = let s = runs_lead space (Reducing m union) r in record { leads = s.leads; knows = tt; move = tt }
