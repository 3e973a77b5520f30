-- Worked logs, written by tools/write_log_examples.py.
use Rattle.std.specs.Prelude.{◌≡◌, pos, negsuc, [], ◌∷◌, length, None, refl}
use Rattle.sdd_log.specs.All.{Answer, Apply, Arrive, Catalogue, Commit, Deliver, Input, Int, Log, P1, Pass, Query, Rows, Settle, Start, Submit, T, Tick, U, Wait, class_no, dm_no, extended, frag_no, history, marks, next, rel_no, time_at, tm_no, txn_no}
use Rattle.sdd_graph.specs.declared.edge.Edge.TheVariants.{Vertical}
use Rattle.sdd_log.specs.history.declared.record.Rec.TheVariants.{Submit as Submission}
use Rattle.sdd_log.specs.catalog.declared.parts.Kind.TheVariants as kinds

-- a module that runs no class is let go: its clock goes on from the timestamp, as the next HELD shows

abbrev pub catalogue_of_released_without_classes : Catalogue
catalogue_of_released_without_classes = record {
  tms = 2;
  dms = 1;
  relations =
      (record { name = []; columns = ((record { name = []; kind = kinds.Int }) ∷ (record { name = []; kind = kinds.Int }) ∷ []); key = 1 }) ∷
      [];
  fragments =
      (record { name = []; rel = (rel_no 1); least = (negsuc 9223372036854775807); greatest = (pos 9223372036854775807); copies = ((dm_no 1) ∷ []) }) ∷
      [];
  classes =
      (record { name = []; tm = (tm_no 1); reads = []; writes = ((frag_no 1) ∷ []) }) ∷
      [];
}

abbrev pub input_of_released_without_classes : Input
input_of_released_without_classes = record {
  catalogue = catalogue_of_released_without_classes;
  eras =
      (record {
        catalogue = catalogue_of_released_without_classes;
        table =
            (record { edge = (Vertical (class_no 1)); block = 0; protocol = P1 }) ∷
            [];
      }) ∷
      [];
  rows = ([] ∷ []);
  txns =
      (record { name = []; tm = (tm_no 1); statements = ((Query ((record { part = 1; column = 2 }) ∷ []) ((rel_no 1) ∷ []) []) ∷ []) }) ∷
      (record { name = []; tm = (tm_no 1); statements = ((Query ((record { part = 1; column = 1 }) ∷ []) ((rel_no 1) ∷ []) []) ∷ []) }) ∷
      [];
  events =
      Tick (tm_no 1) 9 ∷
      Submit (txn_no 1) ∷
      Settle ∷
      Tick (tm_no 2) 1 ∷
      Submit (txn_no 2) ∷
      Deliver U (T (tm_no 1)) 1 ∷
      Deliver U (T (tm_no 2)) 1 ∷
      Deliver (T (tm_no 1)) U 2 ∷
      Deliver (T (tm_no 2)) U 2 ∷
      [];
}

abbrev pub log_of_released_without_classes : Log
log_of_released_without_classes = extended 89 input_of_released_without_classes []

pub history_of_released_without_classes :
    history log_of_released_without_classes ≡
    (2, Submission (txn_no 1)) ∷
    (8, Start (txn_no 1) 1 (class_no 0) (time_at 640) None ((record { number = 1; rel = (rel_no 1); frags = ((frag_no 1) ∷ []); restrictions = [] }) ∷ [])) ∷
    (11, Arrive (txn_no 1) 1 (dm_no 1)) ∷
    (11, Wait (txn_no 1) 1 (dm_no 1) ((record { class = (class_no 1); time = (time_at 640); frags = ((frag_no 1) ∷ []) }) ∷ [])) ∷
    (15, Answer (txn_no 1) 1 (dm_no 1)) ∷
    (15, Pass (class_no 1) (dm_no 1) (time_at 703)) ∷
    (21, Commit (txn_no 1) 1 (Rows ([] ∷ [])) [] 0 0) ∷
    (23, Apply (txn_no 1) (class_no 0) (dm_no 1) (time_at 640)) ∷
    (32, Submission (txn_no 2)) ∷
    (36, Start (txn_no 2) 1 (class_no 0) (time_at 768) None ((record { number = 1; rel = (rel_no 1); frags = ((frag_no 1) ∷ []); restrictions = [] }) ∷ [])) ∷
    []
history_of_released_without_classes = refl

pub all_of_released_without_classes : (next input_of_released_without_classes log_of_released_without_classes ≡ None)
    × (length log_of_released_without_classes ≡ 89) × (marks log_of_released_without_classes ≡ 36)
all_of_released_without_classes = (refl, refl, refl)
