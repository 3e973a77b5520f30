-- Worked logs, written by tools/write_log_examples.py.
use Rattle.std.specs.Prelude.{◌≡◌, pos, negsuc, [], ◌∷◌, length, Some, None, refl}
use Rattle.sdd_log.specs.All.{Answer, Arrive, Catalogue, Commit, Input, Int, Log, P1, Query, Rows, Settle, Start, Submit, class_no, dm_no, extended, frag_no, history, marks, next, rel_no, time_at, tm_no, txn_no}
use Rattle.sdd_graph.specs.declared.edge.Edge.TheVariants.{Vertical}
use Rattle.sdd_log.specs.history.declared.record.Rec.TheVariants.{Submit as Submission}
use Rattle.sdd_log.specs.catalog.declared.parts.Kind.TheVariants as kinds

-- data modules are made of different rows: each reply is of the copies that were read

abbrev pub catalogue_of_different_rows : Catalogue
catalogue_of_different_rows = record {
  tms = 2;
  dms = 3;
  relations =
      (record { name = []; columns = ((record { name = []; kind = kinds.Int }) ∷ (record { name = []; kind = kinds.Int }) ∷ []); key = 1 }) ∷
      [];
  fragments =
      (record {
        name = [];
        rel = (rel_no 1);
        least = (negsuc 9223372036854775807);
        greatest = (pos 9223372036854775807);
        copies = ((dm_no 1) ∷
            (dm_no 2) ∷ (dm_no 3) ∷ []);
      }) ∷
      [];
  classes =
      (record { name = []; tm = (tm_no 1); reads = ((record { fragment = (frag_no 1); at = (dm_no 1) }) ∷ []); writes = [] }) ∷
      (record { name = []; tm = (tm_no 2); reads = ((record { fragment = (frag_no 1); at = (dm_no 3) }) ∷ []); writes = [] }) ∷
      [];
}

abbrev pub input_of_different_rows : Input
input_of_different_rows = record {
  catalogue = catalogue_of_different_rows;
  eras =
      (record {
        catalogue = catalogue_of_different_rows;
        table =
            (record { edge = (Vertical (class_no 1)); block = 0; protocol = P1 }) ∷
            (record { edge = (Vertical (class_no 2)); block = 0; protocol = P1 }) ∷
            [];
      }) ∷
      [];
  rows = ((((rel_no 1), ((Int (pos 1)) ∷ (Int (pos 5)) ∷ [])) ∷ []) ∷ [] ∷ (((rel_no 1), ((Int (pos 1)) ∷ (Int (pos 6)) ∷ [])) ∷ []) ∷ []);
  txns =
      (record { name = []; tm = (tm_no 1); statements = ((Query ((record { part = 1; column = 2 }) ∷ []) ((rel_no 1) ∷ []) []) ∷ []) }) ∷
      (record { name = []; tm = (tm_no 2); statements = ((Query ((record { part = 1; column = 2 }) ∷ []) ((rel_no 1) ∷ []) []) ∷ []) }) ∷
      [];
  events =
      Submit (txn_no 1) ∷
      Settle ∷
      Submit (txn_no 2) ∷
      Settle ∷
      [];
}

abbrev pub log_of_different_rows : Log
log_of_different_rows = extended 50 input_of_different_rows []

pub history_of_different_rows :
    history log_of_different_rows ≡
    (1, Submission (txn_no 1)) ∷ (
      1,
      Start (txn_no 1) 1 (class_no 1) (time_at 65) (Some (time_at 63)) ((record {
        number = 1;
        rel = (rel_no 1);
        frags = ((frag_no 1) ∷ []);
        restrictions = [];
      }) ∷ []),
    ) ∷
    (2, Arrive (txn_no 1) 1 (dm_no 1)) ∷
    (2, Answer (txn_no 1) 1 (dm_no 1)) ∷
    (8, Commit (txn_no 1) 1 (Rows ((((Int (pos 5)) ∷ []) ∷ []) ∷ [])) [] 0 1) ∷
    (10, Submission (txn_no 2)) ∷ (
      10,
      Start (txn_no 2) 1 (class_no 2) (time_at 66) (Some (time_at 63)) ((record {
        number = 1;
        rel = (rel_no 1);
        frags = ((frag_no 1) ∷ []);
        restrictions = [];
      }) ∷ []),
    ) ∷
    (11, Arrive (txn_no 2) 1 (dm_no 3)) ∷
    (11, Answer (txn_no 2) 1 (dm_no 3)) ∷
    (17, Commit (txn_no 2) 1 (Rows ((((Int (pos 6)) ∷ []) ∷ []) ∷ [])) [] 0 1) ∷
    []
history_of_different_rows = refl

pub all_of_different_rows : (next input_of_different_rows log_of_different_rows ≡ None) × (length log_of_different_rows ≡ 50) × (marks log_of_different_rows ≡ 18)
all_of_different_rows = (refl, refl, refl)
