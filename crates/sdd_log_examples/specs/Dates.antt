-- Worked logs, written by tools/write_log_examples.py.
use Rattle.std.specs.Prelude.{◌≡◌, pos, negsuc, [], ◌∷◌, length, Some, None, refl}
use Rattle.sdd_log.specs.All.{Answer, Apply, Arrive, Catalogue, Commit, Const, D, Delete, Deliver, Down, Eq, Input, Int, Log, P1, P2, P3, Pass, Put, Query, Rows, Settle, Start, Submit, T, Tick, Up, Wait, class_no, dm_no, extended, frag_no, history, marks, next, rel_no, time_at, tm_no, txn_no}
use Rattle.sdd_graph.specs.declared.edge.Edge.TheVariants.{Vertical, Horizontal, Diagonal}
use Rattle.sdd_log.specs.history.declared.record.Rec.TheVariants.{Submit as Submission}
use Rattle.sdd_log.specs.catalog.declared.parts.Kind.TheVariants as kinds

-- a delete comes to a copy before the earlier put of the row, which stays deleted

abbrev pub catalogue_of_deleted_and_put : Catalogue
catalogue_of_deleted_and_put = record {
  tms = 3;
  dms = 2;
  relations =
      (record { name = []; columns = ((record { name = []; kind = kinds.Int }) ∷ (record { name = []; kind = kinds.Int }) ∷ []); key = 1 }) ∷
      [];
  fragments =
      (record {
        name = [];
        rel = (rel_no 1);
        least = (negsuc 9223372036854775807);
        greatest = (pos 9223372036854775807);
        copies = ((dm_no 1) ∷
            (dm_no 2) ∷ []);
      }) ∷
      [];
  classes =
      (record { name = []; tm = (tm_no 1); reads = ((record { fragment = (frag_no 1); at = (dm_no 1) }) ∷ []); writes = ((frag_no 1) ∷ []) }) ∷
      (record { name = []; tm = (tm_no 2); reads = []; writes = ((frag_no 1) ∷ []) }) ∷
      (record { name = []; tm = (tm_no 3); reads = ((record { fragment = (frag_no 1); at = (dm_no 2) }) ∷ []); writes = [] }) ∷
      [];
}

abbrev pub input_of_deleted_and_put : Input
input_of_deleted_and_put = record {
  catalogue = catalogue_of_deleted_and_put;
  eras =
      (record {
        catalogue = catalogue_of_deleted_and_put;
        table =
            (record { edge = (Vertical (class_no 1)); block = 1; protocol = P1 }) ∷
            (record { edge = (Vertical (class_no 2)); block = 0; protocol = P1 }) ∷
            (record { edge = (Vertical (class_no 3)); block = 0; protocol = P1 }) ∷
            (record { edge = (Horizontal (class_no 1) (class_no 2)); block = 1; protocol = P1 }) ∷
            (record { edge = (Diagonal (class_no 1) (class_no 2) (frag_no 1)); block = 1; protocol = P3 }) ∷
            (record { edge = (Diagonal (class_no 3) (class_no 1) (frag_no 1)); block = 1; protocol = P2 }) ∷
            (record { edge = (Diagonal (class_no 3) (class_no 2) (frag_no 1)); block = 1; protocol = P2 }) ∷
            [];
      }) ∷
      [];
  rows = ([] ∷ [] ∷ []);
  txns =
      (record { name = []; tm = (tm_no 2); statements = ((Put (rel_no 1) ((Int (pos 1)) ∷ (Int (pos 5)) ∷ [])) ∷ []) }) ∷
      (record { name = []; tm = (tm_no 1); statements = ((Delete (rel_no 1) ((Const (record { part = 1; column = 1 }) Eq (Int (pos 1))) ∷ [])) ∷ []) }) ∷
      (record { name = []; tm = (tm_no 3); statements = ((Query ((record { part = 1; column = 2 }) ∷ []) ((rel_no 1) ∷ []) []) ∷ []) }) ∷
      [];
  events =
      Submit (txn_no 1) ∷
      Deliver (T (tm_no 2)) (D (dm_no 1)) 1 ∷
      Tick (tm_no 1) 2 ∷
      Down (D (dm_no 2)) ∷
      Submit (txn_no 2) ∷
      Settle ∷
      Up (D (dm_no 2)) ∷
      Tick (tm_no 3) 9 ∷
      Submit (txn_no 3) ∷
      Settle ∷
      [];
}

abbrev pub log_of_deleted_and_put : Log
log_of_deleted_and_put = extended 105 input_of_deleted_and_put []

pub history_of_deleted_and_put :
    history log_of_deleted_and_put ≡
    (1, Submission (txn_no 1)) ∷
    (1, Start (txn_no 1) 1 (class_no 2) (time_at 66) (Some (time_at 63)) []) ∷
    (1, Commit (txn_no 1) 1 (Rows []) ((record { frag = (frag_no 1); key = (pos 1); row = (Some ((Int (pos 1)) ∷ (Int (pos 5)) ∷ [])) }) ∷ []) 0 0) ∷
    (2, Apply (txn_no 1) (class_no 2) (dm_no 1) (time_at 66)) ∷
    (5, Submission (txn_no 2)) ∷ (
      5,
      Start (txn_no 2) 1 (class_no 1) (time_at 193) (Some (time_at 191)) ((record {
        number = 1;
        rel = (rel_no 1);
        frags = ((frag_no 1) ∷ []);
        restrictions = ((record { column = 1; op = Eq; value = (Int (pos 1)) }) ∷ []);
      }) ∷ []),
    ) ∷
    (6, Arrive (txn_no 2) 1 (dm_no 1)) ∷
    (6, Wait (txn_no 2) 1 (dm_no 1) ((record { class = (class_no 2); time = (time_at 193); frags = ((frag_no 1) ∷ []) }) ∷ [])) ∷
    (13, Answer (txn_no 2) 1 (dm_no 1)) ∷
    (13, Pass (class_no 2) (dm_no 1) (time_at 255)) ∷
    (19, Commit (txn_no 2) 1 (Rows []) ((record { frag = (frag_no 1); key = (pos 1); row = None }) ∷ []) 0 1) ∷
    (21, Apply (txn_no 2) (class_no 1) (dm_no 1) (time_at 193)) ∷
    (25, Apply (txn_no 2) (class_no 1) (dm_no 2) (time_at 193)) ∷
    (25, Apply (txn_no 1) (class_no 2) (dm_no 2) (time_at 66)) ∷
    (27, Submission (txn_no 3)) ∷ (
      27,
      Start (txn_no 3) 1 (class_no 3) (time_at 643) (Some (time_at 639)) ((record {
        number = 1;
        rel = (rel_no 1);
        frags = ((frag_no 1) ∷ []);
        restrictions = [];
      }) ∷ []),
    ) ∷
    (28, Arrive (txn_no 3) 1 (dm_no 2)) ∷ (
      28,
      Wait (txn_no 3) 1 (dm_no 2) ((record { class = (class_no 1); time = (time_at 639); frags = ((frag_no 1) ∷ []) }) ∷
          (record { class = (class_no 2); time = (time_at 639); frags = ((frag_no 1) ∷ []) }) ∷ []),
    ) ∷
    (33, Pass (class_no 1) (dm_no 2) (time_at 639)) ∷
    (35, Pass (class_no 2) (dm_no 2) (time_at 639)) ∷
    (35, Answer (txn_no 3) 1 (dm_no 2)) ∷
    (42, Commit (txn_no 3) 1 (Rows ([] ∷ [])) [] 0 0) ∷
    []
history_of_deleted_and_put = refl

pub all_of_deleted_and_put : (next input_of_deleted_and_put log_of_deleted_and_put ≡ None) × (length log_of_deleted_and_put ≡ 105)
    × (marks log_of_deleted_and_put ≡ 43)
all_of_deleted_and_put = (refl, refl, refl)
