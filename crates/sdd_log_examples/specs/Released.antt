-- Worked logs, written by tools/write_log_examples.py.
use Rattle.std.specs.Prelude.{◌≡◌, pos, negsuc, [], ◌∷◌, length, Some, None, refl}
use Rattle.sdd_log.specs.All.{Add, Answer, Apply, Arrive, Catalogue, Commit, D, Deliver, Input, Int, Log, Nothing, P1, Pass, Put, Query, Rows, Start, Submit, T, U, Update, Wait, class_no, dm_no, extended, frag_no, history, marks, next, rel_no, time_at, tm_no, txn_no}
use Rattle.sdd_graph.specs.declared.edge.Edge.TheVariants.{Vertical, Diagonal}
use Rattle.sdd_log.specs.history.declared.record.Rec.TheVariants.{Submit as Submission}
use Rattle.sdd_log.specs.catalog.declared.parts.Kind.TheVariants as kinds

-- an undeclared update waits until a query is committed that was under way, and lets go of the transaction module once both data modules are done, where a put waits

abbrev pub catalogue_of_released : Catalogue
catalogue_of_released = record {
  tms = 1;
  dms = 2;
  relations =
      (record { name = []; columns = ((record { name = []; kind = kinds.Int }) ∷ (record { name = []; kind = kinds.Int }) ∷ []); key = 1 }) ∷
      [];
  fragments =
      (record {
        name = [];
        rel = (rel_no 1);
        least = (negsuc 9223372036854775807);
        greatest = (pos 9223372036854775807);
        copies = ((dm_no 1) ∷
            (dm_no 2) ∷ []);
      }) ∷
      [];
  classes =
      (record { name = []; tm = (tm_no 1); reads = []; writes = ((frag_no 1) ∷ []) }) ∷
      (record { name = []; tm = (tm_no 1); reads = ((record { fragment = (frag_no 1); at = (dm_no 1) }) ∷ []); writes = [] }) ∷
      [];
}

abbrev pub input_of_released : Input
input_of_released = record {
  catalogue = catalogue_of_released;
  eras =
      (record {
        catalogue = catalogue_of_released;
        table =
            (record { edge = (Vertical (class_no 1)); block = 0; protocol = P1 }) ∷
            (record { edge = (Vertical (class_no 2)); block = 0; protocol = P1 }) ∷
            (record { edge = (Diagonal (class_no 2) (class_no 1) (frag_no 1)); block = 0; protocol = P1 }) ∷
            [];
      }) ∷
      [];
  rows = ([] ∷ [] ∷ []);
  txns =
      (record { name = []; tm = (tm_no 1); statements = ((Update (rel_no 1) ((Add 2 (pos 1)) ∷ []) []) ∷ []) }) ∷
      (record { name = []; tm = (tm_no 1); statements = ((Query ((record { part = 1; column = 2 }) ∷ []) ((rel_no 1) ∷ []) []) ∷ []) }) ∷
      (record { name = []; tm = (tm_no 1); statements = ((Put (rel_no 1) ((Int (pos 1)) ∷ (Int (pos 5)) ∷ [])) ∷ []) }) ∷
      [];
  events =
      Submit (txn_no 2) ∷
      Submit (txn_no 1) ∷
      Deliver U (T (tm_no 1)) 1 ∷
      Deliver (T (tm_no 1)) U 2 ∷
      Deliver (T (tm_no 1)) (D (dm_no 1)) 1 ∷
      Deliver (D (dm_no 1)) (T (tm_no 1)) 2 ∷
      Deliver (T (tm_no 1)) (D (dm_no 1)) 2 ∷
      Deliver (D (dm_no 1)) (T (tm_no 1)) 3 ∷
      Deliver (T (tm_no 1)) U 2 ∷
      Submit (txn_no 3) ∷
      Deliver U (D (dm_no 1)) 1 ∷
      Deliver (D (dm_no 1)) (T (tm_no 1)) 3 ∷
      Deliver (T (tm_no 1)) (D (dm_no 1)) 4 ∷
      Deliver (D (dm_no 1)) (T (tm_no 1)) 3 ∷
      Deliver (T (tm_no 1)) (D (dm_no 1)) 5 ∷
      Deliver U (D (dm_no 2)) 1 ∷
      Deliver (D (dm_no 2)) (T (tm_no 1)) 1 ∷
      Deliver (D (dm_no 2)) (T (tm_no 1)) 1 ∷
      Deliver (T (tm_no 1)) (D (dm_no 2)) 2 ∷
      Deliver (T (tm_no 1)) (D (dm_no 2)) 3 ∷
      Deliver (D (dm_no 1)) U 2 ∷
      Deliver (D (dm_no 2)) U 2 ∷
      Deliver U (D (dm_no 1)) 2 ∷
      Deliver U (D (dm_no 2)) 2 ∷
      Deliver (D (dm_no 1)) U 3 ∷
      Deliver (D (dm_no 2)) U 3 ∷
      Deliver U (D (dm_no 1)) 3 ∷
      Deliver U (D (dm_no 2)) 3 ∷
      Deliver (D (dm_no 1)) U 4 ∷
      Deliver U (T (tm_no 1)) 2 ∷
      Deliver (D (dm_no 2)) U 4 ∷
      Deliver U (T (tm_no 1)) 2 ∷
      [];
}

abbrev pub log_of_released : Log
log_of_released = extended 97 input_of_released []

pub history_of_released :
    history log_of_released ≡
    (1, Submission (txn_no 2)) ∷ (
      1,
      Start (txn_no 2) 1 (class_no 2) (time_at 65) (Some (time_at 63)) ((record {
        number = 1;
        rel = (rel_no 1);
        frags = ((frag_no 1) ∷ []);
        restrictions = [];
      }) ∷ []),
    ) ∷
    (2, Submission (txn_no 1)) ∷
    (4, Nothing) ∷
    (5, Arrive (txn_no 2) 1 (dm_no 1)) ∷
    (5, Answer (txn_no 2) 1 (dm_no 1)) ∷
    (8, Commit (txn_no 2) 1 (Rows ([] ∷ [])) [] 0 0) ∷
    (9, Start (txn_no 1) 1 (class_no 0) (time_at 128) None ((record { number = 1; rel = (rel_no 1); frags = ((frag_no 1) ∷ []); restrictions = [] }) ∷ [])) ∷
    (10, Submission (txn_no 3)) ∷
    (11, Arrive (txn_no 1) 1 (dm_no 1)) ∷ (
      11,
      Wait (txn_no 1) 1 (dm_no 1) ((record { class = (class_no 1); time = (time_at 128); frags = ((frag_no 1) ∷ []) }) ∷
          (record { class = (class_no 2); time = (time_at 128); frags = ((frag_no 1) ∷ []) }) ∷ []),
    ) ∷
    (13, Pass (class_no 1) (dm_no 1) (time_at 191)) ∷
    (15, Answer (txn_no 1) 1 (dm_no 1)) ∷
    (15, Pass (class_no 2) (dm_no 1) (time_at 191)) ∷
    (16, Arrive (txn_no 1) 1 (dm_no 2)) ∷ (
      16,
      Wait (txn_no 1) 1 (dm_no 2) ((record { class = (class_no 1); time = (time_at 128); frags = ((frag_no 1) ∷ []) }) ∷
          (record { class = (class_no 2); time = (time_at 128); frags = ((frag_no 1) ∷ []) }) ∷ []),
    ) ∷
    (19, Pass (class_no 1) (dm_no 2) (time_at 191)) ∷
    (20, Answer (txn_no 1) 1 (dm_no 2)) ∷
    (20, Pass (class_no 2) (dm_no 2) (time_at 191)) ∷
    (26, Commit (txn_no 1) 1 (Rows []) [] 0 0) ∷
    (27, Apply (txn_no 1) (class_no 0) (dm_no 1) (time_at 128)) ∷
    (28, Apply (txn_no 1) (class_no 0) (dm_no 2) (time_at 128)) ∷
    (30, Nothing) ∷
    (32, Start (txn_no 3) 1 (class_no 1) (time_at 193) (Some (time_at 191)) []) ∷
    (32, Commit (txn_no 3) 1 (Rows []) ((record { frag = (frag_no 1); key = (pos 1); row = (Some ((Int (pos 1)) ∷ (Int (pos 5)) ∷ [])) }) ∷ []) 0 0) ∷
    []
history_of_released = refl

pub all_of_released : (next input_of_released log_of_released ≡ None) × (length log_of_released ≡ 97) × (marks log_of_released ≡ 32)
all_of_released = (refl, refl, refl)
