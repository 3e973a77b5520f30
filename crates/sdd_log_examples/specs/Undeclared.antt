-- Worked logs, written by tools/write_log_examples.py.
use Rattle.std.specs.Prelude.{◌≡◌, pos, negsuc, [], ◌∷◌, length, Some, None, refl}
use Rattle.sdd_log.specs.All.{Apply, Arrive, Catalogue, Commit, D, Deliver, Input, Int, Log, P1, Put, Query, Rows, Start, Submit, T, U, Wait, class_no, dm_no, extended, frag_no, history, marks, next, rel_no, time_at, tm_no, txn_no}
use Rattle.sdd_graph.specs.declared.edge.Edge.TheVariants.{Vertical, Horizontal}
use Rattle.sdd_log.specs.history.declared.record.Rec.TheVariants.{Submit as Submission}
use Rattle.sdd_log.specs.catalog.declared.parts.Kind.TheVariants as kinds

-- an undeclared query lets the transaction modules hold, and waits for every class

abbrev pub catalogue_of_undeclared : Catalogue
catalogue_of_undeclared = record {
  tms = 2;
  dms = 2;
  relations =
      (record { name = []; columns = ((record { name = []; kind = kinds.Int }) ∷ (record { name = []; kind = kinds.Int }) ∷ []); key = 1 }) ∷
      [];
  fragments =
      (record {
        name = [];
        rel = (rel_no 1);
        least = (negsuc 9223372036854775807);
        greatest = (pos 9223372036854775807);
        copies = ((dm_no 1) ∷
            (dm_no 2) ∷ []);
      }) ∷
      [];
  classes =
      (record { name = []; tm = (tm_no 1); reads = []; writes = ((frag_no 1) ∷ []) }) ∷
      (record { name = []; tm = (tm_no 2); reads = []; writes = ((frag_no 1) ∷ []) }) ∷
      [];
}

abbrev pub input_of_undeclared : Input
input_of_undeclared = record {
  catalogue = catalogue_of_undeclared;
  eras =
      (record {
        catalogue = catalogue_of_undeclared;
        table =
            (record { edge = (Vertical (class_no 1)); block = 0; protocol = P1 }) ∷
            (record { edge = (Vertical (class_no 2)); block = 0; protocol = P1 }) ∷
            (record { edge = (Horizontal (class_no 1) (class_no 2)); block = 0; protocol = P1 }) ∷
            [];
      }) ∷
      [];
  rows = ([] ∷ [] ∷ []);
  txns =
      (record { name = []; tm = (tm_no 1); statements = ((Put (rel_no 1) ((Int (pos 1)) ∷ (Int (pos 5)) ∷ [])) ∷ []) }) ∷
      (record { name = []; tm = (tm_no 1); statements = ((Query ((record { part = 1; column = 2 }) ∷ []) ((rel_no 1) ∷ []) []) ∷ []) }) ∷
      [];
  events =
      Submit (txn_no 1) ∷
      Submit (txn_no 2) ∷
      Deliver U (T (tm_no 1)) 1 ∷
      Deliver U (T (tm_no 2)) 1 ∷
      Deliver (T (tm_no 1)) U 2 ∷
      Deliver (T (tm_no 2)) U 2 ∷
      Deliver U (D (dm_no 1)) 1 ∷
      Deliver (T (tm_no 1)) (D (dm_no 1)) 1 ∷
      [];
}

abbrev pub log_of_undeclared : Log
log_of_undeclared = extended 26 input_of_undeclared []

pub history_of_undeclared :
    history log_of_undeclared ≡
    (1, Submission (txn_no 1)) ∷
    (1, Start (txn_no 1) 1 (class_no 1) (time_at 65) (Some (time_at 63)) []) ∷
    (1, Commit (txn_no 1) 1 (Rows []) ((record { frag = (frag_no 1); key = (pos 1); row = (Some ((Int (pos 1)) ∷ (Int (pos 5)) ∷ [])) }) ∷ []) 0 0) ∷
    (2, Submission (txn_no 2)) ∷
    (6, Start (txn_no 2) 1 (class_no 0) (time_at 128) None ((record { number = 1; rel = (rel_no 1); frags = ((frag_no 1) ∷ []); restrictions = [] }) ∷ [])) ∷
    (7, Arrive (txn_no 2) 1 (dm_no 1)) ∷ (
      7,
      Wait (txn_no 2) 1 (dm_no 1) ((record { class = (class_no 1); time = (time_at 128); frags = ((frag_no 1) ∷ []) }) ∷
          (record { class = (class_no 2); time = (time_at 128); frags = ((frag_no 1) ∷ []) }) ∷ []),
    ) ∷
    (8, Apply (txn_no 1) (class_no 1) (dm_no 1) (time_at 65)) ∷
    []
history_of_undeclared = refl

pub all_of_undeclared : (next input_of_undeclared log_of_undeclared ≡ None) × (length log_of_undeclared ≡ 26) × (marks log_of_undeclared ≡ 8)
all_of_undeclared = (refl, refl, refl)
