-- Worked logs, written by tools/write_log_examples.py.
use Rattle.std.specs.Prelude.{◌≡◌, pos, negsuc, [], ◌∷◌, length, Some, None, refl}
use Rattle.sdd_log.specs.All.{Answer, Apply, Arrive, Catalogue, Commit, Input, Int, Log, P1, Pass, Put, Query, Rows, Settle, Start, Submit, Wait, class_no, dm_no, extended, frag_no, history, marks, next, rel_no, time_at, tm_no, txn_no}
use Rattle.sdd_graph.specs.declared.edge.Edge.TheVariants.{Vertical}
use Rattle.sdd_log.specs.history.declared.record.Rec.TheVariants.{Submit as Submission}
use Rattle.sdd_log.specs.catalog.declared.parts.Kind.TheVariants as kinds

-- two undeclared queries, one after the other, and then a put

abbrev pub catalogue_of_two_undeclared : Catalogue
catalogue_of_two_undeclared = record {
  tms = 1;
  dms = 2;
  relations =
      (record { name = []; columns = ((record { name = []; kind = kinds.Int }) ∷ (record { name = []; kind = kinds.Int }) ∷ []); key = 1 }) ∷
      [];
  fragments =
      (record {
        name = [];
        rel = (rel_no 1);
        least = (negsuc 9223372036854775807);
        greatest = (pos 9223372036854775807);
        copies = ((dm_no 1) ∷
            (dm_no 2) ∷ []);
      }) ∷
      [];
  classes =
      (record { name = []; tm = (tm_no 1); reads = []; writes = ((frag_no 1) ∷ []) }) ∷
      [];
}

abbrev pub input_of_two_undeclared : Input
input_of_two_undeclared = record {
  catalogue = catalogue_of_two_undeclared;
  eras =
      (record {
        catalogue = catalogue_of_two_undeclared;
        table =
            (record { edge = (Vertical (class_no 1)); block = 0; protocol = P1 }) ∷
            [];
      }) ∷
      [];
  rows = ([] ∷ [] ∷ []);
  txns =
      (record { name = []; tm = (tm_no 1); statements = ((Query ((record { part = 1; column = 2 }) ∷ []) ((rel_no 1) ∷ []) []) ∷ []) }) ∷
      (record { name = []; tm = (tm_no 1); statements = ((Query ((record { part = 1; column = 1 }) ∷ []) ((rel_no 1) ∷ []) []) ∷ []) }) ∷
      (record { name = []; tm = (tm_no 1); statements = ((Put (rel_no 1) ((Int (pos 1)) ∷ (Int (pos 5)) ∷ [])) ∷ []) }) ∷
      [];
  events =
      Submit (txn_no 1) ∷
      Submit (txn_no 2) ∷
      Settle ∷
      Submit (txn_no 3) ∷
      [];
}

abbrev pub log_of_two_undeclared : Log
log_of_two_undeclared = extended 186 input_of_two_undeclared []

pub history_of_two_undeclared :
    history log_of_two_undeclared ≡
    (1, Submission (txn_no 1)) ∷
    (2, Submission (txn_no 2)) ∷
    (5, Start (txn_no 1) 1 (class_no 0) (time_at 64) None ((record { number = 1; rel = (rel_no 1); frags = ((frag_no 1) ∷ []); restrictions = [] }) ∷ [])) ∷
    (7, Arrive (txn_no 1) 1 (dm_no 1)) ∷
    (7, Wait (txn_no 1) 1 (dm_no 1) ((record { class = (class_no 1); time = (time_at 64); frags = ((frag_no 1) ∷ []) }) ∷ [])) ∷
    (8, Arrive (txn_no 1) 1 (dm_no 2)) ∷
    (8, Wait (txn_no 1) 1 (dm_no 2) ((record { class = (class_no 1); time = (time_at 64); frags = ((frag_no 1) ∷ []) }) ∷ [])) ∷
    (14, Answer (txn_no 1) 1 (dm_no 1)) ∷
    (14, Pass (class_no 1) (dm_no 1) (time_at 127)) ∷
    (16, Answer (txn_no 1) 1 (dm_no 2)) ∷
    (16, Pass (class_no 1) (dm_no 2) (time_at 127)) ∷
    (28, Commit (txn_no 1) 1 (Rows ([] ∷ [])) [] 0 0) ∷
    (30, Apply (txn_no 1) (class_no 0) (dm_no 1) (time_at 64)) ∷
    (32, Apply (txn_no 1) (class_no 0) (dm_no 2) (time_at 64)) ∷
    (43, Start (txn_no 2) 1 (class_no 0) (time_at 128) None ((record { number = 1; rel = (rel_no 1); frags = ((frag_no 1) ∷ []); restrictions = [] }) ∷ [])) ∷
    (45, Arrive (txn_no 2) 1 (dm_no 1)) ∷
    (45, Wait (txn_no 2) 1 (dm_no 1) ((record { class = (class_no 1); time = (time_at 128); frags = ((frag_no 1) ∷ []) }) ∷ [])) ∷
    (46, Arrive (txn_no 2) 1 (dm_no 2)) ∷
    (46, Wait (txn_no 2) 1 (dm_no 2) ((record { class = (class_no 1); time = (time_at 128); frags = ((frag_no 1) ∷ []) }) ∷ [])) ∷
    (52, Answer (txn_no 2) 1 (dm_no 1)) ∷
    (52, Pass (class_no 1) (dm_no 1) (time_at 191)) ∷
    (54, Answer (txn_no 2) 1 (dm_no 2)) ∷
    (54, Pass (class_no 1) (dm_no 2) (time_at 191)) ∷
    (66, Commit (txn_no 2) 1 (Rows ([] ∷ [])) [] 0 0) ∷
    (68, Apply (txn_no 2) (class_no 0) (dm_no 1) (time_at 128)) ∷
    (70, Apply (txn_no 2) (class_no 0) (dm_no 2) (time_at 128)) ∷
    (79, Submission (txn_no 3)) ∷
    (79, Start (txn_no 3) 1 (class_no 1) (time_at 193) (Some (time_at 191)) []) ∷
    (79, Commit (txn_no 3) 1 (Rows []) ((record { frag = (frag_no 1); key = (pos 1); row = (Some ((Int (pos 1)) ∷ (Int (pos 5)) ∷ [])) }) ∷ []) 0 0) ∷
    []
history_of_two_undeclared = refl

pub all_of_two_undeclared : (next input_of_two_undeclared log_of_two_undeclared ≡ None) × (length log_of_two_undeclared ≡ 186) × (marks log_of_two_undeclared ≡ 79)
all_of_two_undeclared = (refl, refl, refl)
