-- Worked logs, written by tools/write_log_examples.py.
use Rattle.std.specs.Prelude.{◌≡◌, pos, negsuc, [], ◌∷◌, length, Some, None, refl}
use Rattle.sdd_log.specs.All.{Answer, Apply, Arrive, Catalogue, Commit, Input, Int, Log, P1, Put, Query, Redeclare, Rows, Settle, Start, Submit, class_no, dm_no, extended, frag_no, history, marks, next, rel_no, time_at, tm_no, txn_no}
use Rattle.sdd_graph.specs.declared.edge.Edge.TheVariants.{Vertical}
use Rattle.sdd_log.specs.history.declared.record.Rec.TheVariants.{Submit as Submission}
use Rattle.sdd_log.specs.catalog.declared.parts.Kind.TheVariants as kinds

-- a further class list is put in force

abbrev pub catalogue_of_second_class_list : Catalogue
catalogue_of_second_class_list = record {
  tms = 1;
  dms = 1;
  relations =
      (record { name = []; columns = ((record { name = []; kind = kinds.Int }) ∷ (record { name = []; kind = kinds.Int }) ∷ []); key = 1 }) ∷
      [];
  fragments =
      (record { name = []; rel = (rel_no 1); least = (negsuc 9223372036854775807); greatest = (pos 9223372036854775807); copies = ((dm_no 1) ∷ []) }) ∷
      [];
  classes =
      (record { name = []; tm = (tm_no 1); reads = ((record { fragment = (frag_no 1); at = (dm_no 1) }) ∷ []); writes = ((frag_no 1) ∷ []) }) ∷
      (record { name = []; tm = (tm_no 1); reads = ((record { fragment = (frag_no 1); at = (dm_no 1) }) ∷ []); writes = [] }) ∷
      [];
}

abbrev pub classes_of_second_class_list_0 : Catalogue
classes_of_second_class_list_0 = record {
  tms = 1;
  dms = 1;
  relations =
      (record { name = []; columns = ((record { name = []; kind = kinds.Int }) ∷ (record { name = []; kind = kinds.Int }) ∷ []); key = 1 }) ∷
      [];
  fragments =
      (record { name = []; rel = (rel_no 1); least = (negsuc 9223372036854775807); greatest = (pos 9223372036854775807); copies = ((dm_no 1) ∷ []) }) ∷
      [];
  classes =
      (record { name = []; tm = (tm_no 1); reads = ((record { fragment = (frag_no 1); at = (dm_no 1) }) ∷ []); writes = ((frag_no 1) ∷ []) }) ∷
      [];
}

abbrev pub classes_of_second_class_list_1 : Catalogue
classes_of_second_class_list_1 = record {
  tms = 1;
  dms = 1;
  relations =
      (record { name = []; columns = ((record { name = []; kind = kinds.Int }) ∷ (record { name = []; kind = kinds.Int }) ∷ []); key = 1 }) ∷
      [];
  fragments =
      (record { name = []; rel = (rel_no 1); least = (negsuc 9223372036854775807); greatest = (pos 9223372036854775807); copies = ((dm_no 1) ∷ []) }) ∷
      [];
  classes =
      (record { name = []; tm = (tm_no 1); reads = []; writes = [] }) ∷
      (record { name = []; tm = (tm_no 1); reads = ((record { fragment = (frag_no 1); at = (dm_no 1) }) ∷ []); writes = [] }) ∷
      [];
}

abbrev pub input_of_second_class_list : Input
input_of_second_class_list = record {
  catalogue = catalogue_of_second_class_list;
  eras =
      (record {
        catalogue = classes_of_second_class_list_0;
        table =
            (record { edge = (Vertical (class_no 1)); block = 0; protocol = P1 }) ∷
            [];
      }) ∷
      (record {
        catalogue = classes_of_second_class_list_1;
        table =
            (record { edge = (Vertical (class_no 1)); block = 0; protocol = P1 }) ∷
            (record { edge = (Vertical (class_no 2)); block = 0; protocol = P1 }) ∷
            [];
      }) ∷
      [];
  rows = ([] ∷ []);
  txns =
      (record { name = []; tm = (tm_no 1); statements = ((Put (rel_no 1) ((Int (pos 5)) ∷ (Int (pos 10)) ∷ [])) ∷ []) }) ∷
      (record { name = []; tm = (tm_no 1); statements = ((Query ((record { part = 1; column = 1 }) ∷ []) ((rel_no 1) ∷ []) []) ∷ []) }) ∷
      [];
  events =
      Submit (txn_no 1) ∷
      Redeclare ∷
      Submit (txn_no 2) ∷
      Settle ∷
      [];
}

abbrev pub log_of_second_class_list : Log
log_of_second_class_list = extended 36 input_of_second_class_list []

pub history_of_second_class_list :
    history log_of_second_class_list ≡
    (1, Submission (txn_no 1)) ∷
    (1, Start (txn_no 1) 1 (class_no 1) (time_at 65) (Some (time_at 63)) []) ∷
    (1, Commit (txn_no 1) 1 (Rows []) ((record { frag = (frag_no 1); key = (pos 5); row = (Some ((Int (pos 5)) ∷ (Int (pos 10)) ∷ [])) }) ∷ []) 0 0) ∷
    (2, Apply (txn_no 1) (class_no 1) (dm_no 1) (time_at 65)) ∷
    (5, Submission (txn_no 2)) ∷ (
      5,
      Start (txn_no 2) 1 (class_no 2) (time_at 129) (Some (time_at 127)) ((record {
        number = 1;
        rel = (rel_no 1);
        frags = ((frag_no 1) ∷ []);
        restrictions = [];
      }) ∷ []),
    ) ∷
    (6, Arrive (txn_no 2) 1 (dm_no 1)) ∷
    (6, Answer (txn_no 2) 1 (dm_no 1)) ∷
    (12, Commit (txn_no 2) 1 (Rows ((((Int (pos 5)) ∷ []) ∷ []) ∷ [])) [] 0 1) ∷
    []
history_of_second_class_list = refl

pub all_of_second_class_list : (next input_of_second_class_list log_of_second_class_list ≡ None) × (length log_of_second_class_list ≡ 36)
    × (marks log_of_second_class_list ≡ 13)
all_of_second_class_list = (refl, refl, refl)
