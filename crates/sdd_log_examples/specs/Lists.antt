-- Worked logs, written by tools/write_log_examples.py.
use Rattle.std.specs.Prelude.{◌≡◌, pos, negsuc, [], ◌∷◌, length, Some, None, refl}
use Rattle.sdd_log.specs.All.{Arrive, Catalogue, D, Deliver, Input, Int, Log, P1, P2, Query, Redeclare, Start, Submit, T, Tick, U, Wait, class_no, dm_no, extended, frag_no, history, marks, next, rel_no, time_at, tm_no, txn_no}
use Rattle.sdd_graph.specs.declared.edge.Edge.TheVariants.{Vertical, Horizontal, Diagonal}
use Rattle.sdd_log.specs.history.declared.record.Rec.TheVariants.{Submit as Submission}
use Rattle.sdd_log.specs.catalog.declared.parts.Kind.TheVariants as kinds

-- a query asks the classes of the list that is in force, from its greatest clock on

abbrev pub catalogue_of_conditions_of_a_list : Catalogue
catalogue_of_conditions_of_a_list = record {
  tms = 3;
  dms = 1;
  relations =
      (record { name = []; columns = ((record { name = []; kind = kinds.Int }) ∷ (record { name = []; kind = kinds.Int }) ∷ []); key = 1 }) ∷
      [];
  fragments =
      (record { name = []; rel = (rel_no 1); least = (negsuc 9223372036854775807); greatest = (pos 9223372036854775807); copies = ((dm_no 1) ∷ []) }) ∷
      [];
  classes =
      (record { name = []; tm = (tm_no 1); reads = []; writes = ((frag_no 1) ∷ []) }) ∷
      (record { name = []; tm = (tm_no 1); reads = ((record { fragment = (frag_no 1); at = (dm_no 1) }) ∷ []); writes = [] }) ∷
      (record { name = []; tm = (tm_no 2); reads = []; writes = ((frag_no 1) ∷ []) }) ∷
      (record { name = []; tm = (tm_no 3); reads = []; writes = ((frag_no 1) ∷ []) }) ∷
      [];
}

abbrev pub classes_of_conditions_of_a_list_0 : Catalogue
classes_of_conditions_of_a_list_0 = record {
  tms = 3;
  dms = 1;
  relations =
      (record { name = []; columns = ((record { name = []; kind = kinds.Int }) ∷ (record { name = []; kind = kinds.Int }) ∷ []); key = 1 }) ∷
      [];
  fragments =
      (record { name = []; rel = (rel_no 1); least = (negsuc 9223372036854775807); greatest = (pos 9223372036854775807); copies = ((dm_no 1) ∷ []) }) ∷
      [];
  classes =
      (record { name = []; tm = (tm_no 1); reads = []; writes = ((frag_no 1) ∷ []) }) ∷
      [];
}

abbrev pub classes_of_conditions_of_a_list_1 : Catalogue
classes_of_conditions_of_a_list_1 = record {
  tms = 3;
  dms = 1;
  relations =
      (record { name = []; columns = ((record { name = []; kind = kinds.Int }) ∷ (record { name = []; kind = kinds.Int }) ∷ []); key = 1 }) ∷
      [];
  fragments =
      (record { name = []; rel = (rel_no 1); least = (negsuc 9223372036854775807); greatest = (pos 9223372036854775807); copies = ((dm_no 1) ∷ []) }) ∷
      [];
  classes =
      (record { name = []; tm = (tm_no 1); reads = []; writes = [] }) ∷
      (record { name = []; tm = (tm_no 1); reads = ((record { fragment = (frag_no 1); at = (dm_no 1) }) ∷ []); writes = [] }) ∷
      (record { name = []; tm = (tm_no 2); reads = []; writes = ((frag_no 1) ∷ []) }) ∷
      (record { name = []; tm = (tm_no 3); reads = []; writes = ((frag_no 1) ∷ []) }) ∷
      [];
}

abbrev pub input_of_conditions_of_a_list : Input
input_of_conditions_of_a_list = record {
  catalogue = catalogue_of_conditions_of_a_list;
  eras =
      (record {
        catalogue = classes_of_conditions_of_a_list_0;
        table =
            (record { edge = (Vertical (class_no 1)); block = 0; protocol = P1 }) ∷
            [];
      }) ∷
      (record {
        catalogue = classes_of_conditions_of_a_list_1;
        table =
            (record { edge = (Vertical (class_no 1)); block = 0; protocol = P1 }) ∷
            (record { edge = (Vertical (class_no 2)); block = 0; protocol = P1 }) ∷
            (record { edge = (Vertical (class_no 3)); block = 0; protocol = P1 }) ∷
            (record { edge = (Vertical (class_no 4)); block = 0; protocol = P1 }) ∷
            (record { edge = (Horizontal (class_no 3) (class_no 4)); block = 1; protocol = P1 }) ∷
            (record { edge = (Diagonal (class_no 2) (class_no 3) (frag_no 1)); block = 1; protocol = P2 }) ∷
            (record { edge = (Diagonal (class_no 2) (class_no 4) (frag_no 1)); block = 1; protocol = P2 }) ∷
            [];
      }) ∷
      [];
  rows = ([] ∷ []);
  txns =
      (record { name = []; tm = (tm_no 1); statements = ((Query ((record { part = 1; column = 2 }) ∷ []) ((rel_no 1) ∷ []) []) ∷ []) }) ∷
      (record { name = []; tm = (tm_no 1); statements = ((Query ((record { part = 1; column = 1 }) ∷ []) ((rel_no 1) ∷ []) []) ∷ []) }) ∷
      [];
  events =
      Tick (tm_no 2) 5 ∷
      Redeclare ∷
      Submit (txn_no 2) ∷
      Deliver (T (tm_no 1)) (D (dm_no 1)) 1 ∷
      [];
}

abbrev pub log_of_conditions_of_a_list : Log
log_of_conditions_of_a_list = extended 9 input_of_conditions_of_a_list []

pub history_of_conditions_of_a_list :
    history log_of_conditions_of_a_list ≡
    (3, Submission (txn_no 2)) ∷ (
      3,
      Start (txn_no 2) 1 (class_no 2) (time_at 385) (Some (time_at 383)) ((record {
        number = 1;
        rel = (rel_no 1);
        frags = ((frag_no 1) ∷ []);
        restrictions = [];
      }) ∷ []),
    ) ∷
    (4, Arrive (txn_no 2) 1 (dm_no 1)) ∷ (
      4,
      Wait (txn_no 2) 1 (dm_no 1) ((record { class = (class_no 3); time = (time_at 383); frags = ((frag_no 1) ∷ []) }) ∷
          (record { class = (class_no 4); time = (time_at 383); frags = ((frag_no 1) ∷ []) }) ∷ []),
    ) ∷
    []
history_of_conditions_of_a_list = refl

pub all_of_conditions_of_a_list : (next input_of_conditions_of_a_list log_of_conditions_of_a_list ≡ None) × (length log_of_conditions_of_a_list ≡ 9)
    × (marks log_of_conditions_of_a_list ≡ 4)
all_of_conditions_of_a_list = (refl, refl, refl)

-- an undeclared query waits for the classes of all lists

abbrev pub catalogue_of_undeclared_before_a_list : Catalogue
catalogue_of_undeclared_before_a_list = record {
  tms = 1;
  dms = 1;
  relations =
      (record { name = []; columns = ((record { name = []; kind = kinds.Int }) ∷ (record { name = []; kind = kinds.Int }) ∷ []); key = 1 }) ∷
      [];
  fragments =
      (record { name = []; rel = (rel_no 1); least = (negsuc 9223372036854775807); greatest = (pos 9223372036854775807); copies = ((dm_no 1) ∷ []) }) ∷
      [];
  classes =
      (record { name = []; tm = (tm_no 1); reads = []; writes = ((frag_no 1) ∷ []) }) ∷
      (record { name = []; tm = (tm_no 1); reads = ((record { fragment = (frag_no 1); at = (dm_no 1) }) ∷ []); writes = [] }) ∷
      [];
}

abbrev pub classes_of_undeclared_before_a_list_0 : Catalogue
classes_of_undeclared_before_a_list_0 = record {
  tms = 1;
  dms = 1;
  relations =
      (record { name = []; columns = ((record { name = []; kind = kinds.Int }) ∷ (record { name = []; kind = kinds.Int }) ∷ []); key = 1 }) ∷
      [];
  fragments =
      (record { name = []; rel = (rel_no 1); least = (negsuc 9223372036854775807); greatest = (pos 9223372036854775807); copies = ((dm_no 1) ∷ []) }) ∷
      [];
  classes =
      (record { name = []; tm = (tm_no 1); reads = []; writes = ((frag_no 1) ∷ []) }) ∷
      [];
}

abbrev pub classes_of_undeclared_before_a_list_1 : Catalogue
classes_of_undeclared_before_a_list_1 = record {
  tms = 1;
  dms = 1;
  relations =
      (record { name = []; columns = ((record { name = []; kind = kinds.Int }) ∷ (record { name = []; kind = kinds.Int }) ∷ []); key = 1 }) ∷
      [];
  fragments =
      (record { name = []; rel = (rel_no 1); least = (negsuc 9223372036854775807); greatest = (pos 9223372036854775807); copies = ((dm_no 1) ∷ []) }) ∷
      [];
  classes =
      (record { name = []; tm = (tm_no 1); reads = []; writes = [] }) ∷
      (record { name = []; tm = (tm_no 1); reads = ((record { fragment = (frag_no 1); at = (dm_no 1) }) ∷ []); writes = [] }) ∷
      [];
}

abbrev pub input_of_undeclared_before_a_list : Input
input_of_undeclared_before_a_list = record {
  catalogue = catalogue_of_undeclared_before_a_list;
  eras =
      (record {
        catalogue = classes_of_undeclared_before_a_list_0;
        table =
            (record { edge = (Vertical (class_no 1)); block = 0; protocol = P1 }) ∷
            [];
      }) ∷
      (record {
        catalogue = classes_of_undeclared_before_a_list_1;
        table =
            (record { edge = (Vertical (class_no 1)); block = 0; protocol = P1 }) ∷
            (record { edge = (Vertical (class_no 2)); block = 0; protocol = P1 }) ∷
            [];
      }) ∷
      [];
  rows = ([] ∷ []);
  txns =
      (record { name = []; tm = (tm_no 1); statements = ((Query ((record { part = 1; column = 2 }) ∷ []) ((rel_no 1) ∷ []) []) ∷ []) }) ∷
      [];
  events =
      Submit (txn_no 1) ∷
      Deliver U (T (tm_no 1)) 1 ∷
      Deliver (T (tm_no 1)) U 2 ∷
      Deliver U (D (dm_no 1)) 1 ∷
      [];
}

abbrev pub log_of_undeclared_before_a_list : Log
log_of_undeclared_before_a_list = extended 13 input_of_undeclared_before_a_list []

pub history_of_undeclared_before_a_list :
    history log_of_undeclared_before_a_list ≡
    (1, Submission (txn_no 1)) ∷
    (3, Start (txn_no 1) 1 (class_no 0) (time_at 64) None ((record { number = 1; rel = (rel_no 1); frags = ((frag_no 1) ∷ []); restrictions = [] }) ∷ [])) ∷
    (4, Arrive (txn_no 1) 1 (dm_no 1)) ∷ (
      4,
      Wait (txn_no 1) 1 (dm_no 1) ((record { class = (class_no 1); time = (time_at 64); frags = ((frag_no 1) ∷ []) }) ∷
          (record { class = (class_no 2); time = (time_at 64); frags = ((frag_no 1) ∷ []) }) ∷ []),
    ) ∷
    []
history_of_undeclared_before_a_list = refl

pub all_of_undeclared_before_a_list : (next input_of_undeclared_before_a_list log_of_undeclared_before_a_list ≡ None)
    × (length log_of_undeclared_before_a_list ≡ 13) × (marks log_of_undeclared_before_a_list ≡ 4)
all_of_undeclared_before_a_list = (refl, refl, refl)
