-- Worked logs, written by tools/write_log_examples.py.
use Rattle.std.specs.Prelude.{◌≡◌, pos, negsuc, [], ◌∷◌, length, Some, None, refl}
use Rattle.sdd_log.specs.All.{Answer, Arrive, Catalogue, Commit, Const, D, Deliver, Ge, Input, Int, Le, Log, P1, P2, P3, Pass, Query, Rows, Start, Submit, T, Wait, class_no, dm_no, extended, frag_no, history, marks, next, rel_no, time_at, tm_no, txn_no}
use Rattle.sdd_graph.specs.declared.edge.Edge.TheVariants.{Vertical, Horizontal, Diagonal}
use Rattle.sdd_log.specs.history.declared.record.Rec.TheVariants.{Submit as Submission}
use Rattle.sdd_log.specs.catalog.declared.parts.Kind.TheVariants as kinds

-- a class has passed a time by a query that was answered: the Wait lists the other class alone

abbrev pub catalogue_of_passed_by_a_read : Catalogue
catalogue_of_passed_by_a_read = record {
  tms = 3;
  dms = 1;
  relations =
      (record { name = []; columns = ((record { name = []; kind = kinds.Int }) ∷ (record { name = []; kind = kinds.Int }) ∷ []); key = 1 }) ∷
      [];
  fragments =
      (record { name = []; rel = (rel_no 1); least = (negsuc 9223372036854775807); greatest = (pos 9); copies = ((dm_no 1) ∷ []) }) ∷
      (record { name = []; rel = (rel_no 1); least = (pos 10); greatest = (pos 9223372036854775807); copies = ((dm_no 1) ∷ []) }) ∷
      [];
  classes =
      (record { name = []; tm = (tm_no 1); reads = ((record { fragment = (frag_no 1); at = (dm_no 1) }) ∷ []); writes = [] }) ∷
      (record { name = []; tm = (tm_no 2); reads = ((record { fragment = (frag_no 2); at = (dm_no 1) }) ∷ []); writes = ((frag_no 1) ∷ []) }) ∷
      (record { name = []; tm = (tm_no 3); reads = []; writes = ((frag_no 1) ∷ []) }) ∷
      [];
}

abbrev pub input_of_passed_by_a_read : Input
input_of_passed_by_a_read = record {
  catalogue = catalogue_of_passed_by_a_read;
  eras =
      (record {
        catalogue = catalogue_of_passed_by_a_read;
        table =
            (record { edge = (Vertical (class_no 1)); block = 0; protocol = P1 }) ∷
            (record { edge = (Vertical (class_no 2)); block = 0; protocol = P1 }) ∷
            (record { edge = (Vertical (class_no 3)); block = 0; protocol = P1 }) ∷
            (record { edge = (Horizontal (class_no 2) (class_no 3)); block = 1; protocol = P1 }) ∷
            (record { edge = (Diagonal (class_no 1) (class_no 2) (frag_no 1)); block = 1; protocol = P2 }) ∷
            (record { edge = (Diagonal (class_no 1) (class_no 3) (frag_no 1)); block = 1; protocol = P2 }) ∷
            [];
      }) ∷
      [];
  rows = ([] ∷ []);
  txns =
      (record {
        name = [];
        tm = (tm_no 2);
        statements = ((Query ((record { part = 1; column = 2 }) ∷ []) ((rel_no 1) ∷
            []) ((Const (record { part = 1; column = 1 }) Ge (Int (pos 10))) ∷ [])) ∷ []);
      }) ∷
      (record {
        name = [];
        tm = (tm_no 1);
        statements = ((Query ((record { part = 1; column = 2 }) ∷ []) ((rel_no 1) ∷
            []) ((Const (record { part = 1; column = 1 }) Le (Int (pos 9))) ∷ [])) ∷ []);
      }) ∷
      [];
  events =
      Submit (txn_no 1) ∷
      Deliver (T (tm_no 2)) (D (dm_no 1)) 1 ∷
      Submit (txn_no 2) ∷
      Deliver (T (tm_no 1)) (D (dm_no 1)) 1 ∷
      Deliver (D (dm_no 1)) (T (tm_no 3)) 1 ∷
      Deliver (T (tm_no 3)) (D (dm_no 1)) 2 ∷
      [];
}

abbrev pub log_of_passed_by_a_read : Log
log_of_passed_by_a_read = extended 21 input_of_passed_by_a_read []

pub history_of_passed_by_a_read :
    history log_of_passed_by_a_read ≡
    (1, Submission (txn_no 1)) ∷ (
      1,
      Start (txn_no 1) 1 (class_no 2) (time_at 66) (Some (time_at 63)) ((record {
        number = 1;
        rel = (rel_no 1);
        frags = ((frag_no 2) ∷ []);
        restrictions = ((record { column = 1; op = Ge; value = (Int (pos 10)) }) ∷ []);
      }) ∷ []),
    ) ∷
    (2, Arrive (txn_no 1) 1 (dm_no 1)) ∷
    (2, Answer (txn_no 1) 1 (dm_no 1)) ∷
    (3, Submission (txn_no 2)) ∷ (
      3,
      Start (txn_no 2) 1 (class_no 1) (time_at 65) (Some (time_at 63)) ((record {
        number = 1;
        rel = (rel_no 1);
        frags = ((frag_no 1) ∷ []);
        restrictions = ((record { column = 1; op = Le; value = (Int (pos 9)) }) ∷ []);
      }) ∷ []),
    ) ∷
    (4, Arrive (txn_no 2) 1 (dm_no 1)) ∷
    (4, Wait (txn_no 2) 1 (dm_no 1) ((record { class = (class_no 3); time = (time_at 63); frags = ((frag_no 1) ∷ []) }) ∷ [])) ∷
    (6, Answer (txn_no 2) 1 (dm_no 1)) ∷
    (6, Pass (class_no 3) (dm_no 1) (time_at 63)) ∷
    []
history_of_passed_by_a_read = refl

pub all_of_passed_by_a_read : (next input_of_passed_by_a_read log_of_passed_by_a_read ≡ None) × (length log_of_passed_by_a_read ≡ 21)
    × (marks log_of_passed_by_a_read ≡ 6)
all_of_passed_by_a_read = (refl, refl, refl)

-- a query that waits for two classes asks both

abbrev pub catalogue_of_asks_two : Catalogue
catalogue_of_asks_two = record {
  tms = 3;
  dms = 1;
  relations =
      (record { name = []; columns = ((record { name = []; kind = kinds.Int }) ∷ (record { name = []; kind = kinds.Int }) ∷ []); key = 1 }) ∷
      [];
  fragments =
      (record { name = []; rel = (rel_no 1); least = (negsuc 9223372036854775807); greatest = (pos 9223372036854775807); copies = ((dm_no 1) ∷ []) }) ∷
      [];
  classes =
      (record { name = []; tm = (tm_no 1); reads = ((record { fragment = (frag_no 1); at = (dm_no 1) }) ∷ []); writes = [] }) ∷
      (record { name = []; tm = (tm_no 2); reads = []; writes = ((frag_no 1) ∷ []) }) ∷
      (record { name = []; tm = (tm_no 3); reads = []; writes = ((frag_no 1) ∷ []) }) ∷
      [];
}

abbrev pub input_of_asks_two : Input
input_of_asks_two = record {
  catalogue = catalogue_of_asks_two;
  eras =
      (record {
        catalogue = catalogue_of_asks_two;
        table =
            (record { edge = (Vertical (class_no 1)); block = 0; protocol = P1 }) ∷
            (record { edge = (Vertical (class_no 2)); block = 0; protocol = P1 }) ∷
            (record { edge = (Vertical (class_no 3)); block = 0; protocol = P1 }) ∷
            (record { edge = (Horizontal (class_no 2) (class_no 3)); block = 1; protocol = P1 }) ∷
            (record { edge = (Diagonal (class_no 1) (class_no 2) (frag_no 1)); block = 1; protocol = P2 }) ∷
            (record { edge = (Diagonal (class_no 1) (class_no 3) (frag_no 1)); block = 1; protocol = P2 }) ∷
            [];
      }) ∷
      [];
  rows = ([] ∷ []);
  txns =
      (record { name = []; tm = (tm_no 1); statements = ((Query ((record { part = 1; column = 2 }) ∷ []) ((rel_no 1) ∷ []) []) ∷ []) }) ∷
      [];
  events =
      Submit (txn_no 1) ∷
      Deliver (T (tm_no 1)) (D (dm_no 1)) 1 ∷
      Deliver (D (dm_no 1)) (T (tm_no 2)) 1 ∷
      Deliver (T (tm_no 2)) (D (dm_no 1)) 2 ∷
      Deliver (D (dm_no 1)) (T (tm_no 3)) 1 ∷
      Deliver (T (tm_no 3)) (D (dm_no 1)) 2 ∷
      [];
}

abbrev pub log_of_asks_two : Log
log_of_asks_two = extended 20 input_of_asks_two []

pub history_of_asks_two :
    history log_of_asks_two ≡
    (1, Submission (txn_no 1)) ∷ (
      1,
      Start (txn_no 1) 1 (class_no 1) (time_at 65) (Some (time_at 63)) ((record {
        number = 1;
        rel = (rel_no 1);
        frags = ((frag_no 1) ∷ []);
        restrictions = [];
      }) ∷ []),
    ) ∷
    (2, Arrive (txn_no 1) 1 (dm_no 1)) ∷ (
      2,
      Wait (txn_no 1) 1 (dm_no 1) ((record { class = (class_no 2); time = (time_at 63); frags = ((frag_no 1) ∷ []) }) ∷
          (record { class = (class_no 3); time = (time_at 63); frags = ((frag_no 1) ∷ []) }) ∷ []),
    ) ∷
    (4, Pass (class_no 2) (dm_no 1) (time_at 63)) ∷
    (6, Answer (txn_no 1) 1 (dm_no 1)) ∷
    (6, Pass (class_no 3) (dm_no 1) (time_at 63)) ∷
    []
history_of_asks_two = refl

pub all_of_asks_two : (next input_of_asks_two log_of_asks_two ≡ None) × (length log_of_asks_two ≡ 20) × (marks log_of_asks_two ≡ 6)
all_of_asks_two = (refl, refl, refl)

-- a class that is asked for an earlier time than its attempt's answers with the attempt's

abbrev pub catalogue_of_asked_while_active : Catalogue
catalogue_of_asked_while_active = record {
  tms = 2;
  dms = 1;
  relations =
      (record { name = []; columns = ((record { name = []; kind = kinds.Int }) ∷ (record { name = []; kind = kinds.Int }) ∷ []); key = 1 }) ∷
      [];
  fragments =
      (record { name = []; rel = (rel_no 1); least = (negsuc 9223372036854775807); greatest = (pos 9); copies = ((dm_no 1) ∷ []) }) ∷
      (record { name = []; rel = (rel_no 1); least = (pos 10); greatest = (pos 9223372036854775807); copies = ((dm_no 1) ∷ []) }) ∷
      [];
  classes =
      (record { name = []; tm = (tm_no 1); reads = ((record { fragment = (frag_no 1); at = (dm_no 1) }) ∷ []); writes = ((frag_no 2) ∷ []) }) ∷
      (record { name = []; tm = (tm_no 2); reads = ((record { fragment = (frag_no 2); at = (dm_no 1) }) ∷ []); writes = ((frag_no 1) ∷ []) }) ∷
      [];
}

abbrev pub input_of_asked_while_active : Input
input_of_asked_while_active = record {
  catalogue = catalogue_of_asked_while_active;
  eras =
      (record {
        catalogue = catalogue_of_asked_while_active;
        table =
            (record { edge = (Vertical (class_no 1)); block = 1; protocol = P1 }) ∷
            (record { edge = (Vertical (class_no 2)); block = 1; protocol = P1 }) ∷
            (record { edge = (Diagonal (class_no 1) (class_no 2) (frag_no 1)); block = 1; protocol = P3 }) ∷
            (record { edge = (Diagonal (class_no 2) (class_no 1) (frag_no 2)); block = 1; protocol = P3 }) ∷
            [];
      }) ∷
      [];
  rows = ([] ∷ []);
  txns =
      (record {
        name = [];
        tm = (tm_no 1);
        statements = ((Query ((record { part = 1; column = 2 }) ∷ []) ((rel_no 1) ∷
            []) ((Const (record { part = 1; column = 1 }) Le (Int (pos 9))) ∷ [])) ∷ []);
      }) ∷
      (record {
        name = [];
        tm = (tm_no 2);
        statements = ((Query ((record { part = 1; column = 2 }) ∷ []) ((rel_no 1) ∷
            []) ((Const (record { part = 1; column = 1 }) Ge (Int (pos 10))) ∷ [])) ∷ []);
      }) ∷
      [];
  events =
      Submit (txn_no 1) ∷
      Submit (txn_no 2) ∷
      Deliver (T (tm_no 1)) (D (dm_no 1)) 1 ∷
      Deliver (D (dm_no 1)) (T (tm_no 2)) 1 ∷
      Deliver (T (tm_no 2)) (D (dm_no 1)) 1 ∷
      Deliver (D (dm_no 1)) (T (tm_no 1)) 2 ∷
      Deliver (T (tm_no 1)) (D (dm_no 1)) 2 ∷
      Deliver (D (dm_no 1)) (T (tm_no 1)) 2 ∷
      Deliver (D (dm_no 1)) (T (tm_no 1)) 3 ∷
      Deliver (T (tm_no 1)) (D (dm_no 1)) 4 ∷
      Deliver (T (tm_no 2)) (D (dm_no 1)) 2 ∷
      [];
}

abbrev pub log_of_asked_while_active : Log
log_of_asked_while_active = extended 37 input_of_asked_while_active []

pub history_of_asked_while_active :
    history log_of_asked_while_active ≡
    (1, Submission (txn_no 1)) ∷ (
      1,
      Start (txn_no 1) 1 (class_no 1) (time_at 65) (Some (time_at 63)) ((record {
        number = 1;
        rel = (rel_no 1);
        frags = ((frag_no 1) ∷ []);
        restrictions = ((record { column = 1; op = Le; value = (Int (pos 9)) }) ∷ []);
      }) ∷ []),
    ) ∷
    (2, Submission (txn_no 2)) ∷ (
      2,
      Start (txn_no 2) 1 (class_no 2) (time_at 66) (Some (time_at 63)) ((record {
        number = 1;
        rel = (rel_no 1);
        frags = ((frag_no 2) ∷ []);
        restrictions = ((record { column = 1; op = Ge; value = (Int (pos 10)) }) ∷ []);
      }) ∷ []),
    ) ∷
    (3, Arrive (txn_no 1) 1 (dm_no 1)) ∷
    (3, Wait (txn_no 1) 1 (dm_no 1) ((record { class = (class_no 2); time = (time_at 65); frags = ((frag_no 1) ∷ []) }) ∷ [])) ∷
    (5, Arrive (txn_no 2) 1 (dm_no 1)) ∷
    (5, Answer (txn_no 1) 1 (dm_no 1)) ∷
    (5, Wait (txn_no 2) 1 (dm_no 1) ((record { class = (class_no 1); time = (time_at 66); frags = ((frag_no 2) ∷ []) }) ∷ [])) ∷
    (9, Commit (txn_no 1) 1 (Rows ([] ∷ [])) [] 0 0) ∷
    (10, Pass (class_no 1) (dm_no 1) (time_at 127)) ∷
    (10, Answer (txn_no 2) 1 (dm_no 1)) ∷
    (11, Pass (class_no 2) (dm_no 1) (time_at 66)) ∷
    []
history_of_asked_while_active = refl

pub all_of_asked_while_active : (next input_of_asked_while_active log_of_asked_while_active ≡ None) × (length log_of_asked_while_active ≡ 37)
    × (marks log_of_asked_while_active ≡ 11)
all_of_asked_while_active = (refl, refl, refl)
