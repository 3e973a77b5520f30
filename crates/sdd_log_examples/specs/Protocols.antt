-- Worked logs, written by tools/write_log_examples.py.
use Rattle.std.specs.Prelude.{◌≡◌, pos, negsuc, [], ◌∷◌, length, Some, None, refl}
use Rattle.sdd_log.specs.All.{Answer, Apply, Arrive, Catalogue, Commit, Const, D, Deliver, Ge, Input, Int, Le, Log, P1, P2, P3, Pass, Put, Query, Rows, Settle, Start, Submit, T, Tick, Wait, class_no, dm_no, extended, frag_no, history, marks, next, rel_no, time_at, tm_no, txn_no}
use Rattle.sdd_graph.specs.declared.edge.Edge.TheVariants.{Vertical, Diagonal}
use Rattle.sdd_log.specs.history.declared.record.Rec.TheVariants.{Submit as Submission}
use Rattle.sdd_log.specs.catalog.declared.parts.Kind.TheVariants as kinds

-- by P1 a query is answered before the put that is committed comes to its module

abbrev pub catalogue_of_reads_before : Catalogue
catalogue_of_reads_before = record {
  tms = 2;
  dms = 1;
  relations =
      (record { name = []; columns = ((record { name = []; kind = kinds.Int }) ∷ (record { name = []; kind = kinds.Int }) ∷ []); key = 1 }) ∷
      [];
  fragments =
      (record { name = []; rel = (rel_no 1); least = (negsuc 9223372036854775807); greatest = (pos 9); copies = ((dm_no 1) ∷ []) }) ∷
      (record { name = []; rel = (rel_no 1); least = (pos 10); greatest = (pos 9223372036854775807); copies = ((dm_no 1) ∷ []) }) ∷
      [];
  classes =
      (record { name = []; tm = (tm_no 1); reads = []; writes = ((frag_no 1) ∷ []) }) ∷
      (record { name = []; tm = (tm_no 2); reads = ((record { fragment = (frag_no 1); at = (dm_no 1) }) ∷ []); writes = [] }) ∷
      [];
}

abbrev pub input_of_reads_before : Input
input_of_reads_before = record {
  catalogue = catalogue_of_reads_before;
  eras =
      (record {
        catalogue = catalogue_of_reads_before;
        table =
            (record { edge = (Vertical (class_no 1)); block = 0; protocol = P1 }) ∷
            (record { edge = (Vertical (class_no 2)); block = 0; protocol = P1 }) ∷
            (record { edge = (Diagonal (class_no 2) (class_no 1) (frag_no 1)); block = 0; protocol = P1 }) ∷
            [];
      }) ∷
      [];
  rows = ([] ∷ []);
  txns =
      (record { name = []; tm = (tm_no 1); statements = ((Put (rel_no 1) ((Int (pos 1)) ∷ (Int (pos 7)) ∷ [])) ∷ []) }) ∷
      (record {
        name = [];
        tm = (tm_no 2);
        statements = ((Query ((record { part = 1; column = 2 }) ∷ []) ((rel_no 1) ∷
            []) ((Const (record { part = 1; column = 1 }) Le (Int (pos 9))) ∷ [])) ∷ []);
      }) ∷
      [];
  events =
      Submit (txn_no 1) ∷
      Tick (tm_no 2) 5 ∷
      Submit (txn_no 2) ∷
      Deliver (T (tm_no 2)) (D (dm_no 1)) 1 ∷
      Deliver (D (dm_no 1)) (T (tm_no 2)) 2 ∷
      Deliver (T (tm_no 2)) (D (dm_no 1)) 2 ∷
      Deliver (D (dm_no 1)) (T (tm_no 2)) 3 ∷
      Deliver (T (tm_no 1)) (D (dm_no 1)) 1 ∷
      [];
}

abbrev pub log_of_reads_before : Log
log_of_reads_before = extended 24 input_of_reads_before []

pub history_of_reads_before :
    history log_of_reads_before ≡
    (1, Submission (txn_no 1)) ∷
    (1, Start (txn_no 1) 1 (class_no 1) (time_at 65) (Some (time_at 63)) []) ∷
    (1, Commit (txn_no 1) 1 (Rows []) ((record { frag = (frag_no 1); key = (pos 1); row = (Some ((Int (pos 1)) ∷ (Int (pos 7)) ∷ [])) }) ∷ []) 0 0) ∷
    (3, Submission (txn_no 2)) ∷ (
      3,
      Start (txn_no 2) 1 (class_no 2) (time_at 386) (Some (time_at 383)) ((record {
        number = 1;
        rel = (rel_no 1);
        frags = ((frag_no 1) ∷ []);
        restrictions = ((record { column = 1; op = Le; value = (Int (pos 9)) }) ∷ []);
      }) ∷ []),
    ) ∷
    (4, Arrive (txn_no 2) 1 (dm_no 1)) ∷
    (4, Answer (txn_no 2) 1 (dm_no 1)) ∷
    (7, Commit (txn_no 2) 1 (Rows ([] ∷ [])) [] 0 0) ∷
    (8, Apply (txn_no 1) (class_no 1) (dm_no 1) (time_at 65)) ∷
    []
history_of_reads_before = refl

pub all_of_reads_before : (next input_of_reads_before log_of_reads_before ≡ None) × (length log_of_reads_before ≡ 24) × (marks log_of_reads_before ≡ 8)
all_of_reads_before = (refl, refl, refl)

-- a query asks two modules up to one time, and waits at both

abbrev pub catalogue_of_one_time_at_two : Catalogue
catalogue_of_one_time_at_two = record {
  tms = 2;
  dms = 2;
  relations =
      (record { name = []; columns = ((record { name = []; kind = kinds.Int }) ∷ (record { name = []; kind = kinds.Int }) ∷ []); key = 1 }) ∷
      [];
  fragments =
      (record { name = []; rel = (rel_no 1); least = (negsuc 9223372036854775807); greatest = (pos 9); copies = ((dm_no 1) ∷ []) }) ∷
      (record { name = []; rel = (rel_no 1); least = (pos 10); greatest = (pos 9223372036854775807); copies = ((dm_no 2) ∷ []) }) ∷
      [];
  classes =
      (record { name = []; tm = (tm_no 1); reads = []; writes = ((frag_no 1) ∷ (frag_no 2) ∷ []) }) ∷
      (record {
        name = [];
        tm = (tm_no 2);
        reads = ((record { fragment = (frag_no 1); at = (dm_no 1) }) ∷ (record {
          fragment = (frag_no 2);
          at = (dm_no 2);
        }) ∷ []);
        writes = [];
      }) ∷
      [];
}

abbrev pub input_of_one_time_at_two : Input
input_of_one_time_at_two = record {
  catalogue = catalogue_of_one_time_at_two;
  eras =
      (record {
        catalogue = catalogue_of_one_time_at_two;
        table =
            (record { edge = (Vertical (class_no 1)); block = 0; protocol = P1 }) ∷
            (record { edge = (Vertical (class_no 2)); block = 0; protocol = P1 }) ∷
            (record { edge = (Diagonal (class_no 2) (class_no 1) (frag_no 1)); block = 1; protocol = P2 }) ∷
            (record { edge = (Diagonal (class_no 2) (class_no 1) (frag_no 2)); block = 1; protocol = P2 }) ∷
            [];
      }) ∷
      [];
  rows = ((((rel_no 1), ((Int (pos 1)) ∷ (Int (pos 0)) ∷ [])) ∷ ((rel_no 1), ((Int (pos 11)) ∷ (Int (pos 0)) ∷ [])) ∷ []) ∷
      (((rel_no 1), ((Int (pos 1)) ∷ (Int (pos 0)) ∷ [])) ∷ ((rel_no 1), ((Int (pos 11)) ∷ (Int (pos 0)) ∷ [])) ∷ []) ∷ []);
  txns =
      (record {
        name = [];
        tm = (tm_no 1);
        statements = ((Put (rel_no 1) ((Int (pos 1)) ∷ (Int (pos 7)) ∷ [])) ∷ (Put (rel_no 1) ((Int (pos 11)) ∷
            (Int (pos 7)) ∷ [])) ∷ []);
      }) ∷
      (record {
        name = [];
        tm = (tm_no 2);
        statements = ((Query ((record { part = 1; column = 1 }) ∷ (record { part = 1; column = 2 }) ∷
            []) ((rel_no 1) ∷ []) []) ∷ []);
      }) ∷
      [];
  events =
      Submit (txn_no 1) ∷
      Tick (tm_no 2) 3 ∷
      Submit (txn_no 2) ∷
      Deliver (T (tm_no 1)) (D (dm_no 1)) 1 ∷
      Deliver (T (tm_no 2)) (D (dm_no 1)) 1 ∷
      Deliver (T (tm_no 2)) (D (dm_no 2)) 1 ∷
      Settle ∷
      [];
}

abbrev pub log_of_one_time_at_two : Log
log_of_one_time_at_two = extended 73 input_of_one_time_at_two []

pub history_of_one_time_at_two :
    history log_of_one_time_at_two ≡
    (1, Submission (txn_no 1)) ∷
    (1, Start (txn_no 1) 1 (class_no 1) (time_at 65) (Some (time_at 63)) []) ∷ (
      1,
      Commit (txn_no 1) 1 (Rows []) ((record { frag = (frag_no 1); key = (pos 1); row = (Some ((Int (pos 1)) ∷ (Int (pos 7)) ∷ [])) }) ∷
          (record { frag = (frag_no 2); key = (pos 11); row = (Some ((Int (pos 11)) ∷ (Int (pos 7)) ∷ [])) }) ∷ []) 0 0,
    ) ∷
    (3, Submission (txn_no 2)) ∷ (
      3,
      Start (txn_no 2) 1 (class_no 2) (time_at 258) (Some (time_at 255)) ((record {
        number = 1;
        rel = (rel_no 1);
        frags = ((frag_no 1) ∷
            (frag_no 2) ∷ []);
        restrictions = [];
      }) ∷ []),
    ) ∷
    (4, Apply (txn_no 1) (class_no 1) (dm_no 1) (time_at 65)) ∷
    (5, Arrive (txn_no 2) 1 (dm_no 1)) ∷
    (5, Wait (txn_no 2) 1 (dm_no 1) ((record { class = (class_no 1); time = (time_at 255); frags = ((frag_no 1) ∷ []) }) ∷ [])) ∷
    (6, Arrive (txn_no 2) 1 (dm_no 2)) ∷
    (6, Wait (txn_no 2) 1 (dm_no 2) ((record { class = (class_no 1); time = (time_at 255); frags = ((frag_no 2) ∷ []) }) ∷ [])) ∷
    (7, Apply (txn_no 1) (class_no 1) (dm_no 2) (time_at 65)) ∷
    (14, Pass (class_no 1) (dm_no 1) (time_at 255)) ∷
    (14, Answer (txn_no 2) 1 (dm_no 1)) ∷
    (16, Pass (class_no 1) (dm_no 2) (time_at 255)) ∷
    (16, Answer (txn_no 2) 1 (dm_no 2)) ∷
    (29, Commit (txn_no 2) 1 (Rows ((((Int (pos 1)) ∷ (Int (pos 7)) ∷ []) ∷ ((Int (pos 11)) ∷ (Int (pos 7)) ∷ []) ∷ []) ∷ [])) [] 0 2) ∷
    []
history_of_one_time_at_two = refl

pub all_of_one_time_at_two : (next input_of_one_time_at_two log_of_one_time_at_two ≡ None) × (length log_of_one_time_at_two ≡ 73)
    × (marks log_of_one_time_at_two ≡ 31)
all_of_one_time_at_two = (refl, refl, refl)

-- by P3 a query waits up to its own timestamp

abbrev pub catalogue_of_up_to_its_own_time : Catalogue
catalogue_of_up_to_its_own_time = record {
  tms = 2;
  dms = 1;
  relations =
      (record { name = []; columns = ((record { name = []; kind = kinds.Int }) ∷ (record { name = []; kind = kinds.Int }) ∷ []); key = 1 }) ∷
      [];
  fragments =
      (record { name = []; rel = (rel_no 1); least = (negsuc 9223372036854775807); greatest = (pos 9); copies = ((dm_no 1) ∷ []) }) ∷
      (record { name = []; rel = (rel_no 1); least = (pos 10); greatest = (pos 9223372036854775807); copies = ((dm_no 1) ∷ []) }) ∷
      [];
  classes =
      (record { name = []; tm = (tm_no 1); reads = ((record { fragment = (frag_no 1); at = (dm_no 1) }) ∷ []); writes = ((frag_no 2) ∷ []) }) ∷
      (record { name = []; tm = (tm_no 2); reads = ((record { fragment = (frag_no 2); at = (dm_no 1) }) ∷ []); writes = ((frag_no 1) ∷ []) }) ∷
      [];
}

abbrev pub input_of_up_to_its_own_time : Input
input_of_up_to_its_own_time = record {
  catalogue = catalogue_of_up_to_its_own_time;
  eras =
      (record {
        catalogue = catalogue_of_up_to_its_own_time;
        table =
            (record { edge = (Vertical (class_no 1)); block = 1; protocol = P1 }) ∷
            (record { edge = (Vertical (class_no 2)); block = 1; protocol = P1 }) ∷
            (record { edge = (Diagonal (class_no 1) (class_no 2) (frag_no 1)); block = 1; protocol = P3 }) ∷
            (record { edge = (Diagonal (class_no 2) (class_no 1) (frag_no 2)); block = 1; protocol = P3 }) ∷
            [];
      }) ∷
      [];
  rows = ([] ∷ []);
  txns =
      (record {
        name = [];
        tm = (tm_no 1);
        statements = ((Query ((record { part = 1; column = 2 }) ∷ []) ((rel_no 1) ∷
            []) ((Const (record { part = 1; column = 1 }) Le (Int (pos 9))) ∷ [])) ∷ (Put (rel_no 1) ((Int (pos 11)) ∷ (Int (pos 1)) ∷ [])) ∷ []);
      }) ∷
      (record {
        name = [];
        tm = (tm_no 2);
        statements = ((Query ((record { part = 1; column = 2 }) ∷ []) ((rel_no 1) ∷
            []) ((Const (record { part = 1; column = 1 }) Ge (Int (pos 10))) ∷ [])) ∷ (Put (rel_no 1) ((Int (pos 1)) ∷ (Int (pos 1)) ∷ [])) ∷ []);
      }) ∷
      [];
  events =
      Submit (txn_no 1) ∷
      Submit (txn_no 2) ∷
      Deliver (T (tm_no 2)) (D (dm_no 1)) 1 ∷
      Deliver (D (dm_no 1)) (T (tm_no 1)) 1 ∷
      Deliver (T (tm_no 1)) (D (dm_no 1)) 1 ∷
      Deliver (D (dm_no 1)) (T (tm_no 1)) 2 ∷
      Deliver (T (tm_no 1)) (D (dm_no 1)) 3 ∷
      Deliver (D (dm_no 1)) (T (tm_no 1)) 3 ∷
      Deliver (T (tm_no 1)) (D (dm_no 1)) 4 ∷
      Deliver (T (tm_no 1)) (D (dm_no 1)) 4 ∷
      Deliver (D (dm_no 1)) (T (tm_no 2)) 2 ∷
      Deliver (T (tm_no 2)) (D (dm_no 1)) 2 ∷
      Deliver (D (dm_no 1)) (T (tm_no 2)) 3 ∷
      [];
}

abbrev pub log_of_up_to_its_own_time : Log
log_of_up_to_its_own_time = extended 42 input_of_up_to_its_own_time []

pub history_of_up_to_its_own_time :
    history log_of_up_to_its_own_time ≡
    (1, Submission (txn_no 1)) ∷ (
      1,
      Start (txn_no 1) 1 (class_no 1) (time_at 65) (Some (time_at 63)) ((record {
        number = 1;
        rel = (rel_no 1);
        frags = ((frag_no 1) ∷ []);
        restrictions = ((record { column = 1; op = Le; value = (Int (pos 9)) }) ∷ []);
      }) ∷ []),
    ) ∷
    (2, Submission (txn_no 2)) ∷ (
      2,
      Start (txn_no 2) 1 (class_no 2) (time_at 66) (Some (time_at 63)) ((record {
        number = 1;
        rel = (rel_no 1);
        frags = ((frag_no 2) ∷ []);
        restrictions = ((record { column = 1; op = Ge; value = (Int (pos 10)) }) ∷ []);
      }) ∷ []),
    ) ∷
    (3, Arrive (txn_no 2) 1 (dm_no 1)) ∷
    (3, Wait (txn_no 2) 1 (dm_no 1) ((record { class = (class_no 1); time = (time_at 66); frags = ((frag_no 2) ∷ []) }) ∷ [])) ∷
    (5, Arrive (txn_no 1) 1 (dm_no 1)) ∷
    (5, Answer (txn_no 1) 1 (dm_no 1)) ∷
    (8, Commit (txn_no 1) 1 (Rows ([] ∷ [])) ((record { frag = (frag_no 2); key = (pos 11); row = (Some ((Int (pos 11)) ∷ (Int (pos 1)) ∷ [])) }) ∷ []) 0 0) ∷
    (9, Apply (txn_no 1) (class_no 1) (dm_no 1) (time_at 65)) ∷
    (10, Pass (class_no 1) (dm_no 1) (time_at 127)) ∷
    (10, Answer (txn_no 2) 1 (dm_no 1)) ∷ (
      13,
      Commit (txn_no 2) 1 (Rows ((((Int (pos 1)) ∷ []) ∷ []) ∷ [])) ((record {
        frag = (frag_no 1);
        key = (pos 1);
        row = (Some ((Int (pos 1)) ∷
            (Int (pos 1)) ∷ []));
      }) ∷ []) 0 1,
    ) ∷
    []
history_of_up_to_its_own_time = refl

pub all_of_up_to_its_own_time : (next input_of_up_to_its_own_time log_of_up_to_its_own_time ≡ None) × (length log_of_up_to_its_own_time ≡ 42)
    × (marks log_of_up_to_its_own_time ≡ 13)
all_of_up_to_its_own_time = (refl, refl, refl)
