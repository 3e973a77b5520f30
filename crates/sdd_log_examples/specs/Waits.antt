-- Worked logs, written by tools/write_log_examples.py.
use Rattle.std.specs.Prelude.{◌≡◌, pos, negsuc, [], ◌∷◌, length, Some, None, refl}
use Rattle.sdd_log.specs.All.{Answer, Apply, Arrive, Catalogue, Commit, Const, D, Deliver, Input, Int, Le, Log, P1, P2, P3, Pass, Put, Query, Rows, Settle, Start, Submit, T, Tick, Wait, class_no, dm_no, extended, frag_no, history, marks, next, rel_no, time_at, tm_no, txn_no}
use Rattle.sdd_graph.specs.declared.edge.Edge.TheVariants.{Vertical, Horizontal, Diagonal}
use Rattle.sdd_log.specs.history.declared.record.Rec.TheVariants.{Submit as Submission, Reject}
use Rattle.sdd_log.specs.catalog.declared.parts.Kind.TheVariants as kinds

-- a query comes after a later put, is rejected, and starts again

abbrev pub catalogue_of_rejected : Catalogue
catalogue_of_rejected = record {
  tms = 2;
  dms = 1;
  relations =
      (record { name = []; columns = ((record { name = []; kind = kinds.Int }) ∷ (record { name = []; kind = kinds.Int }) ∷ []); key = 1 }) ∷
      [];
  fragments =
      (record { name = []; rel = (rel_no 1); least = (negsuc 9223372036854775807); greatest = (pos 9); copies = ((dm_no 1) ∷ []) }) ∷
      (record { name = []; rel = (rel_no 1); least = (pos 10); greatest = (pos 9223372036854775807); copies = ((dm_no 1) ∷ []) }) ∷
      [];
  classes =
      (record { name = []; tm = (tm_no 1); reads = ((record { fragment = (frag_no 1); at = (dm_no 1) }) ∷ []); writes = ((frag_no 2) ∷ []) }) ∷
      (record { name = []; tm = (tm_no 2); reads = ((record { fragment = (frag_no 2); at = (dm_no 1) }) ∷ []); writes = ((frag_no 1) ∷ []) }) ∷
      [];
}

abbrev pub input_of_rejected : Input
input_of_rejected = record {
  catalogue = catalogue_of_rejected;
  eras =
      (record {
        catalogue = catalogue_of_rejected;
        table =
            (record { edge = (Vertical (class_no 1)); block = 1; protocol = P1 }) ∷
            (record { edge = (Vertical (class_no 2)); block = 1; protocol = P1 }) ∷
            (record { edge = (Diagonal (class_no 1) (class_no 2) (frag_no 1)); block = 1; protocol = P3 }) ∷
            (record { edge = (Diagonal (class_no 2) (class_no 1) (frag_no 2)); block = 1; protocol = P3 }) ∷
            [];
      }) ∷
      [];
  rows = ([] ∷ []);
  txns =
      (record {
        name = [];
        tm = (tm_no 1);
        statements = ((Query ((record { part = 1; column = 2 }) ∷ []) ((rel_no 1) ∷
            []) ((Const (record { part = 1; column = 1 }) Le (Int (pos 9))) ∷ [])) ∷ []);
      }) ∷
      (record { name = []; tm = (tm_no 2); statements = ((Put (rel_no 1) ((Int (pos 1)) ∷ (Int (pos 1)) ∷ [])) ∷ []) }) ∷
      [];
  events =
      Submit (txn_no 1) ∷
      Submit (txn_no 2) ∷
      Deliver (T (tm_no 2)) (D (dm_no 1)) 1 ∷
      Deliver (T (tm_no 1)) (D (dm_no 1)) 1 ∷
      Deliver (D (dm_no 1)) (T (tm_no 1)) 2 ∷
      Deliver (T (tm_no 1)) (D (dm_no 1)) 2 ∷
      Settle ∷
      [];
}

abbrev pub log_of_rejected : Log
log_of_rejected = extended 52 input_of_rejected []

pub history_of_rejected :
    history log_of_rejected ≡
    (1, Submission (txn_no 1)) ∷ (
      1,
      Start (txn_no 1) 1 (class_no 1) (time_at 65) (Some (time_at 63)) ((record {
        number = 1;
        rel = (rel_no 1);
        frags = ((frag_no 1) ∷ []);
        restrictions = ((record { column = 1; op = Le; value = (Int (pos 9)) }) ∷ []);
      }) ∷ []),
    ) ∷
    (2, Submission (txn_no 2)) ∷
    (2, Start (txn_no 2) 1 (class_no 2) (time_at 66) (Some (time_at 63)) []) ∷
    (2, Commit (txn_no 2) 1 (Rows []) ((record { frag = (frag_no 1); key = (pos 1); row = (Some ((Int (pos 1)) ∷ (Int (pos 1)) ∷ [])) }) ∷ []) 0 0) ∷
    (3, Apply (txn_no 2) (class_no 2) (dm_no 1) (time_at 66)) ∷
    (4, Arrive (txn_no 1) 1 (dm_no 1)) ∷
    (4, Reject (txn_no 1) 1 (dm_no 1) (class_no 2) (time_at 66)) ∷ (
      5,
      Start (txn_no 1) 2 (class_no 1) (time_at 129) (Some (time_at 127)) ((record {
        number = 1;
        rel = (rel_no 1);
        frags = ((frag_no 1) ∷ []);
        restrictions = ((record { column = 1; op = Le; value = (Int (pos 9)) }) ∷ []);
      }) ∷ []),
    ) ∷
    (6, Arrive (txn_no 1) 2 (dm_no 1)) ∷
    (6, Wait (txn_no 1) 2 (dm_no 1) ((record { class = (class_no 2); time = (time_at 129); frags = ((frag_no 1) ∷ []) }) ∷ [])) ∷
    (13, Answer (txn_no 1) 2 (dm_no 1)) ∷
    (13, Pass (class_no 2) (dm_no 1) (time_at 191)) ∷
    (19, Commit (txn_no 1) 2 (Rows ((((Int (pos 1)) ∷ []) ∷ []) ∷ [])) [] 0 1) ∷
    []
history_of_rejected = refl

pub all_of_rejected : (next input_of_rejected log_of_rejected ≡ None) × (length log_of_rejected ≡ 52) × (marks log_of_rejected ≡ 20)
all_of_rejected = (refl, refl, refl)

-- a query waits for two classes; a put of one of them is held until it is answered

abbrev pub catalogue_of_waits_for_two : Catalogue
catalogue_of_waits_for_two = record {
  tms = 3;
  dms = 1;
  relations =
      (record { name = []; columns = ((record { name = []; kind = kinds.Int }) ∷ (record { name = []; kind = kinds.Int }) ∷ []); key = 1 }) ∷
      [];
  fragments =
      (record { name = []; rel = (rel_no 1); least = (negsuc 9223372036854775807); greatest = (pos 9223372036854775807); copies = ((dm_no 1) ∷ []) }) ∷
      [];
  classes =
      (record { name = []; tm = (tm_no 1); reads = ((record { fragment = (frag_no 1); at = (dm_no 1) }) ∷ []); writes = [] }) ∷
      (record { name = []; tm = (tm_no 2); reads = []; writes = ((frag_no 1) ∷ []) }) ∷
      (record { name = []; tm = (tm_no 3); reads = []; writes = ((frag_no 1) ∷ []) }) ∷
      [];
}

abbrev pub input_of_waits_for_two : Input
input_of_waits_for_two = record {
  catalogue = catalogue_of_waits_for_two;
  eras =
      (record {
        catalogue = catalogue_of_waits_for_two;
        table =
            (record { edge = (Vertical (class_no 1)); block = 0; protocol = P1 }) ∷
            (record { edge = (Vertical (class_no 2)); block = 0; protocol = P1 }) ∷
            (record { edge = (Vertical (class_no 3)); block = 0; protocol = P1 }) ∷
            (record { edge = (Horizontal (class_no 2) (class_no 3)); block = 1; protocol = P1 }) ∷
            (record { edge = (Diagonal (class_no 1) (class_no 2) (frag_no 1)); block = 1; protocol = P2 }) ∷
            (record { edge = (Diagonal (class_no 1) (class_no 3) (frag_no 1)); block = 1; protocol = P2 }) ∷
            [];
      }) ∷
      [];
  rows = ([] ∷ []);
  txns =
      (record { name = []; tm = (tm_no 1); statements = ((Query ((record { part = 1; column = 2 }) ∷ []) ((rel_no 1) ∷ []) []) ∷ []) }) ∷
      (record { name = []; tm = (tm_no 3); statements = ((Put (rel_no 1) ((Int (pos 1)) ∷ (Int (pos 5)) ∷ [])) ∷ []) }) ∷
      [];
  events =
      Tick (tm_no 1) 2 ∷
      Submit (txn_no 1) ∷
      Tick (tm_no 3) 3 ∷
      Submit (txn_no 2) ∷
      Deliver (T (tm_no 1)) (D (dm_no 1)) 1 ∷
      Deliver (T (tm_no 3)) (D (dm_no 1)) 1 ∷
      Deliver (D (dm_no 1)) (T (tm_no 2)) 1 ∷
      Deliver (T (tm_no 2)) (D (dm_no 1)) 2 ∷
      [];
}

abbrev pub log_of_waits_for_two : Log
log_of_waits_for_two = extended 23 input_of_waits_for_two []

pub history_of_waits_for_two :
    history log_of_waits_for_two ≡
    (2, Submission (txn_no 1)) ∷ (
      2,
      Start (txn_no 1) 1 (class_no 1) (time_at 193) (Some (time_at 191)) ((record {
        number = 1;
        rel = (rel_no 1);
        frags = ((frag_no 1) ∷ []);
        restrictions = [];
      }) ∷ []),
    ) ∷
    (4, Submission (txn_no 2)) ∷
    (4, Start (txn_no 2) 1 (class_no 3) (time_at 259) (Some (time_at 255)) []) ∷
    (4, Commit (txn_no 2) 1 (Rows []) ((record { frag = (frag_no 1); key = (pos 1); row = (Some ((Int (pos 1)) ∷ (Int (pos 5)) ∷ [])) }) ∷ []) 0 0) ∷
    (5, Arrive (txn_no 1) 1 (dm_no 1)) ∷ (
      5,
      Wait (txn_no 1) 1 (dm_no 1) ((record { class = (class_no 2); time = (time_at 191); frags = ((frag_no 1) ∷ []) }) ∷
          (record { class = (class_no 3); time = (time_at 191); frags = ((frag_no 1) ∷ []) }) ∷ []),
    ) ∷
    (8, Answer (txn_no 1) 1 (dm_no 1)) ∷
    (8, Pass (class_no 2) (dm_no 1) (time_at 191)) ∷
    (8, Apply (txn_no 2) (class_no 3) (dm_no 1) (time_at 259)) ∷
    []
history_of_waits_for_two = refl

pub all_of_waits_for_two : (next input_of_waits_for_two log_of_waits_for_two ≡ None) × (length log_of_waits_for_two ≡ 23) × (marks log_of_waits_for_two ≡ 8)
all_of_waits_for_two = (refl, refl, refl)

-- of two puts a waiting query lets the one before its time pass

abbrev pub catalogue_of_earlier_and_later : Catalogue
catalogue_of_earlier_and_later = record {
  tms = 3;
  dms = 1;
  relations =
      (record { name = []; columns = ((record { name = []; kind = kinds.Int }) ∷ (record { name = []; kind = kinds.Int }) ∷ []); key = 1 }) ∷
      [];
  fragments =
      (record { name = []; rel = (rel_no 1); least = (negsuc 9223372036854775807); greatest = (pos 9223372036854775807); copies = ((dm_no 1) ∷ []) }) ∷
      [];
  classes =
      (record { name = []; tm = (tm_no 1); reads = ((record { fragment = (frag_no 1); at = (dm_no 1) }) ∷ []); writes = [] }) ∷
      (record { name = []; tm = (tm_no 2); reads = []; writes = ((frag_no 1) ∷ []) }) ∷
      (record { name = []; tm = (tm_no 3); reads = []; writes = ((frag_no 1) ∷ []) }) ∷
      [];
}

abbrev pub input_of_earlier_and_later : Input
input_of_earlier_and_later = record {
  catalogue = catalogue_of_earlier_and_later;
  eras =
      (record {
        catalogue = catalogue_of_earlier_and_later;
        table =
            (record { edge = (Vertical (class_no 1)); block = 0; protocol = P1 }) ∷
            (record { edge = (Vertical (class_no 2)); block = 0; protocol = P1 }) ∷
            (record { edge = (Vertical (class_no 3)); block = 0; protocol = P1 }) ∷
            (record { edge = (Horizontal (class_no 2) (class_no 3)); block = 1; protocol = P1 }) ∷
            (record { edge = (Diagonal (class_no 1) (class_no 2) (frag_no 1)); block = 1; protocol = P2 }) ∷
            (record { edge = (Diagonal (class_no 1) (class_no 3) (frag_no 1)); block = 1; protocol = P2 }) ∷
            [];
      }) ∷
      [];
  rows = ([] ∷ []);
  txns =
      (record { name = []; tm = (tm_no 2); statements = ((Put (rel_no 1) ((Int (pos 1)) ∷ (Int (pos 5)) ∷ [])) ∷ []) }) ∷
      (record { name = []; tm = (tm_no 3); statements = ((Put (rel_no 1) ((Int (pos 1)) ∷ (Int (pos 6)) ∷ [])) ∷ []) }) ∷
      (record { name = []; tm = (tm_no 1); statements = ((Query ((record { part = 1; column = 2 }) ∷ []) ((rel_no 1) ∷ []) []) ∷ []) }) ∷
      [];
  events =
      Submit (txn_no 1) ∷
      Submit (txn_no 2) ∷
      Tick (tm_no 1) 1 ∷
      Submit (txn_no 3) ∷
      Deliver (T (tm_no 3)) (D (dm_no 1)) 1 ∷
      Deliver (T (tm_no 1)) (D (dm_no 1)) 1 ∷
      Deliver (T (tm_no 2)) (D (dm_no 1)) 1 ∷
      [];
}

abbrev pub log_of_earlier_and_later : Log
log_of_earlier_and_later = extended 22 input_of_earlier_and_later []

pub history_of_earlier_and_later :
    history log_of_earlier_and_later ≡
    (1, Submission (txn_no 1)) ∷
    (1, Start (txn_no 1) 1 (class_no 2) (time_at 66) (Some (time_at 63)) []) ∷
    (1, Commit (txn_no 1) 1 (Rows []) ((record { frag = (frag_no 1); key = (pos 1); row = (Some ((Int (pos 1)) ∷ (Int (pos 5)) ∷ [])) }) ∷ []) 0 0) ∷
    (2, Submission (txn_no 2)) ∷
    (2, Start (txn_no 2) 1 (class_no 3) (time_at 67) (Some (time_at 63)) []) ∷
    (2, Commit (txn_no 2) 1 (Rows []) ((record { frag = (frag_no 1); key = (pos 1); row = (Some ((Int (pos 1)) ∷ (Int (pos 6)) ∷ [])) }) ∷ []) 0 0) ∷
    (4, Submission (txn_no 3)) ∷ (
      4,
      Start (txn_no 3) 1 (class_no 1) (time_at 129) (Some (time_at 127)) ((record {
        number = 1;
        rel = (rel_no 1);
        frags = ((frag_no 1) ∷ []);
        restrictions = [];
      }) ∷ []),
    ) ∷
    (5, Apply (txn_no 2) (class_no 3) (dm_no 1) (time_at 67)) ∷
    (6, Arrive (txn_no 3) 1 (dm_no 1)) ∷ (
      6,
      Wait (txn_no 3) 1 (dm_no 1) ((record { class = (class_no 2); time = (time_at 127); frags = ((frag_no 1) ∷ []) }) ∷
          (record { class = (class_no 3); time = (time_at 127); frags = ((frag_no 1) ∷ []) }) ∷ []),
    ) ∷
    (7, Apply (txn_no 1) (class_no 2) (dm_no 1) (time_at 66)) ∷
    []
history_of_earlier_and_later = refl

pub all_of_earlier_and_later : (next input_of_earlier_and_later log_of_earlier_and_later ≡ None) × (length log_of_earlier_and_later ≡ 22)
    × (marks log_of_earlier_and_later ≡ 7)
all_of_earlier_and_later = (refl, refl, refl)
