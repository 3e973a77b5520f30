-- Worked logs, written by tools/write_log_examples.py.
use Rattle.std.specs.Prelude.{◌≡◌, pos, negsuc, [], ◌∷◌, length, Some, None, refl}
use Rattle.sdd_log.specs.All.{Answer, Apply, Arrive, Catalogue, Commit, D, Deliver, Input, Int, Log, Lose, Nothing, P1, Put, Query, Repeat, Resend, Rows, Settle, Start, Submit, T, class_no, dm_no, extended, frag_no, history, marks, next, rel_no, time_at, tm_no, txn_no}
use Rattle.sdd_graph.specs.declared.edge.Edge.TheVariants.{Vertical, Horizontal}
use Rattle.sdd_log.specs.history.declared.record.Rec.TheVariants.{Submit as Submission}
use Rattle.sdd_log.specs.catalog.declared.parts.Kind.TheVariants as kinds

-- a put and a query of one class: a settle carries all out

abbrev pub catalogue_of_put_and_query : Catalogue
catalogue_of_put_and_query = record {
  tms = 1;
  dms = 1;
  relations =
      (record { name = []; columns = ((record { name = []; kind = kinds.Int }) ∷ (record { name = []; kind = kinds.Int }) ∷ []); key = 1 }) ∷
      [];
  fragments =
      (record { name = []; rel = (rel_no 1); least = (negsuc 9223372036854775807); greatest = (pos 9223372036854775807); copies = ((dm_no 1) ∷ []) }) ∷
      [];
  classes =
      (record { name = []; tm = (tm_no 1); reads = ((record { fragment = (frag_no 1); at = (dm_no 1) }) ∷ []); writes = ((frag_no 1) ∷ []) }) ∷
      [];
}

abbrev pub input_of_put_and_query : Input
input_of_put_and_query = record {
  catalogue = catalogue_of_put_and_query;
  eras =
      (record {
        catalogue = catalogue_of_put_and_query;
        table =
            (record { edge = (Vertical (class_no 1)); block = 0; protocol = P1 }) ∷
            [];
      }) ∷
      [];
  rows = ([] ∷ []);
  txns =
      (record { name = []; tm = (tm_no 1); statements = ((Put (rel_no 1) ((Int (pos 5)) ∷ (Int (pos 10)) ∷ [])) ∷ []) }) ∷
      (record {
        name = [];
        tm = (tm_no 1);
        statements = ((Query ((record { part = 1; column = 1 }) ∷ (record { part = 1; column = 2 }) ∷
            []) ((rel_no 1) ∷ []) []) ∷ []);
      }) ∷
      [];
  events =
      Submit (txn_no 1) ∷
      Submit (txn_no 2) ∷
      Settle ∷
      [];
}

abbrev pub log_of_put_and_query : Log
log_of_put_and_query = extended 33 input_of_put_and_query []

pub history_of_put_and_query :
    history log_of_put_and_query ≡
    (1, Submission (txn_no 1)) ∷
    (1, Start (txn_no 1) 1 (class_no 1) (time_at 65) (Some (time_at 63)) []) ∷
    (1, Commit (txn_no 1) 1 (Rows []) ((record { frag = (frag_no 1); key = (pos 5); row = (Some ((Int (pos 5)) ∷ (Int (pos 10)) ∷ [])) }) ∷ []) 0 0) ∷
    (2, Submission (txn_no 2)) ∷ (
      2,
      Start (txn_no 2) 1 (class_no 1) (time_at 129) (Some (time_at 127)) ((record {
        number = 1;
        rel = (rel_no 1);
        frags = ((frag_no 1) ∷ []);
        restrictions = [];
      }) ∷ []),
    ) ∷
    (3, Apply (txn_no 1) (class_no 1) (dm_no 1) (time_at 65)) ∷
    (4, Arrive (txn_no 2) 1 (dm_no 1)) ∷
    (4, Answer (txn_no 2) 1 (dm_no 1)) ∷
    (11, Commit (txn_no 2) 1 (Rows ((((Int (pos 5)) ∷ (Int (pos 10)) ∷ []) ∷ []) ∷ [])) [] 0 1) ∷
    []
history_of_put_and_query = refl

pub all_of_put_and_query : (next input_of_put_and_query log_of_put_and_query ≡ None) × (length log_of_put_and_query ≡ 33) × (marks log_of_put_and_query ≡ 12)
all_of_put_and_query = (refl, refl, refl)

-- a packet is lost, another one repeated and delivered early; both are resent

abbrev pub catalogue_of_lost_and_repeated : Catalogue
catalogue_of_lost_and_repeated = record {
  tms = 1;
  dms = 1;
  relations =
      (record { name = []; columns = ((record { name = []; kind = kinds.Int }) ∷ (record { name = []; kind = kinds.Int }) ∷ []); key = 1 }) ∷
      [];
  fragments =
      (record { name = []; rel = (rel_no 1); least = (negsuc 9223372036854775807); greatest = (pos 9223372036854775807); copies = ((dm_no 1) ∷ []) }) ∷
      [];
  classes =
      (record { name = []; tm = (tm_no 1); reads = ((record { fragment = (frag_no 1); at = (dm_no 1) }) ∷ []); writes = ((frag_no 1) ∷ []) }) ∷
      [];
}

abbrev pub input_of_lost_and_repeated : Input
input_of_lost_and_repeated = record {
  catalogue = catalogue_of_lost_and_repeated;
  eras =
      (record {
        catalogue = catalogue_of_lost_and_repeated;
        table =
            (record { edge = (Vertical (class_no 1)); block = 0; protocol = P1 }) ∷
            [];
      }) ∷
      [];
  rows = ([] ∷ []);
  txns =
      (record { name = []; tm = (tm_no 1); statements = ((Put (rel_no 1) ((Int (pos 5)) ∷ (Int (pos 10)) ∷ [])) ∷ []) }) ∷
      (record { name = []; tm = (tm_no 1); statements = ((Put (rel_no 1) ((Int (pos 5)) ∷ (Int (pos 20)) ∷ [])) ∷ []) }) ∷
      [];
  events =
      Submit (txn_no 1) ∷
      Submit (txn_no 2) ∷
      Lose (T (tm_no 1)) (D (dm_no 1)) 1 ∷
      Repeat (T (tm_no 1)) (D (dm_no 1)) 1 ∷
      Deliver (T (tm_no 1)) (D (dm_no 1)) 1 ∷
      Resend (T (tm_no 1)) (D (dm_no 1)) ∷
      Deliver (T (tm_no 1)) (D (dm_no 1)) 2 ∷
      Deliver (T (tm_no 1)) (D (dm_no 1)) 1 ∷
      Deliver (T (tm_no 1)) (D (dm_no 1)) 1 ∷
      Deliver (T (tm_no 1)) (D (dm_no 1)) 1 ∷
      [];
}

abbrev pub log_of_lost_and_repeated : Log
log_of_lost_and_repeated = extended 21 input_of_lost_and_repeated []

pub history_of_lost_and_repeated :
    history log_of_lost_and_repeated ≡
    (1, Submission (txn_no 1)) ∷
    (1, Start (txn_no 1) 1 (class_no 1) (time_at 65) (Some (time_at 63)) []) ∷
    (1, Commit (txn_no 1) 1 (Rows []) ((record { frag = (frag_no 1); key = (pos 5); row = (Some ((Int (pos 5)) ∷ (Int (pos 10)) ∷ [])) }) ∷ []) 0 0) ∷
    (2, Submission (txn_no 2)) ∷
    (2, Start (txn_no 2) 1 (class_no 1) (time_at 129) (Some (time_at 127)) []) ∷
    (2, Commit (txn_no 2) 1 (Rows []) ((record { frag = (frag_no 1); key = (pos 5); row = (Some ((Int (pos 5)) ∷ (Int (pos 20)) ∷ [])) }) ∷ []) 0 0) ∷
    (7, Apply (txn_no 1) (class_no 1) (dm_no 1) (time_at 65)) ∷
    (7, Apply (txn_no 2) (class_no 1) (dm_no 1) (time_at 129)) ∷
    (10, Nothing) ∷
    []
history_of_lost_and_repeated = refl

pub all_of_lost_and_repeated : (next input_of_lost_and_repeated log_of_lost_and_repeated ≡ None) × (length log_of_lost_and_repeated ≡ 21)
    × (marks log_of_lost_and_repeated ≡ 10)
all_of_lost_and_repeated = (refl, refl, refl)

-- two puts of one item come to its two copies in different orders

abbrev pub catalogue_of_two_copies : Catalogue
catalogue_of_two_copies = record {
  tms = 2;
  dms = 2;
  relations =
      (record { name = []; columns = ((record { name = []; kind = kinds.Int }) ∷ (record { name = []; kind = kinds.Int }) ∷ []); key = 1 }) ∷
      [];
  fragments =
      (record {
        name = [];
        rel = (rel_no 1);
        least = (negsuc 9223372036854775807);
        greatest = (pos 9223372036854775807);
        copies = ((dm_no 1) ∷
            (dm_no 2) ∷ []);
      }) ∷
      [];
  classes =
      (record { name = []; tm = (tm_no 1); reads = []; writes = ((frag_no 1) ∷ []) }) ∷
      (record { name = []; tm = (tm_no 2); reads = []; writes = ((frag_no 1) ∷ []) }) ∷
      [];
}

abbrev pub input_of_two_copies : Input
input_of_two_copies = record {
  catalogue = catalogue_of_two_copies;
  eras =
      (record {
        catalogue = catalogue_of_two_copies;
        table =
            (record { edge = (Vertical (class_no 1)); block = 0; protocol = P1 }) ∷
            (record { edge = (Vertical (class_no 2)); block = 0; protocol = P1 }) ∷
            (record { edge = (Horizontal (class_no 1) (class_no 2)); block = 0; protocol = P1 }) ∷
            [];
      }) ∷
      [];
  rows = ([] ∷ [] ∷ []);
  txns =
      (record { name = []; tm = (tm_no 1); statements = ((Put (rel_no 1) ((Int (pos 1)) ∷ (Int (pos 5)) ∷ [])) ∷ []) }) ∷
      (record { name = []; tm = (tm_no 2); statements = ((Put (rel_no 1) ((Int (pos 1)) ∷ (Int (pos 6)) ∷ [])) ∷ []) }) ∷
      [];
  events =
      Submit (txn_no 1) ∷
      Submit (txn_no 2) ∷
      Deliver (T (tm_no 1)) (D (dm_no 1)) 1 ∷
      Deliver (T (tm_no 2)) (D (dm_no 1)) 1 ∷
      Deliver (T (tm_no 2)) (D (dm_no 2)) 1 ∷
      Deliver (T (tm_no 1)) (D (dm_no 2)) 1 ∷
      [];
}

abbrev pub log_of_two_copies : Log
log_of_two_copies = extended 20 input_of_two_copies []

pub history_of_two_copies :
    history log_of_two_copies ≡
    (1, Submission (txn_no 1)) ∷
    (1, Start (txn_no 1) 1 (class_no 1) (time_at 65) (Some (time_at 63)) []) ∷
    (1, Commit (txn_no 1) 1 (Rows []) ((record { frag = (frag_no 1); key = (pos 1); row = (Some ((Int (pos 1)) ∷ (Int (pos 5)) ∷ [])) }) ∷ []) 0 0) ∷
    (2, Submission (txn_no 2)) ∷
    (2, Start (txn_no 2) 1 (class_no 2) (time_at 66) (Some (time_at 63)) []) ∷
    (2, Commit (txn_no 2) 1 (Rows []) ((record { frag = (frag_no 1); key = (pos 1); row = (Some ((Int (pos 1)) ∷ (Int (pos 6)) ∷ [])) }) ∷ []) 0 0) ∷
    (3, Apply (txn_no 1) (class_no 1) (dm_no 1) (time_at 65)) ∷
    (4, Apply (txn_no 2) (class_no 2) (dm_no 1) (time_at 66)) ∷
    (5, Apply (txn_no 2) (class_no 2) (dm_no 2) (time_at 66)) ∷
    (6, Apply (txn_no 1) (class_no 1) (dm_no 2) (time_at 65)) ∷
    []
history_of_two_copies = refl

pub all_of_two_copies : (next input_of_two_copies log_of_two_copies ≡ None) × (length log_of_two_copies ≡ 20) × (marks log_of_two_copies ≡ 6)
all_of_two_copies = (refl, refl, refl)
