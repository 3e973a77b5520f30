-- Worked logs, written by tools/write_log_examples.py.
use Rattle.std.specs.Prelude.{◌≡◌, pos, negsuc, [], ◌∷◌, length, Some, None, refl}
use Rattle.sdd_log.specs.All.{Answer, Arrive, Catalogue, Commit, D, Deliver, Down, Input, Int, Log, Nothing, P1, Put, Query, Rows, Start, Submit, T, Tick, U, Up, class_no, dm_no, extended, frag_no, history, marks, next, rel_no, time_at, tm_no, txn_no}
use Rattle.sdd_graph.specs.declared.edge.Edge.TheVariants.{Vertical}
use Rattle.sdd_log.specs.history.declared.record.Rec.TheVariants.{Submit as Submission}
use Rattle.sdd_log.specs.catalog.declared.parts.Kind.TheVariants as kinds

-- a transaction module is down while a HOLD comes and a transaction is submitted: once it is up it begins that one, and then takes the HOLD

abbrev pub catalogue_of_begun_once_up : Catalogue
catalogue_of_begun_once_up = record {
  tms = 2;
  dms = 1;
  relations =
      (record { name = []; columns = ((record { name = []; kind = kinds.Int }) ∷ (record { name = []; kind = kinds.Int }) ∷ []); key = 1 }) ∷
      [];
  fragments =
      (record { name = []; rel = (rel_no 1); least = (negsuc 9223372036854775807); greatest = (pos 9223372036854775807); copies = ((dm_no 1) ∷ []) }) ∷
      [];
  classes =
      (record { name = []; tm = (tm_no 1); reads = []; writes = ((frag_no 1) ∷ []) }) ∷
      [];
}

abbrev pub input_of_begun_once_up : Input
input_of_begun_once_up = record {
  catalogue = catalogue_of_begun_once_up;
  eras =
      (record {
        catalogue = catalogue_of_begun_once_up;
        table =
            (record { edge = (Vertical (class_no 1)); block = 0; protocol = P1 }) ∷
            [];
      }) ∷
      [];
  rows = ([] ∷ []);
  txns =
      (record { name = []; tm = (tm_no 1); statements = ((Put (rel_no 1) ((Int (pos 1)) ∷ (Int (pos 5)) ∷ [])) ∷ []) }) ∷
      (record { name = []; tm = (tm_no 2); statements = ((Query ((record { part = 1; column = 2 }) ∷ []) ((rel_no 1) ∷ []) []) ∷ []) }) ∷
      [];
  events =
      Down (T (tm_no 1)) ∷
      Submit (txn_no 2) ∷
      Deliver U (T (tm_no 1)) 1 ∷
      Tick (tm_no 1) 2 ∷
      Submit (txn_no 1) ∷
      Up (T (tm_no 1)) ∷
      [];
}

abbrev pub log_of_begun_once_up : Log
log_of_begun_once_up = extended 14 input_of_begun_once_up []

pub history_of_begun_once_up :
    history log_of_begun_once_up ≡
    (2, Submission (txn_no 2)) ∷
    (5, Submission (txn_no 1)) ∷
    (6, Start (txn_no 1) 1 (class_no 1) (time_at 193) (Some (time_at 191)) []) ∷
    (6, Commit (txn_no 1) 1 (Rows []) ((record { frag = (frag_no 1); key = (pos 1); row = (Some ((Int (pos 1)) ∷ (Int (pos 5)) ∷ [])) }) ∷ []) 0 0) ∷
    []
history_of_begun_once_up = refl

pub all_of_begun_once_up : (next input_of_begun_once_up log_of_begun_once_up ≡ None) × (length log_of_begun_once_up ≡ 14) × (marks log_of_begun_once_up ≡ 6)
all_of_begun_once_up = (refl, refl, refl)

-- a transaction module is down while the rows of its attempt come: it commits once it is up, and begins the next one

abbrev pub catalogue_of_rows_kept : Catalogue
catalogue_of_rows_kept = record {
  tms = 1;
  dms = 1;
  relations =
      (record { name = []; columns = ((record { name = []; kind = kinds.Int }) ∷ (record { name = []; kind = kinds.Int }) ∷ []); key = 1 }) ∷
      [];
  fragments =
      (record { name = []; rel = (rel_no 1); least = (negsuc 9223372036854775807); greatest = (pos 9223372036854775807); copies = ((dm_no 1) ∷ []) }) ∷
      [];
  classes =
      (record { name = []; tm = (tm_no 1); reads = ((record { fragment = (frag_no 1); at = (dm_no 1) }) ∷ []); writes = ((frag_no 1) ∷ []) }) ∷
      [];
}

abbrev pub input_of_rows_kept : Input
input_of_rows_kept = record {
  catalogue = catalogue_of_rows_kept;
  eras =
      (record {
        catalogue = catalogue_of_rows_kept;
        table =
            (record { edge = (Vertical (class_no 1)); block = 0; protocol = P1 }) ∷
            [];
      }) ∷
      [];
  rows = ([] ∷ []);
  txns =
      (record { name = []; tm = (tm_no 1); statements = ((Query ((record { part = 1; column = 1 }) ∷ []) ((rel_no 1) ∷ []) []) ∷ []) }) ∷
      (record { name = []; tm = (tm_no 1); statements = ((Put (rel_no 1) ((Int (pos 5)) ∷ (Int (pos 10)) ∷ [])) ∷ []) }) ∷
      [];
  events =
      Submit (txn_no 1) ∷
      Deliver (T (tm_no 1)) (D (dm_no 1)) 1 ∷
      Deliver (D (dm_no 1)) (T (tm_no 1)) 2 ∷
      Deliver (T (tm_no 1)) (D (dm_no 1)) 2 ∷
      Down (T (tm_no 1)) ∷
      Deliver (D (dm_no 1)) (T (tm_no 1)) 3 ∷
      Submit (txn_no 2) ∷
      Up (T (tm_no 1)) ∷
      [];
}

abbrev pub log_of_rows_kept : Log
log_of_rows_kept = extended 22 input_of_rows_kept []

pub history_of_rows_kept :
    history log_of_rows_kept ≡
    (1, Submission (txn_no 1)) ∷ (
      1,
      Start (txn_no 1) 1 (class_no 1) (time_at 65) (Some (time_at 63)) ((record {
        number = 1;
        rel = (rel_no 1);
        frags = ((frag_no 1) ∷ []);
        restrictions = [];
      }) ∷ []),
    ) ∷
    (2, Arrive (txn_no 1) 1 (dm_no 1)) ∷
    (2, Answer (txn_no 1) 1 (dm_no 1)) ∷
    (7, Submission (txn_no 2)) ∷
    (8, Commit (txn_no 1) 1 (Rows ([] ∷ [])) [] 0 0) ∷
    (8, Start (txn_no 2) 1 (class_no 1) (time_at 129) (Some (time_at 127)) []) ∷
    (8, Commit (txn_no 2) 1 (Rows []) ((record { frag = (frag_no 1); key = (pos 5); row = (Some ((Int (pos 5)) ∷ (Int (pos 10)) ∷ [])) }) ∷ []) 0 0) ∷
    []
history_of_rows_kept = refl

pub all_of_rows_kept : (next input_of_rows_kept log_of_rows_kept ≡ None) × (length log_of_rows_kept ≡ 22) × (marks log_of_rows_kept ≡ 8)
all_of_rows_kept = (refl, refl, refl)

-- while it is down it begins nothing; a second `down`, and an `up` where it is up, find nothing to do

abbrev pub catalogue_of_home_stays_down : Catalogue
catalogue_of_home_stays_down = record {
  tms = 1;
  dms = 1;
  relations =
      (record { name = []; columns = ((record { name = []; kind = kinds.Int }) ∷ (record { name = []; kind = kinds.Int }) ∷ []); key = 1 }) ∷
      [];
  fragments =
      (record { name = []; rel = (rel_no 1); least = (negsuc 9223372036854775807); greatest = (pos 9223372036854775807); copies = ((dm_no 1) ∷ []) }) ∷
      [];
  classes =
      (record { name = []; tm = (tm_no 1); reads = ((record { fragment = (frag_no 1); at = (dm_no 1) }) ∷ []); writes = ((frag_no 1) ∷ []) }) ∷
      [];
}

abbrev pub input_of_home_stays_down : Input
input_of_home_stays_down = record {
  catalogue = catalogue_of_home_stays_down;
  eras =
      (record {
        catalogue = catalogue_of_home_stays_down;
        table =
            (record { edge = (Vertical (class_no 1)); block = 0; protocol = P1 }) ∷
            [];
      }) ∷
      [];
  rows = ([] ∷ []);
  txns =
      (record { name = []; tm = (tm_no 1); statements = ((Put (rel_no 1) ((Int (pos 5)) ∷ (Int (pos 10)) ∷ [])) ∷ []) }) ∷
      [];
  events =
      Up (T (tm_no 1)) ∷
      Down (T (tm_no 1)) ∷
      Down (T (tm_no 1)) ∷
      Submit (txn_no 1) ∷
      Tick (tm_no 1) 1 ∷
      [];
}

abbrev pub log_of_home_stays_down : Log
log_of_home_stays_down = extended 8 input_of_home_stays_down []

pub history_of_home_stays_down :
    history log_of_home_stays_down ≡
    (1, Nothing) ∷
    (3, Nothing) ∷
    (4, Submission (txn_no 1)) ∷
    []
history_of_home_stays_down = refl

pub all_of_home_stays_down : (next input_of_home_stays_down log_of_home_stays_down ≡ None) × (length log_of_home_stays_down ≡ 8)
    × (marks log_of_home_stays_down ≡ 5)
all_of_home_stays_down = (refl, refl, refl)
