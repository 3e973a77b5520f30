-- Worked logs, written by tools/write_log_examples.py.
use Rattle.std.specs.Prelude.{◌≡◌, pos, negsuc, [], ◌∷◌, length, Some, None, refl}
use Rattle.sdd_log.specs.All.{Apply, Catalogue, Commit, D, Deliver, Down, Input, Int, Log, Nothing, P1, Put, Rows, Start, Submit, T, Up, class_no, dm_no, extended, frag_no, history, marks, next, rel_no, time_at, tm_no, txn_no}
use Rattle.sdd_graph.specs.declared.edge.Edge.TheVariants.{Vertical}
use Rattle.sdd_log.specs.history.declared.record.Rec.TheVariants.{Submit as Submission}
use Rattle.sdd_log.specs.catalog.declared.parts.Kind.TheVariants as kinds

-- a data module is down while a put comes, and applies it once it is up

abbrev pub catalogue_of_down_and_up : Catalogue
catalogue_of_down_and_up = record {
  tms = 1;
  dms = 1;
  relations =
      (record { name = []; columns = ((record { name = []; kind = kinds.Int }) ∷ (record { name = []; kind = kinds.Int }) ∷ []); key = 1 }) ∷
      [];
  fragments =
      (record { name = []; rel = (rel_no 1); least = (negsuc 9223372036854775807); greatest = (pos 9223372036854775807); copies = ((dm_no 1) ∷ []) }) ∷
      [];
  classes =
      (record { name = []; tm = (tm_no 1); reads = ((record { fragment = (frag_no 1); at = (dm_no 1) }) ∷ []); writes = ((frag_no 1) ∷ []) }) ∷
      [];
}

abbrev pub input_of_down_and_up : Input
input_of_down_and_up = record {
  catalogue = catalogue_of_down_and_up;
  eras =
      (record {
        catalogue = catalogue_of_down_and_up;
        table =
            (record { edge = (Vertical (class_no 1)); block = 0; protocol = P1 }) ∷
            [];
      }) ∷
      [];
  rows = ([] ∷ []);
  txns =
      (record { name = []; tm = (tm_no 1); statements = ((Put (rel_no 1) ((Int (pos 5)) ∷ (Int (pos 10)) ∷ [])) ∷ []) }) ∷
      [];
  events =
      Submit (txn_no 1) ∷
      Down (D (dm_no 1)) ∷
      Deliver (T (tm_no 1)) (D (dm_no 1)) 1 ∷
      Deliver (D (dm_no 1)) (T (tm_no 1)) 1 ∷
      Up (D (dm_no 1)) ∷
      [];
}

abbrev pub log_of_down_and_up : Log
log_of_down_and_up = extended 10 input_of_down_and_up []

pub history_of_down_and_up :
    history log_of_down_and_up ≡
    (1, Submission (txn_no 1)) ∷
    (1, Start (txn_no 1) 1 (class_no 1) (time_at 65) (Some (time_at 63)) []) ∷
    (1, Commit (txn_no 1) 1 (Rows []) ((record { frag = (frag_no 1); key = (pos 5); row = (Some ((Int (pos 5)) ∷ (Int (pos 10)) ∷ [])) }) ∷ []) 0 0) ∷
    (5, Apply (txn_no 1) (class_no 1) (dm_no 1) (time_at 65)) ∷
    []
history_of_down_and_up = refl

pub all_of_down_and_up : (next input_of_down_and_up log_of_down_and_up ≡ None) × (length log_of_down_and_up ≡ 10) × (marks log_of_down_and_up ≡ 5)
all_of_down_and_up = (refl, refl, refl)

-- while it is down it applies nothing

abbrev pub catalogue_of_stays_down : Catalogue
catalogue_of_stays_down = record {
  tms = 1;
  dms = 1;
  relations =
      (record { name = []; columns = ((record { name = []; kind = kinds.Int }) ∷ (record { name = []; kind = kinds.Int }) ∷ []); key = 1 }) ∷
      [];
  fragments =
      (record { name = []; rel = (rel_no 1); least = (negsuc 9223372036854775807); greatest = (pos 9223372036854775807); copies = ((dm_no 1) ∷ []) }) ∷
      [];
  classes =
      (record { name = []; tm = (tm_no 1); reads = ((record { fragment = (frag_no 1); at = (dm_no 1) }) ∷ []); writes = ((frag_no 1) ∷ []) }) ∷
      [];
}

abbrev pub input_of_stays_down : Input
input_of_stays_down = record {
  catalogue = catalogue_of_stays_down;
  eras =
      (record {
        catalogue = catalogue_of_stays_down;
        table =
            (record { edge = (Vertical (class_no 1)); block = 0; protocol = P1 }) ∷
            [];
      }) ∷
      [];
  rows = ([] ∷ []);
  txns =
      (record { name = []; tm = (tm_no 1); statements = ((Put (rel_no 1) ((Int (pos 5)) ∷ (Int (pos 10)) ∷ [])) ∷ []) }) ∷
      [];
  events =
      Submit (txn_no 1) ∷
      Down (D (dm_no 1)) ∷
      Deliver (T (tm_no 1)) (D (dm_no 1)) 1 ∷
      Deliver (D (dm_no 1)) (T (tm_no 1)) 1 ∷
      [];
}

abbrev pub log_of_stays_down : Log
log_of_stays_down = extended 7 input_of_stays_down []

pub history_of_stays_down :
    history log_of_stays_down ≡
    (1, Submission (txn_no 1)) ∷
    (1, Start (txn_no 1) 1 (class_no 1) (time_at 65) (Some (time_at 63)) []) ∷
    (1, Commit (txn_no 1) 1 (Rows []) ((record { frag = (frag_no 1); key = (pos 5); row = (Some ((Int (pos 5)) ∷ (Int (pos 10)) ∷ [])) }) ∷ []) 0 0) ∷
    []
history_of_stays_down = refl

pub all_of_stays_down : (next input_of_stays_down log_of_stays_down ≡ None) × (length log_of_stays_down ≡ 7) × (marks log_of_stays_down ≡ 4)
all_of_stays_down = (refl, refl, refl)

-- an `up` where it is up and a `down` where it is down find nothing to do

abbrev pub catalogue_of_down_twice : Catalogue
catalogue_of_down_twice = record {
  tms = 1;
  dms = 1;
  relations =
      (record { name = []; columns = ((record { name = []; kind = kinds.Int }) ∷ (record { name = []; kind = kinds.Int }) ∷ []); key = 1 }) ∷
      [];
  fragments =
      (record { name = []; rel = (rel_no 1); least = (negsuc 9223372036854775807); greatest = (pos 9223372036854775807); copies = ((dm_no 1) ∷ []) }) ∷
      [];
  classes =
      (record { name = []; tm = (tm_no 1); reads = ((record { fragment = (frag_no 1); at = (dm_no 1) }) ∷ []); writes = ((frag_no 1) ∷ []) }) ∷
      [];
}

abbrev pub input_of_down_twice : Input
input_of_down_twice = record {
  catalogue = catalogue_of_down_twice;
  eras =
      (record {
        catalogue = catalogue_of_down_twice;
        table =
            (record { edge = (Vertical (class_no 1)); block = 0; protocol = P1 }) ∷
            [];
      }) ∷
      [];
  rows = ([] ∷ []);
  txns =
      [];
  events =
      Up (D (dm_no 1)) ∷
      Down (D (dm_no 1)) ∷
      Down (D (dm_no 1)) ∷
      [];
}

abbrev pub log_of_down_twice : Log
log_of_down_twice = extended 5 input_of_down_twice []

pub history_of_down_twice :
    history log_of_down_twice ≡
    (1, Nothing) ∷
    (3, Nothing) ∷
    []
history_of_down_twice = refl

pub all_of_down_twice : (next input_of_down_twice log_of_down_twice ≡ None) × (length log_of_down_twice ≡ 5) × (marks log_of_down_twice ≡ 3)
all_of_down_twice = (refl, refl, refl)
