-- Worked logs with a settle at their end: of two transactions, each reads the fragment that the other's class writes.
use Rattle.std.specs.Prelude.{◌≡◌, List, [], ◌∷◌, ◌++◌, None, length, refl}
use Rattle.sdd_obligations.specs.All.{D, Deliver, Event, Input, Log, Lose, Settle, Submit, T, dm_no, extended, marks, next, tm_no, txn_no}
use Rattle.sdd_history_examples.specs.Catalogues.{crossing}
use Rattle.sdd_history_examples.specs.Tables.{table_of_crossing}
use Rattle.sdd_history_examples.specs.Texts.{query_and_put}

-- what is given, with these events
abbrev pub crossing_with : List Event → Input
crossing_with events = record {
  catalogue = crossing;
  eras = record { catalogue = crossing; table = table_of_crossing } ∷ [];
  rows = [] ∷ [];
  txns = query_and_put;
  events = events;
}

-- the query comes after the later put, is rejected, starts again, and waits till the settle
abbrev pub late_query : List Event
late_query =
    Submit (txn_no 1)
    ∷ Submit (txn_no 2)
    ∷ Deliver (T (tm_no 2)) (D (dm_no 1)) 1
    ∷ Deliver (T (tm_no 1)) (D (dm_no 1)) 1
    ∷ Deliver (D (dm_no 1)) (T (tm_no 1)) 2
    ∷ Deliver (T (tm_no 1)) (D (dm_no 1)) 2
    ∷ []

abbrev pub given_late_query : Input
given_late_query = crossing_with (late_query ++ Settle ∷ [])

abbrev pub log_of_late_query : Log
log_of_late_query = extended 52 given_late_query []

pub all_of_late_query : (next given_late_query log_of_late_query ≡ None) × (length log_of_late_query ≡ 52) × (marks log_of_late_query ≡ 20)
all_of_late_query = (refl, refl, refl)

-- all that was sent is lost
abbrev pub all_lost : List Event
all_lost =
    Submit (txn_no 1)
    ∷ Submit (txn_no 2)
    ∷ Lose (T (tm_no 1)) (D (dm_no 1)) 1
    ∷ Lose (T (tm_no 2)) (D (dm_no 1)) 1
    ∷ []

abbrev pub given_all_lost : Input
given_all_lost = crossing_with (all_lost ++ Settle ∷ [])

abbrev pub log_of_all_lost : Log
log_of_all_lost = extended 100 given_all_lost []

pub all_of_all_lost : next given_all_lost log_of_all_lost ≡ None
all_of_all_lost = refl
