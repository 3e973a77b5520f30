-- The worked logs meet what the laws take.
use Rattle.sdd_progress.proofs.All.{AllCommitted, Event, HasOneTable, HasSoundData, IsAtEnd, IsFinished, IsSettled, List, SubmitGiven, [], all_lost, arith, crossing, crossing_with, extended_lawful, given_all_lost, given_late_query, history, is_crossing, item_cmp, late_query, log_of_all_lost, log_of_late_query, one_fits, put_fits, refl, row_of, same_or_not, slice_index_or, sorted_nil, sound_crossing, submits_by, submits_in, suc, txn_no, values_fit, zero, ℕ, ◌+◌, ◌≡◌}
use Rattle.sdd_progress.proofs.Settled.{settle_ends, settled_is_committed, settled_is_finished}
use Rattle.sdd_progress.proofs.OneList.{one_list, up_in_one}
use Rattle.sdd_obligations.specs.All.{Submit}

pub late_query_ends : IsAtEnd given_late_query log_of_late_query
late_query_ends = record {
  lawful = extended_lawful 52 given_late_query [] tt;
  complete = refl;
  up_before = up_in_one given_late_query log_of_late_query refl;
  up = λ d m. refl;
}

pub all_lost_ends : IsAtEnd given_all_lost log_of_all_lost
all_lost_ends = record {
  lawful = extended_lawful 100 given_all_lost [] tt;
  complete = refl;
  up_before = up_in_one given_all_lost log_of_all_lost refl;
  up = λ d m. refl;
}

-- the transactions, the rows and the protocol table

rows_at : (events : List Event) (k : ℕ) → slice_index_or (crossing_with events).rows k [] ≡ []
rows_at events zero = refl
rows_at events (suc k) = refl

pub crossing_table : (events : List Event) → HasOneTable (crossing_with events)
crossing_table events = grind (arith, sound_crossing, one_fits, values_fit, put_fits, row_of, rows_at, sorted_nil, item_cmp, crossing, is_crossing)

pub crossing_data : (events : List Event) → HasSoundData (crossing_with events) []
crossing_data events = grind (arith, one_fits, values_fit, put_fits, row_of, rows_at)

-- each of the two is submitted once

abbrev SubmitsBoth : List Event → Type 0
SubmitsBoth events = (n : ℕ) → submits_in n events ≡ submits_by n (Submit (txn_no 1)) + submits_by n (Submit (txn_no 2))

pub crossing_submits : (events : List Event) → SubmitsBoth events → SubmitGiven (crossing_with events)
crossing_submits events both = grind (arith, same_or_not)

pub late_query_submits : SubmitGiven given_late_query
late_query_submits = crossing_submits given_late_query.events (λ n. omega arith)

all_lost_submits : SubmitGiven given_all_lost
all_lost_submits = crossing_submits given_all_lost.events (λ n. omega arith)

-- so they are settled, all is finished, and both transactions are committed

pub late_query_settled : IsSettled given_late_query log_of_late_query
late_query_settled = settle_ends given_late_query log_of_late_query late_query refl late_query_ends

pub late_query_finished : IsFinished given_late_query log_of_late_query
late_query_finished = settled_is_finished given_late_query log_of_late_query
    (one_list given_late_query log_of_late_query (crossing_table given_late_query.events) refl) late_query_submits.once late_query_settled

pub late_query_committed : AllCommitted (history log_of_late_query)
late_query_committed = settled_is_committed given_late_query log_of_late_query
    (one_list given_late_query log_of_late_query (crossing_table given_late_query.events) refl) late_query_submits late_query_settled

pub all_lost_settled : IsSettled given_all_lost log_of_all_lost
all_lost_settled = settle_ends given_all_lost log_of_all_lost all_lost refl all_lost_ends

pub all_lost_finished : IsFinished given_all_lost log_of_all_lost
all_lost_finished = settled_is_finished given_all_lost log_of_all_lost
    (one_list given_all_lost log_of_all_lost (crossing_table given_all_lost.events) refl) all_lost_submits.once all_lost_settled

pub all_lost_committed : AllCommitted (history log_of_all_lost)
all_lost_committed = settled_is_committed given_all_lost log_of_all_lost
    (one_list given_all_lost log_of_all_lost (crossing_table given_all_lost.events) refl) all_lost_submits all_lost_settled
