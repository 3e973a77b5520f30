-- What the laws say of a worked log in which a query is rejected.
use Rattle.sdd_progress.proofs.All.{AreErasOf, AreFewRejected, IsPermitted, KeepsRejects, [], attempts, crossing, given_late_query, history, lawful_numbered, lawful_permitted, length, log_of_late_query, of_one_era, one_era, refl, sound_crossing, ◌*◌, ◌≤◌}
use Rattle.sdd_progress.proofs.Examples.{crossing_data, crossing_table, late_query_ends, late_query_submits as submits}
use Rattle.sdd_progress.proofs.OfLogs.{few_attempts, few_rejected}
use Rattle.sdd_progress.proofs.Rejects.{keeps_rejects}

permitted : IsPermitted given_late_query log_of_late_query
permitted = lawful_permitted given_late_query log_of_late_query submits.once late_query_ends.lawful

are_eras : AreErasOf given_late_query log_of_late_query (one_era crossing)
are_eras = of_one_era given_late_query log_of_late_query (crossing_table given_late_query.events).table refl refl

pub late_query_keeps : KeepsRejects crossing (one_era crossing) (history log_of_late_query)
late_query_keeps = keeps_rejects given_late_query log_of_late_query (one_era crossing) sound_crossing.whole permitted are_eras

pub late_query_few : AreFewRejected (history log_of_late_query)
late_query_few = few_rejected given_late_query log_of_late_query (one_era crossing) sound_crossing.whole permitted are_eras

pub late_query_square : length (attempts (history log_of_late_query)) ≤ length given_late_query.txns * length given_late_query.txns
late_query_square =
    few_attempts given_late_query [] log_of_late_query (one_era crossing) sound_crossing.whole (crossing_data given_late_query.events) permitted are_eras
    (lawful_numbered given_late_query log_of_late_query submits late_query_ends.lawful)
