use Rattle.sdd_bounds.proofs.NextRound.{after_round, none_yet, quiet_at_last}
use Rattle.sdd_bounds.proofs.rounds_law.law_four_rounds.Goals as goal

pub returns : goal.returns
returns c = λ tms dms calls.
    let one = after_round tms dms 0 calls (none_yet tms dms calls) in
    let two = after_round tms dms 1 _ one in
    let three = after_round tms dms 2 _ two in
    quiet_at_last tms dms _ (after_round tms dms 3 _ three)
