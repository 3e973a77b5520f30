-- One event more is given: what is reported of an event stays.
use Rattle.sdd_watch.proofs.All.{MarksNext, round_more, scheduled_more, Event, Input, IsLawful, Log, ap, arith, at_event, change, difference, happened_at, line, line_of, marks, moment_of, round, with_event, ℕ, ◌-◌, ◌≡◌, ◌≤◌}
use Rattle.sdd_watch.proofs.EachEvent.{lawful_at, marks_next}

change_more : (g : Input) (f : Event) (old new : Log) → IsLawful g old → MarksNext g old → change (with_event g f) old new ≡ change g old new
change_more g f old new l n =
    λ i. difference (record (happened_at g old new) { scheduled = scheduled_more g f old l n i; round = round_more g f old l i })
    (moment_of g old) (moment_of g new)

pub line_more : (g : Input) (f : Event) (log : Log) (k : ℕ) → IsLawful g log → 1 ≤ k → k ≤ marks log
    → line_of (with_event g f) log k ≡ line_of g log k
line_more g f log k l some few =
    ap (line g.catalogue g.txns)
    (change_more g f (at_event (k - 1) log) (at_event k log) (lawful_at g (k - 1) log l) (marks_next g (k - 1) log l (omega (arith, some, few))))
