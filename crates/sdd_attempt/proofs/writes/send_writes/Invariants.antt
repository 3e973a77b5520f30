use Rattle.sdd_attempt.proofs.All.{filter_map, numbers_to, write_of, ◌++◌, ◌-◌, ◌≡◌}
use Rattle.sdd_attempt.proofs.writes.send_writes.Given as goal

abbrev pub invariant-loop-number : goal.invariant-loop-number
invariant-loop-number l =
    l.draft
    ≡ record l.initial.draft {
      out = l.initial.draft.out ++ filter_map (write_of l.catalogue l.attempt.class.0 l.attempt.ts.0 l.attempt.txn.0 l.changes) (numbers_to (l.number - 1));
    }
