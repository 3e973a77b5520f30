use Rattle.sdd_moments.proofs.All.{drop, filter_map, number_for, ◌++◌, ◌≡◌}
use Rattle.sdd_moments.proofs.watched_pipe.numbers_among.Given as goal

-- what is made and what is left to make is all of it
abbrev pub invariant-messages : goal.invariant-messages
invariant-messages l =
    l.numbers.items ++ filter_map (number_for l.class.0) (drop l.message-index l.messages) ≡ filter_map (number_for l.class.0) l.messages
