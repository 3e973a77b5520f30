use Rattle.sdd_protocol.proofs.All.{conditions_on, is_marked, numbers_to, ◌-◌, ◌≡◌}
use Rattle.sdd_protocol.proofs.protocol_table.Table.conditions.Given as goal

-- the conditions on the writers so far
abbrev pub invariant-loop-writer : goal.invariant-loop-writer
invariant-loop-writer l = l.conds.items ≡ conditions_on (is_marked l.asked) l.self l.attempt (numbers_to (l.writer - 1))
