use Rattle.sdd_ask.proofs.All.{false, flag_at, leads_to, list_any, numbers_to, ◌-◌, ◌≡◌}
use Rattle.sdd_ask.proofs.needs.needs.Given as goal

-- none so far
abbrev pub invariant-loop-other : goal.invariant-loop-other
invariant-loop-other l =
    list_any (leads_to l.catalogue (flag_at l.flags) l.class l.site) (numbers_to (l.other - 1)) ≡ false
