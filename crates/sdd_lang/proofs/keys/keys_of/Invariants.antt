use Rattle.sdd_lang.proofs.All.{allowed_keys, restrictions_of, take, ◌≡◌}
use Rattle.sdd_lang.proofs.keys.keys_of.Given as goal

-- the keys that the conditions so far allow
abbrev pub invariant-loop-cond : goal.invariant-loop-cond
invariant-loop-cond l = l.keys ≡ allowed_keys l.key (restrictions_of l.part (take l.cond-index l.conds))
