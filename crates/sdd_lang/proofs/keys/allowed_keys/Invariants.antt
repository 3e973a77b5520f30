use Rattle.sdd_lang.proofs.All.{allowed_keys, take, ◌≡◌}
use Rattle.sdd_lang.proofs.keys.allowed_keys.Given as goal

-- the keys that the restrictions so far allow
abbrev pub invariant-loop-restriction : goal.invariant-loop-restriction
invariant-loop-restriction l = l.keys ≡ allowed_keys l.key (take l.restriction-index l.restrictions)
