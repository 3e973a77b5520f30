use Rattle.std.proofs.Common.{flat_map, take, ◌≡◌}
use Rattle.sdd_robust.specs.Changing.{changes_of, held}
use Rattle.sdd_robust.proofs.changing.changes_in.Given as goal

-- the changes of the members so far
abbrev pub invariant-members : goal.invariant-members
invariant-members l = held l.found.items ≡ flat_map (changes_of l.list) (take l.member-index l.all)
