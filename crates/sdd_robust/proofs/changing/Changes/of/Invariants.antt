use Rattle.std.proofs.Common.{map, ◌≡◌}
use Rattle.std.specs.List.{range_with_len}
use Rattle.sdd_robust.specs.Changing.{changes_in, held}
use Rattle.sdd_robust.proofs.changing.Changes.of.Given as goal

-- the lists so far
abbrev pub invariant-lists : goal.invariant-lists
invariant-lists l = map (λ v. held v.items) l.lists.items ≡ map (changes_in l.all) (range_with_len 0 l.list)
