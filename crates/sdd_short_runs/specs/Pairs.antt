-- Short runs with one inner transaction that are tried: pairs of a workload's transactions, by what they access.
use Rattle.std.specs.Prelude.{◌&&◌, Bool, List, filter, map, not, take}
use Rattle.std.specs.List.{flat_map, list_any}
use Rattle.sdd_robust_laws.specs.Accesses.{are_apart, reads_from}
use Rattle.sdd_robust_laws.specs.declared.access.Access.{Access}
use Rattle.sdd_robust.specs.Pivots.{may_miss}
use Rattle.sdd_robust.specs.declared.member.Member.{Member}
use Rattle.sdd_short_runs.specs.declared.finding.TheConstants.{MAX_TRIED}

-- the outer one may miss by this read a change of the inner one, which may then miss a change of the outer one
abbrev pub miss_by : Member → Member → Access → Bool
miss_by outer inner read = reads_from read inner.accesses && may_miss inner.accesses outer.accesses read

-- whether each of the two may miss a change of the other one, and both may commit
abbrev pub is_pair : Member → Member → Bool
is_pair outer inner = list_any (miss_by outer inner) outer.accesses && not (are_apart outer.accesses inner.accesses)

-- the pairs of this outer one, in the order of the workload
abbrev pub pairs_around : List Member → Member → List (Member × Member)
pairs_around all outer = map (λ inner. (outer, inner)) (filter (is_pair outer) all)

abbrev pub pairs_of : List Member → List Member → List (Member × Member)
pairs_of all outers = flat_map (pairs_around all) outers

-- the pairs that are tried: the first ones, so many
abbrev pub tried_pairs : List Member → List (Member × Member)
tried_pairs all = take MAX_TRIED (pairs_of all all)
