use Rattle.sdd_sites.proofs.All.{AllRepresent, FitsEra, Input, Log}
use Rattle.sdd_sites.proofs.NextEra.{RedeclaredAt}
use Rattle.sdd_sites.proofs.sites.Sites.put_in_force.Given as goal

abbrev pub invariant-loop-number : goal.invariant-loop-number
invariant-loop-number l = record {
  some : (g : Input) × (log : Log) × FitsEra g.catalogue (record { catalogue = l.catalogue; table = l.table }) l.t.0
      × RedeclaredAt l.self g log (record { catalogue = l.catalogue; table = l.table }) l.t.0 l.number;
  so_far : (g : Input) (log : Log) → AllRepresent l.fn.self g log → FitsEra g.catalogue (record { catalogue = l.catalogue; table = l.table }) l.t.0
      → RedeclaredAt l.self g log (record { catalogue = l.catalogue; table = l.table }) l.t.0 l.number;
}
