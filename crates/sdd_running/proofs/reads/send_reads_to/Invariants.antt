use Rattle.sdd_running.proofs.All.{filter_map, map, module_read, reads_to, take, ◌++◌, ◌≡◌}
use Rattle.sdd_running.proofs.reads.send_reads_to.Given as goal

abbrev pub invariant-loop-dm : goal.invariant-loop-dm
invariant-loop-dm l = record {
  draft : l.draft ≡ record l.initial.draft { out = l.initial.draft.out ++ reads_to l.beginning (map (λ n. n.0) (take l.dm-index l.dms)) };
  modules : l.modules ≡ filter_map module_read (reads_to l.beginning (map (λ n. n.0) (take l.dm-index l.dms)));
}
