use Rattle.sdd_sites.proofs.All.{All, map, ◌++◌, ◌≡◌, ◌≤◌}
use Rattle.sdd_sites.proofs.putting.record_all.Given as goal

abbrev pub invariant-loop-rec : goal.invariant-loop-rec
invariant-loop-rec l = record {
  recorded : l.history ≡ l.initial.history ++ map (λ r. (l.event, r)) l.yielded;
  order : All (λ earlier. earlier.0 ≤ l.event) l.history;
}
