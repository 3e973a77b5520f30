use Rattle.sdd_exchange.proofs.All.{drop, fold, lower, lowest, map, option_map, ◌≡◌}
use Rattle.sdd_exchange.proofs.modules.lowest_of.Given as goal

abbrev pub invariant-loop-dm : goal.invariant-loop-dm
invariant-loop-dm l = fold lower (option_map (λ n. n.0) l.lowest) (map (λ n. n.0) (drop l.dm-index l.dms)) ≡ lowest (map (λ n. n.0) l.dms)
