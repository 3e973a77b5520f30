use Rattle.sdd_dm.proofs.All.{T, U, map, take, ◌∷◌, ◌≡◌}
use Rattle.sdd_dm.proofs.starting.sources.Given as goal

abbrev pub invariant-loop-place : goal.invariant-loop-place
invariant-loop-place l = l.sites.items ≡ U ∷ map (λ class. T class.tm) (take l.place l.catalogue.classes)
