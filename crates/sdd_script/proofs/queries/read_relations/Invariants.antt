use Rattle.sdd_script.proofs.All.{MAX_USES, along, drop, few, length, part_in, ◌+◌, ◌≡◌, ◌≤◌}
use Rattle.sdd_script.proofs.FewRead.{kept_and_left}
use Rattle.sdd_script.proofs.queries.read_relations.Given as goal

-- what is kept and what is left to read is all of it, as far as it is kept
abbrev pub invariant-parts : goal.invariant-parts
invariant-parts l = record {
  within : length l.rels.items ≤ MAX_USES + 1;
  same : kept_and_left MAX_USES (λ i p. part_in p) l.rels.items (drop l.part-index l.parts) ≡ few MAX_USES (along (λ i p. part_in p) 0 l.parts);
}
