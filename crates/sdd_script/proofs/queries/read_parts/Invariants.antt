use Rattle.sdd_script.proofs.All.{length, ◌++◌, ◌≡◌}
use Rattle.sdd_script.specs.Statements.{parts_of}
use Rattle.sdd_script.proofs.queries.read_parts.Given as goal

-- the relations so far, and those of the words that are left
abbrev pub invariant-rels : goal.invariant-rels
invariant-rels l = l.parts.items ++ parts_of l.catalogue l.rels ≡ parts_of l.catalogue l.fn.rels

abbrev pub decreases-rels : goal.decreases-rels
decreases-rels l = length l.rels
