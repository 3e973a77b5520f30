use Rattle.std.proofs.Common.{arith}
use Rattle.std.proofs.lemmas.Grind.{common_steps}
use Rattle.sdd_script.proofs.All.{bytes_eq, refl, string_bytes, ◌∙◌}
use Rattle.sdd_script.proofs.AddedNames.{fresh}
use Rattle.sdd_script.proofs.names.Names.add.Goals.{in-Ok, in-Err}
use Rattle.sdd_script.proofs.names.Names.add.Goals as goal

pub returns-clause-fresh : goal.returns-clause-fresh
returns-clause-fresh c = elim c.match-insert.branch [
  | in-Ok w ↦ rw w.result-is (w.in-Ok.ensures.added
      ∙ fresh (bytes_eq (string_bytes c.in_ok-to_string.field-0)) string_bytes c.self.inside.set.keys
      ∙ rw (c.in_ok-to_string.ensures.ok, c.self.view_is) refl)
  | in-Err w ↦ rw w.result-is tt
]

pub invariant_of-self-2 : goal.invariant_of-self-2
invariant_of-self-2 c = grind (arith, common_steps)

pub returns-clause-names : goal.returns-clause-names
returns-clause-names c = grind (arith, common_steps)
