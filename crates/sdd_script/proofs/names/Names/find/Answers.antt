use Rattle.sdd_script.proofs.All.{bytes_eq, refl, string_bytes, sym, ◌∙◌}
use Rattle.sdd_script.proofs.Marks.{position-map}
use Rattle.sdd_script.proofs.names.Names.find.Goals as goal

pub returns-clause-place : goal.returns-clause-place
returns-clause-place c = c.get_index_of.ensures.index
    ∙ sym (position-map (bytes_eq c.args.name.now) string_bytes c.self.inside.set.keys)
    ∙ rw c.self.view_is refl
