use Rattle.sdd_script.proofs.All.{ReadPart, has_name_of_items, ◌∙◌}
use Rattle.sdd_script.proofs.class_lists.is_read.Goals as goal

pub returns : goal.returns
returns c = c.names_fragment.ensures ∙ has_name_of_items (λ (r : ReadPart). r.fragment) c.args.name.now c.args.reads.now
