use Rattle.sdd_commands.proofs.All.{class_count, module_counts, part_counts}
use Rattle.sdd_commands.proofs.TextPieces.{three_pieces}
use Rattle.sdd_commands.proofs.check.counts.Goals as goal

pub returns : goal.returns
returns c =
    rw (← c.tms.ensures, ← c.dms.ensures, ← c.relations.ensures, ← c.fragments.ensures, ← c.classes.ensures)
    (three_pieces c.new-text.result.items (module_counts c.tms.result c.dms.result)
    (part_counts c.relations.result c.fragments.result) (class_count c.classes.result)
    c.put_modules.new.out.items c.put_parts.new.out.items c.put_classes.new.out.items
    c.new-text.ensures.items c.in_ok-put_modules.ensures c.in_ok-put_parts.ensures
    c.in_ok-put_classes.ensures)
