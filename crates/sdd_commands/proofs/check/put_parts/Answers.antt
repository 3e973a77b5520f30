use Rattle.sdd_commands.proofs.All.{codes, decimal}
use Rattle.sdd_commands.proofs.TextPieces.{four_pieces}
use Rattle.sdd_commands.proofs.check.put_parts.Goals as goal

pub returns : goal.returns
returns c = four_pieces c.put_count-2.result c.args.out.now.items (codes " relations ") (decimal c.args.relations)
    (codes " fragments ") (decimal c.args.fragments)
    c.put.new.out.items c.put_count.new.out.items c.put-2.new.out.items c.put_count-2.new.out.items
    c.in_ok-put.ensures c.in_ok-put_count.ensures c.in_ok-put-2.ensures c.put_count-2.ensures
