use Rattle.sdd_script.proofs.All.{class_lines, done_words, list_words, ◌∙◌}
use Rattle.sdd_script.proofs.Pieces.{after, list_pieces}
use Rattle.sdd_script.proofs.write_lists.put_list.Goals as goal

pub returns : goal.returns
returns c =
    after _ _ c.in_ok-put-2.ensures (after _ _ c.in_ok-put_classes.ensures c.in_ok-put.ensures)
    ∙ list_pieces c.args.out.now.items list_words class_lines c.args.classes.now done_words
