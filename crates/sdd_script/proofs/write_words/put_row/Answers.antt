use Rattle.sdd_script.proofs.All.{relation_word, value_word, ◌∙◌}
use Rattle.sdd_script.proofs.Pieces.{after, word_and_items}
use Rattle.sdd_script.proofs.write_words.put_row.Goals as goal

pub returns : goal.returns
returns c = after _ _ c.in_ok-put_values.ensures c.in_ok-put_relation.ensures
    ∙ word_and_items c.args.out.now.items (relation_word c.args.catalogue.now c.args.rel) value_word
    c.args.row.now
