use Rattle.sdd_script.proofs.All.{Plain, [], codes, relation_word, sets_words, where_words, ◌∙◌, ◌∷◌}
use Rattle.sdd_script.proofs.Pieces.{after, update_pieces}
use Rattle.sdd_script.proofs.write_lines.put_update.Goals as goal

pub returns : goal.returns
returns c =
    after _ _ c.in_ok-put_conditions.ensures (after _ _ c.in_ok-put_assigns.ensures
    (after _ _ c.in_ok-put_plain.ensures (after _ _ c.in_ok-put_relation.ensures c.in_ok-put.ensures)))
    ∙ update_pieces c.args.out.now.items (codes "update") (relation_word c.args.catalogue.now c.args.rel)
    (Plain (codes "set")) (sets_words c.args.catalogue.now c.args.rel c.args.sets.now)
    (where_words c.args.catalogue.now (c.args.rel ∷ []) c.args.conds.now)
