use Rattle.sdd_script.proofs.All.{Plain, codes, column_word, relation_word, where_words, ◌∙◌}
use Rattle.sdd_script.proofs.Pieces.{after, query_pieces}
use Rattle.sdd_script.proofs.write_lines.put_query.Goals as goal

pub returns : goal.returns
returns c =
    after _ _ c.in_ok-put_conditions.ensures (after _ _ c.in_ok-put_relations.ensures
    (after _ _ c.in_ok-put_plain.ensures (after _ _ c.in_ok-put_columns.ensures c.in_ok-put.ensures)))
    ∙ query_pieces c.args.out.now.items (codes "query") (column_word c.args.catalogue.now c.args.rels.now)
    c.args.columns.now (Plain (codes "from")) (relation_word c.args.catalogue.now) c.args.rels.now
    (where_words c.args.catalogue.now c.args.rels.now c.args.conds.now)
