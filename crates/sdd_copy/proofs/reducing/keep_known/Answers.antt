use Rattle.sdd_copy.proofs.All.{ap, column, filter, is_known, rules, ◌∙◌}
use Rattle.std.proofs.lemmas.Fn.{filter_same}
use Rattle.sdd_copy.proofs.reducing.keep_known.Goals as goal

pub returns : goal.returns
returns c =
    c.from_vec-2.ensures
    ∙ filter_same _ (λ row. is_known c.args.known.now.keys (column row c.args.number)) _ (λ x b f' k. search rules) _ _ c.retain.ensures.filtered
    ∙ ap (filter (λ row. is_known c.args.known.now.keys (column row c.args.number))) (c.into_vec-kept.ensures ∙ c.replace-old.ensures.value)
