use Rattle.sdd_exchange.proofs.All.{DmNo, ap, filter_same, map, map-filter, not, rules, without, ◌==◌, ◌∙◌}
use Rattle.sdd_exchange.proofs.modules.DmNos.remove.Goals as goal

pub returns : goal.returns
returns c =
    ap (map (λ (n : DmNo). n.0)) (filter_same _ (λ (n : DmNo). not (n.0 == c.args.dm.0)) _ (λ x b f' k. search rules) _ _ c.retain.ensures.filtered)
    ∙ map-filter (λ (n : DmNo). n.0) (λ n. not (n == c.args.dm.0)) c.self.inside.items.items ∙ ap (λ ns. without ns c.args.dm.0) c.self.view_is
