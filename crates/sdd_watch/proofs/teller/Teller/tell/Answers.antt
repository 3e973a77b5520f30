use Rattle.sdd_watch.proofs.All.{Catalogue, after_ok, all_ok, ap, line, ◌++◌, ◌∙◌}
use Rattle.sdd_watch.proofs.ToTell.{over_when}
use Rattle.sdd_watch.proofs.teller.Teller.tell.Goals as goal

pub find_outcome-found-requires : goal.find_outcome-found-requires
find_outcome-found-requires c = let r = c.requires in (r.0, r.2, r.3.calm, r.3.tellable)

pub look-requires : goal.look-requires
look-requires c =
    let r = c.requires in
    (r.0, r.1, r.2, over_when r.0 r.1 r.2 _ _ _ _ _ r.3 c.find_outcome-found.ensures, r.3.turn_is, r.3.watches)

pub returns-clause-text : goal.returns-clause-text
returns-clause-text c = after_ok c.put_line.result _ _ c.put_line.ensures (λ put g old new t same.
    let over = over_when g old new _ _ _ _ _ t c.find_outcome-found.ensures in
    put
    ∙ ap (λ (k : Catalogue). c.args.self.now.text.items ++ line k c.transactions.result.now c.in_ok-delta.delta) same
    ∙ ap (λ txns. c.args.self.now.text.items ++ line g.catalogue txns c.in_ok-delta.delta) (c.transactions.ensures g new t.calm)
    ∙ ap (λ d. c.args.self.now.text.items ++ line g.catalogue g.txns d) (c.in_ok-delta.ensures.delta g old new over t.turn_is t.watches))

pub returns-clause-watch : goal.returns-clause-watch
returns-clause-watch c = all_ok c.put_line.result _ (λ g old new t.
    c.in_ok-delta.ensures.kept g old new (over_when g old new _ _ _ _ _ t c.find_outcome-found.ensures) t.turn_is t.watches)
