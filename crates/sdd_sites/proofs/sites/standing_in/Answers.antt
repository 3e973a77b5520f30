use Rattle.sdd_sites.proofs.All.{ClassState, LivesT, ap, map, standing_among, sym, ◌∙◌}
use Rattle.sdd_sites.proofs.TxnModules.{is_live, queues, read_at}
use Rattle.sdd_needs.specs.tm.State as tm_state
use Rattle.sdd_sites.proofs.sites.standing_in.Goals as goal

pub standing-requires : goal.standing-requires
standing-requires c =
    let r = c.requires in
    is_live r.0 c.index-module.result.now r.1 r.2
    (read_at (LivesT r.0) c.args.modules.now.items c.args.at c.index-module.result.now r.1 r.2 c.index-module.ensures r.3)

pub returns : goal.returns
returns c = λ part setting log h.
    let q = queues part c.index-module.result.now setting log
    (read_at (LivesT part) c.args.modules.now.items c.args.at c.index-module.result.now setting log c.index-module.ensures h) in
    c.standing.ensures ∙ ap (λ (s : tm_state.State). standing_among (map (λ (k : ClassState). k.line) s.classes) c.args.number.0) (sym q.state_is)
