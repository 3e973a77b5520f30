use Rattle.sdd_exchange.proofs.All.{filter_same, is_other, rules}
use Rattle.sdd_exchange.proofs.Counting.{count_put}
use Rattle.sdd_exchange.proofs.counts.Counts.put.Goals as goal

pub returns : goal.returns
returns c =
    count_put c.self.inside.items.items c.retain.new.self.items c.push.new.self.items c.args.self.now c.args.dm c.args.use_no c.args.rows c.self.view_is
    (filter_same _ (is_other c.args.dm.0 c.args.use_no) _ (λ x b f' k. search rules) _ _ c.retain.ensures.filtered) (c.in_ok-push.ensures.items)
