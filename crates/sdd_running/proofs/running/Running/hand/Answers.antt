use Rattle.sdd_running.proofs.All.{AreAwaitedFrom, Running, after_hand, handed_room, subst, sym, values_below, ◌<◌, ◌^◌}
use Rattle.sdd_running.proofs.running.Running.hand.Goals as goal

pub hand-requires-clause-values : goal.hand-requires-clause-values
hand-requires-clause-values c =
    let r = c.args.self.now in
    let k = c.args.class.0 in
    let d = c.in-D.dm.0 in
    let m = c.args.msg in
    let awaited = subst (λ f. AreAwaitedFrom k f m r) c.in-D.is c.requires.awaited in
    subst (λ (x : Running). (after_hand x.ts k d m x.exchange).values < 2 ^ 128) (sym c.self.view_is)
    (values_below (after_hand r.ts k d m r.exchange) (handed_room r.ts k d m r.exchange c.requires.room awaited c.carries_few.ensures))
