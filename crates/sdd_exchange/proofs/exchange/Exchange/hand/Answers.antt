use Rattle.sdd_exchange.proofs.All.{after_hand, arith, subst, ◌<◌, ◌^◌}
use Rattle.sdd_exchange.proofs.Going.{values_fit}
use Rattle.sdd_exchange.proofs.exchange.Exchange.hand.Goals as goal

pub take_values-requires-clause-fit : goal.take_values-requires-clause-fit
take_values-requires-clause-fit c =
    let i = c.in-Values in
    let room = subst (λ m. (after_hand c.args.ts.0 c.args.class.0 c.args.dm.0 m c.args.self.now).values < 2 ^ 128) i.is c.requires.values in
    let own = c.if-not-is_own-2 in
    let fit = values_fit c.args.ts.0 c.args.class.0 c.args.dm.0 i.use_no
    (2 ^ 128) i.t i.k i.values c.args.self.now c.is_own-in-Values.result c.is_own-in-Values.ensures own.false room in
    omega (arith, fit)
