use Rattle.std.proofs.Common.{arith}
use Rattle.std.proofs.lemmas.Grind.{common_steps}
use Rattle.sdd_short_runs.proofs.All.{database_with, effect_at, refl, txn_at}
use Rattle.sdd_short_runs.proofs.Replies.{begun_with}
use Rattle.sdd_short_runs.proofs.Searching.{made_more}
use Rattle.sdd_short_runs.proofs.orders.begin_with.Goals as goal

pub returns-clause-replies : goal.returns-clause-replies
returns-clause-replies c = λ t e there has.
    let run = c.args.run.now in
    let cat = run.catalogue.now in
    begun_with cat (txn_at run t) (effect_at run e) (database_with run c.args.made.now) c.args.left.now c.args.number c.in_ok-effect.effect
    (database_with run c.in_ok-made.made.items) c.in_ok-left.left.items (c.in_ok-effect.ensures t) (c.if-not-has_reply.ensures.is e refl)
    (made_more cat run.base.now.value c.args.made.now c.in_ok-effect.effect.changes c.in_ok-made.made.items c.in_ok-made.ensures) c.in_ok-left.ensures there has

pub returns-clause-left : goal.returns-clause-left
returns-clause-left c = grind (arith, common_steps)

pub returns-clause-none : goal.returns-clause-none
returns-clause-none c = grind (arith, common_steps)

pub returns-clause-order : goal.returns-clause-order
returns-clause-order c = grind (arith, common_steps)

pub returns-then-not-has_reply-clause-left : goal.returns-then-not-has_reply-clause-left
returns-then-not-has_reply-clause-left c = grind (arith, common_steps)

pub returns-then-not-has_reply-clause-none : goal.returns-then-not-has_reply-clause-none
returns-then-not-has_reply-clause-none c = grind (arith, common_steps)

pub returns-then-not-has_reply-clause-order : goal.returns-then-not-has_reply-clause-order
returns-then-not-has_reply-clause-order c = grind (arith, common_steps)

pub returns-then-not-has_reply-clause-replies : goal.returns-then-not-has_reply-clause-replies
returns-then-not-has_reply-clause-replies c = grind (arith, common_steps)
