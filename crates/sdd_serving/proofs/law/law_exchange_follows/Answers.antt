use Rattle.sdd_serving.proofs.Follows.{follows_start, follows_hand, follows_send, follows_reduce}
use Rattle.sdd_serving.proofs.law.law_exchange_follows.Goals as goal

pub returns-clause-start : goal.returns-clause-start
returns-clause-start c = follows_start c.args.catalogue.now

pub returns-clause-hand : goal.returns-clause-hand
returns-clause-hand c = follows_hand

pub returns-clause-send : goal.returns-clause-send
returns-clause-send c = follows_send

pub returns-clause-reduce : goal.returns-clause-reduce
returns-clause-reduce c = follows_reduce
