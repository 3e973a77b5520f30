use Rattle.sdd_sites.proofs.All.{no_items}
use Rattle.sdd_sites.proofs.Sends.{can_send, sends_on, sends_past, sent_all}
use Rattle.sdd_sites.proofs.Failing.{handed_on}
use Rattle.sdd_sites.proofs.putting.send_all.Goals as goal

pub send_one-requires : goal.send_one-requires
send_one-requires c = can_send c.args.net.now c.loop-to.net c.args.at c.args.out
    c.loop-to.left.items c.pop_front.new.self.items (c.in-Some.to, c.in-Some.msg) c.loop-to.invariant
    c.in-Some.ensures.items

pub loop-to-preserved : goal.loop-to-preserved
loop-to-preserved c = sends_on c.args.net.now c.loop-to.net c.send_one.new.net
    c.args.at c.args.out c.loop-to.left.items c.pop_front.new.self.items (c.in-Some.to, c.in-Some.msg)
    c.loop-to.invariant c.in-Some.ensures.items c.in_ok-send_one.ensures.ok

pub returns-in_err-send_one-clause-limit : goal.returns-in_err-send_one-clause-limit
returns-in_err-send_one-clause-limit c = λ e.
    sends_past c.args.net.now c.loop-to.net c.args.at c.args.out c.loop-to.left.items
    c.pop_front.new.self.items (c.in-Some.to, c.in-Some.msg) c.loop-to.invariant c.in-Some.ensures.items
    (c.in_err-send_one.ensures.limit (handed_on c.from_residual.result c.in_err-send_one.field-0.0 c.from_residual.ensures.1 e))

pub returns-clause-ok : goal.returns-clause-ok
returns-clause-ok c = sent_all c.args.net.now c.loop-to.net c.args.at c.args.out c.loop-to.left.items c.loop-to.invariant
    (no_items c.loop-to.left.items c.loop-to.left.len c.loop-to.left.ok.0 c.in_default.ensures.cases.0)
