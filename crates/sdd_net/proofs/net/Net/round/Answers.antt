use Rattle.sdd_net.proofs.All.{deliveries_on, resend_on}
use Rattle.sdd_net.proofs.Matching.{if_on}
use Rattle.sdd_net.proofs.Rounds.{no_link, all_is, live_at, round_all, resends_more, deliveries_more}
use Rattle.sdd_net.proofs.net.Net.round.Goals as goal

pub add_events-requires-clause-there : goal.add_events-requires-clause-there
add_events-requires-clause-there g c =
    let i = c.self.inside in
    let items = c.deref-link-items.result.now in
    (live_at c.args.self.now i.live i.tms i.dms i.channels.items items i.links.items c.loop-link.link-index no_link
    c.self.view_is c.self.invariant c.requires c.deref-link-items.ensures.value c.loop-link-test.true).0

pub add_events-requires-clause-back : goal.add_events-requires-clause-back
add_events-requires-clause-back g c =
    let i = c.self.inside in
    let items = c.deref-link-items.result.now in
    (live_at c.args.self.now i.live i.tms i.dms i.channels.items items i.links.items c.loop-link.link-index no_link
    c.self.view_is c.self.invariant c.requires c.deref-link-items.ensures.value c.loop-link-test.true).1

pub loop-link-preserved : goal.loop-link-preserved
loop-link-preserved g c =
    let channels = c.args.self.now.value.channels in
    let items = c.deref-link-items.result.now in
    let k = c.loop-link.link-index in
    record {
      resends = resends_more (resend_on channels) items k no_link _ _
          c.loop-link-test.true c.loop-link.invariant.resends c.in_ok-add_events.ensures.resends;
      deliveries = deliveries_more (deliveries_on channels) items k no_link _ _
          c.loop-link-test.true c.loop-link.invariant.deliveries c.in_ok-add_events.ensures.deliveries;
    }

pub returns : goal.returns
returns g c =
    let i = c.self.inside in
    let items = c.deref-link-items.result.now in
    let all = all_is c.args.self.now i.live i.tms i.dms i.channels.items items i.links.items
    c.self.view_is c.deref-link-items.ensures.value c.self.invariant.all_links in
    if_on c.join_events.result _ _ c.join_events.ensures (λ events joined calls represents.
    round_all c.args.self.now items c.loop-link.link-index _ _ events.items calls all c.loop-link-test.false
    c.loop-link.invariant.resends c.loop-link.invariant.deliveries joined represents)
