use Rattle.sdd_net.proofs.All.{Puts, put, refl, true}
use Rattle.sdd_net.proofs.Calls.{live_is, exists_of, still, does, way_does}
use Rattle.sdd_net.proofs.Deliveries.{acked_le}
use Rattle.sdd_net.proofs.net.Net.send.Goals as goal

pub invariant_of-self-2 : goal.invariant_of-self-2
invariant_of-self-2 g c =
    let i = c.self.inside in
    let live = live_is c.args.self.now i.live i.tms i.dms i.channels.items c.self.view_is c.requires.live in
    let exists = exists_of c.args.self.now i.live i.tms i.dms i.channels.items c.args.from c.args.to c.self.view_is c.requires.exists in
    still i.tms i.dms i.links.items i.live true i.channels.items c.put_at.new.channels.items (Puts c.args.from c.args.to c.args.msg) c.self.invariant live
    (way_does i.tms i.dms i.channels.items c.put_at.new.channels.items c.index_of-at.result c.args.from c.args.to
    (Puts c.args.from c.args.to c.args.msg) (put c.args.msg) (λ a b l. refl) (λ l. refl) c.index_of-at.ensures exists
    (λ l s h. c.in_ok-put_at.ensures l.there (acked_le l.there _ s.there) h))

pub returns-clause-ok : goal.returns-clause-ok
returns-clause-ok g c =
    let i = c.self.inside in
    let live = live_is c.args.self.now i.live i.tms i.dms i.channels.items c.self.view_is c.requires.live in
    let exists = exists_of c.args.self.now i.live i.tms i.dms i.channels.items c.args.from c.args.to c.self.view_is c.requires.exists in
    does c.args.self.now i.live true i.tms i.dms i.channels.items c.put_at.new.channels.items (Puts c.args.from c.args.to c.args.msg) c.self.view_is refl
    (way_does i.tms i.dms i.channels.items c.put_at.new.channels.items c.index_of-at.result c.args.from c.args.to
    (Puts c.args.from c.args.to c.args.msg) (put c.args.msg) (λ a b l. refl) (λ l. refl) c.index_of-at.ensures exists
    (λ l s h. c.in_ok-put_at.ensures l.there (acked_le l.there _ s.there) h))
