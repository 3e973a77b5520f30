use Rattle.sdd_net.proofs.All.{Loses}
use Rattle.sdd_net.proofs.Calls.{live_is, exists_of, still, does, lose_does}
use Rattle.sdd_net.proofs.net.Net.lose.Goals as goal

pub invariant_of-self : goal.invariant_of-self
invariant_of-self g c =
    let i = c.self.inside in
    let live = live_is c.args.self.now i.live i.tms i.dms i.channels.items c.self.view_is c.requires.live in
    let exists = exists_of c.args.self.now i.live i.tms i.dms i.channels.items c.args.from c.args.to c.self.view_is c.requires.exists in
    still i.tms i.dms i.links.items i.live i.live i.channels.items c.take_at.new.channels.items (Loses c.args.from c.args.to c.args.place) c.self.invariant live
    (lose_does i.tms i.dms i.channels.items c.take_at.new.channels.items c.index_of-at.result c.args.place c.args.from
    c.args.to c.index_of-at.ensures exists c.take_at.ensures.some)

pub returns-clause-ok : goal.returns-clause-ok
returns-clause-ok g c =
    let i = c.self.inside in
    let live = live_is c.args.self.now i.live i.tms i.dms i.channels.items c.self.view_is c.requires.live in
    let exists = exists_of c.args.self.now i.live i.tms i.dms i.channels.items c.args.from c.args.to c.self.view_is c.requires.exists in
    does c.args.self.now i.live i.live i.tms i.dms i.channels.items c.take_at.new.channels.items (Loses c.args.from c.args.to c.args.place) c.self.view_is live
    (lose_does i.tms i.dms i.channels.items c.take_at.new.channels.items c.index_of-at.result c.args.place c.args.from
    c.args.to c.index_of-at.ensures exists c.take_at.ensures.some)
