use Rattle.sdd_net.proofs.All.{Delivers, link, refl, true}
use Rattle.sdd_net.proofs.Sound.{sound}
use Rattle.sdd_net.proofs.Calls.{live_is, represents_of, exists_of, still, does, deliver_does, pair_of}
use Rattle.sdd_net.proofs.net.Net.deliver.Goals as goal

pub invariant_of-self-2 : goal.invariant_of-self-2
invariant_of-self-2 g c =
    let i = c.self.inside in
    let live = live_is c.args.self.now i.live i.tms i.dms i.channels.items c.self.view_is c.requires.live in
    let exists = exists_of c.args.self.now i.live i.tms i.dms i.channels.items c.args.from c.args.to c.self.view_is c.requires.exists in
    still i.tms i.dms i.links.items i.live true i.channels.items c.deliver_at.new.channels.items
    (Delivers c.args.from c.args.to c.args.place) c.self.invariant live
    (deliver_does i.tms i.dms i.channels.items c.deliver_at.new.channels.items c.index_of-there.result
    c.index_of-back.result c.args.place c.args.from c.args.to c.index_of-there.ensures c.index_of-back.ensures
    exists c.in_ok-delivered.ensures.law)

pub returns-clause-ok : goal.returns-clause-ok
returns-clause-ok g c =
    let i = c.self.inside in
    let live = live_is c.args.self.now i.live i.tms i.dms i.channels.items c.self.view_is c.requires.live in
    let exists = exists_of c.args.self.now i.live i.tms i.dms i.channels.items c.args.from c.args.to c.self.view_is c.requires.exists in
    does c.args.self.now i.live true i.tms i.dms i.channels.items c.deliver_at.new.channels.items
    (Delivers c.args.from c.args.to c.args.place) c.self.view_is refl
    (deliver_does i.tms i.dms i.channels.items c.deliver_at.new.channels.items c.index_of-there.result
    c.index_of-back.result c.args.place c.args.from c.args.to c.index_of-there.ensures c.index_of-back.ensures
    exists c.in_ok-delivered.ensures.law)

pub deliver_at-requires-clause-pair : goal.deliver_at-requires-clause-pair
deliver_at-requires-clause-pair g c =
    let i = c.self.inside in
    let live = live_is c.args.self.now i.live i.tms i.dms i.channels.items c.self.view_is c.requires.live in
    let exists = exists_of c.args.self.now i.live i.tms i.dms i.channels.items c.args.from c.args.to c.self.view_is c.requires.exists in
    let before = c.self.invariant.represents live in (
      link c.args.from c.args.to before.0,
      pair_of i.tms i.dms i.channels.items c.index_of-there.result c.index_of-back.result c.args.from c.args.to
          before.0 c.index_of-there.ensures c.index_of-back.ensures exists before.1,
      sound c.args.from c.args.to before.0,
    )

pub returns-clause-given : goal.returns-clause-given
returns-clause-given g c calls represents =
    let i = c.self.inside in
    let live = live_is c.args.self.now i.live i.tms i.dms i.channels.items c.self.view_is c.requires.live in
    let exists = exists_of c.args.self.now i.live i.tms i.dms i.channels.items c.args.from c.args.to c.self.view_is c.requires.exists in
    let h = represents_of c.args.self.now i.live i.tms i.dms i.channels.items calls c.self.view_is represents in
    c.in_ok-delivered.ensures.given (link c.args.from c.args.to calls)
    (pair_of i.tms i.dms i.channels.items c.index_of-there.result c.index_of-back.result c.args.from c.args.to calls c.index_of-there.ensures c.index_of-back.ensures exists h)
    (sound c.args.from c.args.to calls)
