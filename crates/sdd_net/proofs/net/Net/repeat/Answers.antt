use Rattle.sdd_net.proofs.All.{FitsWay, Repeats, link, packet_at, refl, slice_get, subst, sym, true}
use Rattle.sdd_net.proofs.Calls.{live_is, represents_of, exists_of, still, does, repeat_does, repeated_way}
use Rattle.sdd_net.proofs.net.Net.repeat.Goals as goal

pub invariant_of-self-2 : goal.invariant_of-self-2
invariant_of-self-2 g c =
    let i = c.self.inside in
    let live = live_is c.args.self.now i.live i.tms i.dms i.channels.items c.self.view_is c.requires.live in
    let exists = exists_of c.args.self.now i.live i.tms i.dms i.channels.items c.args.from c.args.to c.self.view_is c.requires.exists in
    still i.tms i.dms i.links.items i.live true i.channels.items c.repeat_at.new.channels.items
    (Repeats c.args.from c.args.to c.args.place) c.self.invariant live
    (repeat_does i.tms i.dms i.channels.items c.repeat_at.new.channels.items c.index_of-at.result c.args.place c.args.from c.args.to c.index_of-at.ensures exists
    (λ l h. (repeated_way i.channels.items c.repeat_at.new.channels.items c.index_of-at.result c.args.place c.in_ok-there.there l
    (packet_at c.args.place l) c.requires.place refl c.in_ok-there.ensures.some c.in_ok-there.ensures.there c.in_ok-there.ensures.none h).0))

pub returns-clause-ok : goal.returns-clause-ok
returns-clause-ok g c =
    let i = c.self.inside in
    let live = live_is c.args.self.now i.live i.tms i.dms i.channels.items c.self.view_is c.requires.live in
    let exists = exists_of c.args.self.now i.live i.tms i.dms i.channels.items c.args.from c.args.to c.self.view_is c.requires.exists in
    does c.args.self.now i.live true i.tms i.dms i.channels.items c.repeat_at.new.channels.items
    (Repeats c.args.from c.args.to c.args.place) c.self.view_is refl
    (repeat_does i.tms i.dms i.channels.items c.repeat_at.new.channels.items c.index_of-at.result c.args.place c.args.from c.args.to c.index_of-at.ensures exists
    (λ l h. (repeated_way i.channels.items c.repeat_at.new.channels.items c.index_of-at.result c.args.place c.in_ok-there.there l
    (packet_at c.args.place l) c.requires.place refl c.in_ok-there.ensures.some c.in_ok-there.ensures.there c.in_ok-there.ensures.none h).0))

pub returns-clause-there : goal.returns-clause-there
returns-clause-there g c calls represents =
    let i = c.self.inside in
    let live = live_is c.args.self.now i.live i.tms i.dms i.channels.items c.self.view_is c.requires.live in
    let exists = exists_of c.args.self.now i.live i.tms i.dms i.channels.items c.args.from c.args.to c.self.view_is c.requires.exists in
    let l = link c.args.from c.args.to calls in
    let h = subst (λ k. FitsWay (slice_get i.channels.items k) l.there) (sym c.index_of-at.ensures)
    (represents_of c.args.self.now i.live i.tms i.dms i.channels.items calls c.self.view_is represents c.args.from c.args.to exists) in
    (repeated_way i.channels.items c.repeat_at.new.channels.items c.index_of-at.result c.args.place c.in_ok-there.there l
    (packet_at c.args.place l) c.requires.place refl c.in_ok-there.ensures.some c.in_ok-there.ensures.there c.in_ok-there.ensures.none h).1
