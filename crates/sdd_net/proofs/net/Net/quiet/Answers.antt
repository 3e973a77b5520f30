use Rattle.sdd_net.proofs.All.{sym, ◌∙◌}
use Rattle.sdd_net.proofs.Rounds.{no_link, all_is, live_at, quiet_all, quiet_not}
use Rattle.sdd_net.proofs.net.Net.quiet.Goals as goal

pub is_quiet_at-requires : goal.is_quiet_at-requires
is_quiet_at-requires g c =
    let i = c.self.inside in
    let items = c.deref-link-items.result.now in
    (live_at c.args.self.now i.live i.tms i.dms i.channels.items items i.links.items c.loop-link.link-index no_link
    c.self.view_is c.self.invariant c.requires c.deref-link-items.ensures.value c.loop-link-test.true).0

pub returns-then-not-is_quiet_at : goal.returns-then-not-is_quiet_at
returns-then-not-is_quiet_at g c calls represents =
    let i = c.self.inside in
    let items = c.deref-link-items.result.now in
    let all = all_is c.args.self.now i.live i.tms i.dms i.channels.items items i.links.items
    c.self.view_is c.deref-link-items.ensures.value c.self.invariant.all_links in
    quiet_not c.args.self.now items c.loop-link.link-index no_link calls all c.loop-link-test.true
    (sym c.is_quiet_at.ensures ∙ c.if-not-is_quiet_at.true) represents

pub returns : goal.returns
returns g c calls represents =
    let i = c.self.inside in
    let items = c.deref-link-items.result.now in
    let all = all_is c.args.self.now i.live i.tms i.dms i.channels.items items i.links.items
    c.self.view_is c.deref-link-items.ensures.value c.self.invariant.all_links in
    quiet_all c.args.self.now items c.loop-link.link-index calls all c.loop-link-test.false c.loop-link.invariant represents
