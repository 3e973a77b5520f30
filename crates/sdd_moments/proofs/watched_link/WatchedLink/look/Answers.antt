-- What is read of the link in the world is what the log gives.
use Rattle.sdd_moments.proofs.All.{Input, IsLinkOf, IsOver, Log, Site, calls_of, watched_link, ◌≡◌}
use Rattle.sdd_moments.proofs.Looked.{IsRead, link_kept, link_looked, link_there, taken_reported}
use Rattle.sdd_moments.proofs.watched_link.WatchedLink.look.Goals as goal

pub packets_behind-requires : goal.packets_behind-requires
packets_behind-requires c =
    let g = c.requires.0 in
    (g.catalogue.tms, g.catalogue.dms, calls_of c.requires.2, c.mail-mail.ensures g c.requires.2 c.requires.3.calm, c.requires.4)

pub count_sent-sent-requires : goal.count_sent-sent-requires
count_sent-sent-requires c =
    let g = c.requires.0 in
    (g.catalogue.tms, g.catalogue.dms, calls_of c.requires.2, c.mail-mail.ensures g c.requires.2 c.requires.3.calm, c.requires.4)

pub count_handed-handed-requires : goal.count_handed-handed-requires
count_handed-handed-requires c = (c.requires.0, c.requires.2, c.requires.4, c.requires.3.calm)

read : (c : goal.In_ok-seen) (g : Input) (old new : Log) (l : Site × Site) → IsOver g old new c.args.world.now c.args.event.now c.args.found.now
    → IsLinkOf g l.0 l.1 → c.args.self.now ≡ watched_link old l
    → IsRead old new c.args.self.now c.is_taken-taken.result c.left_of-left.result c.in_ok-news.news c.count_sent-sent.result c.count_handed-handed.result
read c g old new l over linked w =
    let at : IsLinkOf g c.args.self.now.from c.args.self.now.to = link_there g old l c.args.self.now w linked in
    let net = c.mail-mail.ensures g new over.calm in
    record {
      taken_is = taken_reported old new c.args.self.now c.args.event.now c.args.found.now c.is_taken-taken.result over.event_is over.found_is
          c.is_taken-taken.ensures;
      left_is = c.left_of-left.ensures;
      news_are = c.in_ok-news.ensures g.catalogue.tms g.catalogue.dms (calls_of new) net at;
      put_is = c.count_sent-sent.ensures g.catalogue.tms g.catalogue.dms (calls_of new) net at;
      over_is = c.count_handed-handed.ensures g new at over.calm;
    }

pub returns-clause-seen : goal.returns-clause-seen
returns-clause-seen c = λ g old new over l linked w.
    link_looked g old new l c.args.self.now c.in_ok-seen.seen c.is_taken-taken.result c.left_of-left.result c.count_sent-sent.result
    c.count_handed-handed.result c.in_ok-news.news over.calm.parts.good over.between w (read c g old new l over linked w) c.in_ok-seen.ensures.seen

pub returns-clause-kept : goal.returns-clause-kept
returns-clause-kept c = λ g old new over l linked w.
    link_kept g old new l c.args.self.now c.advance.new.self c.is_taken-taken.result c.left_of-left.result c.count_sent-sent.result
    c.count_handed-handed.result c.in_ok-news.news over.calm.parts.good over.between w (read c g old new l over linked w) c.in_ok-seen.ensures.kept
