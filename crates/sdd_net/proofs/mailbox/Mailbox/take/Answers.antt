use Rattle.sdd_net.proofs.All.{IsLowest, TakesMessage, map, subst}
use Rattle.sdd_net.proofs.Queues.{takes}
use Rattle.sdd_net.proofs.mailbox.Mailbox.take.Goals as goal

pub returns : goal.returns
returns g c =
    subst (λ old. TakesMessage old (record {
      down = c.self.inside.down;
      tms = c.self.inside.tms;
      queues = map (λ q. q.items) c.pop_first.new.queues.items;
    }) c.site_at.result c.in_ok-place.msg × IsLowest old c.site_at.result) c.self.view_is
    (takes c.self.inside.down c.self.inside.tms (map (λ q. q.items) c.self.inside.queues.items)
    (map (λ q. q.items) c.pop_first.new.queues.items) c.site_at.result c.in_ok-place.place c.in_ok-place.msg c.site_at.ensures
    c.in_ok-place.ensures.items)
