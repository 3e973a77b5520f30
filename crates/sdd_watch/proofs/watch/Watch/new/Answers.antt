use Rattle.sdd_watch.proofs.All.{Catalogue, [], ap, refl, sites, ◌∙◌}
use Rattle.sdd_watch.proofs.watch.Watch.new.Goals as goal

pub returns : goal.returns
returns c = λ g calm same.
    let tms = c.tms-tms.ensures ∙ ap (λ (k : Catalogue). k.tms) same in
    let dms = c.dms-dms.ensures ∙ ap (λ (k : Catalogue). k.dms) same in
    let all = c.in_ok-sites.ensures ∙ ap (λ n. sites n c.dms-dms.result) tms ∙ ap (sites g.catalogue.tms) dms in
    record {
      sites = all;
      links = c.in_ok-links.ensures g (c.as_slice.ensures.value ∙ all);
      queues = c.in_ok-queues.ensures g [] calm;
      pipes = c.in_ok-pipes.ensures g same;
      records = refl;
      commits = c.new.ensures;
      dones = λ t d linked. c.new-2.ensures t d;
    }
