use Rattle.std.proofs.lemmas.Grind.{elements}
use Rattle.sdd_net.proofs.All.{FitsWay, arith, link, slice_get, subst, sym, ◌∙◌}
use Rattle.sdd_net.proofs.Sound.{sound}
use Rattle.sdd_net.proofs.Matching.{last_number_is}
use Rattle.sdd_net.proofs.Deliveries.{acked_le, fits_live}
use Rattle.sdd_net.proofs.Places.{fits_there}
use Rattle.sdd_net.proofs.Calls.{represents_of, exists_of}
use Rattle.sdd_net.proofs.net.Net.sent.Goals as goal

pub returns-clause-calls : goal.returns-clause-calls
returns-clause-calls g c calls represents =
    let i = c.self.inside in
    let channels = i.channels.items in
    let exists = exists_of c.args.self.now i.live i.tms i.dms channels c.args.from c.args.to c.self.view_is c.requires.exists in
    let w = (link c.args.from c.args.to calls).there in
    let fits = subst (λ k. FitsWay (slice_get channels k) w) (sym c.index_of.ensures)
    (represents_of c.args.self.now i.live i.tms i.dms channels calls c.self.view_is represents c.args.from c.args.to exists) in
    let x = c.index-channel.result.now in
    let h = fits_there channels c.index_of.result x w (fits_live _ w fits) c.index-channel.ensures fits in
    c.count.ensures ∙ last_number_is x w (acked_le w _ (sound c.args.from c.args.to calls).there) h

pub returns-clause-count : goal.returns-clause-count
returns-clause-count g c = grind (arith, elements)
