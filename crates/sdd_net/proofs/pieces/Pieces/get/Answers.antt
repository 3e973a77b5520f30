use Rattle.sdd_net.proofs.All.{ap, arith, flat_map, length, slice_get, ◌<◌, ◌∙◌}
use Rattle.sdd_net.proofs.Joined.{count_more, item_at, item_read}
use Rattle.sdd_net.proofs.pieces.Pieces.get.Goals as goal

pub returns-clause-some : goal.returns-clause-some
returns-clause-some g c =
    let pieces = c.self.inside.pieces.items in
    let piece = c.index.result.now in
    let there = rw c.as_slice.ensures.value at c.in-Some.ensures.piece in
    let place = rw c.as_slice.ensures.value at c.in-Some.ensures.place in
    let below = rw c.as_slice.ensures.value at c.in-Some.ensures.within in
    let held = count_more (λ q. q.items) pieces c.in-Some.at piece there c.index.ensures in
    let within : c.in-Some.within < length piece.items = omega (arith, held, place, below) in
    rw (← c.self.view_is) (item_read (λ y. y.now) c.get.result (flat_map (λ q. q.items) pieces) piece.items c.args.place c.in-Some.within within
    (ap (slice_get (flat_map (λ q. q.items) pieces)) place ∙ item_at (λ q. q.items) pieces c.in-Some.at c.in-Some.within piece there c.index.ensures within)
    c.get.ensures.lookup)
