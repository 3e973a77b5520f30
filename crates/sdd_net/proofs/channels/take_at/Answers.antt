use Rattle.std.proofs.lemmas.Grind.{elements}
use Rattle.sdd_net.proofs.All.{arith, refl, without_at, ◌-◌}
use Rattle.sdd_net.proofs.Matching.{flight_is, flight_matches, left_is}
use Rattle.sdd_net.proofs.Places.{fits_there, changes, live_flight}
use Rattle.sdd_net.proofs.channels.take_at.Goals as goal

pub returns-clause-some : goal.returns-clause-some
returns-clause-some g c w f =
    let channels = c.args.channels.now.items in
    let x = c.index_mut-channel.result.now in
    let there = c.index_mut-channel.ensures.value in
    let h = fits_there channels c.args.at x w c.requires.live there f in
    let live = live_flight channels c.args.at x c.requires.live there in
    let left = left_is c.take.result x.flight c.take.new.self (c.args.place - 1) c.take.ensures.packet c.take.ensures.some c.take.ensures.none live in
    changes channels c.args.at x _ _ c.requires.live there
    (flight_matches x (record x { flight = c.take.new.self }) w (without_at w.flight (c.args.place - 1)) h refl (rw (flight_is x w h) at left) refl)

pub returns-clause-packet : goal.returns-clause-packet
returns-clause-packet g c = grind (arith, elements)
