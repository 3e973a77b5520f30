use Rattle.sdd_net.proofs.All.{unacked, ◌++◌}
use Rattle.sdd_net.proofs.Matching.{flight_is, resent_is, flight_matches, some_unacked, if_on}
use Rattle.sdd_net.proofs.Places.{fits_there, changes}
use Rattle.sdd_net.proofs.channels.resend_at.Goals as goal

pub returns-clause-some : goal.returns-clause-some
returns-clause-some g c =
    let channels = c.args.channels.now.items in
    let x = c.index_mut-channel.result.now in
    let there = c.index_mut-channel.ensures.value in
    if_on c.resend.result _ _ c.resend.ensures.some (λ some e w fits. some_unacked x w some (fits_there channels c.args.at x w c.requires.live there fits) e)

pub returns-clause-law : goal.returns-clause-law
returns-clause-law g c =
    let channels = c.args.channels.now.items in
    let x = c.index_mut-channel.result.now in
    let there = c.index_mut-channel.ensures.value in
    if_on c.resend.result _ _ c.resend.ensures.flight (λ _ flight w fits.
    let h = fits_there channels c.args.at x w c.requires.live there fits in
    changes channels c.args.at x _ _ c.requires.live there
    (flight_matches x c.resend.new.self w (w.flight ++ unacked w) h c.resend.ensures.sender (rw (flight_is x w h, resent_is x w h) at flight) c.resend.ensures.receiver))
