use Rattle.sdd_net.proofs.Matching.{put_matches, on_both}
use Rattle.sdd_net.proofs.Places.{fits_there, changes}
use Rattle.sdd_net.proofs.channels.put_at.Goals as goal

pub returns : goal.returns
returns g c =
    let channels = c.args.channels.now.items in
    let x = c.index_mut-channel.result.now in
    let there = c.index_mut-channel.ensures.value in
    on_both c.put.result _ _ _ c.put.ensures.sender c.put.ensures.flight (λ s f w l fits.
    changes channels c.args.at x _ _ c.requires.live there
    (put_matches x c.put.new.self w c.args.msg l (fits_there channels c.args.at x w c.requires.live there fits) s f c.put.ensures.receiver))
