use Rattle.sdd_net.proofs.All.{if_both, ap, ◌∙◌}
use Rattle.sdd_net.proofs.Matching.{message_received, received_matches, if_on}
use Rattle.sdd_net.proofs.Places.{fits_there, changes}
use Rattle.sdd_net.proofs.channels.receive_at.Goals as goal

pub returns-clause-handed : goal.returns-clause-handed
returns-clause-handed g c =
    let channels = c.args.channels.now.items in
    let x = c.index_mut-channel.result.now in
    let there = c.index_mut-channel.ensures.value in
    if_on c.receive.result _ _ c.receive.ensures.handed (λ given e w sent fits.
    e ∙ (message_received x w c.args.no c.args.msg c.requires.number sent (fits_there channels c.args.at x w c.requires.live there fits)).handed)

pub returns-clause-count : goal.returns-clause-count
returns-clause-count g c =
    let channels = c.args.channels.now.items in
    let x = c.index_mut-channel.result.now in
    let there = c.index_mut-channel.ensures.value in
    if_both c.receive.result _ _ _ c.receive.ensures.count c.receive.ensures.receiver (λ given e r w sent fits.
    e ∙ ap (λ y. y.value.count) r ∙
    (message_received x w c.args.no c.args.msg c.requires.number sent (fits_there channels c.args.at x w c.requires.live there fits)).represents.count)

pub returns-clause-law : goal.returns-clause-law
returns-clause-law g c =
    let channels = c.args.channels.now.items in
    let x = c.index_mut-channel.result.now in
    let there = c.index_mut-channel.ensures.value in
    if_on c.receive.result _ _ c.receive.ensures.receiver (λ _ r w sent fits.
    changes channels c.args.at x _ _ c.requires.live there
    (received_matches x c.receive.new.self w c.args.no c.args.msg c.requires.number sent
    (fits_there channels c.args.at x w c.requires.live there fits) c.receive.ensures.sender c.receive.ensures.flight r))
