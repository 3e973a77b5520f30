use Rattle.sdd_net.proofs.All.{Message, Some, ap, sym, ◌-◌, ◌∙◌, ◌≢◌}
use Rattle.sdd_net.proofs.Deliveries.{stays, fits_live, ack_known, packet_is_of, delivers_nothing, delivers_message, gives_messages}
use Rattle.sdd_net.proofs.channels.deliver_at.Goals as goal

pub acknowledge_at-requires-clause-known : goal.acknowledge_at-requires-clause-known
acknowledge_at-requires-clause-known g c =
    let l = c.requires.pair.0 in
    let pair = c.requires.pair.1 in
    let e = sym (c.take_at.ensures.packet l.there pair.fits_there) ∙ c.in-Some-Ack.is ∙ ap Some c.in-Some-Ack.field-0-is in
    ack_known l c.in-Some-Ack.k (c.args.place - 1) _ e c.requires.pair.2
    (stays _ _ c.args.there c.args.back _ l.back (c.take_at.ensures.some l.there pair.fits_there) (λ x. pair.apart (sym x)) pair.fits_back)

pub receive_at-requires-clause-number : goal.receive_at-requires-clause-number
receive_at-requires-clause-number g c =
    let l = c.requires.pair.0 in
    let e = sym (c.take_at.ensures.packet l.there c.requires.pair.1.fits_there) ∙ c.in-Some-Message.is ∙ ap Some c.in-Some-Message.field-0-is in
    (packet_is_of l (c.args.place - 1) (Message c.in-Some-Message.no c.in-Some-Message.msg) e c.requires.pair.2).0

pub send_at-requires : goal.send_at-requires
send_at-requires g c =
    let l = c.requires.pair.0 in
    let pair = c.requires.pair.1 in
    let e = sym (c.take_at.ensures.packet l.there pair.fits_there) ∙ c.in-Some-Message.is ∙ ap Some c.in-Some-Message.field-0-is in
    let of = packet_is_of l (c.args.place - 1) (Message c.in-Some-Message.no c.in-Some-Message.msg) e c.requires.pair.2 in
    let taken = c.take_at.ensures.some l.there pair.fits_there in
    let got = c.in_ok-handed-in-Some-Message.ensures.law _ of.1 taken.fits in
    let apart : c.args.back ≢ c.args.there = λ x. pair.apart (sym x) in
    record { live = fits_live _ l.back (stays _ _ c.args.there c.args.back _ l.back got apart (stays _ _ c.args.there c.args.back _ l.back taken apart pair.fits_back)) }

pub returns-in_ok-send_at-in-Some-Message-clause-given : goal.returns-in_ok-send_at-in-Some-Message-clause-given
returns-in_ok-send_at-in-Some-Message-clause-given g c l pair sound =
    let e = sym (c.take_at.ensures.packet l.there pair.fits_there) ∙ c.in-Some-Message.is ∙ ap Some c.in-Some-Message.field-0-is in
    let of = packet_is_of l (c.args.place - 1) (Message c.in-Some-Message.no c.in-Some-Message.msg) e sound in
    let taken = c.take_at.ensures.some l.there pair.fits_there in
    gives_messages c.args.place c.in-Some-Message.no c.in-Some-Message.msg l _ e (c.in_ok-handed-in-Some-Message.ensures.handed _ of.1 taken.fits)

pub returns-in-None-clause-law : goal.returns-in-None-clause-law
returns-in-None-clause-law g c l pair sound =
    delivers_nothing _ _ c.args.there c.args.back c.args.place l pair (sym (c.take_at.ensures.packet l.there pair.fits_there) ∙ c.in-None.is)
    (c.take_at.ensures.some l.there pair.fits_there)

pub returns-in_ok-send_at-in-Some-Message-clause-law : goal.returns-in_ok-send_at-in-Some-Message-clause-law
returns-in_ok-send_at-in-Some-Message-clause-law g c l pair sound =
    let e = sym (c.take_at.ensures.packet l.there pair.fits_there) ∙ c.in-Some-Message.is ∙ ap Some c.in-Some-Message.field-0-is in
    let of = packet_is_of l (c.args.place - 1) (Message c.in-Some-Message.no c.in-Some-Message.msg) e sound in
    let taken = c.take_at.ensures.some l.there pair.fits_there in
    let got = c.in_ok-handed-in-Some-Message.ensures.law _ of.1 taken.fits in
    let count = c.in_ok-handed-in-Some-Message.ensures.count _ of.1 taken.fits in
    let apart : c.args.back ≢ c.args.there = λ x. pair.apart (sym x) in
    let back = stays _ _ c.args.there c.args.back _ l.back got apart (stays _ _ c.args.there c.args.back _ l.back taken apart pair.fits_back) in
    let sent = rw count at (c.in_ok-send_at-in-Some-Message.ensures l.back back) in
    delivers_message _ _ _ _ c.args.there c.args.back c.args.place c.in-Some-Message.no c.in-Some-Message.msg l pair e taken got sent
