use Rattle.sdd_sites.proofs.InBytes.{room_in}
use Rattle.sdd_sites.proofs.mail.Mail.send.Goals as goal

pub send-requires-clause-room : goal.send-requires-clause-room
send-requires-clause-room c =
    room_in c.args.self.now c.self.inside.net c.self.inside.live c.requires.0 c.requires.1 c.requires.2 c.args.from c.args.to
    c.self.view_is c.requires.3 c.requires.4 c.requires.5
