use Rattle.sdd_wire.proofs.Decoded.{law_spelled_so}
use Rattle.sdd_wire.proofs.MessageLaws.{message_read_back}
use Rattle.sdd_wire.proofs.decoding.law_spelling.Goals as goal

pub returns-clause-read_back : goal.returns-clause-read_back
returns-clause-read_back c = message_read_back

pub returns-clause-spelled_so : goal.returns-clause-spelled_so
returns-clause-spelled_so c = law_spelled_so
