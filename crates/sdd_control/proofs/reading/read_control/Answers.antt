use Rattle.sdd_control.proofs.Soundness.{read_is_sound}
use Rattle.sdd_control.proofs.reading.read_control.Goals as goal

pub returns-clause-sound : goal.returns-clause-sound
returns-clause-sound c = read_is_sound c.args.bytes.now c.read_bytes.result c.read_bytes.ensures
