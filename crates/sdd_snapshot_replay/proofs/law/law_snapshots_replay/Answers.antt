use Rattle.sdd_snapshot_replay.proofs.Replays.{snapshots_replay}
use Rattle.sdd_snapshot_replay.proofs.law.law_snapshots_replay.Goals as goal

pub returns : goal.returns
returns c = snapshots_replay c.args.catalogue.now c.law_is_sound.ensures.sound
