use Rattle.sdd_progress.proofs.FreeBlocks.{free_is_in_none, in_none_is_free}
use Rattle.sdd_progress.proofs.free_laws.law_free_by_blocks.Goals as goal

pub returns : goal.returns
returns g = λ cat table i t. (free_is_in_none cat table i t, in_none_is_free cat table i t)
