-- What loops have written, one item more and at their end.
use Rattle.sdd_script.proofs.words.Written.{item_written, items_written}

pub ruleset written = (item_written, items_written)
