-- What loops have written, one item more and at their end.
use Rattle.sdd_report.proofs.All.{item_written, items_written}

pub ruleset written = (item_written, items_written)
