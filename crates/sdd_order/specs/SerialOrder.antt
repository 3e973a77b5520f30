-- The serial order of a history: again and again the committed transaction with the least timestamp among those whose
-- predecessors are all taken.
use Rattle.std.specs.Prelude.{ℕ, List, filter_map, length, map, option_map, slice_get}
use Rattle.sdd_links.specs.lang.All.{Catalogue, TxnNo, txn_no}
use Rattle.sdd_links.specs.history.Records.{History}
use Rattle.sdd_links.specs.Attempts.{Committed, committed}
use Rattle.sdd_links.specs.Taken.{taken}
use Rattle.sdd_links.specs.Precedence.{precedes}

abbrev pub in_order : Catalogue → History → List Committed
in_order cat h = taken (precedes cat h) (λ t. t.start.ts) (length (committed h)) (committed h)

abbrev pub serial_order : Catalogue → History → List TxnNo
serial_order cat h = map (λ t. txn_no t.start.txn) (in_order cat h)

-- the numbers of the transactions at these places
abbrev pub numbers_at : List Committed → List ℕ → List TxnNo
numbers_at txns places = filter_map (λ k. option_map (λ t. txn_no t.start.txn) (slice_get txns k)) places
