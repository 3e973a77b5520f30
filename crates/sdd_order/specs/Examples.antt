-- The serial orders of worked histories.
use Rattle.std.specs.Prelude.{◌≡◌, [], ◌∷◌, refl}
use Rattle.sdd_links.specs.lang.All.{txn_no}
use Rattle.sdd_links.specs.Examples.{bridge, crossing, misses_both, one_reader, reads_before, starts_again, waits_at_two, waits_for_other}
use Rattle.sdd_order.specs.SerialOrder.{serial_order}

-- A query is answered before the put of another class comes to its module: it stands first, though its timestamp is the
-- greater.
pub order_of_reads_before : serial_order bridge reads_before ≡ txn_no 2 ∷ txn_no 1 ∷ []
order_of_reads_before = refl

-- A query waits at both of its modules for a put with a smaller timestamp.
pub order_of_waits_at_two : serial_order one_reader waits_at_two ≡ txn_no 1 ∷ txn_no 2 ∷ []
order_of_waits_at_two = refl

-- Of two that each read what the other writes the second waits for the first, and sees what it wrote.
pub order_of_waits_for_other : serial_order crossing waits_for_other ≡ txn_no 1 ∷ txn_no 2 ∷ []
order_of_waits_for_other = refl

-- A query is rejected, and starts again with a greater timestamp.
pub order_of_starts_again : serial_order crossing starts_again ≡ txn_no 2 ∷ txn_no 1 ∷ []
order_of_starts_again = refl

-- Each of two misses what the other writes: a cycle, so there is no order.
pub no_order_of_misses_both : serial_order crossing misses_both ≡ []
no_order_of_misses_both = refl
