-- The parts of a report, one after the other.
use Rattle.sdd_report.proofs.All.{List, Report, after_replies, append_assoc, arith, flat_map, order_line, reply_of, report_text, trace, ℕ, ◌++◌, ◌≡◌}

-- what stands before the replies, the replies, and what follows them
pub whole_report : (r : Report) (front replied text : List ℕ)
    → front ≡ trace r.catalogue r.txns r.history ++ order_line r.txns r.order
    → replied ≡ front ++ flat_map (reply_of r.txns r.history) r.order → text ≡ replied ++ after_replies r
    → text ≡ report_text r
whole_report r front replied text first second third = grind (arith, flat_map, append_assoc)
