use Rattle.sdd_plain.proofs.All.{drop, serial, true, ◌++◌, ◌≡◌}
use Rattle.sdd_plain.proofs.plain.Plain.run_all.Given as goal

-- the replies so far with those that are left are all, and what is left ends in the last database
abbrev pub invariant-txns : goal.invariant-txns
invariant-txns l =
    (l.self.live ≡ true)
    × (l.replies.items ++ (serial l.catalogue l.self.value (drop l.txn-index l.txns)).0 ≡ (serial l.catalogue l.fn.self.value l.txns).0)
    × ((serial l.catalogue l.self.value (drop l.txn-index l.txns)).1 ≡ (serial l.catalogue l.fn.self.value l.txns).1)
