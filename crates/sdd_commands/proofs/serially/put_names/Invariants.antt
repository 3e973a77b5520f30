use Rattle.sdd_commands.proofs.All.{flat_map, map, names_of, spaced, take, ◌++◌, ◌≡◌}
use Rattle.sdd_commands.proofs.serially.put_names.Given as goal

-- the names of the transactions so far are written
abbrev pub invariant-txns : goal.invariant-txns
invariant-txns l = l.out.items ≡ l.fn.out.items ++ flat_map spaced (names_of (map (λ t. t.now) (take l.txn-index l.txns)))
