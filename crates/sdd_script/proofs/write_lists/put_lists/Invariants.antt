use Rattle.sdd_script.proofs.All.{drop, flat_map, list_bytes, ◌++◌, ◌≡◌}
use Rattle.sdd_script.proofs.write_lists.put_lists.Given as goal

-- what was written and what is left to write is all of it
abbrev pub invariant-lists : goal.invariant-lists
invariant-lists l = l.out.items ++ flat_map list_bytes (drop l.list-index l.lists) ≡ l.fn.out.items ++ flat_map list_bytes l.lists
