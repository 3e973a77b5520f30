use Rattle.sdd_links.proofs.All.{None, chain_after, drop, ◌++◌, ◌≡◌}
use Rattle.sdd_links.proofs.chain.add_chain.Given as goal

abbrev pub invariant-loop-number : goal.invariant-loop-number
invariant-loop-number l = l.links.items ++ chain_after l.before (drop l.number-index l.list) ≡ l.initial.links.items ++ chain_after None l.list
