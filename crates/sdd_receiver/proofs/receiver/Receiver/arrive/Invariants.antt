use Rattle.sdd_receiver.proofs.All.{false, in_turn, length, out_of_turn, ◌++◌, ◌+◌, ◌≡◌}
use Rattle.sdd_receiver.proofs.receiver.Receiver.arrive.Given as goal

abbrev pub invariant-loop-next : goal.invariant-loop-next
invariant-loop-next g l = record {
  dead : l.self-inside.live ≡ false;
  handed : l.handed.items ++ in_turn l.self-inside.count l.self-inside.early.entries
      ≡ in_turn l.initial.self-inside.count l.initial.self-inside.early.entries;
  waits : out_of_turn l.self-inside.count l.self-inside.early.entries
      ≡ out_of_turn l.initial.self-inside.count l.initial.self-inside.early.entries;
  count : l.self-inside.count ≡ l.initial.self-inside.count + length l.handed.items;
}

abbrev pub decreases-loop-next : goal.decreases-loop-next
decreases-loop-next g l = length l.self-inside.early.entries
