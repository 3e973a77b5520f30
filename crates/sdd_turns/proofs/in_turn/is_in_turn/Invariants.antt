use Rattle.sdd_turns.proofs.All.{get, is_in_turn, nat_cmp, take, true, ℕ, ◌≡◌}
use Rattle.sdd_turns.proofs.Turns.{last_of}
use Rattle.sdd_turns.proofs.in_turn.is_in_turn.Given as goal

-- those so far stand in turn, and of each class the last of them is kept
abbrev pub invariant-order : goal.invariant-order
invariant-order l = record {
  in_turn : is_in_turn l.classes (take l.number-index l.order) ≡ true;
  last : (class : ℕ) → get nat_cmp l.last class ≡ last_of l.classes class (take l.number-index l.order);
}
