use Rattle.sdd_shell.proofs.All.{flat_map, length, take, with_end, ℕ, ◌-◌, ◌≡◌, ◌≤◌}
use Rattle.sdd_shell.proofs.telling.tell_pieces.Given as goal

-- the pieces so far were taken, without a fault where the sink was sure to take them all
abbrev pub invariant-pieces : goal.invariant-pieces
invariant-pieces g l = record {
  taken : g.E.Sink.taken l.err ≡ with_end (g.E.Sink.taken l.fn.err) (flat_map (λ p. p.now) (take l.piece-index l.pieces));
  later : g.E.Sink.faults l.fn.err ≤ g.E.Sink.faults l.err;
  sure : (room : ℕ) → g.E.Sink.sure l.fn.err room → length (flat_map (λ p. p.now) l.pieces) ≤ room
      → g.E.Sink.sure l.err (room - length (flat_map (λ p. p.now) (take l.piece-index l.pieces))) × (g.E.Sink.faults l.err ≡ g.E.Sink.faults l.fn.err);
}
