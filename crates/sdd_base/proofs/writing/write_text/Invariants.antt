use Rattle.sdd_base.proofs.All.{length, take, with_end, ℕ, ◌-◌, ◌≡◌, ◌≤◌}
use Rattle.sdd_base.proofs.writing.write_text.Given as goal

abbrev pub invariant-put : goal.invariant-put
invariant-put g l = record {
  within : l.at ≤ length l.text;
  taken : g.O.Sink.taken l.out ≡ with_end (g.O.Sink.taken l.fn.out) (take l.at l.text);
  later : g.O.Sink.faults l.fn.out ≤ g.O.Sink.faults l.out;
  surely : (room : ℕ) → length l.text ≤ room → g.O.Sink.sure l.fn.out room → g.O.Sink.sure l.out (room - l.at) ×
      (g.O.Sink.faults l.out ≡ g.O.Sink.faults l.fn.out);
}

abbrev pub decreases-put : goal.decreases-put
decreases-put g l = length l.text - l.at
