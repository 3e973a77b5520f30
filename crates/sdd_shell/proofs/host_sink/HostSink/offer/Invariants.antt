-- Nothing was taken so far, and no fault was counted.
use Rattle.sdd_shell.proofs.All.{◌≡◌}
use Rattle.std.specs.Io.KnownBytes.{Keeps}
use Rattle.sdd_shell.proofs.host_sink.HostSink.offer.Given as goal

abbrev pub invariant-loop : goal.invariant-loop
invariant-loop g l = record {
  faults : l.self.faults ≡ l.fn.self.faults;
  keeps : Keeps (g.W.Write.contents l.fn.self.inner) (g.W.Write.contents l.self.inner);
}
