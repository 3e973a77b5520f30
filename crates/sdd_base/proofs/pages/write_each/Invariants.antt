use Rattle.sdd_base.proofs.All.{flat_map, length, take, with_end, ℕ, ◌-◌, ◌≡◌, ◌≤◌}
use Rattle.sdd_base.proofs.pages.write_each.Given as goal

-- the bytes of the pages so far were taken
abbrev pub invariant-pages : goal.invariant-pages
invariant-pages g l = record {
  taken :
      g.O.Sink.taken l.out
      ≡ with_end (g.O.Sink.taken l.fn.out) (flat_map (λ page. page) (take l.page-index l.pages));
  later : g.O.Sink.faults l.fn.out ≤ g.O.Sink.faults l.out;
  surely :
      (room : ℕ) → length (flat_map (λ page. page) l.pages) ≤ room → g.O.Sink.sure l.fn.out room
      → g.O.Sink.sure l.out (room - length (flat_map (λ page. page) (take l.page-index l.pages)))
      × (g.O.Sink.faults l.out ≡ g.O.Sink.faults l.fn.out);
}
