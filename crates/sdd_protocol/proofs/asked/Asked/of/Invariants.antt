use Rattle.sdd_protocol.proofs.All.{AreMarks, is_asked, length, take, ◌+◌, ◌≡◌}
use Rattle.sdd_protocol.proofs.asked.Asked.of.Given as goal

abbrev pub invariant-loop-frag : goal.invariant-loop-frag
invariant-loop-frag l =
    (length l.marks.items ≡ length l.catalogue.fragments + 1) × AreMarks (is_asked l.catalogue l.class.0 l.dm.0 (take l.frag-index l.frags)) l.marks.items
