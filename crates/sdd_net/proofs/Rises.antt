-- What is delivered on a link doesn't fall.
use Rattle.sdd_net.proofs.All.{top_rises, Call, Link, List, Option, Packet, Site, arith, delivered, link, nat_tests, with_packet, ◌∷◌, ◌≤◌}

-- neither way delivers less
abbrev Rises : {M : Type 0} → Link M → Link M → Type 0
Rises l k = (delivered l.there ≤ delivered k.there) × (delivered l.back ≤ delivered k.back)

by_packet : {M : Type 0} (o : Option (Packet M)) (f : Packet M → Link M) (l : Link M)
    → ((p : Packet M) → Rises l (f p)) → Rises l (with_packet o f l)
by_packet o f l h = grind (arith, nat_tests)

pub rises : {M : Type 0} (a b : Site) (c : Call M) (calls : List (Call M))
    → delivered (link a b calls).there ≤ delivered (link a b (c ∷ calls)).there
rises a b c calls = grind (arith, by_packet, top_rises)
