-- Worked: a class needs a module two classes away, since a read that waits holds a write back.
use Rattle.std.specs.Prelude.{ℕ, List, [], ◌∷◌, map, refl}
use Rattle.std.proofs.Common.{lit≤}
use Rattle.sdd_base.proofs.Membership.{Contains-here}
use Rattle.sdd_base.specs.Numbers.{dm_no, frag_no, tm_no}
use Rattle.sdd_base.specs.declared.site.Site.TheVariants.{T}
use Rattle.sdd_catalog.specs.Catalogue.{Catalogue}
use Rattle.sdd_catalog.specs.declared.resolved.Class.{Class}
use Rattle.sdd_catalog.specs.declared.resolved.Read.{Read}
use Rattle.sdd_graph.specs.Examples.{diagonal, with_classes}
use Rattle.sdd_protocol.specs.Protocols.{entry_of}
use Rattle.sdd_protocol.specs.declared.entry.Entry.{Entry}
use Rattle.sdd_protocol.specs.declared.protocol.Protocol.TheVariants.{P2}
use Rattle.sdd_outage.specs.Needs.{Needs}
use Rattle.sdd_outage.specs.Needs.Needs.{attempts, holds, queues, runs_at, waits}
use Rattle.sdd_outage.specs.Tasks.{attempt}

-- Classes 1 and 2 write, and class 1 reads what nobody writes; class 3 reads what either writes, class 4 what class 1 writes
-- alone. Class n runs at T n, and all read at D1.

abbrev read_of : ℕ → Read
read_of f = record { fragment = frag_no f; at = dm_no 1 }

abbrev class_at : ℕ → List ℕ → Class
class_at n frags = record { name = []; tm = tm_no n; reads = map read_of frags; writes = [] }

abbrev pub held : Catalogue
held = with_classes (class_at 1 (4 ∷ []) ∷ class_at 2 [] ∷ class_at 3 (1 ∷ 3 ∷ []) ∷ class_at 4 (1 ∷ 2 ∷ []) ∷ [])

abbrev pub held_table : List Entry
held_table =
    entry_of (diagonal 3 1 1) 1 P2 ∷ entry_of (diagonal 3 2 3) 1 P2
    ∷ entry_of (diagonal 4 1 1) 2 P2 ∷ entry_of (diagonal 4 1 2) 2 P2 ∷ []

-- an attempt of class 4 needs its own modules, and that of class 1, for which it waits
pub own_module : Needs held held_table (attempt 4) (T (tm_no 4))
own_module = runs_at 4 (record { from = lit≤ tt; to = lit≤ tt })

pub writers_module : Needs held held_table (attempt 4) (T (tm_no 1))
writers_module = waits 4 1 (T (tm_no 1)) refl (attempts 1 (T (tm_no 1)) (runs_at 1 (record { from = lit≤ tt; to = lit≤ tt })))

-- and that of class 2, though it reads nothing that class 2 writes: a read of class 3, which waits for class 2, holds back
-- the writes of class 1
pub held_back : Needs held held_table (attempt 4) (T (tm_no 2))
held_back =
    waits 4 1 (T (tm_no 2)) refl
    (holds 1 2 3 (T (tm_no 2)) refl refl (attempts 2 (T (tm_no 2)) (runs_at 2 (record { from = lit≤ tt; to = lit≤ tt }))))

-- and so does an attempt of class 1 itself, which waits for nobody: its read queues behind its own write that is held back
pub queued_behind : Needs held held_table (attempt 1) (T (tm_no 2))
queued_behind =
    queues 1 2 3 (read_of 4) (read_of 1) (T (tm_no 2)) (Contains-here (read_of 4) []) (Contains-here (read_of 1) (read_of 3 ∷ [])) refl refl refl
    (attempts 2 (T (tm_no 2)) (runs_at 2 (record { from = lit≤ tt; to = lit≤ tt })))
