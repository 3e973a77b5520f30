-- Which orders of committed transactions agree with what they did: where two meet at a fragment, the writer with the
-- smaller timestamp stands first, and a reader stands after the writers that it saw and before those that it didn't see.
use Rattle.std.specs.Prelude.{◌≡◌, Bool, true, not, nat_lt, List, [], ◌∷◌, Contains, ◌↔◌}
use Rattle.sdd_lang.specs.All.{Catalogue, Change, time_at}
use Rattle.sdd_laws.specs.declared.meeting.Meeting.{Meeting}
use Rattle.sdd_laws.specs.declared.meeting.Meeting.TheVariants.{Writes, WriteRead, ReadWrite}
use Rattle.sdd_laws.specs.Ledger.{Ledger, Reads, changes}

-- whether the first of two that meet may stand before the second
abbrev pub may_come_first : Meeting → Bool
may_come_first (Writes first second) = nat_lt first.0 second.0
may_come_first (WriteRead seen) = seen
may_come_first (ReadWrite seen) = not seen

-- how two transactions meet at a fragment
pub data Meets {T : Type 0} (cat : Catalogue) (L : Ledger T) (x y : T) : Meeting → Type 0 where
  both_write : (c d : Change) → Contains (changes L x) c → Contains (changes L y) d → c.frag.0 ≡ d.frag.0
      → Meets cat L x y (Writes (time_at (L.ts x)) (time_at (L.ts y)))
  writes_read : (c : Change) → Contains (changes L x) c → Reads cat L y c.frag.0 → Meets cat L x y (WriteRead (L.saw y c.frag.0 x))
  reads_write : (c : Change) → Contains (changes L y) c → Reads cat L x c.frag.0 → Meets cat L x y (ReadWrite (L.saw x c.frag.0 y))

-- the first may stand before the second, however they meet
abbrev pub MayComeFirst : {T : Type 0} → Catalogue → Ledger T → T → T → Type 0
MayComeFirst cat L x y = (m : Meeting) → Meets cat L x y m → may_come_first m ≡ true

-- each may stand before those after it
abbrev pub IsAlong : {T : Type 0} → Catalogue → Ledger T → List T → Type 0
IsAlong cat L [] = Unit {0}
IsAlong cat L (x ∷ rest) = ((y : _) → Contains rest y → MayComeFirst cat L x y) × IsAlong cat L rest

-- an order of these transactions that agrees with what they did
pub record IsOrder {T : Type 0} (cat : Catalogue) (L : Ledger T) (commits order : List T) : Type 0 where
  pub same : (x : T) → Contains commits x ↔ Contains order x
  pub along : IsAlong cat L order
