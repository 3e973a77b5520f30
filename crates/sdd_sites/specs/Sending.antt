-- In the loop that sends: what was sent, and what is left.
use Rattle.std.specs.Prelude.{ℕ, ◌≡◌, false, List, ◌++◌}
use Rattle.sdd_needs.specs.All.{Call, Msg, Site, puts, puts_past}
use Rattle.sdd_sites.specs.Carries.{Carries, NetValue}
use Rattle.sdd_sites.specs.Kinds.{AreLinked}

pub record Sending (old now : NetValue) (at : Site) (out left : List (Site × Msg)) : Type 0 where
  pub sent : List (Site × Msg)
  pub parts : out ≡ sent ++ left
  pub some : (tms : ℕ) × (dms : ℕ) × (calls : List (Call Msg)) × Carries old tms dms calls × AreLinked tms dms at out
  pub so_far : (tms dms : ℕ) (calls : List (Call Msg)) → Carries old tms dms calls → AreLinked tms dms at out
      → (puts_past calls at sent ≡ false) × Carries now tms dms (puts at sent calls)
