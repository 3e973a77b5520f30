-- What a module records and sends is put on the history and the network.
use Rattle.std.specs.Prelude.{ℕ, ◌≡◌, true, false, List, ◌++◌, map}
use Rattle.sdd_sites.specs.needs.All.{Call, Msg, Outcome, Site, puts, puts_past}
use Rattle.sdd_world.specs.declared.world.World.{World}
use Rattle.sdd_sites.specs.Carries.{Carries}
use Rattle.sdd_sites.specs.Kinds.{AreLinked}

-- it may be sent
abbrev pub MaySend : World → Site → Outcome → Type 0
MaySend w at outcome = (tms : ℕ) × (dms : ℕ) × (calls : List (Call Msg)) × Carries w.net tms dms calls × AreLinked tms dms at outcome.out

-- it was recorded and sent, and the rest stayed
pub record Followed (old new : World) (at : Site) (outcome : Outcome) : Type 0 where
  pub whole : new.whole.now ≡ old.whole.now
  pub catalogue : new.catalogue.now ≡ old.catalogue.now
  pub txns : new.txns ≡ old.txns
  pub given : new.given ≡ old.given
  pub marks : new.marks ≡ old.marks
  pub sites : new.sites ≡ old.sites
  pub spool : new.spool ≡ old.spool
  pub history : new.history ≡ old.history ++ map (λ r. (old.marks, r)) outcome.recs
  pub net : (tms dms : ℕ) (calls : List (Call Msg)) → Carries old.net tms dms calls → AreLinked tms dms at outcome.out
      → (puts_past calls at outcome.out ≡ false) × Carries new.net tms dms (puts at outcome.out calls)

-- there is no number for one of its messages
abbrev pub IsPast : World → Site → Outcome → Type 0
IsPast w at outcome = (tms dms : ℕ) (calls : List (Call Msg)) → Carries w.net tms dms calls
    → AreLinked tms dms at outcome.out → puts_past calls at outcome.out ≡ true
