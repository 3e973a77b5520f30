-- On a link the times of a class never fall: each is at most the class's limit, which never falls either.
use Rattle.std.specs.Prelude.{ℕ, ◌==◌, ◌∷◌, ◌≡◌, List, None, Option, Some, [], cond, filter_map}
use Rattle.sdd_log.specs.All.{Catalogue, Msg, Read, Setting, Site, Write, piped}
use Rattle.sdd_log.specs.site_module.SiteLog.{Log}
use Rattle.sdd_invariants.specs.Orders.{AllLe, IsRising}
use Rattle.sdd_invariants.specs.Steps.{home, limit}
use Rattle.sdd_invariants.specs.Traffic.{puts_to, times_in}

pub record IsTimed (s : Setting) (c : ℕ) (b : Site) (log : Log) : Type 0 where
  pub rises : IsRising (times_in c (puts_to b log))
  pub within : AllLe (limit s c log) (times_in c (puts_to b log))

-- all of these messages are of the class k, and have the time t
abbrev pub AllPiped : ℕ → ℕ → List (Site × Msg) → Type 0
AllPiped k t [] = Unit {0}
AllPiped k t (p ∷ ps) = (piped p.1 ≡ Some (k, t)) × AllPiped k t ps

-- through the pipe of which class it goes, if it goes through one, this site runs
abbrev pub IsHomed : Catalogue → Site → Msg → Type 0
IsHomed cat at m = (c t : ℕ) → piped m ≡ Some (c, t) → home cat c ≡ at

abbrev pub AllHomed : Catalogue → Site → List Msg → Type 0
AllHomed cat at [] = Unit {0}
AllHomed cat at (m ∷ ms) = IsHomed cat at m × AllHomed cat at ms

-- the time of a WRITE of the class
abbrev pub write_at : ℕ → Msg → Option ℕ
write_at c (Write ts k txn changes) = cond (k.0 == c) (Some ts.0) None
write_at c _ = None

abbrev pub writes_in : ℕ → List Msg → List ℕ
writes_in c ms = filter_map (write_at c) ms

-- the time of a READ of the class
abbrev pub read_at : ℕ → Msg → Option ℕ
read_at c (Read ts k txn attempt conds uses) = cond (k.0 == c) (Some ts.0) None
read_at c _ = None

abbrev pub reads_in : ℕ → List Msg → List ℕ
reads_in c ms = filter_map (read_at c) ms
