-- Where a site may send.
use Rattle.std.specs.Prelude.{ℕ, ◌≡◌, true, List, [], ◌∷◌}
use Rattle.sdd_needs.specs.All.{Msg, Site, is_link}

-- messages go along links between so many modules
abbrev pub AreLinked : ℕ → ℕ → Site → List (Site × Msg) → Type 0
AreLinked tms dms at [] = Unit {0}
AreLinked tms dms at (s ∷ sends) = (is_link tms dms at s.0 ≡ true) × AreLinked tms dms at sends
