-- Lines of a report that are of pending transactions.
use Rattle.std.specs.Prelude.{ℕ, Bool, false, true, List, ◌≡◌, codes, nat_eq, refl}
use Rattle.std.specs.List.{starts_with}

-- a line that begins with `pending `
abbrev pub tells_pending : List ℕ → Bool
tells_pending line = starts_with nat_eq line (codes "pending ")

-- worked
pub pending_is_pending : tells_pending (codes "pending pay underway D1") ≡ true
pending_is_pending = refl

pub end_is_not_pending : tells_pending (codes "end") ≡ false
end_is_not_pending = refl
