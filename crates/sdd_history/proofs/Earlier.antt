-- The records before one.
use Rattle.std.proofs.Common.{◌≡◌, ℕ, ◌<◌, ◌≤◌, length, take, get_or, sym, ◌∙◌, subst, arith}
use Rattle.std.specs.Prelude.{All}
use Rattle.std.proofs.lemmas.List.{get_or-take, get_or_default, length-take}
use Rattle.sdd_history.specs.declared.record.Rec.{Rec}
use Rattle.sdd_history.specs.Records.{History, IsInOrder}

-- none is of a later event
pub earlier_events : (history : History) (k : ℕ) (found : ℕ × Rec) → IsInOrder history → k < length history → found ≡ get_or history k found
    → All (λ earlier. earlier.0 ≤ found.0) (take k history)
earlier_events history k found in_order within is i d before =
    let below : i < k = omega (arith, length-take k history) in
    let there : get_or history k d ≡ found = get_or_default history k d found within ∙ sym is in
    rw (get_or-take k history i d below) (subst (λ (e : ℕ × Rec). (get_or history i d).0 ≤ e.0) there (in_order i k d (omega arith) within))
