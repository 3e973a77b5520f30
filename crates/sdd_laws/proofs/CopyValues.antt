-- A copy holds the values of the items of its fragment.
use Rattle.sdd_laws.proofs.All.{AreSame, AreWriters, Bool, Catalogue, Contains, Database, Dated, IsDatabase, IsSoundCatalogue, IsValue, List, Row, Some, Writers, all_dated, contents, copy_of, filter, fragment_at, fragment_of, order_tells_nothing, subst, sym, ℕ, ℤ, ◌↔◌, ◌≡◌}
use Rattle.sdd_laws.proofs.Members.{Contains-from_filter}
use Rattle.sdd_laws.proofs.Origins.{all_placed, all_leave_one_row, dates_differ}
use Rattle.sdd_laws.proofs.Values.{contents_value, value_contents}

pub holds_values : {T : Type 0} (cat : Catalogue) → IsSoundCatalogue cat
    → (first : Database) (w : Writers T) (commits : List T) (applied : T → Bool) (f : ℕ) → IsDatabase cat first
    → AreWriters cat w commits → (key : ℤ) (row : Row) → fragment_of cat (fragment_at cat f).rel.0 key ≡ f
    → Contains (copy_of cat first w commits applied f) (key, row) ↔ IsValue cat
    (all_dated cat first w (filter applied commits)) ((fragment_at cat f).rel.0, key) (Some row)
holds_values {T} cat sound first w commits applied f is writers key row holder =
    let txns : List T = filter applied commits in
    let xs : Dated = all_dated cat first w txns in
    let within : (t : T) → Contains txns t → Contains commits t =
    λ t h. (Contains-from_filter applied commits t h).0 in
    let placed = all_placed cat first w sound is commits writers txns within in (
      (λ h. (contents_value cat xs f key row placed h).0),
      (λ v.
          subst (λ g. Contains (contents g xs) (key, row)) holder
          (value_contents cat xs ((fragment_at cat f).rel.0, key) row placed
          (all_leave_one_row cat first w sound is commits writers txns within) v)),
    )

-- the same changes in another order, or some of them more often, leave the same copy
pub any_order : {T : Type 0} (cat : Catalogue) → IsSoundCatalogue cat → (first : Database) (w : Writers T) (commits : List T)
    (applied : T → Bool) (f : ℕ) (xs : Dated) → IsDatabase cat first → AreWriters cat w commits
    → AreSame (all_dated cat first w (filter applied commits)) xs → contents f xs ≡ copy_of cat first w commits
    applied f
any_order {T} cat sound first w commits applied f xs is writers same =
    let txns : List T = filter applied commits in
    sym
    (order_tells_nothing f (all_dated cat first w txns) xs
    (dates_differ cat first w sound is commits writers txns (λ t h. (Contains-from_filter applied commits t h).0)) same)
