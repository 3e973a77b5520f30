-- The moves of a query come from its equalities.
use Rattle.sdd_serving.proofs.All.{Condition, Const, Has, Has-flat_map_from, Join, List, Move, Ref, Same, Tuple, [], and_parts, ap, arith, inl, inr, joins_from, meets_all, moves, moves_by, nat_tests, sym, true, value_at, value_decides, ℕ, ◌+◌, ◌∷◌, ◌≡◌, ◌⊎◌}
use Rattle.sdd_laws.specs.lang.Condition.{meets}

-- the two sides of an equality among the conditions
pub record IsJoined (conds : List Condition) (m : Move) : Type 0 where
  pub left : Ref
  pub right : Ref
  pub there : Has conds (Same left right)
  pub sides : ((m.source ≡ right) × (m.target ≡ left)) ⊎ ((m.source ≡ left) × (m.target ≡ right))

join_there : (k : ℕ) (conds : List Condition) (j : Join) → Has (joins_from k conds) j → Has conds (Same j.left j.right)
join_there k [] j h = absurd h
join_there k (Const left op value ∷ rest) j h = inr (join_there (k + 1) rest j h)
join_there k (Same left right ∷ rest) j h = grind (arith, joins_from, (join_there (k + 1) rest j))

pub joined : (conds : List Condition) (m : Move) → Has (moves conds) m → IsJoined conds m
joined conds m h =
    let f = Has-flat_map_from moves_by (joins_from 1 conds) m h in
    let j : Join = f.0 in
    let there : Has conds (Same j.left j.right) = join_there 1 conds j f.1 in
    elim f.2 [
      | inl same ↦
          record
          { left = j.left; right = j.right; there = there; sides = inl (ap (λ (z : Move). z.source) (sym same), ap (λ (z : Move). z.target) (sym same)) }
      | inr more ↦ elim more [
        | inl same ↦
            record
            { left = j.left; right = j.right; there = there; sides = inr (ap (λ (z : Move). z.source) (sym same), ap (λ (z : Move). z.target) (sym same)) }
        | inr nothing ↦ absurd nothing
      ]
    ]

meets_each : (tuple : Tuple) (conds : List Condition) (c : Condition) → meets_all conds tuple ≡ true → Has conds c → meets tuple c ≡ true
meets_each tuple [] c e h = absurd h
meets_each tuple (d ∷ conds) c e h = grind (arith, and_parts, meets, meets_all, (meets_each tuple conds c))

-- in a tuple that meets the conditions the columns of a move have one value
pub one_value : (conds : List Condition) (m : Move) (tuple : Tuple) → IsJoined conds m → meets_all conds tuple ≡ true
    → value_at tuple m.source ≡ value_at tuple m.target
one_value conds m tuple j e =
    let same : value_at tuple j.left ≡ value_at tuple j.right =
    (value_decides (value_at tuple j.left) (value_at tuple j.right)).0 (meets_each tuple conds (Same j.left j.right) e j.there) in
    (grind (arith, nat_tests, value_at))
