-- The edges at a node.
use Rattle.sdd_advise.proofs.All.{All, All-from_recursion, AllByRecursion, Contains, Edge, Joins, List, Neighbour, None, Option, Some, [], ap, arith, cases_eq, cons_option, eq-eqb, eqb-true, filter_map, inl, inr, ne_eqb, neighbour_by, neighbours, none-some, option_map, other_end, refl, same_Some, ℕ, ◌∙◌, ◌∷◌, ◌≡◌}
use Rattle.sdd_advise.proofs.Ascending.{contains_from_among, among_from_contains}
use Rattle.sdd_advise.proofs.Members.{Among}

-- an edge leads from one of its ends to the other
pub other_end_joined : (edge : Edge) (a b : ℕ) → Joins edge a b → other_end edge a ≡ Some b
other_end_joined edge a b h4 = grind (arith, eq-eqb, cases_eq, ne_eqb)

pair : (p : ℕ × ℕ) (a b : ℕ) → p.0 ≡ a → p.1 ≡ b → p ≡ (a, b)
pair p a b e f = ap (λ z. (z, p.1)) e ∙ ap (λ z. (a, z)) f

-- and joins the two
pub joined_other_end : (edge : Edge) (a b : ℕ) → other_end edge a ≡ Some b → Joins edge a b
joined_other_end edge a b = grind (arith, pair, eqb-true, same_Some, none-some)

-- a neighbour of a node, by an edge of the list
pub record IsNeighbour (edges : List Edge) (node : ℕ) (neighbour : Neighbour) : Type 0 where
  pub is_edge : Contains edges neighbour.edge
  pub joins : Joins neighbour.edge node neighbour.node

among_mapped : {X Y : Type 0} (h : X → Option Y) (xs : List X) (x : X) (y : Y) → Among xs x → h x ≡ Some y
    → Among (filter_map h xs) y
among_mapped h [] x y m e = absurd m
among_mapped h (z ∷ zs) x y (inl p) e = rw (ap h p ∙ e) (inl refl)
among_mapped h (z ∷ zs) x y (inr m) e = grind (arith, Among, cons_option, filter_map, (among_mapped h zs x y m e))

from_mapped : {X Y : Type 0} (h : X → Option Y) (xs : List X) (y : Y) → Among (filter_map h xs) y
    → (x : X) × Among xs x × (h x ≡ Some y)
from_mapped h [] y m = absurd m
from_mapped {X} {Y} h (z ∷ zs) y m =
    elim (h z) as (λ o. h z ≡ o → Among (cons_option o (filter_map h zs)) y → (x : X) × Among (z ∷ zs) x × (h x ≡ Some y)) [
      | None ↦ λ e n. let r = from_mapped h zs y n in (r.0, inr r.1, r.2)
      | Some w ↦ λ e n. elim n [
        | inl p ↦ (z, inl refl, e ∙ ap (λ q. Some q) p)
        | inr g ↦ let r = from_mapped h zs y g in (r.0, inr r.1, r.2)
      ]
    ] refl m

-- an edge that joins the node to another leads to it
pub neighbour_there : (edges : List Edge) (node other : ℕ) (edge : Edge) → Contains edges edge → Joins edge node other
    → Contains (neighbours edges node) (record { edge = edge; node = other })
neighbour_there edges node other edge m j =
    contains_from_among (neighbours edges node) (record { edge = edge; node = other })
    (among_mapped (neighbour_by node) edges edge (record { edge = edge; node = other }) (among_from_contains edges edge m)
    (ap (option_map (λ (z : ℕ). record { edge = edge; node = z })) (other_end_joined edge node other j)))

one_neighbour : (edges : List Edge) (node : ℕ) (n : Neighbour) → Among (neighbours edges node) n → IsNeighbour edges node n
one_neighbour edges node n m = grind (arith, from_mapped, none-some, same_Some, contains_from_among, Among, joined_other_end)

all_among : {X : Type 0} (P : X → Type 0) (xs : List X) → ((x : X) → Among xs x → P x) → AllByRecursion P xs
all_among P [] h = tt
all_among P (x ∷ xs) h = (h x (inl refl), all_among P xs (λ y m. h y (inr m)))

-- all that lead from a node are neighbours of it
pub all_neighbours : (edges : List Edge) (node : ℕ) → All (IsNeighbour edges node) (neighbours edges node)
all_neighbours edges node =
    All-from_recursion (IsNeighbour edges node) (neighbours edges node) (all_among (IsNeighbour edges node) (neighbours edges node) (one_neighbour edges node))
