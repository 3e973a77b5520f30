-- A plan's nodes and indexes.
use Rattle.sdd_exec.proofs.All.{AreMade, AreNexts, AreNodes, Condition, Has, Has-append, IsMade, IsNext, IsNode, List, Made, Next, Node, Ref, Row, Some, Tie, [], ap, column, inl, inr, key_of, keyed, map, places, places_made, refl, slice_get, slice_index_or, suc, sym, zero, ℕ, ⊎_elim, ◌++◌, ◌+◌, ◌∙◌, ◌∷◌, ◌≡◌}

key_by : (row : Row) (ties : List Tie) → key_of ties row ≡ map (column row) (map (λ (t : Tie). t.column) ties)
key_by row [] = refl
key_by row (t ∷ ties) = let rest = key_by row ties in cc

key_alike : (row : Row) (a b : List Tie) → map (λ (t : Tie). t.column) a ≡ map (λ (t : Tie). t.column) b → key_of a row ≡ key_of b row
key_alike row a b e = rw (key_by row a, key_by row b, e) refl

-- ties in the same columns give the same keys
pub keyed_alike : (part : ℕ) (conds : List Condition) (a b : List Tie) (i : ℕ) (rows : List Row)
    → map (λ (t : Tie). t.column) a ≡ map (λ (t : Tie). t.column) b → keyed part conds a i rows ≡ keyed part conds b i rows
keyed_alike part conds a b i [] e = refl
keyed_alike part conds a b i (row ∷ rows) e = rw (key_alike row a b e, keyed_alike part conds a b (i + 1) rows e) refl

-- what a list has at a place
pub Has-at : {X : Type 0} (xs : List X) (i : ℕ) (x : X) → slice_get xs i ≡ Some x → Has xs x
Has-at [] i x e = absurd cc
Has-at (y ∷ xs) zero x e = let same : y ≡ x = cc in inl same
Has-at (y ∷ xs) (suc i) x e = inr (Has-at xs i x e)

-- what holds of each item of a list, and of one more
pub each_more : {X : Type 0} (P : X → Type 0) (xs : List X) (y : X) → ((x : X) → Has xs x → P x) → P y → (x : X) → Has (xs ++ y ∷ []) x → P x
each_more P xs y each one x has =
    ⊎_elim (λ earlier. each x earlier) (λ last. ⊎_elim (λ (same : y ≡ x). rw (← same) one) (λ none. absurd none) last) (Has-append xs (y ∷ []) x has)

-- an index that was made serves ties in its columns
pub made_serves : (parts : List (List Row)) (conds : List Condition) (list : List Made) (made : Made) (part : ℕ) (columns : List ℕ) (ties : List Tie) (q : Row)
    → AreMade parts conds list → Has list made → (made.part ≡ part) × (made.columns.items ≡ columns) → map (λ (t : Tie). t.column) ties ≡ columns
    → places_made made q ≡ places (keyed part conds ties 0 (slice_index_or parts part [])) q
made_serves parts conds list made part columns ties q all has is e = rw is.0 at (all made has ties (e ∙ sym is.1) q)

-- one more index is made
pub made_more : (parts : List (List Row)) (conds : List Condition) (list : List Made) (made : Made) (ties : List Tie) → AreMade parts conds list
    → map (λ (t : Tie). t.column) ties ≡ made.columns.items
    → ((q : Row) → places_made made q ≡ places (keyed made.part conds ties 0 (slice_index_or parts made.part [])) q) → AreMade parts conds (list ++ made ∷ [])
made_more parts conds list made ties all e one =
    each_more (IsMade parts conds) list made all
    (λ other same q. one q ∙ ap (λ (pairs : List (Row × ℕ)). places pairs q) (keyed_alike made.part conds ties other 0 (slice_index_or parts made.part []) (e ∙ sym same)))

-- one more part may be taken
pub nexts_more : (parts : List (List Row)) (conds : List Condition) (taken : List ℕ) (nexts : List Next) (next : Next) → AreNexts parts conds taken nexts
    → IsNext parts conds taken next → AreNexts parts conds taken (nexts ++ next ∷ [])
nexts_more parts conds taken nexts next all one = each_more (IsNext parts conds taken) nexts next all one

pub nodes_more : (parts : List (List Row)) (conds : List Condition) (out : List Ref) (nodes : List Node) (node : Node) → AreNodes parts conds out nodes
    → IsNode parts conds out node → AreNodes parts conds out (nodes ++ node ∷ [])
nodes_more parts conds out nodes node all one = each_more (IsNode parts conds out) nodes node all one
