-- Links between the nodes from 0 on: a node is taken after those from which a link leads to it.
use Rattle.std.specs.Prelude.{ℕ, zero, suc, ◌+◌, ◌-◌, ◌==◌, ◌≡◌, Bool, ◌&&◌, if◌then◌else◌, List, [], ◌∷◌, fold, filter, replicate, slice_index_or, slice_set, refl}
use Rattle.std.specs.List.{list_any, range_with_len}
use Rattle.std.specs.Ordering.{nat_cmp}
use Rattle.std.specs.BTreeSet.{insert_key}
use Rattle.sdd_links.specs.Groups.{Groups, groups}
use Rattle.sdd_links.specs.Taken.{taken}

abbrev pub Links : Type 0
Links = List (ℕ × ℕ)

abbrev pub has_link : Links → ℕ → ℕ → Bool
has_link links i j = list_any (λ l. (l.0 == i) && (l.1 == j)) links

abbrev pub nodes : ℕ → List ℕ
nodes count = range_with_len 0 count

-- again and again the least node to which no link leads from a node that is left
abbrev pub order_of : Links → ℕ → List ℕ
order_of links count = taken (has_link links) (λ i. i) count (nodes count)

pub one_first : order_of ((1, 0) ∷ (0, 2) ∷ []) 4 ≡ 1 ∷ 0 ∷ 2 ∷ 3 ∷ []
one_first = refl

-- How it is found. Of each node the links that lead to it from nodes that are left are counted, and the nodes without
-- such links are ready.

abbrev pub at_node : List ℕ → ℕ → ℕ
at_node counts i = slice_index_or counts i 0

-- the links to each node
abbrev pub counted : List ℕ → ℕ × ℕ → List ℕ
counted counts l = slice_set counts l.1 (at_node counts l.1 + 1)

abbrev pub link_counts : Links → ℕ → List ℕ
link_counts links count = fold counted (replicate count 0) links

-- the counts, and the nodes that are ready, ascending
abbrev pub Front : Type 0
Front = List ℕ × List ℕ

-- one link to a node less
abbrev pub released : Front → ℕ → Front
released front i =
    (slice_set front.0 i (at_node front.0 i - 1), if at_node front.0 i == 1 then insert_key nat_cmp front.1 i else front.1)

-- the nodes that are ready first
abbrev pub first_ready : List ℕ → ℕ → List ℕ
first_ready counts count = filter (λ i. at_node counts i == 0) (nodes count)

-- at most so many nodes are taken
abbrev pub taking : Groups → ℕ → List ℕ → List ℕ → List ℕ
taking after zero counts ready = []
taking after (suc n) counts [] = []
taking after (suc n) counts (i ∷ ready) =
    let front : Front = fold released (counts, ready) (slice_index_or after i []) in
    i ∷ taking after n front.0 front.1
