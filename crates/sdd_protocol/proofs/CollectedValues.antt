-- What a loop that collects chosen values has after one member more.
use Rattle.sdd_protocol.proofs.All.{List, Option, [], arith, filter_map, filter_map-append, nat_tests, ◌++◌, ◌∷◌, ◌≡◌}

pub chosen_more : {X A : Type 0} (f : X → Option A) (xs more : List X) (x : X) (items new : List A)
    → more ≡ xs ++ x ∷ [] → items ≡ filter_map f xs → new ≡ items ++ filter_map f (x ∷ []) → new ≡ filter_map f more
chosen_more f xs more x items new e h n = grind (arith, nat_tests, filter_map-append)
