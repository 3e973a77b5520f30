-- Paths.
use Rattle.sdd_links.proofs.All.{IsPath, List, [], ◌++◌, ◌∷◌}

-- paths follow one another
pub path_join : {T : Type 0} (R : T → T → Type 0) (x : T) (m : List T) (y : T) (n : List T) (z : T)
    → IsPath R x m y → IsPath R y n z → IsPath R x (m ++ y ∷ n) z
path_join R x [] y n z p q = (p, q)
path_join R x (w ∷ m) y n z p q = (p.0, path_join R w m y n z p.1 q)

-- a path of a relation is one of a weaker relation
pub path_as : {T : Type 0} (R Q : T → T → Type 0) → ((x y : T) → R x y → Q x y)
    → (x : T) (m : List T) (y : T) → IsPath R x m y → IsPath Q x m y
path_as R Q h x [] y p = h x y p
path_as R Q h x (z ∷ m) y p = (h x z p.0, path_as R Q h z m y p.1)
