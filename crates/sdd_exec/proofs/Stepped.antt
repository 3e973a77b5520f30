-- The steps of a search at the nodes of a plan.
use Rattle.sdd_exec.proofs.All.{AllInside, AreNodes, Bool, Choice, Condition, Explored, Has, IfSome, IsDead, IsDone, IsExplored, IsExploredAt, IsExploredBy, IsKept, IsLed, IsNext, IsNode, IsSoundAt, IsThereIn, List, Next, Node, None, NoneComes, NoneComesAt, NoneComesBy, Option, Ref, Row, Some, StillHas, [], ap, arith, contains, false, is_dead, is_seen, is_there, key_for, length, meets_all, nil_from_length, option_map_or, picked, placed, places_with, refl, same_row, slice_get, slice_get-get_or, slice_index_or, subst, sym, take, take_all, true, values_of, ℕ, ◌+◌, ◌<◌, ◌∙◌, ◌≡◌, ◌≤◌, ◌⊎◌, ◌||◌}
use Rattle.sdd_exec.proofs.Explored.{allowed, answered_explored, dead_none, explored_all, explored_done, explored_more, none_all, none_dead, none_more, none_told, sound_next, told_explored}
use Rattle.sdd_exec.proofs.Kept.{kept_dead, kept_seen, known_explored, same_node}
use Rattle.sdd_exec.proofs.Planned.{Has-at}

some_there : {X : Type 0} (o : Option X) → option_map_or (λ (x : X). true) o false ≡ true → (x : X) × (o ≡ Some x)
some_there None h = absurd cc
some_there (Some x) h = (x, refl)

-- what holds at all holds of a value, if there is one
pub of_all : {P : Type 0} (o : Option Bool) → P → IfSome o (λ came. P)
of_all None p = tt
of_all (Some came) p = p

-- what a value that is false tells, and what follows from that
pub none_if : (o : Option Bool) (P Q : Type 0) → (P → Q) → IfSome o (λ came. came ≡ false → P) → IfSome o (λ came. came ≡ false → Q)
none_if None P Q then h = tt
none_if (Some came) P Q then h = λ no. then (h no)

pub neither : (a b : Bool) → (a || b) ≡ false → (a ≡ false) × (b ≡ false)
neither true b h = absurd cc
neither false b h = (refl, h)

-- the node that a look-up gives
pub got_at : (nodes : List Node) (place : ℕ) (node : Node) → place < length nodes → node ≡ slice_index_or nodes place node → slice_get nodes place ≡ Some node
got_at nodes place node less e = slice_get-get_or nodes place node less ∙ ap Some (sym e)

-- the first node is that of no part
some_start : (o : Option Node) → option_map_or (λ (n : Node). length n.taken.items) o 1 ≡ 0 → (n : Node) × (o ≡ Some n) × (n.taken.items ≡ [])
some_start None h = absurd (omega (arith, h))
some_start (Some n) h = (n, refl, nil_from_length n.taken.items h)

pub start_taken : (nodes : List Node) (node : Node) → option_map_or (λ (n : Node). length n.taken.items) (slice_get nodes 0) 1 ≡ 0 → slice_get nodes 0 ≡ Some node
    → node.taken.items ≡ []
start_taken nodes node h at =
    let s = some_start (slice_get nodes 0) h in
    subst (λ (n : Node). n.taken.items ≡ []) (same_node nodes 0 s.0 node s.1 at) s.2

pub start_explored : (parts : List (List Row)) (conds : List Condition) (out : List Ref) (nodes : List Node) (found : List Row)
    → option_map_or (λ (n : Node). length n.taken.items) (slice_get nodes 0) 1 ≡ 0 → IsExploredAt parts conds out nodes 0 [] found
    → IsExplored parts conds out [] [] found
start_explored parts conds out nodes found h explored =
    let s = some_start (slice_get nodes 0) h in
    subst (λ (g : List ℕ). IsExplored parts conds out g [] found) s.2 (explored s.0 s.1)

module _ (parts : List (List Row)) (conds : List Condition) (out : List Ref) (nodes : List Node) (place : ℕ) (node : Node) (c : Choice)
    (all : AreNodes parts conds out nodes) (is : slice_get nodes place ≡ Some node) where
  its : IsNode parts conds out node
  its = all node (Has-at nodes place node is)

  -- what is explored of the parts of the node is explored at its place
  pub explored_at : (found : List Row) → IsExplored parts conds out node.taken.items c found → IsExploredAt parts conds out nodes place c found
  explored_at found explored other at =
      subst (λ (o : Node). IsExplored parts conds out o.taken.items c found) (same_node nodes place node other is at) explored

  pub whole_at : (found : List Row) → node.is_whole ≡ true
      → (is_there parts c ≡ true → meets_all conds (picked parts c) ≡ true → Has found (values_of parts out c)) → IsExploredAt parts conds out nodes place c found
  whole_at found whole told = explored_at found (told_explored parts conds out node.taken.items c found (its.whole whole) told)

  pub known_at : (state : Explored) → IsKept parts conds out nodes state
      → (is_seen state place (values_of parts node.marks.items c) ≡ true) ⊎ ((node.is_listed ≡ true) × (contains same_row state.told (values_of parts out c) ≡ true))
      → IsExploredAt parts conds out nodes place c state.found
  known_at state kept known = explored_at state.found (known_explored parts conds out nodes state place node c kept its is known)

  pub answered_at : (state : Explored) → IsKept parts conds out nodes state
      → (node.is_listed ≡ true) × (contains same_row state.told (values_of parts out c) ≡ true) → IsExploredAt parts conds out nodes place c state.found
  answered_at state kept told =
      explored_at state.found (answered_explored parts conds out node.taken.items c state.found (its.listed told.0) (kept.known (values_of parts out c) told.1))

  -- that none comes of the parts of the node is so at its place
  pub none_at : NoneComes parts conds node.taken.items c → NoneComesAt parts conds nodes place c
  none_at none other at = subst (λ (o : Node). NoneComes parts conds o.taken.items c) (same_node nodes place node other is at) none

  pub untold_at : node.is_whole ≡ true → (is_there parts c ≡ true → meets_all conds (picked parts c) ≡ true → ⊥) → NoneComesAt parts conds nodes place c
  untold_at whole told = none_at (none_told parts conds node.taken.items c (its.whole whole) told)

  none_known : (state : Explored) → IsKept parts conds out nodes state → is_dead state place (values_of parts node.links.items c) ≡ true
      → NoneComes parts conds node.taken.items c
  none_known state kept dead =
      let linked = its.linked in
      dead_none parts conds node.taken.items c (rw linked at (kept.dead place node (values_of parts node.links.items c) is dead))

  pub dead_at : (state : Explored) → IsKept parts conds out nodes state → is_dead state place (values_of parts node.links.items c) ≡ true
      → NoneComesAt parts conds nodes place c
  dead_at state kept dead = none_at (none_known state kept dead)

  pub dead_explored_at : (state : Explored) → IsKept parts conds out nodes state → is_dead state place (values_of parts node.links.items c) ≡ true
      → IsExploredAt parts conds out nodes place c state.found
  dead_explored_at state kept dead = explored_at state.found (λ t there met agrees. absurd (none_known state kept dead t there met agrees))

  module _ (next : Next) (has : Has node.nexts.items next) (led : IsLed nodes node next) where
    step : IsNext parts conds node.taken.items next
    step = its.next next has

    pub places_allowed : places_with next (key_for next.ties.items (picked parts c)) ≡ allowed parts conds node.taken.items next.part c
    places_allowed = let e = step.tied in step.indexed (key_for next.ties.items (picked parts c)) ∙ rw e refl

    pub sound_at : (p : ℕ) → IsSoundAt parts conds nodes place c → Has (places_with next (key_for next.ties.items (picked parts c))) p
        → IsSoundAt parts conds nodes next.node (placed (length parts) c next.part p)
    sound_at p sound among other at =
        subst (λ (g : List ℕ). IsThereIn parts g (placed (length parts) c next.part p) × AllInside parts g (placed (length parts) c next.part p) conds) (sym (led other at))
        (sound_next parts conds node.taken.items next.part c p step.within step.new (sound node is) (subst (λ (l : List ℕ). Has l p) places_allowed among))

    pub more_at : (ps : List ℕ) (i d : ℕ) (old new : List Row) → option_map_or (λ (n : Node). true) (slice_get nodes next.node) false ≡ true → i < length ps
        → StillHas old new → IsExploredBy parts conds out node.taken.items c next.part (take i ps) old
        → IsExploredAt parts conds out nodes next.node (placed (length parts) c next.part (slice_index_or ps i d)) new
        → IsExploredBy parts conds out node.taken.items c next.part (take (i + 1) ps) new
    more_at ps i d old new there less still before child =
        let other = some_there (slice_get nodes next.node) there in
        explored_more parts conds out node.taken.items c next.part ps i d old new less still before
        (subst (λ (g : List ℕ). IsExplored parts conds out g (placed (length parts) c next.part (slice_index_or ps i d)) new) (led other.0 other.1) (child other.0 other.1))

    -- all places of the part are explored
    pub all_at : (ps : List ℕ) (i : ℕ) (found : List Row) → ps ≡ places_with next (key_for next.ties.items (picked parts c)) → length ps ≤ i
        → IsExploredBy parts conds out node.taken.items c next.part (take i ps) found → IsExplored parts conds out node.taken.items c found
    all_at ps i found are past done =
        explored_all parts conds out node.taken.items c next.part found step.within
        (subst (λ (l : List ℕ). IsExploredBy parts conds out node.taken.items c next.part l found) (take_all i ps past ∙ are ∙ places_allowed) done)

    -- and it is remembered
    pub remembered_at : (ps : List ℕ) (i : ℕ) (old new : Explored) → IsKept parts conds out nodes old → IsSoundAt parts conds nodes place c
        → ps ≡ places_with next (key_for next.ties.items (picked parts c)) → length ps ≤ i
        → IsExploredBy parts conds out node.taken.items c next.part (take i ps) old.found → new.found ≡ old.found → new.told ≡ old.told
        → new.dead ≡ old.dead → ((n : ℕ) (q : Row) → is_seen new n q ≡ true → (is_seen old n q ≡ true) ⊎ ((n ≡ place) × (values_of parts node.marks.items c ≡ q)))
        → IsKept parts conds out nodes new
    remembered_at ps i old new kept sound are past done found told dead seen =
        let explored = all_at ps i old.found are past done in
        let marked = its.marked in
        kept_seen parts conds out nodes old new place node c kept found told dead seen is
        (subst (λ (m : List Ref). IsDone parts conds out m (values_of parts m c) old.found) (sym marked)
        (explored_done parts conds out node.taken.items c old.found (sound node is) explored))

    pub none_more_at : (ps : List ℕ) (i d : ℕ) → option_map_or (λ (n : Node). true) (slice_get nodes next.node) false ≡ true → i < length ps
        → NoneComesBy parts conds node.taken.items c next.part (take i ps)
        → NoneComesAt parts conds nodes next.node (placed (length parts) c next.part (slice_index_or ps i d))
        → NoneComesBy parts conds node.taken.items c next.part (take (i + 1) ps)
    none_more_at ps i d there less before child =
        let other = some_there (slice_get nodes next.node) there in
        none_more parts conds node.taken.items c next.part ps i d less before
        (subst (λ (g : List ℕ). NoneComes parts conds g (placed (length parts) c next.part (slice_index_or ps i d))) (led other.0 other.1) (child other.0 other.1))

    -- none comes of any place of the part
    pub none_all_at : (ps : List ℕ) (i : ℕ) → ps ≡ places_with next (key_for next.ties.items (picked parts c)) → length ps ≤ i
        → NoneComesBy parts conds node.taken.items c next.part (take i ps) → NoneComes parts conds node.taken.items c
    none_all_at ps i are past none =
        none_all parts conds node.taken.items c next.part step.within
        (subst (λ (l : List ℕ). NoneComesBy parts conds node.taken.items c next.part l) (take_all i ps past ∙ are ∙ places_allowed) none)

    -- and it is remembered
    pub remembered_dead_at : (ps : List ℕ) (i : ℕ) (old new : Explored) → IsKept parts conds out nodes old → IsSoundAt parts conds nodes place c
        → ps ≡ places_with next (key_for next.ties.items (picked parts c)) → length ps ≤ i
        → NoneComesBy parts conds node.taken.items c next.part (take i ps) → new.found ≡ old.found → new.told ≡ old.told → new.seen ≡ old.seen
        → ((n : ℕ) (q : Row) → is_dead new n q ≡ true → (is_dead old n q ≡ true) ⊎ ((n ≡ place) × (values_of parts node.links.items c ≡ q)))
        → IsKept parts conds out nodes new
    remembered_dead_at ps i old new kept sound are past none found told seen dead =
        let linked = its.linked in
        kept_dead parts conds out nodes old new place node c kept found told seen dead is
        (subst (λ (m : List Ref). IsDead parts conds m (values_of parts m c)) (sym linked)
        (none_dead parts conds node.taken.items c (sound node is) (none_all_at ps i are past none)))
