-- What a search keeps.
use Rattle.sdd_exec.proofs.All.{Bool, Choice, Condition, Explored, Has, Has-filter, Has-filter_from, Has-map, Has-map_from, IsDead, IsDone, IsExplored, IsKept, IsNode, List, NoRepeats, Node, None, Ref, Row, Some, StillHas, Tuple, [], all_rows, ap, arith, cases_Bool, cond, contains, distinct, distinct_same, false, inl, inr, insert_key, is_dead, is_seen, is_there, length, lists_decide, map, meets_all, nat_lt, new_or_old, new_there, old_there, option_map_or, picked, product, refl, row_cmp, same_row, selection, slice_get, slice_index_or, subst, suc, sym, true, value_at, value_decides, values_of, within, zero, ℕ, ⊎_elim, ◌<◌, ◌∙◌, ◌∷◌, ◌≡◌, ◌⊎◌}
use Rattle.std.proofs.Common.{slice_set}
use Rattle.sdd_exec.proofs.Distinct.{insert_alone}
use Rattle.sdd_exec.proofs.Enough.{no_room_for}
use Rattle.sdd_exec.proofs.Explored.{answered_explored, done_explored}
use Rattle.sdd_exec.proofs.Product.{choice_of, picked_in_product}

-- the row of a choice that meets the conditions is one of the answer
pub answer_there : (parts : List (List Row)) (conds : List Condition) (out : List Ref) (c : Choice) → is_there parts c ≡ true
    → meets_all conds (picked parts c) ≡ true → Has (all_rows parts conds out) (values_of parts out c)
answer_there parts conds out c there met =
    Has-map (λ (tuple : Tuple). map (value_at tuple) out) (selection conds (product parts)) (picked parts c)
    (Has-filter (meets_all conds) (product parts) (picked parts c) (picked_in_product parts c there) met)

module _ (parts : List (List Row)) (conds : List Condition) (out : List Ref) (nodes : List Node) where
  -- nothing is found yet
  pub kept_start : (state : Explored) → ((place : ℕ) (marks : Row) → is_seen state place marks ≡ false)
      → ((place : ℕ) (links : Row) → is_dead state place links ≡ false) → ((row : Row) → contains same_row state.told row ≡ false)
      → state.found ≡ [] → IsKept parts conds out nodes state
  kept_start state unseen undead untold none =
      record {
        done = λ place node marks at seen. absurd (let never : true ≡ false = sym seen ∙ unseen place marks in cc);
        dead = λ place node links at seen. absurd (let never : true ≡ false = sym seen ∙ undead place links in cc);
        known = λ row told. absurd (let never : true ≡ false = sym told ∙ untold row in cc);
        answers = λ row has. absurd (subst (λ (rows : List Row). Has rows row) none has);
        alone = rw none refl;
      }

  done_still : (columns : List Ref) (marks : Row) (old new : List Row) → StillHas old new → IsDone parts conds out columns marks old
      → IsDone parts conds out columns marks new
  done_still columns marks old new still done t there met same = still (values_of parts out t) (done t there met same)

  -- one more row is found
  pub kept_told : (old new : Explored) (row : Row) → IsKept parts conds out nodes old → new.found ≡ insert_key row_cmp old.found row
      → ((q : Row) → contains same_row new.told q ≡ true → (contains same_row old.told q ≡ true) ⊎ (row ≡ q)) → new.seen ≡ old.seen → new.dead ≡ old.dead
      → Has (all_rows parts conds out) row → IsKept parts conds out nodes new
  kept_told old new row kept found told seen dead there =
      let still : StillHas old.found new.found = λ q has. rw found (old_there old.found row q has) in
      record {
        done = λ place node marks at yes. done_still node.marks.items marks old.found new.found still (kept.done place node marks at (rw seen at yes));
        dead = λ place node links at yes. kept.dead place node links at (rw dead at yes);
        known = λ q yes. ⊎_elim (λ before. still q (kept.known q before)) (λ (same : row ≡ q). rw found (subst (Has (insert_key row_cmp old.found row)) same (new_there old.found row))) (told q yes);
        answers = λ q has. ⊎_elim (λ (same : row ≡ q). subst (Has (all_rows parts conds out)) same there) (λ before. kept.answers q before) (new_or_old old.found row q (rw found at has));
        alone = rw found (insert_alone old.found row kept.alone);
      }

  -- one more choice is remembered
  pub kept_seen : (old new : Explored) (place : ℕ) (node : Node) (c : Choice) → IsKept parts conds out nodes old → new.found ≡ old.found → new.told ≡ old.told
      → new.dead ≡ old.dead
      → ((n : ℕ) (q : Row) → is_seen new n q ≡ true → (is_seen old n q ≡ true) ⊎ ((n ≡ place) × (values_of parts node.marks.items c ≡ q)))
      → slice_get nodes place ≡ Some node → IsDone parts conds out node.marks.items (values_of parts node.marks.items c) old.found
      → IsKept parts conds out nodes new
  kept_seen old new place node c kept found told dead seen is done =
      record {
        done = λ n other marks at yes.
            rw found
            (⊎_elim
            (λ before. kept.done n other marks at before)
            (λ one.
            let same : other ≡ node = (let both : Some other ≡ Some node = sym at ∙ rw one.0 is in cc) in
            rw same (subst (λ (m : Row). IsDone parts conds out node.marks.items m old.found) one.1 done))
            (seen n marks yes));
        dead = λ n other links at yes. kept.dead n other links at (rw dead at yes);
        known = λ q yes. rw found (kept.known q (rw told at yes));
        answers = λ q has. kept.answers q (rw found at has);
        alone = rw found kept.alone;
      }

  -- one more choice is remembered of which none comes
  pub kept_dead : (old new : Explored) (place : ℕ) (node : Node) (c : Choice) → IsKept parts conds out nodes old → new.found ≡ old.found → new.told ≡ old.told
      → new.seen ≡ old.seen
      → ((n : ℕ) (q : Row) → is_dead new n q ≡ true → (is_dead old n q ≡ true) ⊎ ((n ≡ place) × (values_of parts node.links.items c ≡ q)))
      → slice_get nodes place ≡ Some node → IsDead parts conds node.links.items (values_of parts node.links.items c) → IsKept parts conds out nodes new
  kept_dead old new place node c kept found told seen dead is none =
      record {
        done = λ n other marks at yes. rw found (kept.done n other marks at (rw seen at yes));
        dead = λ n other links at yes.
            ⊎_elim
            (λ before. kept.dead n other links at before)
            (λ one.
            let same : other ≡ node = (let both : Some other ≡ Some node = sym at ∙ rw one.0 is in cc) in
            rw same (subst (λ (m : Row). IsDead parts conds node.links.items m) one.1 none))
            (dead n links yes);
        known = λ q yes. rw found (kept.known q (rw told at yes));
        answers = λ q has. kept.answers q (rw found at has);
        alone = rw found kept.alone;
      }

  -- what is known of a choice is explored
  pub known_explored : (state : Explored) (place : ℕ) (node : Node) (c : Choice) → IsKept parts conds out nodes state → IsNode parts conds out node
      → slice_get nodes place ≡ Some node
      → (is_seen state place (values_of parts node.marks.items c) ≡ true) ⊎ ((node.is_listed ≡ true) × (contains same_row state.told (values_of parts out c) ≡ true))
      → IsExplored parts conds out node.taken.items c state.found
  known_explored state place node c kept is at known =
      ⊎_elim
      (λ seen. done_explored parts conds out node.taken.items c state.found
      (rw is.marked at (kept.done place node (values_of parts node.marks.items c) at seen)))
      (λ told. answered_explored parts conds out node.taken.items c state.found (is.listed told.0) (kept.known (values_of parts out c) told.1))
      known

  -- all that come of the choice of no part
  pub kept_whole : (state : Explored) → IsKept parts conds out nodes state → IsExplored parts conds out [] [] state.found
      → state.found ≡ distinct (all_rows parts conds out)
  kept_whole state kept explored =
      sym kept.alone
      ∙ distinct_same state.found (all_rows parts conds out) kept.answers
      (λ row has.
      let one = Has-map_from (λ (tuple : Tuple). map (value_at tuple) out) (selection conds (product parts)) row has in
      let two = Has-filter_from (meets_all conds) (product parts) one.0 one.1 in
      let t = choice_of parts one.0 two.0 in
      let met : meets_all conds (picked parts t.0) ≡ true = rw t.2 two.1 in
      let is_row : values_of parts out t.0 ≡ row = rw t.2 one.2 in
      subst (Has state.found) is_row (explored t.0 t.1 met (λ p less yes. absurd cc)))

  -- more are found than there is room for
  pub kept_over : (state : Explored) (room : ℕ) → IsKept parts conds out nodes state → room < length state.found → NoRepeats state.found
      → None ≡ within room (distinct (all_rows parts conds out))
  kept_over state room kept more once = sym (no_room_for room state.found (all_rows parts conds out) more once kept.answers)

-- all are found, and there is room for them
pub fits_room : (room : ℕ) (rows xs : List Row) → rows ≡ distinct xs → nat_lt room (length rows) ≡ false → Some rows ≡ within room (distinct xs)
fits_room room rows xs e few = let e2 = sym e in rw (e2, few) refl

-- a set with one more row
pub added_or_there : (row q : Row) (now before : Bool) → now ≡ cond (same_row row q) true before → now ≡ true → (before ≡ true) ⊎ (row ≡ q)
added_or_there row q now before e told =
    ⊎_elim
    (λ (same : same_row row q ≡ true). inr ((lists_decide value_decides row q).0 same))
    (λ (other : same_row row q ≡ false). inl (rw other at (sym e ∙ told)))
    (cases_Bool (same_row row q))

-- what a test says of the items of a list, after one of them was changed
pub changed_at : {X : Type 0} (f : X → Bool) (xs : List X) (place n : ℕ) (old new : X) (Q : Type 0) → place < length xs → old ≡ slice_index_or xs place old
    → (f new ≡ true → (f old ≡ true) ⊎ Q) → option_map_or f (slice_get (slice_set xs place new) n) false ≡ true
    → (option_map_or f (slice_get xs n) false ≡ true) ⊎ ((n ≡ place) × Q)
changed_at f [] place n old new Q less is one h = absurd (omega arith)
changed_at f (x ∷ xs) zero zero old new Q less is one h = ⊎_elim (λ (was : f old ≡ true). inl (rw is at was)) (λ q. inr (refl, q)) (one h)
changed_at f (x ∷ xs) zero (suc n) old new Q less is one h = inl h
changed_at f (x ∷ xs) (suc p) zero old new Q less is one h = inl h
changed_at f (x ∷ xs) (suc p) (suc n) old new Q less is one h =
    ⊎_elim (λ was. inl was) (λ at. inr (ap suc at.0, at.1)) (changed_at f xs p n old new Q (omega arith) is one h)

pub same_node : (nodes : List Node) (place : ℕ) (a b : Node) → slice_get nodes place ≡ Some a → slice_get nodes place ≡ Some b → a ≡ b
same_node nodes place a b at other = let both : Some a ≡ Some b = sym at ∙ other in cc
