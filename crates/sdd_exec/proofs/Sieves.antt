-- What a sieve covers.
use Rattle.sdd_exec.proofs.All.{Bool, Choice, Condition, Has, Has-append, Has-left, Has-map_from, Has-right, HasLike, IsCovered, IsSieve, IsSifted, List, Mesh, NoRepeats, Offered, Ref, Row, Sieve, TooMany, [], ap, append-nil, arith, both, cases_Bool, cond, false, flat_map, flat_map-append, found_with, inl, insert_key, is_apart, length, links_of, lists_decide, map, map-append, new_or_old, not, outs_of, picked, placed, refl, row_cmp, same_row, slice_index_or as get_or, subst, sym, take, take_more, true, value_at, value_decides, values_of, ℕ, ⊎_elim, ◌++◌, ◌+◌, ◌-◌, ◌<◌, ◌==◌, ◌∙◌, ◌∷◌, ◌≡◌}
use Rattle.sdd_exec.proofs.Complete.{value_agrees, placed_at}

-- what holds of more rows than there is room for
pub many_more : (room : ℕ) (P Q : Row → Type 0) → ((row : Row) → P row → Q row) → TooMany room P → TooMany room Q
many_more room P Q each many = (many.0, many.1, many.2, λ row has. each row (many.3 row has))

like_still : (parts : List (List Row)) (links outs : List Ref) (kept next : List Choice) (l o : Row) → ((c : Choice) → Has kept c → Has next c)
    → HasLike parts links outs kept l o → HasLike parts links outs next l o
like_still parts links outs kept next l o still like = (like.0, still like.0 like.1, like.2, like.3)

covered_still : (parts : List (List Row)) (links outs : List Ref) (room : ℕ) (kept next : List Choice) (c : Choice)
    → ((d : Choice) → Has kept d → Has next d)
    → IsCovered parts links outs room kept c → IsCovered parts links outs room next c
covered_still parts links outs room kept next c still covered = grind (arith, ⊎_elim, like_still, many_more)

-- a sieve that has found more than there is room for
pub full_is_many : (parts : List (List Row)) (mesh : Mesh) (sieve : Sieve) (room : ℕ) (l : Row) → IsSieve parts mesh sieve
    → (room < length (found_with sieve l)) × NoRepeats (found_with sieve l)
    → TooMany room (HasLike parts mesh.links.items mesh.outs.items sieve.kept.items l)
full_is_many parts mesh sieve room l is full = (found_with sieve l, full.0, full.1, λ o has. is l o has)

pub offered_none : (parts : List (List Row)) (mesh : Mesh) (sieve : Sieve) → IsSieve parts mesh sieve → Offered parts mesh sieve sieve []
offered_none parts mesh sieve is = record { sieve = is; covered = λ c has. absurd has; still = λ c has. has; only = λ c has. inl has }

-- offered some choices, and then others
pub offered_append : (parts : List (List Row)) (mesh : Mesh) (a b c : Sieve) (xs ys : List Choice) → Offered parts mesh a b xs → Offered parts mesh b c ys
    → Offered parts mesh a c (xs ++ ys)
offered_append parts mesh a b c xs ys first second = grind (arith, ⊎_elim, covered_still, Has-append, Has-left, Has-right)

-- a sieve that is full for choices needn't keep them
pub offered_full : (parts : List (List Row)) (mesh : Mesh) (sieve : Sieve) (choices : List Choice) (l : Row) → IsSieve parts mesh sieve
    → TooMany mesh.room (HasLike parts mesh.links.items mesh.outs.items sieve.kept.items l)
    → ((c : Choice) → Has choices c → values_of parts mesh.links.items c ≡ l) → Offered parts mesh sieve sieve choices
offered_full parts mesh sieve choices l is many alike = grind arith

pub offered_full_one : (parts : List (List Row)) (mesh : Mesh) (sieve : Sieve) (choice : Choice) → IsSieve parts mesh sieve
    → (mesh.room < length (found_with sieve (values_of parts mesh.links.items choice))) × NoRepeats (found_with sieve (values_of parts mesh.links.items choice))
    → Offered parts mesh sieve sieve (choice ∷ [])
offered_full_one parts mesh sieve choice is full = grind (arith, offered_full, full_is_many, ⊎_elim)

abbrev pub IsFoundWith : Sieve → Sieve → Row → Row → Type 0
IsFoundWith old new l o = (q : Row) → found_with new q ≡ cond (same_row l q) (insert_key row_cmp (found_with old l) o) (found_with old q)

module _ (parts : List (List Row)) (mesh : Mesh) (old new : Sieve) (choice : Choice) where
  abbrev l : Row
  l = values_of parts mesh.links.items choice

  abbrev o : Row
  o = values_of parts mesh.outs.items choice

  abbrev Like : List Choice → Row → Row → Type 0
  Like = HasLike parts mesh.links.items mesh.outs.items

  -- what was found before, or the new row
  found_by : IsSieve parts mesh old → IsFoundWith old new l o → Like new.kept.items l o → ((c : Choice) → Has old.kept.items c → Has new.kept.items c)
      → IsSieve parts mesh new
  found_by is found like still k r has = grind (arith, ⊎_elim, same_row, l, lists_decide, value_decides, insert_key, row_cmp, found_with, o, Like, like_still, new_or_old, cases_Bool)

  -- a choice that was kept
  pub offered_kept : IsSieve parts mesh old → IsFoundWith old new l o → new.kept.items ≡ old.kept.items ++ choice ∷ []
      → Offered parts mesh old new (choice ∷ [])
  offered_kept is found kept =
      let there : Has new.kept.items choice = rw kept (Has-right old.kept.items (choice ∷ []) choice (inl refl)) in
      let still : (c : Choice) → Has old.kept.items c → Has new.kept.items c = λ c has. rw kept (Has-left old.kept.items (choice ∷ []) c has) in
      let like : Like new.kept.items l o = (choice, there, refl, refl) in
      record {
        sieve = found_by is found like still;
        covered = grind (arith, ⊎_elim);
        still = still;
        only = λ c has. Has-append old.kept.items (choice ∷ []) c (rw kept at has);
      }

  -- a choice beside which one with its row was kept before
  pub offered_again : IsSieve parts mesh old → IsFoundWith old new l o → Has (found_with old l) o → new.kept.items ≡ old.kept.items
      → Offered parts mesh old new (choice ∷ [])
  offered_again is found there kept = grind (arith, Like, l, o, like_still, found_by, ⊎_elim)

pub not_true : (b : Bool) → not b ≡ true → b ≡ false
not_true b h = grind arith

-- the links of a choice with another place of a part of which no link is
values_apart : (parts : List (List Row)) (columns : List Ref) (choice : Choice) (part place : ℕ) → is_apart part columns ≡ true
    → values_of parts columns (placed (length parts) choice part place) ≡ values_of parts columns choice
values_apart parts [] choice part place h = refl
values_apart parts (r ∷ columns) choice part place h =
    let b = both _ _ h in
    let rest = values_apart parts columns choice part place b.1 in
    let one : value_at (picked parts (placed (length parts) choice part place)) r ≡ value_at (picked parts choice) r =
    value_agrees parts (placed (length parts) choice part place) choice r
    (λ less. placed_at (length parts) choice part place (r.part - 1) less ∙ rw (not_true (r.part - 1 == part) b.0) refl) in
    cc

pub offered_apart : (parts : List (List Row)) (mesh : Mesh) (sieve : Sieve) (choice : Choice) (part : ℕ) (places : List ℕ) → IsSieve parts mesh sieve
    → is_apart part mesh.links.items ≡ true
    → TooMany mesh.room (HasLike parts mesh.links.items mesh.outs.items sieve.kept.items (values_of parts mesh.links.items choice))
    → Offered parts mesh sieve sieve (map (placed (length parts) choice part) places)
offered_apart parts mesh sieve choice part places is apart many =
    offered_full parts mesh sieve (map (placed (length parts) choice part) places) (values_of parts mesh.links.items choice) is many
    (λ c has.
    let one = Has-map_from (placed (length parts) choice part) places c has in
    subst (λ (d : Choice). values_of parts mesh.links.items d ≡ values_of parts mesh.links.items choice) one.2
    (values_apart parts mesh.links.items choice part one.0 apart))

-- one item more of those that are offered in turn
pub offered_next : {X : Type 0} (parts : List (List Row)) (mesh : Mesh) (a b c : Sieve) (f : X → Choice) (xs : List X) (i : ℕ) (x : X) → i < length xs
    → Offered parts mesh a b (map f (take i xs)) → Offered parts mesh b c (f (get_or xs i x) ∷ []) → Offered parts mesh a c (map f (take (i + 1) xs))
offered_next parts mesh a b c f xs i x h before one =
    let split : map f (take (i + 1) xs) ≡ map f (take i xs) ++ f (get_or xs i x) ∷ [] = ap (map f) (take_more xs i x h)
    ∙ map-append f (take i xs) (get_or xs i x ∷ []) in
    subst (Offered parts mesh a c) (sym split) (offered_append parts mesh a b c (map f (take i xs)) (f (get_or xs i x) ∷ []) before one)

pub offered_more : {X : Type 0} (parts : List (List Row)) (mesh : Mesh) (a b c : Sieve) (f : X → List Choice) (xs : List X) (i : ℕ) (x : X)
    → i < length xs
    → x ≡ get_or xs i x
    → Offered parts mesh a b (flat_map f (take i xs)) → Offered parts mesh b c (f x) → Offered parts mesh a c (flat_map f (take (i + 1) xs))
offered_more parts mesh a b c f xs i x h e before one =
    let split : flat_map f (take (i + 1) xs) ≡ flat_map f (take i xs) ++ f x =
    ap (flat_map f) (take_more xs i x h) ∙ flat_map-append f (take i xs) (get_or xs i x ∷ [])
    ∙ ap (λ (ys : List Choice). flat_map f (take i xs) ++ ys) (append-nil (f (get_or xs i x)) ∙ ap f (sym e)) in
    subst (Offered parts mesh a c) (sym split) (offered_append parts mesh a b c (flat_map f (take i xs)) (f x) before one)

-- what a sieve keeps that began with nothing
pub sifted_by : (parts : List (List Row)) (conds : List Condition) (out : List Ref) (room : ℕ) (group : List ℕ) (mesh : Mesh) (old new : Sieve) (choices : List Choice)
    → mesh.links.items ≡ links_of group conds → mesh.outs.items ≡ outs_of group out → mesh.room ≡ room → old.kept.items ≡ []
    → Offered parts mesh old new choices → IsSifted parts conds out room group choices new.kept.items
sifted_by parts conds out room group mesh old new choices links outs is_room none offered =
    record {
      covered = λ c has. rw (links, outs, is_room) at (offered.covered c has);
      only = λ c has. ⊎_elim (λ before. absurd (rw none at before)) (λ offered_one. offered_one) (offered.only c has);
    }
