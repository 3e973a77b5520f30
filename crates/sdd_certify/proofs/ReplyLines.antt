-- The line of the replies that stands behind so many, one transaction after the other.
use Rattle.sdd_certify.proofs.All.{Bor, Catalogue, Database, List, None, Option, Reply, Some, Txn, [], after_changes, ap, arith, drop, drop_all, drop_more, effect, get_or, length, lines_of, map, refl, replies_on, reply_lines, reply_whole, slice_get, suc, sym, whole_behind, zero, ℕ, ◌++◌, ◌+◌, ◌<◌, ◌∙◌, ◌∷◌, ◌≡◌, ◌≤◌}
use Rattle.sdd_script.specs.words.Lines.{cut_lines}

-- members of lists that stand one behind the other

pub get_front : {A : Type 0} (xs ys : List A) (k : ℕ) (x : A) → slice_get xs k ≡ Some x → slice_get (xs ++ ys) k ≡ Some x
get_front [] ys k x e = absurd cc
get_front (y ∷ xs) ys zero x e = e
get_front (y ∷ xs) ys (suc k) x e = get_front xs ys k x e

pub get_behind : {A : Type 0} (xs ys : List A) (k left : ℕ) → length xs + left ≡ k → slice_get (xs ++ ys) k ≡ slice_get ys left
get_behind [] ys k left e = let same : k ≡ left = omega (arith, e) in rw same refl
get_behind (y ∷ xs) ys zero left e = absurd (omega (arith, e))
get_behind (y ∷ xs) ys (suc k) left e = get_behind xs ys k left (omega (arith, e))

-- the lines of the first transaction's reply, and those of the others
module _ (cat : Catalogue) (db : Database) (txns : List (Bor Txn)) (i : ℕ) (t : Bor Txn) (reply : Reply)
    (within : i < length txns) (there : t ≡ get_or txns i t) (replied : reply ≡ (effect cat db t.now).reply) where
  abbrev Others : Database → List ℕ
  Others now = replies_on cat now (map (λ u. u.now) (drop (i + 1) txns))

  parted : (name : List ℕ) (now : Database) → name ≡ t.now.name → now ≡ after_changes cat db (effect cat db t.now).changes
      → lines_of (replies_on cat db (map (λ u. u.now) (drop i txns))) ≡ lines_of (reply_lines name reply) ++ lines_of (Others now)
  parted name now same is =
      let first : drop i txns ≡ t ∷ drop (i + 1) txns = drop_more txns i t within ∙ ap (λ (u : Bor Txn). u ∷ drop (i + 1) txns) (sym there) in
      let Lines : List (List ℕ) × List ℕ → List (List ℕ) = λ c. c.0 in
      rw (first, same, is, replied)
      (ap Lines (whole_behind (reply_lines t.now.name (effect cat db t.now).reply)
      (Others (after_changes cat db (effect cat db t.now).changes)) (reply_whole t.now.name (effect cat db t.now).reply)))

  -- the line is one of the first reply
  pub is_here : (name line : List ℕ) (now : Database) (skipped : ℕ) (total : Option (List ℕ)) → name ≡ t.now.name
      → now ≡ after_changes cat db (effect cat db t.now).changes → slice_get (lines_of (reply_lines name reply)) skipped ≡ Some line
      → slice_get (lines_of (replies_on cat db (map (λ u. u.now) (drop i txns)))) skipped ≡ total → Some line ≡ total
  is_here name line now skipped total same is found so_far =
      sym (get_front (lines_of (reply_lines name reply)) (lines_of (Others now)) skipped line found)
      ∙ ap (λ (lines : List (List ℕ)). slice_get lines skipped) (sym (parted name now same is)) ∙ so_far

  -- or of the others
  pub is_behind : (name : List ℕ) (now : Database) (skipped left : ℕ) (total : Option (List ℕ)) → name ≡ t.now.name
      → now ≡ after_changes cat db (effect cat db t.now).changes → length (lines_of (reply_lines name reply)) + left ≡ skipped
      → slice_get (lines_of (replies_on cat db (map (λ u. u.now) (drop i txns)))) skipped ≡ total
      → slice_get (lines_of (Others now)) left ≡ total
  is_behind name now skipped left total same is count so_far =
      sym (get_behind (lines_of (reply_lines name reply)) (lines_of (Others now)) skipped left count)
      ∙ ap (λ (lines : List (List ℕ)). slice_get lines skipped) (sym (parted name now same is)) ∙ so_far

-- where no transaction is left, no line is
pub none_left : (cat : Catalogue) (db : Database) (txns : List (Bor Txn)) (i skipped : ℕ) (total : Option (List ℕ)) → length txns ≤ i
    → slice_get (lines_of (replies_on cat db (map (λ u. u.now) (drop i txns)))) skipped ≡ total → None ≡ total
unfolding cut_lines
none_left cat db txns i skipped total past so_far =
    let none : drop i txns ≡ [] = drop_all i txns past in
    rw none at so_far
