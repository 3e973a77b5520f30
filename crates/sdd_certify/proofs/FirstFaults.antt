-- The first line at fault, one line more.
use Rattle.sdd_certify.proofs.All.{At, Finding, LineRule, List, None, Some, Yes, [], ap, arith, commit_on, drop, first_behind, fold, last_committed, length, map, map-append, max, place_of, refl, subst, suc, sym, take, zero, ℕ, ◌++◌, ◌+◌, ◌∙◌, ◌∷◌, ◌≡◌}

-- the list about the place where this member stands
pub record Split {A : Type 0} (i : ℕ) (all : List A) (x : A) (rest : List A) : Type 0 where
  pub up_to : take (i + 1) all ≡ take i all ++ x ∷ []
  pub behind : drop (i + 1) all ≡ rest
  pub count : length (take i all) ≡ i

pub split_at : {A : Type 0} (i : ℕ) (all : List A) (x : A) (rest : List A) → drop i all ≡ x ∷ rest → Split i all x rest
split_at zero [] x rest e = absurd cc
split_at zero (y ∷ all) x rest e =
    let same : y ≡ x = cc in
    let others : all ≡ rest = cc in
    record { up_to = ap (λ z. z ∷ []) same; behind = others; count = refl }
split_at (suc i) [] x rest e = absurd cc
split_at {A} (suc i) (y ∷ all) x rest e =
    let more = split_at i all x rest e in
    let count = more.count in
    let next : suc i + 1 ≡ suc (i + 1) = omega arith in
    record {
      up_to = rw next (ap (λ (l : List A). y ∷ l) more.up_to);
      behind = rw next more.behind;
      count = omega (arith, count);
    }

-- where a line isn't at fault
pub goes_on : (rule : LineRule) (all : List (List ℕ)) (i : ℕ) (line : List ℕ) (rest : List (List ℕ)) (total : Finding)
    → drop i all ≡ line ∷ rest → rule (take i all) line ≡ None → first_behind rule (take i all) (drop i all) ≡ total
    → first_behind rule (take (i + 1) all) (drop (i + 1) all) ≡ total
goes_on rule all i line rest total e none so_far =
    let s = split_at i all line rest e in
    let up_to = s.up_to in
    let behind = s.behind in
    let here = rw e at so_far in
    rw (up_to, behind) (rw none at here)

-- one step of a loop over the lines
pub one_more : (rule : LineRule) (all : List (List ℕ)) (i : ℕ) (line : List ℕ) (rest : List (List ℕ)) (total : Finding)
    → drop i all ≡ line ∷ rest → rule (take i all) line ≡ None → first_behind rule (take i all) (drop i all) ≡ total
    → (drop (i + 1) all ≡ rest) × (first_behind rule (take (i + 1) all) (drop (i + 1) all) ≡ total)
one_more rule all i line rest total e none so_far = ((split_at i all line rest e).behind, goes_on rule all i line rest total e none so_far)

-- where it is
pub stops : (rule : LineRule) (all : List (List ℕ)) (i : ℕ) (line : List ℕ) (rest : List (List ℕ)) (name : List ℕ) (total : Finding)
    → drop i all ≡ line ∷ rest → rule (take i all) line ≡ Some name → first_behind rule (take i all) (drop i all) ≡ total → At (i + 1) name ≡ total
stops rule all i line rest name total e some so_far =
    let s = split_at i all line rest e in
    let count = s.count in
    let here = rw e at so_far in
    let found = rw some at here in
    subst (λ n. At (n + 1) name ≡ total) count found

-- where no line is left
pub none_left : (rule : LineRule) (all : List (List ℕ)) (i : ℕ) (total : Finding) → drop i all ≡ [] → first_behind rule (take i all) (drop i all) ≡ total → Yes ≡ total
none_left rule all i total e so_far = rw e at so_far

-- the last place of a commit, one line more
fold_more : (m : ℕ) (ns : List ℕ) (n : ℕ) → fold max m (ns ++ n ∷ []) ≡ max (fold max m ns) n
fold_more m [] n = refl
fold_more m (k ∷ ns) n = fold_more (max m k) ns n

pub last_more : (names lines : List (List ℕ)) (line : List ℕ)
    → last_committed names (lines ++ line ∷ []) ≡ max (last_committed names lines) (place_of names (commit_on line))
last_more names lines line =
    let place : List ℕ → ℕ = λ l. place_of names (commit_on l) in
    ap (λ (places : List ℕ). fold max 0 places) (map-append place lines (line ∷ [])) ∙ fold_more 0 (map place lines) (place line)

pub last_step : (names all : List (List ℕ)) (i : ℕ) (line : List ℕ) (rest : List (List ℕ)) (last : ℕ) → drop i all ≡ line ∷ rest
    → last ≡ last_committed names (take i all) → max last (place_of names (commit_on line)) ≡ last_committed names (take (i + 1) all)
last_step names all i line rest last e is =
    ap (λ (n : ℕ). max n (place_of names (commit_on line))) is
    ∙ sym (ap (last_committed names) (split_at i all line rest e).up_to ∙ last_more names (take i all) line)
