-- A report is found complete exactly where it is complete.
use Rattle.sdd_certify.proofs.All.{Bool, Contains, IsComplete, List, None, Option, Some, Yes, [], ap, arith, bytes_eq, bytes_eq-Decides, commit_on, complete, cond, eqb, false, get_or, length, missing, missing_on, names_on, ne_eqb, place_in, position_from, refl, some_is, suc, sym, true, unwrap_or, zero, ℕ, ◌+◌, ◌<◌, ◌∙◌, ◌∷◌, ◌≡◌, ◌≤◌}
use Rattle.sdd_certify.proofs.NoFault.{all_none, none_found}
use Rattle.sdd_certify.proofs.OrderFound.{order_found, yes_order}
use Rattle.std.proofs.lemmas.List.Elements.{Contains-get_or}

-- a name that has a place is there, and one that is there has a place

record HasPlace (first : ℕ) (name : List ℕ) (names : List (List ℕ)) (place : ℕ) : Type 0 where
  from : first ≤ place
  there : Contains names name

place_there : (first : ℕ) (name : List ℕ) (names : List (List ℕ)) (place : ℕ) → position_from (bytes_eq name) first names ≡ Some place
    → HasPlace first name names place
place_there first name [] place e = absurd cc
place_there first name (other ∷ names) place e = by_test (bytes_eq name other) refl (λ more. place_there (first + 1) name names place more) e
  where
    by_test : (b : Bool) → bytes_eq name other ≡ b
        → (position_from (bytes_eq name) (first + 1) names ≡ Some place → HasPlace (first + 1) name names place)
        → cond b (Some first) (position_from (bytes_eq name) (first + 1) names) ≡ Some place → HasPlace first name (other ∷ names) place
    by_test true is later e =
        let same : first ≡ place = some_is first place e in
        record { from = omega (arith, same); there = (0, omega arith, sym ((bytes_eq-Decides name other).0 is)) }
    by_test false is later e =
        let more = later e in
        let from = more.from in
        let k : ℕ = more.there.0 in
        let lt : k < length names = more.there.1 in
        record { from = omega (arith, from); there = (suc k, omega (arith, lt), more.there.2) }

there_placed : (first : ℕ) (name : List ℕ) (names : List (List ℕ)) → position_from (bytes_eq name) first names ≡ None → Contains names name → ⊥
there_placed first name [] e has = let lt = has.1 in omega (arith, lt)
there_placed first name (other ∷ names) e has =
    by_test (bytes_eq name other) refl (λ none there. there_placed (first + 1) name names none there) e has.0 has.1 has.2
  where
    by_test : (b : Bool) → bytes_eq name other ≡ b → (position_from (bytes_eq name) (first + 1) names ≡ None → Contains names name → ⊥)
        → cond b (Some first) (position_from (bytes_eq name) (first + 1) names) ≡ None
        → (k : ℕ) → k < length (other ∷ names) → get_or (other ∷ names) k name ≡ name → ⊥
    by_test true is later e k lt at = absurd cc
    by_test false is later e zero lt at =
        let yes : bytes_eq name other ≡ true = (bytes_eq-Decides name other).1 (sym at) in
        absurd cc
    by_test false is later e (suc k) lt at = later e (k, omega (arith, lt), at)

-- no name is missing

named_by : (names : List (List ℕ)) (name : List ℕ) (o : Option ℕ) → place_in names name ≡ o
    → cond (eqb (unwrap_or o 0) 0) (Some name) None ≡ None → Contains names name
named_by names name None e h = absurd cc
named_by names name (Some place) e h = (place_there 1 name names place e).there

placed_by : (names : List (List ℕ)) (name : List ℕ) (o : Option ℕ) → place_in names name ≡ o → Contains names name
    → cond (eqb (unwrap_or o 0) 0) (Some name) None ≡ None
placed_by names name None e has = absurd (there_placed 1 name names e has)
placed_by names name (Some zero) e has = let from = (place_there 1 name names 0 e).from in absurd (omega (arith, from))
placed_by names name (Some (suc place)) e has =
    let some : eqb (suc place) 0 ≡ false = ne_eqb (suc place) 0 (λ same. omega (arith, same)) in
    ap (λ b. cond b (Some name) None) some

none_missing : (names : List (List ℕ)) (committed : Option (List ℕ)) → ((name : List ℕ) → committed ≡ Some name → Contains names name)
    → missing names committed ≡ None
none_missing names None all = refl
none_missing names (Some name) all = placed_by names name (place_in names name) refl (all name refl)

same_at : (lines : List (List ℕ)) (k : ℕ) (c d : List ℕ) → k < length lines → get_or lines k c ≡ get_or lines k d
same_at [] k c d lt = absurd (omega (arith, lt))
same_at (line ∷ lines) zero c d lt = refl
same_at (line ∷ lines) (suc k) c d lt = same_at lines k c d (omega (arith, lt))

pub is_complete : (report : List ℕ) → complete report ≡ Yes → IsComplete report
is_complete report h =
    let f = yes_order missing_on report h in
    let names : List (List ℕ) = names_on f.has.order in
    record {
      parts = f.has;
      named = λ line name there told.
          let k : ℕ = there.0 in
          let none = none_found (missing_on names) [] f.has.before f.is k there.1 in
          let is : get_or f.has.before k [] ≡ line = same_at f.has.before k [] line there.1 ∙ there.2 in
          named_by names name (place_in names name) refl
          (ap (missing names) (sym told ∙ ap commit_on (sym is)) ∙ none);
    }

pub complete_again : (report : List ℕ) → IsComplete report → complete report ≡ Yes
complete_again report c =
    let names : List (List ℕ) = names_on c.parts.order in
    let before : List (List ℕ) = c.parts.before in
    order_found missing_on report Yes
    (record {
      has = c.parts;
      is = all_none (missing_on names) [] before
          (λ k lt. none_missing names (commit_on (get_or before k []))
          (λ name told. c.named (get_or before k []) name (Contains-get_or before k [] lt) told));
    })
