-- Marks for the fragments that are written.
use Rattle.sdd_catalog.proofs.All.{AreMarked, Bool, DuplicateName, List, None, Some, Text, UnknownName, [], ap, arith, bytes_eq, bytes_eq-Decides, cases_Bool, cond, false, get_or, get_or-replicate, get_or-set_other, get_or-set_same, has_name, head_of, inl, inr, length, length-replicate, length-set, list_any-append, nat_tests, not, place_of, replicate, same_Some, set, sym, true, when, ℕ, ◌++◌, ◌<◌, ◌||◌, ◌∙◌, ◌∷◌, ◌≡◌, ◌≢◌}
use Rattle.sdd_catalog.proofs.Places.{found_place}

-- before the first name nothing is marked
pub no_marks : (names : List Text) (n : ℕ) → n ≡ length names → AreMarked names [] (replicate n false)
no_marks names n count =
    record {
      one_each = length-replicate n false ∙ count;
      marked = λ name place e.
          get_or-replicate n place false false (omega (arith, (found_place (bytes_eq name) names [] place e).within));
    }

-- a name has one place, and a place has one name
name_at_place : (names : List Text) (name : Text) (k : ℕ) → place_of name names ≡ Some k → name ≡ get_or names k []
name_at_place names name k e = (bytes_eq-Decides name (get_or names k [])).0 (found_place (bytes_eq name) names [] k e).passes

-- a name more, whose place is marked
pub name_marked : (names before : List Text) (marks : List Bool) (name : Text) (place : ℕ)
    → AreMarked names before marks → place_of name names ≡ Some place → AreMarked names (before ++ name ∷ []) (set marks place true)
name_marked names before marks name place so_far e =
    let bound : place < length names = (found_place (bytes_eq name) names [] place e).within in
    record {
      one_each = length-set marks place true ∙ so_far.one_each;
      marked = λ q k at. elim (cases_Bool (bytes_eq q name)) [
        | inl y ↦
            let same : q ≡ name = (bytes_eq-Decides q name).0 y in
            let here : k ≡ place = same_Some k place (sym at ∙ ap (λ n. place_of n names) same ∙ e) in
            ap (λ n. get_or (set marks place true) n false) here ∙ get_or-set_same marks place true false (omega (arith, so_far.one_each))
            ∙ sym ((list_any-append (bytes_eq q) before (name ∷ [])) ∙ ap (λ b. has_name before q || (b || false)) y ∙ (grind (arith, nat_tests)))
        | inr n ↦
            let apart : k ≢ place = λ h.
            let same : q ≡ name = name_at_place names q k at ∙ ap (λ n. get_or names n []) h ∙ sym (name_at_place names name place e) in
            let yes : bytes_eq q name ≡ true = (bytes_eq-Decides q name).1 same in
            cc in
            get_or-set_other marks place k true false apart ∙ so_far.marked q k at
            ∙ sym ((list_any-append (bytes_eq q) before (name ∷ [])) ∙ ap (λ b. has_name before q || (b || false)) n ∙ (grind (arith, nat_tests)))
      ];
    }

both : (a b : Bool) → cond a (cond b (Some DuplicateName) None) (Some UnknownName) ≡ head_of (when (not a) UnknownName ++ when b DuplicateName)
both a b = grind (arith, nat_tests)

-- the first rule on a write that is broken
pub first_write_rule : (names before : List Text) (name : Text) (a b : Bool) → a ≡ has_name names name → b ≡ has_name before name
    → cond a (cond b (Some DuplicateName) None) (Some UnknownName)
    ≡ head_of (when (not (has_name names name)) UnknownName ++ when (has_name before name) DuplicateName)
first_write_rule names before name a b e f = grind (arith, nat_tests)
