-- Of each transaction the place of its first Commit, one record after the other.
use Rattle.sdd_watch.proofs.All.{Bool, Change, Commit, History, List, None, Option, Rec, Some, TxnNo, [], ap, arith, cases_Bool, changes_of, commits, committed_by, committed_in, cond, eqb-true, false, find, get_or, inl, inr, is_at, is_eq_nat, is_some, length, length-take-le, nat_cmp, option_or, position, refl, subst, sym, take, take_all, take_more, true, ℕ, ◌++◌, ◌+◌, ◌<◌, ◌==◌, ◌∙◌, ◌∷◌, ◌≡◌, ◌≤◌}
use Rattle.sdd_watch.proofs.FirstPlaces.{first_more, first_there, none_there}

-- the places that are known are those of the first Commits
abbrev pub Known : (ℕ → Option ℕ) → History → Type 0
Known places records = (n : ℕ) → places n ≡ position (commits n) records

some_stays : (o p : Option ℕ) → is_some o ≡ true → o ≡ option_or o p
some_stays None p e = absurd cc
some_stays (Some k) p e = refl

or_none : (o : Option ℕ) → o ≡ option_or o None
or_none None = refl
or_none (Some k) = refl

or_second : (o p : Option ℕ) → is_some o ≡ false → p ≡ option_or o p
or_second None p e = refl
or_second (Some k) p e = absurd cc

-- a further Commit of a transaction
pub kept_place : (old : ℕ → Option ℕ) (key place : ℕ) → is_some (old key) ≡ true → (n : ℕ) → old n ≡ option_or (old n) (cond (key == n) (Some place) None)
kept_place old key place has n =
    elim (cases_Bool (key == n)) [
      | inl y ↦ some_stays (old n) (cond (key == n) (Some place) None) (subst (λ m. is_some (old m) ≡ true) (eqb-true key n y) has)
      | inr f ↦ or_none (old n) ∙ ap (option_or (old n)) (sym (ap (λ b. cond b (Some place) None) f))
    ]

-- its first one
pub put_place : (old new : ℕ → Option ℕ) (key place : ℕ) → is_some (old key) ≡ false
    → ((n : ℕ) → new n ≡ cond (is_at (nat_cmp key) n) (Some place) (old n)) → (n : ℕ) → new n ≡ option_or (old n) (cond (key == n) (Some place) None)
put_place old new key place none put n =
    let now : new n ≡ cond (key == n) (Some place) (old n) = put n ∙ ap (λ b. cond b (Some place) (old n)) (is_eq_nat key n) in
    elim (cases_Bool (key == n)) [
      | inl y ↦
          now ∙ ap (λ b. cond b (Some place) (old n)) y
          ∙ or_second (old n) (Some place) (subst (λ m. is_some (old m) ≡ false) (eqb-true key n y) none)
          ∙ ap (option_or (old n)) (sym (ap (λ b. cond b (Some place) None) y))
      | inr f ↦ now ∙ ap (λ b. cond b (Some place) (old n)) f ∙ or_none (old n) ∙ ap (option_or (old n)) (sym (ap (λ b. cond b (Some place) None) f))
    ]

-- a record more

abbrev is_of : Option TxnNo → ℕ → Bool
is_of None n = false
is_of (Some t) n = t.0 == n

commits_is : (n : ℕ) (r : ℕ × Rec) → commits n r ≡ is_of (committed_by r) n
commits_is n (event, Commit txn attempt reply changes values rows) = refl
commits_is n _ = refl

known_more : (records : History) (r : ℕ × Rec) (o : Option TxnNo) (old new : ℕ → Option ℕ) (place : ℕ) → o ≡ committed_by r → length records ≡ place
    → ((n : ℕ) → new n ≡ option_or (old n) (cond (is_of o n) (Some place) None)) → Known old records → Known new (records ++ r ∷ [])
known_more records r o old new place is here put known n =
    put n ∙ (λ i. option_or (known n i) (cond ((ap (λ q. is_of q n) is ∙ sym (commits_is n r)) i) (Some (sym here i)) None))
    ∙ sym (first_more (commits n) records r)

pub known_with : (records : History) (r : ℕ × Rec) (t : TxnNo) (old new : ℕ → Option ℕ) (place : ℕ) → Some t ≡ committed_by r → length records ≡ place
    → ((n : ℕ) → new n ≡ option_or (old n) (cond (t.0 == n) (Some place) None)) → Known old records → Known new (records ++ r ∷ [])
known_with records r t old new place is here put known = known_more records r (Some t) old new place is here put known

pub known_still : (records : History) (r : ℕ × Rec) (old : ℕ → Option ℕ) (place : ℕ) → None ≡ committed_by r → length records ≡ place
    → Known old records → Known old (records ++ r ∷ [])
known_still records r old place is here known = known_more records r None old old place is here (λ n. or_none (old n)) known

-- the records so far

pub known_to : (records : History) (r : ℕ × Rec) (place : ℕ) (old new : ℕ → Option ℕ) → place < length records → r ≡ get_or records place r
    → ((rs : History) → length rs ≡ place → Known old rs → Known new (rs ++ r ∷ [])) → Known old (take place records) → Known new (take (place + 1) records)
known_to records r place old new lt is step known =
    let more : take (place + 1) records ≡ take place records ++ r ∷ [] = take_more records place r lt ∙ ap (λ x. take place records ++ x ∷ []) (sym is) in
    subst (Known new) (sym more) (step (take place records) (length-take-le place records (omega arith)) known)

pub known_all : (records : History) (place : ℕ) (places : ℕ → Option ℕ) → length records ≤ place → Known places (take place records) → Known places records
known_all records place places past known = subst (Known places) (take_all place records past) known

-- what a transaction changes

pub changes_at_place : (records : History) (n k : ℕ) (places : ℕ → Option ℕ) (r : ℕ × Rec) (changes : List Change) → Known places records → Some k ≡ places n
    → r ≡ get_or records k r → changes ≡ committed_in (Some r) → changes ≡ changes_of n records
changes_at_place records n k places r changes known at is e =
    let found : find (commits n) records ≡ Some r = (first_there (commits n) records k (sym (known n) ∙ sym at)).found r is in
    e ∙ ap committed_in (sym found)

pub within_records : (records : History) (n k : ℕ) (places : ℕ → Option ℕ) → Known places records → Some k ≡ places n → k < length records
within_records records n k places known at = (first_there (commits n) records k (sym (known n) ∙ sym at)).within

pub no_changes : (records : History) (n : ℕ) (places : ℕ → Option ℕ) (changes : List Change) → Known places records → None ≡ places n → changes ≡ []
    → changes ≡ changes_of n records
no_changes records n places changes known at e = e ∙ ap committed_in (sym (none_there (commits n) records (sym (known n) ∙ sym at)))
