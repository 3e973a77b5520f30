-- What transactions and effects of a short run keep.
use Rattle.sdd_short_runs.proofs.All.{All, Bool, Catalogue, Contains, Contains-get_or, Effect, IsOf, List, Txn, [], and_parts, ap, change_one_item, inl, inr, lent_txns, list_all, map-append, not, slice_index_or, subst, succeeds, sym, true, ◌&&◌, ◌++◌, ◌∙◌, ◌∷◌, ◌≡◌}
use Rattle.std.proofs.lemmas.List.Elements.{All-cons, All-contains, All-nil, All-push, Contains-push_cases}
use Rattle.std.specs.Borrow.{Bor}

-- what all members have
pub all_members : {X : Type 0} (P : X → Type 0) (xs : List X) → ((x : X) → Contains xs x → P x) → All P xs
all_members P xs h i d l = h (slice_index_or xs i d) (Contains-get_or xs i d l)

-- the inner transactions and the outer one behind them
pub all_of_run : (P : Txn → Type 0) (outer : Txn) (inner txns : List Txn) → txns ≡ inner ++ outer ∷ [] → P outer → All P inner → All P txns
all_of_run P outer inner txns are here all = subst (All P) (sym are) (All-push P inner outer all here)

-- all of them succeed
abbrev HasSuccess : Effect → Type 0
HasSuccess e = succeeds e.reply ≡ true

abbrev commits : Catalogue → Effect → Effect → Bool
commits cat own e = succeeds e.reply && not (change_one_item cat e own)

inner_succeed : (cat : Catalogue) (own : Effect) (effects : List Effect) → list_all (commits cat own) effects ≡ true → All (λ (e : Effect). succeeds e.reply ≡ true) effects
inner_succeed cat own [] ok = All-nil HasSuccess
inner_succeed cat own (e ∷ effects) ok =
    let both = and_parts (commits cat own e) (list_all (commits cat own) effects) ok in
    All-cons HasSuccess e effects (and_parts (succeeds e.reply) (not (change_one_item cat e own)) both.0).0 (inner_succeed cat own effects both.1)

pub all_succeed : (cat : Catalogue) (own : Effect) (inner effects : List Effect) → effects ≡ inner ++ own ∷ []
    → (succeeds own.reply && list_all (commits cat own) inner) ≡ true → All (λ (e : Effect). succeeds e.reply ≡ true) effects
all_succeed cat own inner effects are ok =
    let both = and_parts (succeeds own.reply) (list_all (commits cat own) inner) ok in
    subst (All HasSuccess) (sym are) (All-push HasSuccess inner own (inner_succeed cat own inner both.1) both.0)

-- transactions of a workload fit as its transactions do
pub outer_fits : (P : Txn → Type 0) (work : List Txn) (outer : Txn) (inner : List Txn) → IsOf work outer inner → All P work → P outer
outer_fits P work outer inner of all = All-contains P work outer all of.outer_there

pub inner_fit : (P : Txn → Type 0) (work : List Txn) (outer : Txn) (inner : List Txn) → IsOf work outer inner → All P work → All P inner
inner_fit P work outer inner of all = all_members P inner (λ t h. All-contains P work t all (of.inner_there t h))

-- one more transaction of the workload
pub within_more : (work : List Txn) (inner more : List (Bor Txn)) (t : Bor Txn) → more ≡ inner ++ t ∷ [] → Contains work t.now
    → ((u : Txn) → Contains (lent_txns inner) u → Contains work u) → (u : Txn) → Contains (lent_txns more) u → Contains work u
within_more work inner more t are here all u h =
    let lent : lent_txns more ≡ lent_txns inner ++ t.now ∷ [] = ap lent_txns are ∙ map-append (λ (x : Bor Txn). x.now) inner (t ∷ []) in
    elim (Contains-push_cases (lent_txns inner) t.now u (subst (λ z. Contains z u) lent h)) [
      | inl before ↦ all u before
      | inr e ↦ subst (Contains work) e here
    ]
