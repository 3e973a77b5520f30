-- Steps of loops over members.
use Rattle.std.proofs.Common.{Contains, List, [], length, slice_index_or as get_or, subst, sym, take, ℕ, ap, ◌++◌, ◌+◌, ◌<◌, ◌∙◌, ◌∷◌, ◌≡◌, ◌≤◌, inl, inr}
use Rattle.std.proofs.Math.ListN.{get_or-map}
use Rattle.std.proofs.lemmas.List.{length-map, take_all, take_more}
use Rattle.std.proofs.lemmas.List.Elements.{Contains-get_or, Contains-push_cases}
use Rattle.std.specs.Borrow.{Bor}
use Rattle.sdd_robust.specs.Members.{lent}
use Rattle.sdd_robust.specs.declared.member.Member.{Member}

-- what holds of the first ones and of the next one
pub each_more : {X : Type 0} (P : X → Type 0) (xs : List X) (i : ℕ) (x : X) → i < length xs → get_or xs i x ≡ x → P x
    → ((m : X) → Contains (take i xs) m → P m) → (m : X) → Contains (take (i + 1) xs) m → P m
each_more P xs i x l is p each m h =
    elim (Contains-push_cases (take i xs) x m
    (subst (λ z. Contains z m) (take_more xs i x l ∙ ap (λ z. take i xs ++ z ∷ []) is) h)) [
      | inl before ↦ each m before
      | inr e ↦ subst P e p
    ]

pub each_at : {X : Type 0} (P : X → Type 0) (xs : List X) (i : ℕ) (d : X) → i < length xs → P (get_or xs i d)
    → ((m : X) → Contains (take i xs) m → P m) → (m : X) → Contains (take (i + 1) xs) m → P m
each_at P xs i d l p each m h =
    elim (Contains-push_cases (take i xs) (get_or xs i d) m (subst (λ z. Contains z m) (take_more xs i d l) h)) [
      | inl before ↦ each m before
      | inr e ↦ subst P e p
    ]

pub each_all : {X : Type 0} (P : X → Type 0) (xs : List X) (n : ℕ) → length xs ≤ n → ((m : X) → Contains (take n xs) m → P m)
    → (m : X) → Contains xs m → P m
each_all P xs n l each m h = each m (subst (λ z. Contains z m) (sym (take_all n xs l)) h)

-- a member that is lent
pub lent_at : (xs : List (Bor Member)) (i : ℕ) (x : Bor Member) → x ≡ get_or xs i x → get_or (lent xs) i x.now ≡ x.now
lent_at xs i x e = get_or-map (λ (m : Bor Member). m.now) xs i x ∙ ap (λ (m : Bor Member). m.now) (sym e)

pub lent_long : (xs : List (Bor Member)) → length (lent xs) ≡ length xs
lent_long xs = length-map xs (λ (m : Bor Member). m.now)

pub lent_there : (given items : List (Bor Member)) (i : ℕ) (x : Bor Member) → given ≡ items → i < length (lent given) → x ≡ get_or given i x
    → Contains (lent items) x.now
lent_there given items i x e l is =
    subst (λ z. Contains (lent z) x.now) e
    (subst (Contains (lent given)) (lent_at given i x is) (Contains-get_or (lent given) i x.now l))
