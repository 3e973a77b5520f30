-- What lists hold that are made of others.
use Rattle.sdd_shipped.proofs.All.{Bool, Has, List, None, Option, Some, [], ap, arith, cases_Bool, cond, cons_option, false, filter, filter_map, flat_map, inl, inr, length, map, refl, slice_index_or, suc, true, zero, ℕ, ⊎_elim, ◌++◌, ◌<◌, ◌||◌, ◌∷◌, ◌≡◌, ◌⊎◌}

pub Has-left : {X : Type 0} (xs ys : List X) (x : X) → Has xs x → Has (xs ++ ys) x
Has-left [] ys x h = absurd h
Has-left (z ∷ xs) ys x h = ⊎_elim (λ e. inl e) (λ k. inr (Has-left xs ys x k)) h

pub Has-right : {X : Type 0} (xs ys : List X) (x : X) → Has ys x → Has (xs ++ ys) x
Has-right [] ys x h = h
Has-right (z ∷ xs) ys x h = inr (Has-right xs ys x h)

pub Has-append : {X : Type 0} (xs ys : List X) (x : X) → Has (xs ++ ys) x → Has xs x ⊎ Has ys x
Has-append [] ys x h = inr h
Has-append (z ∷ xs) ys x h = ⊎_elim (λ e. inl (inl e)) (λ k. ⊎_elim (λ a. inl (inr a)) (λ b. inr b) (Has-append xs ys x k)) h

pub Has-map : {X Y : Type 0} (f : X → Y) (xs : List X) (x : X) → Has xs x → Has (map f xs) (f x)
Has-map f [] x h = absurd h
Has-map f (z ∷ xs) x h = ⊎_elim (λ e. inl (ap f e)) (λ k. inr (Has-map f xs x k)) h

pub Has-map_from : {X Y : Type 0} (f : X → Y) (xs : List X) (y : Y) → Has (map f xs) y → (x : X) × Has xs x × (f x ≡ y)
Has-map_from f [] y h = absurd h
Has-map_from f (z ∷ xs) y h = ⊎_elim (λ e. (z, inl refl, e)) (λ k. let r = Has-map_from f xs y k in (r.0, inr r.1, r.2)) h

pub Has-filter : {X : Type 0} (p : X → Bool) (xs : List X) (x : X) → Has xs x → p x ≡ true → Has (filter p xs) x
Has-filter p [] x h t = absurd h
Has-filter p (z ∷ xs) x h t =
    ⊎_elim
    (λ e. let yes : p z ≡ true = rw e t in rw yes (inl e))
    (λ k. let rest = Has-filter p xs x k t in elim (p z) as (λ b. Has (cond b (z ∷ filter p xs) (filter p xs)) x) [ true ↦ inr rest | false ↦ rest ])
    h

pub Has-filter_from : {X : Type 0} (p : X → Bool) (xs : List X) (x : X) → Has (filter p xs) x → Has xs x × (p x ≡ true)
Has-filter_from p [] x h = absurd h
Has-filter_from p (z ∷ xs) x h =
    ⊎_elim
    (λ (yes : p z ≡ true). let g : Has (z ∷ filter p xs) x = rw yes at h in ⊎_elim (λ e. (inl e, rw (← e) yes)) (λ k. let r = Has-filter_from p xs x k in (inr r.0, r.1)) g)
    (λ (no : p z ≡ false). let g : Has (filter p xs) x = rw no at h in let r = Has-filter_from p xs x g in (inr r.0, r.1))
    (cases_Bool (p z))

pub Has-flat_map : {X Y : Type 0} (f : X → List Y) (xs : List X) (x : X) (y : Y) → Has xs x → Has (f x) y → Has (flat_map f xs) y
Has-flat_map f [] x y h k = absurd h
Has-flat_map f (z ∷ xs) x y h k =
    ⊎_elim (λ e. Has-left (f z) (flat_map f xs) y (rw e k)) (λ r. Has-right (f z) (flat_map f xs) y (Has-flat_map f xs x y r k)) h

pub Has-flat_map_from : {X Y : Type 0} (f : X → List Y) (xs : List X) (y : Y) → Has (flat_map f xs) y → (x : X) × Has xs x × Has (f x) y
Has-flat_map_from f [] y h = absurd h
Has-flat_map_from f (z ∷ xs) y h =
    ⊎_elim (λ a. (z, inl refl, a)) (λ b. let r = Has-flat_map_from f xs y b in (r.0, inr r.1, r.2)) (Has-append (f z) (flat_map f xs) y h)

pub Has-filter_map : {X Y : Type 0} (f : X → Option Y) (xs : List X) (x : X) (y : Y) → Has xs x → f x ≡ Some y → Has (filter_map f xs) y
Has-filter_map f [] x y h e = absurd h
Has-filter_map f (z ∷ xs) x y h e =
    ⊎_elim
    (λ same. let found : f z ≡ Some y = rw same e in rw found (inl refl))
    (λ k. let rest = Has-filter_map f xs x y k e in elim (f z) as (λ o. Has (cons_option o (filter_map f xs)) y) [ None ↦ rest | Some w ↦ inr rest ])
    h

pub Has-filter_map_from : {X Y : Type 0} (f : X → Option Y) (xs : List X) (y : Y) → Has (filter_map f xs) y → (x : X) × Has xs x × (f x ≡ Some y)
Has-filter_map_from f [] y h = absurd h
Has-filter_map_from f (z ∷ xs) y h =
    ⊎_elim (λ e. (z, inl refl, e)) (λ k. let r = Has-filter_map_from f xs y k in (r.0, inr r.1, r.2)) (grind (arith, ⊎_elim))

pub Has-get_or : {X : Type 0} (xs : List X) (i : ℕ) (d : X) → i < length xs → Has xs (slice_index_or xs i d)
Has-get_or [] i d h = absurd (omega arith)
Has-get_or (x ∷ xs) zero d h = inl refl
Has-get_or (x ∷ xs) (suc i) d h = inr (Has-get_or xs i d (omega arith))

-- the place of what a list holds
pub place_of : {X : Type 0} (xs : List X) (x d : X) → Has xs x → (i : ℕ) × (i < length xs) × (slice_index_or xs i d ≡ x)
place_of [] x d h = absurd h
place_of (z ∷ xs) x d h =
    ⊎_elim (λ e. (0, omega arith, e)) (λ k. let r = place_of xs x d k in let less : r.0 < length xs = r.1 in (suc r.0, omega arith, r.2)) h

pub or_false : (b : Bool) → (b || false) ≡ true → b ≡ true
or_false b h = grind arith
