-- Copies represent the changes that were applied to them.
use Rattle.sdd_copy.proofs.All.{All, All-from_recursion, AllByRecursion, AreSame, Bool, Change, Dated, DatesDiffer, Held, IsLive, Items, Kept, List, None, Option, Represent, [], ap, append-nil, append_assoc, arith, changed_at, cond, eq-eqb, eqb-true, false, filter-append, fold, fold-append, held_in, is_here, is_some, items_at, items_of, length, length-map, map, of_fragment, option_map, or_none, refl, slice_index_or, slice_set, subst, suc, sym, true, with_change, written, zero, ℕ, ◌++◌, ◌==◌, ◌∙◌, ◌∷◌, ◌≡◌, ◌≤◌}
use Rattle.sdd_copy.proofs.Order.{same_items_left}

-- copies without items

abbrev no_items : ℕ → Items
no_items key = []

abbrev without_items : List (Option ℕ) → Held
without_items keys = map (option_map no_items) keys

none_in : (key : Option ℕ) → or_none (option_map no_items key) ≡ []
none_in key = grind arith

none_at : (keys : List (Option ℕ)) (f : ℕ) → items_at (without_items keys) f ≡ []
none_at [] f = refl
none_at (key ∷ keys) zero = none_in key
none_at (key ∷ keys) (suc f) = none_at keys f

represent_empty : (keys : List (Option ℕ)) → Represent (without_items keys) []
represent_empty keys f here = none_at keys f

here_in : (key : Option ℕ) → is_some (option_map no_items key) ≡ is_some key
here_in key = grind arith

here_empty : (keys : List (Option ℕ)) (f : ℕ) → is_here (without_items keys) f ≡ is_some (slice_index_or keys f None)
here_empty [] f = refl
here_empty (key ∷ keys) zero = here_in key
here_empty (key ∷ keys) (suc f) = here_empty keys f

-- in memory

abbrev pub made : Option ℕ → Option (Kept Items)
made key = option_map (λ k. record { live = true; value = [] }) key

live_each : (keys : List (Option ℕ)) → AllByRecursion IsLive (map made keys)
live_each [] = tt
live_each (key ∷ keys) = ((grind arith), live_each keys)

pub live_made : (keys : List (Option ℕ)) → All IsLive (map made keys)
live_made keys = All-from_recursion IsLive (map made keys) (live_each keys)

made_in : (key : Option ℕ) → option_map (λ k. k.value) (made key) ≡ option_map no_items key
made_in key = grind arith

held_made : (keys : List (Option ℕ)) → held_in (map made keys) ≡ map (option_map (λ key. [])) keys
held_made [] = refl
held_made (key ∷ keys) = rw (made_in key, held_made keys) refl

abbrev live_with : Held → Kept Held
live_with copies = record { live = true; value = copies }

pub made_whole : (copies : List (Option (Kept Items))) (keys : List (Option ℕ)) → copies ≡ map made keys
    → live_with (held_in copies) ≡ live_with (map (option_map (λ key. [])) keys)
made_whole copies keys whole = ap live_with (ap held_in whole ∙ held_made keys)

pub represent_made : (copies : List (Option (Kept Items))) (keys : List (Option ℕ)) → copies ≡ map made keys
    → Represent (held_in copies) []
represent_made copies keys whole = subst (λ held. Represent held []) (sym (ap held_in whole ∙ held_made keys)) (represent_empty keys)

pub here_made : (copies : List (Option (Kept Items))) (keys : List (Option ℕ)) → copies ≡ map made keys
    → (f : ℕ) → is_here (held_in copies) f ≡ is_some (slice_index_or keys f None)
here_made copies keys whole f = ap (λ held. is_here held f) (ap held_in whole ∙ held_made keys) ∙ here_empty keys f

-- the item at a place is changed

pub changed_past : {A : Type 0} (place : ℕ) (change : A → A) (xs : List A) → length xs ≤ place → changed_at place change xs ≡ xs
changed_past place change [] past = refl
changed_past zero change (x ∷ xs) past = absurd (omega arith)
changed_past (suc place) change (x ∷ xs) past = ap (λ l. x ∷ l) (changed_past place change xs (omega arith))

-- an item is put of which a map shows the changed one
pub map_changed : {A B : Type 0} (show : A → B) (change : B → B) (xs : List A) (place : ℕ) (x y : A)
    → x ≡ slice_index_or xs place x → show y ≡ change (show x)
    → map show (slice_set xs place y) ≡ changed_at place change (map show xs)
map_changed show change [] place x y at put = refl
map_changed show change (z ∷ xs) zero x y at put = let same : x ≡ z = at in rw (put, same) refl
map_changed show change (z ∷ xs) (suc place) x y at put = ap (λ l. show z ∷ l) (map_changed show change xs place x y at put)

pub held_past : (copies : List (Option (Kept Items))) (x : ℕ × Change) → length copies ≤ x.1.frag.0
    → held_in copies ≡ with_change (held_in copies) x
held_past copies x past = grind (arith, length-map, changed_past, option_map)

-- the copy of one fragment is changed

item_at : (h : Items → Items) (copies : Held) (f : ℕ)
    → slice_index_or (changed_at f (option_map h) copies) f None ≡ option_map h (slice_index_or copies f None)
item_at h [] f = refl
item_at h (c ∷ copies) zero = refl
item_at h (c ∷ copies) (suc f) = item_at h copies f

item_apart : (h : Items → Items) (copies : Held) (place f : ℕ) → (place ≡ f → ⊥)
    → slice_index_or (changed_at place (option_map h) copies) f None ≡ slice_index_or copies f None
item_apart h [] place f other = refl
item_apart h (c ∷ copies) zero zero other = absurd (other refl)
item_apart h (c ∷ copies) zero (suc f) other = refl
item_apart h (c ∷ copies) (suc place) zero other = refl
item_apart h (c ∷ copies) (suc place) (suc f) other = item_apart h copies place f (λ e. other (ap suc e))

not_equal : (a b : ℕ) → (a == b) ≡ false → a ≡ b → ⊥
not_equal a b e same = let t : (a == b) ≡ true = eq-eqb a b same in cc

abbrev rule : ℕ × Change → Items → Items
rule x items = written items x

still_here : (x : ℕ × Change) (old : Option Items) → is_some (option_map (rule x) old) ≡ is_some old
still_here x old = grind arith

abbrev of_more : ℕ → Bool → Dated → ℕ × Change → Dated
of_more f own xs x = of_fragment f xs ++ cond own (x ∷ []) []

one_more : (copies : Held) (xs : Dated) (x : ℕ × Change) (f : ℕ) (own : Bool) → (x.1.frag.0 == f) ≡ own
    → (is_here copies f ≡ true → items_at copies f ≡ items_of (of_fragment f xs))
    → is_here (with_change copies x) f ≡ true → items_at (with_change copies x) f ≡ items_of (of_more f own xs x)
one_more copies xs x f true own h here =
    let at : slice_index_or (with_change copies x) f None ≡ option_map (rule x) (slice_index_or copies f None) =
    ap (λ n. slice_index_or (changed_at n (option_map (rule x)) copies) f None) (eqb-true x.1.frag.0 f own) ∙ item_at (rule x) copies f in
    ap or_none at
    ∙ (grind arith)
    ∙ sym (fold-append written [] (of_fragment f xs) (x ∷ []))
one_more copies xs x f false other h here =
    let at : slice_index_or (with_change copies x) f None ≡ slice_index_or copies f None =
    item_apart (rule x) copies x.1.frag.0 f (not_equal x.1.frag.0 f other) in
    ap or_none at
    ∙ h (sym (ap is_some at) ∙ here)
    ∙ ap items_of (sym (append-nil (of_fragment f xs)))

pub represent_more : (copies : Held) (xs : Dated) (x : ℕ × Change) → Represent copies xs
    → Represent (with_change copies x) (xs ++ x ∷ [])
represent_more copies xs x h f here = one_more copies xs x f (x.1.frag.0 == f) refl (h f) here ∙ ap items_of (sym (filter-append (λ y. y.1.frag.0 == f) xs (x ∷ [])))

here_by : (copies : Held) (x : ℕ × Change) (f : ℕ) (own : Bool) → (x.1.frag.0 == f) ≡ own
    → is_here (with_change copies x) f ≡ is_here copies f
here_by copies x f true own =
    ap (λ n. is_some (slice_index_or (changed_at n (option_map (rule x)) copies) f None)) (eqb-true x.1.frag.0 f own)
    ∙ ap is_some (item_at (rule x) copies f)
    ∙ still_here x (slice_index_or copies f None)
here_by copies x f false other = ap is_some (item_apart (rule x) copies x.1.frag.0 f (not_equal x.1.frag.0 f other))

pub here_more : (copies : Held) (x : ℕ × Change) (f : ℕ) → is_here (with_change copies x) f ≡ is_here copies f
here_more copies x f = here_by copies x f (x.1.frag.0 == f) refl

-- many changes more

pub represent_all : (ys : Dated) (copies : Held) (xs : Dated) → Represent copies xs → Represent (fold with_change copies ys) (xs ++ ys)
represent_all [] copies xs h = subst (Represent copies) (sym (append-nil xs)) h
represent_all (y ∷ ys) copies xs h = grind (arith, append_assoc, represent_more, (represent_all ys (with_change copies y) (xs ++ y ∷ []) (represent_more copies xs y h)))

pub here_all : (ys : Dated) (copies : Held) (f : ℕ) → is_here (fold with_change copies ys) f ≡ is_here copies f
here_all [] copies f = refl
here_all (y ∷ ys) copies f = here_all ys (with_change copies y) f ∙ here_more copies y f

pub represent_written : (new old : Held) (x : ℕ × Change) → new ≡ with_change old x → (xs : Dated) → Represent old xs
    → Represent new (xs ++ x ∷ [])
represent_written new old x is xs h = subst (λ v. Represent v (xs ++ x ∷ [])) (sym is) (represent_more old xs x h)

pub here_written : (new old : Held) (x : ℕ × Change) → new ≡ with_change old x → (f : ℕ) → is_here new f ≡ is_here old f
here_written new old x is f = ap (λ v. is_here v f) is ∙ here_more old x f

pub represent_applied : (new old : Held) (ys : Dated) → new ≡ fold with_change old ys → (xs : Dated)
    → Represent old xs → Represent new (xs ++ ys)
represent_applied new old ys is xs h = subst (λ v. Represent v (xs ++ ys)) (sym is) (represent_all ys old xs h)

pub here_applied : (new old : Held) (ys : Dated) → new ≡ fold with_change old ys → (f : ℕ) → is_here new f ≡ is_here old f
here_applied new old ys is f = ap (λ v. is_here v f) is ∙ here_all ys old f

-- the same changes in another order
pub represent_same : (copies : Held) (xs ys : Dated) → DatesDiffer xs → AreSame xs ys → Represent copies xs → Represent copies ys
represent_same copies xs ys d s h f here = h f here ∙ same_items_left f xs ys d s
