-- The members of an object are its pieces, and each value is found by its name.
use Rattle.std.proofs.Common.{ap, append-nil, append_assoc, eqb-true, subst, sym, ◌∙◌}
use Rattle.std.specs.Fmt.{decimal}
use Rattle.std.specs.List.{AllByRecursion, list_all}
use Rattle.std.specs.Option.{option_map_or}
use Rattle.std.specs.Prelude.{ℕ, ◌≡◌, ◌==◌, true, false, if◌then◌else◌, List, [], ◌∷◌, ◌++◌, map, Option, Some, None, refl}
use Rattle.sdd_inside.specs.Json.{also, array, member, object, triple, unless_empty, unless_zero}
use Rattle.sdd_inside_read.proofs.DigitsPass.{number_again, whole_number}
use Rattle.sdd_inside_read.proofs.Ends.{AllWhole, HasByte, alone, before_cut, behind_it, items_again, items_in_some, joined, joined_pieces, within_ends}
use Rattle.sdd_inside_read.proofs.JsonPass.{is_letter, object_is, triple_is, whole_array, whole_member}
use Rattle.sdd_inside_read.proofs.Passing.{IsInner, IsWhole, inner, inner_comma, inner_join, inner_none}
use Rattle.sdd_inside_read.specs.Pieces.{Comma, behind, items_in, items_of}
use Rattle.sdd_inside_read.specs.Small.{IsSmall}
use Rattle.sdd_inside_read.specs.Values.{list_in, number_in, number_of, value_of}
use Rattle.sdd_script.specs.All.{or_else}

-- the members of an object, and the items of a list of three

pub object_items : (name value more : List ℕ) (ms : List (List ℕ)) → more ≡ joined ms → IsWhole (member name value) → AllWhole ms
    → items_of (object (member name value) more) ≡ member name value ∷ ms
object_items name value more ms is h k =
    let first : List ℕ = member name value in
    ap items_of (object_is first more)
    ∙ ap items_in (within_ends 123 125 (first ++ more) ∙ ap (λ t. first ++ t) is)
    ∙ joined_pieces first ms h k

pub triple_items : (a b c : List ℕ) → HasByte a → IsWhole a → IsWhole b → IsWhole c → items_of (triple a b c) ≡ a ∷ b ∷ c ∷ []
triple_items a b c some h k l =
    ap items_of (triple_is a b c)
    ∙ ap items_in (within_ends 91 93 (a ++ 44 ∷ (b ++ 44 ∷ c)))
    ∙ items_in_some a (44 ∷ (b ++ 44 ∷ c)) some
    ∙ before_cut Comma a (b ++ 44 ∷ c) h
    ∙ ap (λ ps. a ∷ ps) (before_cut Comma b c k ∙ ap (λ ps. b ∷ ps) (alone Comma c l))

-- what each item gives back

pub each_again : {A B : Type 0} (P : A → Type 0) (f : A → List ℕ) (read : List ℕ → B) (t : A → B) (xs : List A) → ((x : A) → P x → read (f x) ≡ t x)
    → AllByRecursion P xs → map read (map f xs) ≡ map t xs
each_again P f read t [] h e = refl
each_again P f read t (x ∷ xs) h e =
    ap (λ y. y ∷ map read (map f xs)) (h x e.0) ∙ ap (λ ys. t x ∷ ys) (each_again P f read t xs h e.1)

-- members that are left out where they have nothing to tell

abbrev pub one : List ℕ → List ℕ → List (List ℕ)
one name value = member name value ∷ []

abbrev pub listed : {A : Type 0} → List ℕ → (A → List ℕ) → List A → List (List ℕ)
listed name f [] = []
listed name f (x ∷ xs) = one name (array f (x ∷ xs))

abbrev pub counted : List ℕ → ℕ → List (List ℕ)
counted name n = if n == 0 then [] else one name (decimal n)

pub one_joined : (name value : List ℕ) → also name value ≡ joined (one name value)
unfolding also
one_joined name value = sym (append-nil (44 ∷ member name value))

pub listed_joined : {A : Type 0} (name : List ℕ) (f : A → List ℕ) (xs : List A) → unless_empty name f xs ≡ joined (listed name f xs)
listed_joined name f [] = refl
listed_joined name f (x ∷ xs) = one_joined name (array f (x ∷ xs))

pub counted_joined : (name : List ℕ) (n : ℕ) → unless_zero name n ≡ joined (counted name n)
counted_joined name n =
    elim (n == 0) as (λ b. (if b then [] else also name (decimal n)) ≡ joined (if b then [] else one name (decimal n))) [
      | true ↦ refl
      | false ↦ one_joined name (decimal n)
    ]

pub one_whole : (name value : List ℕ) → list_all is_letter name ≡ true → IsWhole value → AllWhole (one name value)
one_whole name value n h = (whole_member name value n h, tt)

pub listed_whole : {A : Type 0} (name : List ℕ) (f : A → List ℕ) (xs : List A) → list_all is_letter name ≡ true → ((x : A) → IsWhole (f x))
    → AllWhole (listed name f xs)
listed_whole name f [] n h = tt
listed_whole name f (x ∷ xs) n h = one_whole name (array f (x ∷ xs)) n (whole_array f (x ∷ xs) h)

pub counted_whole : (name : List ℕ) (k : ℕ) → list_all is_letter name ≡ true → AllWhole (counted name k)
counted_whole name k n = elim (k == 0) as (λ b. AllWhole (if b then [] else one name (decimal k))) [ true ↦ tt | false ↦ one_whole name (decimal k) n (whole_number k) ]

-- members behind each other within brackets
pub inner_joined : (text : List ℕ) (ms : List (List ℕ)) → text ≡ joined ms → AllWhole ms → IsInner text
inner_joined text ms is h = subst IsInner (sym is) (all_inner ms h)
  where
    all_inner : (ms : List (List ℕ)) → AllWhole ms → IsInner (joined ms)
    all_inner [] h = inner_none
    all_inner (m ∷ ms) h = inner_join (44 ∷ m) (joined ms) (inner_comma m (inner m h.0)) (all_inner ms h.1)

-- values by their names

member_is : (name value : List ℕ) → member name value ≡ member name [] ++ value
member_is name value = ap (λ t. 34 ∷ t) (sym (append_assoc name (34 ∷ 58 ∷ []) value))

pub found : (name value : List ℕ) (ms : List (List ℕ)) → value_of name (member name value ∷ ms) ≡ Some value
found name value ms =
    ap (λ o. or_else o (value_of name ms)) (ap (behind (member name [])) (member_is name value) ∙ behind_it (member name []) value)

-- members among which none has the name
abbrev pub IsSilent : List ℕ → List (List ℕ) → Type 0
IsSilent name ms = value_of name ms ≡ None

-- a name that is no other
abbrev pub IsOther : List ℕ → List ℕ → Type 0
IsOther name other = (value : List ℕ) → behind (member name []) (member other value) ≡ None

value_more : (name : List ℕ) (ms ns : List (List ℕ)) → value_of name (ms ++ ns) ≡ or_else (value_of name ms) (value_of name ns)
value_more name [] ns = refl
value_more name (m ∷ ms) ns =
    ap (or_else (behind (member name []) m)) (value_more name ms ns) ∙ or_else_twice (behind (member name []) m) (value_of name ms) (value_of name ns)
  where
    or_else_twice : (a b c : Option (List ℕ)) → or_else a (or_else b c) ≡ or_else (or_else a b) c
    or_else_twice None b c = refl
    or_else_twice (Some x) b c = refl

or_none : (o : Option (List ℕ)) → or_else o None ≡ o
or_none None = refl
or_none (Some x) = refl

pub after_silent : (name : List ℕ) (ms ns : List (List ℕ)) → IsSilent name ms → value_of name (ms ++ ns) ≡ value_of name ns
after_silent name ms ns h = value_more name ms ns ∙ ap (λ o. or_else o (value_of name ns)) h

pub before_silent : (name : List ℕ) (ms ns : List (List ℕ)) → IsSilent name ns → value_of name (ms ++ ns) ≡ value_of name ms
before_silent name ms ns h = value_more name ms ns ∙ ap (or_else (value_of name ms)) h ∙ or_none (value_of name ms)

pub both_silent : (name : List ℕ) (ms ns : List (List ℕ)) → IsSilent name ms → IsSilent name ns → IsSilent name (ms ++ ns)
both_silent name ms ns h k = after_silent name ms ns h ∙ k

pub one_silent : (name other value : List ℕ) → IsOther name other → IsSilent name (one other value)
one_silent name other value h = ap (λ o. or_else o None) (h value)

pub listed_silent : {A : Type 0} (name other : List ℕ) (f : A → List ℕ) (xs : List A) → IsOther name other → IsSilent name (listed other f xs)
listed_silent name other f [] h = refl
listed_silent name other f (x ∷ xs) h = one_silent name other (array f (x ∷ xs)) h

pub counted_silent : (name other : List ℕ) (n : ℕ) → IsOther name other → IsSilent name (counted other n)
counted_silent name other n h =
    elim (n == 0) as (λ b. IsSilent name (if b then [] else one other (decimal n))) [ true ↦ refl | false ↦ one_silent name other (decimal n) h ]

-- a list, and a number

pub own_list : {A : Type 0} (P : A → Type 0) (name : List ℕ) (f : A → List ℕ) (xs : List A) (ms : List (List ℕ)) → AllByRecursion P xs
    → ((x : A) → P x → HasByte (f x)) → ((x : A) → IsWhole (f x)) → value_of name ms ≡ value_of name (listed name f xs) → list_in name ms ≡ map f xs
own_list P name f [] ms e some h is = ap (λ o. option_map_or items_of o []) is
own_list P name f (x ∷ xs) ms e some h is =
    ap (λ o. option_map_or items_of o []) (is ∙ found name (array f (x ∷ xs)) []) ∙ items_again f x xs (some x e.0) h

pub own_number : (name : List ℕ) (n : ℕ) (ms : List (List ℕ)) → IsSmall n → value_of name ms ≡ value_of name (counted name n) → number_in name ms ≡ n
own_number name n ms small is =
    ap (λ o. option_map_or number_of o 0) is
    ∙ elim (n == 0) as (λ b. (n == 0) ≡ b → option_map_or number_of (value_of name (if b then [] else one name (decimal n))) 0 ≡ n) [
      | true ↦ λ e. sym (eqb-true n 0 e)
      | false ↦ λ e. ap (λ o. option_map_or number_of o 0) (found name (decimal n) []) ∙ number_again n small
    ] refl
