-- Lists, objects and their members are passed whole, if their parts are.
use Rattle.std.proofs.Common.{ap, append_assoc, subst, sym, ◌∙◌}
use Rattle.std.proofs.lemmas.Bool.{and_parts}
use Rattle.std.specs.Fmt.{decimal}
use Rattle.std.specs.List.{list_all}
use Rattle.std.specs.Prelude.{ℕ, ◌≡◌, ◌==◌, ◌||◌, Bool, true, false, not, if◌then◌else◌, List, [], ◌∷◌, ◌++◌, codes, flat_map, refl}
use Rattle.sdd_inside.specs.Json.{also, array, further, if_true, member, object, pair, separated, triple, unless_empty, unless_zero}
use Rattle.sdd_inside_read.proofs.DigitsPass.{whole_number}
use Rattle.sdd_inside_read.proofs.Passing.{IsInner, IsWhole, Passes, inner, inner_comma, inner_join, inner_none, nothing, then_byte, then_text, uncut_within, whole_braces, whole_list, whole_of_plain}
use Rattle.sdd_inside_read.specs.Pieces.{Cut, InString, Within}

-- lists

further_inner : {A : Type 0} (f : A → List ℕ) (xs : List A) → ((x : A) → IsWhole (f x)) → IsInner (flat_map (further f) xs)
further_inner f [] h = inner_none
further_inner f (x ∷ xs) h =
    inner_join (44 ∷ f x) (flat_map (further f) xs) (inner_comma (f x) (inner (f x) (h x))) (further_inner f xs h)

separated_inner : {A : Type 0} (f : A → List ℕ) (xs : List A) → ((x : A) → IsWhole (f x)) → IsInner (separated f xs)
separated_inner f [] h = inner_none
separated_inner f (x ∷ xs) h = inner_join (f x) (flat_map (further f) xs) (inner (f x) (h x)) (further_inner f xs h)

pub whole_array : {A : Type 0} (f : A → List ℕ) (xs : List A) → ((x : A) → IsWhole (f x)) → IsWhole (array f xs)
whole_array f xs h = whole_list (separated f xs) (separated_inner f xs h)

-- a text by another one that is the same
pub whole_as : (v w : List ℕ) → w ≡ v → IsWhole v → IsWhole w
whole_as v w e h = subst IsWhole (sym e) h

pub whole_pair : (a b : List ℕ) → IsWhole a → IsWhole b → IsWhole (pair a b)
whole_pair a b h k =
    whole_as (91 ∷ ((a ++ 44 ∷ b) ++ 93 ∷ [])) (pair a b) (ap (λ t. 91 ∷ t) (sym (append_assoc a (44 ∷ b) (93 ∷ []))))
    (whole_list (a ++ 44 ∷ b) (inner_join a (44 ∷ b) (inner a h) (inner_comma b (inner b k))))

-- a list of three, with its items between the brackets
pub triple_is : (a b c : List ℕ) → triple a b c ≡ 91 ∷ ((a ++ 44 ∷ (b ++ 44 ∷ c)) ++ 93 ∷ [])
triple_is a b c =
    ap (λ t. 91 ∷ t)
    (ap (λ t. a ++ 44 ∷ t) (sym (append_assoc b (44 ∷ c) (93 ∷ []))) ∙ sym (append_assoc a (44 ∷ (b ++ 44 ∷ c)) (93 ∷ [])))

pub whole_triple : (a b c : List ℕ) → IsWhole a → IsWhole b → IsWhole c → IsWhole (triple a b c)
whole_triple a b c h k l =
    whole_as (91 ∷ ((a ++ 44 ∷ (b ++ 44 ∷ c)) ++ 93 ∷ [])) (triple a b c) (triple_is a b c)
    (whole_list (a ++ 44 ∷ (b ++ 44 ∷ c))
    (inner_join a (44 ∷ (b ++ 44 ∷ c)) (inner a h)
    (inner_comma (b ++ 44 ∷ c) (inner_join b (44 ∷ c) (inner b k) (inner_comma c (inner c l))))))

-- members

-- a name has no quote and no backslash
abbrev pub is_letter : ℕ → Bool
is_letter c = not (c == 34 || c == 92)

letter_parts : (a b : Bool) → not (a || b) ≡ true → (a ≡ false) × (b ≡ false)
letter_parts false false h = (refl, refl)
letter_parts _ _ h = absurd cc

letters_pass : (cut : Cut) (depth : ℕ) (name : List ℕ) → list_all is_letter name ≡ true → Passes cut (InString depth) name (InString depth)
letters_pass cut depth [] h = nothing cut (InString depth)
letters_pass cut depth (c ∷ name) h =
    let p = and_parts (is_letter c) (list_all is_letter name) h in
    let l = letter_parts (c == 34) (c == 92) p.0 in
    then_byte cut (InString depth) (InString depth) (InString depth) c name refl (rw (l.0, l.1) refl) (letters_pass cut depth name p.1)

pub whole_member : (name value : List ℕ) → list_all is_letter name ≡ true → IsWhole value → IsWhole (member name value)
whole_member name value n h cut depth =
    then_byte cut (Within depth) (InString depth) (Within depth) 34 (name ++ 34 ∷ 58 ∷ value) (uncut_within cut depth 34 refl refl) refl
    (then_text cut (InString depth) (InString depth) (Within depth) name (34 ∷ 58 ∷ value) (letters_pass cut depth name n)
    (then_byte cut (InString depth) (Within depth) (Within depth) 34 (58 ∷ value) refl refl
    (then_byte cut (Within depth) (Within depth) (Within depth) 58 value (uncut_within cut depth 58 refl refl) refl (h cut depth))))

pub inner_also : (name value : List ℕ) → list_all is_letter name ≡ true → IsWhole value → IsInner (also name value)
unfolding also
inner_also name value n h = inner_comma (member name value) (inner (member name value) (whole_member name value n h))

pub inner_unless_empty : {A : Type 0} (name : List ℕ) (f : A → List ℕ) (xs : List A) → list_all is_letter name ≡ true → ((x : A) → IsWhole (f x))
    → IsInner (unless_empty name f xs)
inner_unless_empty name f [] n h = inner_none
inner_unless_empty name f (x ∷ xs) n h = inner_also name (array f (x ∷ xs)) n (whole_array f (x ∷ xs) h)

pub inner_if_true : (name : List ℕ) (b : Bool) → list_all is_letter name ≡ true → IsInner (if_true name b)
inner_if_true name false n = inner_none
inner_if_true name true n = inner_also name (codes "true") n (whole_of_plain (codes "true") refl)

pub inner_number : (name : List ℕ) (k : ℕ) → list_all is_letter name ≡ true → IsInner (also name (decimal k))
inner_number name k n = inner_also name (decimal k) n (whole_number k)

pub inner_unless_zero : (name : List ℕ) (k : ℕ) → list_all is_letter name ≡ true → IsInner (unless_zero name k)
inner_unless_zero name k n = elim (k == 0) as (λ b. IsInner (if b then [] else also name (decimal k))) [ true ↦ inner_none | false ↦ inner_number name k n ]

-- objects

pub object_is : (first more : List ℕ) → object first more ≡ 123 ∷ ((first ++ more) ++ 125 ∷ [])
object_is first more = ap (λ t. 123 ∷ t) (sym (append_assoc first more (125 ∷ [])))

pub whole_object : (first more : List ℕ) → IsWhole first → IsInner more → IsWhole (object first more)
whole_object first more h k =
    whole_as (123 ∷ ((first ++ more) ++ 125 ∷ [])) (object first more) (object_is first more)
    (whole_braces (first ++ more) (inner_join first more (inner first h) k))
