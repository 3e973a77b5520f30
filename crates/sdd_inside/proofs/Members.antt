-- Members of objects, put after what was written.
use Rattle.std.proofs.Common.{◌≡◌, ℕ, List, [], ◌∷◌, ◌++◌, length, refl, sym, ap, ◌∙◌, append_assoc, append-nil, arith}
use Rattle.std.specs.Prelude.{codes}
use Rattle.sdd_inside.specs.Json.{also, array, escaped, member, object, pair, quoted, separated, triple, unless_empty}

-- a name and then the value of the member
pub member_put : (out name value : List ℕ) → (out ++ also name []) ++ value ≡ out ++ also name value
unfolding also
member_put out name value =
    append_assoc out (also name []) value ∙ ap (λ (l : List ℕ). out ++ 44 ∷ 34 ∷ l) (append_assoc name (34 ∷ 58 ∷ []) value)

-- what opens a list, its items and its end
pub list_put : {A : Type 0} (out opening name : List ℕ) (f : A → List ℕ) (items : List A) → opening ≡ 44 ∷ member name (91 ∷ [])
    → ((out ++ opening) ++ separated f items) ++ 93 ∷ [] ≡ out ++ also name (array f items)
unfolding also
list_put out opening name f items h =
    ap (λ (l : List ℕ). ((out ++ l) ++ separated f items) ++ 93 ∷ []) h
    ∙ append_assoc (out ++ also name (91 ∷ [])) (separated f items) (93 ∷ [])
    ∙ append_assoc out (also name (91 ∷ [])) (separated f items ++ 93 ∷ [])
    ∙ ap (λ (l : List ℕ). out ++ 44 ∷ 34 ∷ l) (append_assoc name (34 ∷ 58 ∷ 91 ∷ []) (separated f items ++ 93 ∷ []))

-- the kind of a message and the key of its class, and then the name of the class, the key of the time and the time
pub class_put : (out before kind word time : List ℕ) → before ≡ 44 ∷ member (codes "kind") (quoted kind) ++ codes ",\"class\":\""
    → (((out ++ before) ++ escaped word) ++ codes "\",\"time\":") ++ time
    ≡ out ++ (also (codes "kind") (quoted kind) ++ (also (codes "class") (quoted word) ++ also (codes "time") time))
unfolding also
class_put out before kind word time h =
    let whole : List ℕ = 44 ∷ member (codes "kind") (quoted kind) in
    ap (λ (l : List ℕ). (((out ++ l) ++ escaped word) ++ codes "\",\"time\":") ++ time) h
    ∙ append_assoc ((out ++ (whole ++ codes ",\"class\":\"")) ++ escaped word) (codes "\",\"time\":") time
    ∙ append_assoc (out ++ (whole ++ codes ",\"class\":\"")) (escaped word) (codes "\",\"time\":" ++ time)
    ∙ append_assoc out (whole ++ codes ",\"class\":\"") (escaped word ++ (codes "\",\"time\":" ++ time))
    ∙ ap (λ (l : List ℕ). out ++ l) (append_assoc whole (codes ",\"class\":\"") (escaped word ++ (codes "\",\"time\":" ++ time)))
    ∙ ap (λ (l : List ℕ). out ++ (whole ++ (codes ",\"class\":\"" ++ l))) (sym (append_assoc (escaped word) (34 ∷ []) (codes ",\"time\":" ++ time)))

-- a condition
pub cond_put : (out word time : List ℕ)
    → ((out ++ 91 ∷ 34 ∷ []) ++ escaped word) ++ 34 ∷ 44 ∷ (time ++ 93 ∷ []) ≡ out ++ pair (quoted word) time
cond_put out word time =
    append_assoc (out ++ 91 ∷ 34 ∷ []) (escaped word) (34 ∷ 44 ∷ (time ++ 93 ∷ []))
    ∙ append_assoc out (91 ∷ 34 ∷ []) (escaped word ++ 34 ∷ 44 ∷ (time ++ 93 ∷ []))
    ∙ ap (λ (l : List ℕ). out ++ 91 ∷ 34 ∷ l) (sym (append_assoc (escaped word) (34 ∷ []) (44 ∷ (time ++ 93 ∷ []))))

-- nothing of an empty list
pub none_put : {A : Type 0} (out name : List ℕ) (f : A → List ℕ) (items : List A) → length items ≡ 0 → out ≡ out ++ unless_empty name f items
none_put out name f [] none = sym (append-nil out)
none_put out name f (x ∷ xs) none = absurd (omega arith)

-- a member of another one
pub some_put : {A : Type 0} (out name : List ℕ) (f : A → List ℕ) (items : List A) → ¬ (length items ≡ 0)
    → out ++ also name (array f items) ≡ out ++ unless_empty name f items
some_put out name f [] some = absurd (some refl)
some_put out name f (x ∷ xs) some = refl

-- the beginning of an object, a name and the value of the first member
pub first_put : (out name value : List ℕ) → (out ++ 123 ∷ member name []) ++ value ≡ out ++ 123 ∷ member name value
first_put out name value =
    append_assoc out (123 ∷ member name []) value ∙ ap (λ (l : List ℕ). out ++ 123 ∷ 34 ∷ l) (append_assoc name (34 ∷ 58 ∷ []) value)

-- the first member, the others and the end
pub object_put : (out first more : List ℕ) → ((out ++ 123 ∷ first) ++ more) ++ 125 ∷ [] ≡ out ++ object first more
object_put out first more =
    append_assoc (out ++ 123 ∷ first) more (125 ∷ []) ∙ append_assoc out (123 ∷ first) (more ++ 125 ∷ [])

pub alone_put : (out first : List ℕ) → (out ++ 123 ∷ first) ++ 125 ∷ [] ≡ out ++ object first []
alone_put out first = append_assoc out (123 ∷ first) (125 ∷ [])

pub object_of_two : (out first a b : List ℕ) → (((out ++ 123 ∷ first) ++ a) ++ b) ++ 125 ∷ [] ≡ out ++ object first (a ++ b)
object_of_two out first a b =
    ap (λ (l : List ℕ). l ++ 125 ∷ []) (append_assoc (out ++ 123 ∷ first) a b) ∙ object_put out first (a ++ b)

-- an object that is a line
pub line_of_two : (out first a b : List ℕ) → (((out ++ 123 ∷ first) ++ a) ++ b) ++ 125 ∷ 10 ∷ [] ≡ out ++ (object first (a ++ b) ++ 10 ∷ [])
line_of_two out first a b =
    sym (append_assoc (((out ++ 123 ∷ first) ++ a) ++ b) (125 ∷ []) (10 ∷ []))
    ∙ ap (λ (l : List ℕ). l ++ 10 ∷ []) (object_of_two out first a b)
    ∙ append_assoc out (object first (a ++ b)) (10 ∷ [])

pub line_of_three : (out first a b c : List ℕ)
    → ((((out ++ 123 ∷ first) ++ a) ++ b) ++ c) ++ 125 ∷ 10 ∷ [] ≡ out ++ (object first (a ++ (b ++ c)) ++ 10 ∷ [])
line_of_three out first a b c =
    ap (λ (l : List ℕ). l ++ 125 ∷ 10 ∷ []) (append_assoc ((out ++ 123 ∷ first) ++ a) b c)
    ∙ line_of_two out first a (b ++ c)

-- lists of values of their own kinds, of which two are put

pub last_of_three : (out a b c : List ℕ)
    → ((out ++ 91 ∷ (a ++ 44 ∷ (b ++ 44 ∷ []))) ++ c) ++ 93 ∷ [] ≡ out ++ triple a b c
last_of_three out a b c =
    append_assoc (out ++ 91 ∷ (a ++ 44 ∷ (b ++ 44 ∷ []))) c (93 ∷ [])
    ∙ append_assoc out (91 ∷ (a ++ 44 ∷ (b ++ 44 ∷ []))) (c ++ 93 ∷ [])
    ∙ ap (λ (l : List ℕ). out ++ 91 ∷ l) (append_assoc a (44 ∷ (b ++ 44 ∷ [])) (c ++ 93 ∷ []))
    ∙ ap (λ (l : List ℕ). out ++ 91 ∷ (a ++ 44 ∷ l)) (append_assoc b (44 ∷ []) (c ++ 93 ∷ []))

pub last_of_four : (out a b c d : List ℕ)
    → (((out ++ 91 ∷ (a ++ 44 ∷ (b ++ 44 ∷ []))) ++ c) ++ 44 ∷ d) ++ 93 ∷ []
    ≡ out ++ 91 ∷ (a ++ 44 ∷ (b ++ 44 ∷ (c ++ 44 ∷ (d ++ 93 ∷ []))))
last_of_four out a b c d =
    ap (λ (l : List ℕ). l ++ 93 ∷ []) (append_assoc (out ++ 91 ∷ (a ++ 44 ∷ (b ++ 44 ∷ []))) c (44 ∷ d))
    ∙ last_of_three out a b (c ++ 44 ∷ d)
    ∙ ap (λ (l : List ℕ). out ++ 91 ∷ (a ++ 44 ∷ (b ++ 44 ∷ l))) (append_assoc c (44 ∷ d) (93 ∷ []))
