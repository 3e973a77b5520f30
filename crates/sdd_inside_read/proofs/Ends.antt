-- What stands between the ends of a text, and pieces of a text whose parts are passed whole.
use Rattle.std.proofs.Common.{ap, append-nil, append_assoc, eq-eqb, sym, ◌∙◌}
use Rattle.std.specs.Prelude.{ℕ, ◌≡◌, List, [], ◌∷◌, ◌++◌, flat_map, map, Some, refl}
use Rattle.sdd_inside.specs.Json.{array, further}
use Rattle.sdd_inside_read.proofs.Passing.{IsWhole}
use Rattle.sdd_inside_read.specs.Pieces.{Comma, Cut, Newline, Within, all_but_last, behind, between_ends, in_front, items_in, items_of, pieces}

pub without_last : (text : List ℕ) (last : ℕ) → all_but_last (text ++ last ∷ []) ≡ text
without_last [] last = refl
without_last (c ∷ []) last = refl
without_last (c ∷ d ∷ text) last = ap (λ x. c ∷ x) (without_last (d ∷ text) last)

pub within_ends : (first last : ℕ) (text : List ℕ) → between_ends (first ∷ (text ++ last ∷ [])) ≡ text
within_ends first last text = without_last text last

-- one text, and one before a cut

pub alone : (cut : Cut) (text : List ℕ) → IsWhole text → pieces cut (Within 0) text ≡ text ∷ []
alone cut text h =
    ap (pieces cut (Within 0)) (sym (append-nil text)) ∙ h cut 0 [] ∙ ap (λ t. t ∷ []) (append-nil text)

abbrev pub cut_byte : Cut → ℕ
cut_byte Comma = 44
cut_byte Newline = 10

cut_now : (cut : Cut) (rest : List ℕ) → pieces cut (Within 0) (cut_byte cut ∷ rest) ≡ [] ∷ pieces cut (Within 0) rest
cut_now Comma rest = refl
cut_now Newline rest = refl

pub before_cut : (cut : Cut) (text rest : List ℕ) → IsWhole text
    → pieces cut (Within 0) (text ++ cut_byte cut ∷ rest) ≡ text ∷ pieces cut (Within 0) rest
before_cut cut text rest h =
    h cut 0 (cut_byte cut ∷ rest) ∙ ap (in_front text) (cut_now cut rest) ∙ ap (λ t. t ∷ pieces cut (Within 0) rest) (append-nil text)

-- texts with a comma between two
pub separated_pieces : {A : Type 0} (f : A → List ℕ) (x : A) (xs : List A) → ((y : A) → IsWhole (f y))
    → pieces Comma (Within 0) (f x ++ flat_map (further f) xs) ≡ map f (x ∷ xs)
separated_pieces f x [] h = ap (pieces Comma (Within 0)) (append-nil (f x)) ∙ alone Comma (f x) (h x)
separated_pieces f x (y ∷ ys) h =
    before_cut Comma (f x) (f y ++ flat_map (further f) ys) (h x) ∙ ap (λ ps. f x ∷ ps) (separated_pieces f y ys h)

-- a text that isn't empty

abbrev pub HasByte : List ℕ → Type 0
HasByte text = (c : ℕ) × (rest : List ℕ) × (text ≡ c ∷ rest)

pub items_in_some : (text more : List ℕ) → HasByte text → items_in (text ++ more) ≡ pieces Comma (Within 0) (text ++ more)
items_in_some text more h =
    ap (λ t. items_in (t ++ more)) h.2 ∙ ap (λ t. pieces Comma (Within 0) (t ++ more)) (sym h.2)

-- the items of a list that isn't empty
pub items_again : {A : Type 0} (f : A → List ℕ) (x : A) (xs : List A) → HasByte (f x) → ((y : A) → IsWhole (f y))
    → items_of (array f (x ∷ xs)) ≡ map f (x ∷ xs)
items_again f x xs some h =
    ap items_in (within_ends 91 93 (f x ++ flat_map (further f) xs)) ∙ items_in_some (f x) (flat_map (further f) xs) some ∙ separated_pieces f x xs h

-- members that stand one behind the other, each but the first behind a comma

abbrev pub joined : List (List ℕ) → List ℕ
joined [] = []
joined (m ∷ ms) = (44 ∷ m) ++ joined ms

abbrev pub AllWhole : List (List ℕ) → Type 0
AllWhole [] = Unit {0}
AllWhole (m ∷ ms) = IsWhole m × AllWhole ms

pub joined_pieces : (m : List ℕ) (ms : List (List ℕ)) → IsWhole m → AllWhole ms → pieces Comma (Within 0) (m ++ joined ms) ≡ m ∷ ms
joined_pieces m [] h k = ap (pieces Comma (Within 0)) (append-nil m) ∙ alone Comma m h
joined_pieces m (n ∷ ms) h k = before_cut Comma m (n ++ joined ms) h ∙ ap (λ ps. m ∷ ps) (joined_pieces n ms k.0 k.1)

pub joined_more : (ms ns : List (List ℕ)) → joined (ms ++ ns) ≡ joined ms ++ joined ns
joined_more [] ns = refl
joined_more (m ∷ ms) ns = ap (λ t. (44 ∷ m) ++ t) (joined_more ms ns) ∙ sym (append_assoc (44 ∷ m) (joined ms) (joined ns))

pub all_whole_more : (ms ns : List (List ℕ)) → AllWhole ms → AllWhole ns → AllWhole (ms ++ ns)
all_whole_more [] ns h k = k
all_whole_more (m ∷ ms) ns h k = (h.0, all_whole_more ms ns h.1 k)

-- what stands behind a text that follows
pub behind_it : (start text : List ℕ) → behind start (start ++ text) ≡ Some text
behind_it [] text = refl
behind_it (b ∷ start) text = rw (eq-eqb b b refl) (behind_it start text)
