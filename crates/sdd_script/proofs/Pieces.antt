-- Written pieces make words and lines.
use Rattle.sdd_script.proofs.All.{List, Plain, Word, [], ap, append-nil, append_assoc, ended, flat_map, flat_map-append, flat_map-flat_map, flat_map-map, line_bytes, map, more_bytes, more_bytes-append, spaced, sym, words_spaced, ℕ, ◌++◌, ◌∙◌, ◌∷◌, ◌≡◌}

-- one piece more
pub after : {a t : List ℕ} (b s : List ℕ) → a ≡ b ++ s → b ≡ t → a ≡ t ++ s
after b s e f = e ∙ ap (λ (l : List ℕ). l ++ s) f

pub one_word : (out : List ℕ) (a : Word) → out ++ spaced a ≡ out ++ more_bytes (a ∷ [])
one_word out a = ap (λ (l : List ℕ). out ++ l) (sym (append-nil (spaced a)))

pub two_words : (out : List ℕ) (a b : Word) → (out ++ spaced a) ++ spaced b ≡ out ++ more_bytes (a ∷ b ∷ [])
two_words out a b = append_assoc out (spaced a) (spaced b) ∙ ap (λ (l : List ℕ). out ++ (spaced a ++ l)) (sym (append-nil (spaced b)))

pub three_words : (out : List ℕ) (a b c : Word) → ((out ++ spaced a) ++ spaced b) ++ spaced c ≡ out ++ more_bytes (a ∷ b ∷ c ∷ [])
three_words out a b c = simp (append_assoc, append-nil)

-- a word and further ones, each made of an item
pub word_and_items : {A : Type 0} (out : List ℕ) (a : Word) (f : A → Word) (xs : List A)
    → (out ++ spaced a) ++ flat_map (λ x. spaced (f x)) xs ≡ out ++ more_bytes (a ∷ map f xs)
word_and_items out a f xs = simp (append_assoc, words_spaced)

-- the first word of a line and the others
pub keyed : (out key : List ℕ) (ws : List Word) → (out ++ key) ++ more_bytes ws ≡ out ++ line_bytes (Plain key ∷ ws)
keyed out key ws = append_assoc out key (more_bytes ws)

pub key_one : (out key : List ℕ) (a : Word) → (out ++ key) ++ spaced a ≡ out ++ line_bytes (Plain key ∷ a ∷ [])
key_one out key a = one_word (out ++ key) a ∙ keyed out key (a ∷ [])

pub key_two : (out key : List ℕ) (a b : Word) → ((out ++ key) ++ spaced a) ++ spaced b ≡ out ++ line_bytes (Plain key ∷ a ∷ b ∷ [])
key_two out key a b = two_words (out ++ key) a b ∙ keyed out key (a ∷ b ∷ [])

-- items, a word, items, words
pub query_pieces : {A B : Type 0} (out key : List ℕ) (f : A → Word) (xs : List A) (from : Word) (g : B → Word) (ys : List B) (ws : List Word)
    → ((((out ++ key) ++ flat_map (λ x. spaced (f x)) xs) ++ spaced from) ++ flat_map (λ y. spaced (g y)) ys) ++ more_bytes ws
    ≡ out ++ line_bytes (Plain key ∷ (map f xs ++ from ∷ (map g ys ++ ws)))
query_pieces out key f xs from g ys ws = simp (append_assoc, words_spaced, more_bytes-append)

-- two words, then words, then words
pub update_pieces : (out key : List ℕ) (a b : Word) (ws vs : List Word)
    → ((((out ++ key) ++ spaced a) ++ spaced b) ++ more_bytes ws) ++ more_bytes vs ≡ out ++ line_bytes
    (Plain key ∷ a ∷ b ∷ (ws ++ vs))
update_pieces out key a b ws vs = simp (append_assoc, more_bytes-append, keyed)

pub delete_pieces : (out key : List ℕ) (a : Word) (ws : List Word)
    → ((out ++ key) ++ spaced a) ++ more_bytes ws ≡ out ++ line_bytes (Plain key ∷ a ∷ ws)
delete_pieces out key a ws = append_assoc (out ++ key) (spaced a) (more_bytes ws) ∙ keyed out key (a ∷ ws)

-- the lines of a transaction
pub txn_pieces : {A : Type 0} (out : List ℕ) (h : List Word) (f : A → List Word) (xs : List A) (d : List Word)
    → ((out ++ ended h) ++ flat_map (λ x. ended (f x)) xs) ++ ended d ≡ out ++ flat_map ended (h ∷ (map f xs ++ d ∷ []))
txn_pieces out h f xs d = simp (append_assoc, flat_map-map, append-nil, flat_map-append)

-- the lines of a class
pub class_pieces : {A B : Type 0} (out : List ℕ) (h : List Word) (f : A → List Word) (xs : List A) (g : B → List Word) (ys : List B)
    → ((out ++ ended h) ++ flat_map (λ x. ended (f x)) xs) ++ flat_map (λ y. ended (g y)) ys ≡ out ++ flat_map ended (h ∷ (map f xs ++ map g ys))
class_pieces out h f xs g ys = simp (append_assoc, flat_map-map, flat_map-append)

-- the lines of a class list
pub list_pieces : {A : Type 0} (out : List ℕ) (h : List Word) (f : A → List (List Word)) (xs : List A) (d : List Word)
    → ((out ++ ended h) ++ flat_map (λ x. flat_map ended (f x)) xs) ++ ended d ≡ out ++ flat_map ended (h ∷ (flat_map f xs ++ d ∷ []))
list_pieces out h f xs d = simp (append_assoc, flat_map-flat_map, append-nil, flat_map-append)

-- the lines of a workload
pub work_pieces : {A B C D : Type 0} (f : A → List Word) (xs : List A) (g : B → List (List Word))
    (ys : List B) (k : C → List (List Word)) (ls : List C) (h : D → List Word) (zs : List D) (e : List Word)
    → (((flat_map (λ x. ended (f x)) xs ++ flat_map (λ y. flat_map ended (g y)) ys) ++ flat_map
    (λ l. flat_map ended (k l)) ls) ++ flat_map (λ z. ended (h z)) zs) ++ ended e
    ≡ flat_map ended ((((map f xs ++ flat_map g ys) ++ flat_map k ls) ++ map h zs) ++ e ∷ [])
work_pieces f xs g ys k ls h zs e = simp (append_assoc, flat_map-map, flat_map-flat_map, append-nil, flat_map-append)
