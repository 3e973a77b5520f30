-- Relations that agree on the classes of a catalogue give one text.
use Rattle.sdd_ask.proofs.All.{All-contains, Bool, Catalogue, Contains, IsClassOf, List, Relation, Site, T, D, [], ap, class_lines, classes_of, codes, dm_no, dm_word, each_to, flat_map, is_own, leads_to, length, list_any, needed_by, needs_by, needs_text, numbers_to, refl, task_line, tm_no, tm_word, ℕ, ◌&&◌, ◌++◌, ◌||◌, ◌∙◌, ◌∷◌, ◌≡◌, ◌≤◌}
use Rattle.sdd_ask.proofs.All.{Contains-here, Contains-later}

pub any_same : {X : Type 0} (p q : X → Bool) (xs : List X) → ((x : X) → Contains xs x → p x ≡ q x) → list_any p xs ≡ list_any q xs
any_same p q [] same = refl
any_same p q (x ∷ xs) same =
    ap (λ b. b || list_any p xs) (same x (Contains-here x xs))
    ∙ ap (λ b. q x || b) (any_same p q xs (λ y h. same y (Contains-later x xs y h)))

flat_same : {X Y : Type 0} (f g : X → List Y) (xs : List X) → ((x : X) → Contains xs x → f x ≡ g x) → flat_map f xs ≡ flat_map g xs
flat_same f g [] same = refl
flat_same f g (x ∷ xs) same =
    ap (λ ys. ys ++ flat_map f xs) (same x (Contains-here x xs))
    ∙ ap (λ ys. g x ++ ys) (flat_same f g xs (λ y h. same y (Contains-later x xs y h)))

module _ (cat : Catalogue) where
  -- relations agree on classes
  abbrev pub Agree : Relation → Relation → Type 0
  Agree one other = (i j : ℕ) → IsClassOf cat i → IsClassOf cat j → one i j ≡ other i j

  class_there : (c : ℕ) → Contains (classes_of cat) c → IsClassOf cat c
  class_there c h =
      let n : ℕ = length cat.classes in
      let within = All-contains (λ i. (1 ≤ i) × (i ≤ n)) (classes_of cat) c (each_to n) h in
      record { from = within.0; to = within.1 }

  needs_same : (one other : Relation) → Agree one other → (c : ℕ) → IsClassOf cat c → (s : Site) → needs_by cat one c s ≡ needs_by cat other c s
  needs_same one other agree c is s =
      any_same (leads_to cat one c s) (leads_to cat other c s) (classes_of cat)
      (λ k h. ap (λ b. b && is_own cat k s) (agree c k is (class_there k h)))

  line_same : (c : ℕ) (word : List ℕ) (one other : Site → Bool) → ((s : Site) → one s ≡ other s) → task_line cat c word one ≡ task_line cat c word other
  line_same c word one other same =
      let tms : flat_map (tm_word one) (numbers_to cat.tms) ≡ flat_map (tm_word other) (numbers_to cat.tms) =
      flat_same (tm_word one) (tm_word other) (numbers_to cat.tms) (λ n h. rw (same (T (tm_no n))) refl) in
      let dms : flat_map (dm_word one) (numbers_to cat.dms) ≡ flat_map (dm_word other) (numbers_to cat.dms) =
      flat_same (dm_word one) (dm_word other) (numbers_to cat.dms) (λ n h. rw (same (D (dm_no n))) refl) in
      rw (tms, dms) refl

  pub text_same : (b p begun passed : Relation) → Agree b begun → Agree p passed
      → needs_text cat (needed_by cat b p) ≡ needs_text cat (needed_by cat begun passed)
  text_same b p begun passed one other =
      flat_same (class_lines cat (needed_by cat b p)) (class_lines cat (needed_by cat begun passed)) (classes_of cat)
      (λ c h.
      let is = class_there c h in
      let first = line_same c (codes " attempt") (needs_by cat b c) (needs_by cat begun c) (needs_same b begun one c is) in
      let second = line_same c (codes " passing") (needs_by cat p c) (needs_by cat passed c) (needs_same p passed other c is) in
      ap (λ z. z ++ task_line cat c (codes " passing") (needs_by cat p c)) first
      ∙ ap (λ z. task_line cat c (codes " attempt") (needs_by cat begun c) ++ z) second)
