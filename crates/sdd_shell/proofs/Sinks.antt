-- What is known of a sink, by cases.
use Rattle.sdd_shell.proofs.All.{List, None, Option, Rose, Some, TakesOrFaults, [], ap, append-nil, append_assoc, arith, drop, flat_map, flat_map-append, length, length-append, refl, slice_index_or, subst, suc, sym, take, take-append-drop, take-append_seam, take_all, take_more, with_end, zero, ℕ, ◌++◌, ◌+◌, ◌-◌, ◌<◌, ◌∙◌, ◌∷◌, ◌≡◌, ◌≤◌}

-- what a sink took grows by nothing, and by one text after another
pub end_nothing : (known : Option (List ℕ)) → known ≡ with_end known []
end_nothing None = refl
end_nothing (Some xs) = ap (λ (l : List ℕ). Some l) (sym (append-nil xs))

pub end_more : (known : Option (List ℕ)) (a b : List ℕ) → with_end (with_end known a) b ≡ with_end known (a ++ b)
end_more None a b = refl
end_more (Some xs) a b = ap (λ (l : List ℕ). Some l) (append_assoc xs a b)

-- all of it was taken
pub took_all : (sure : ℕ → Type 0) (before now : Option (List ℕ)) (f g : ℕ) (text : List ℕ) → now ≡ with_end before text → f ≤ g
    → ((room : ℕ) → sure room → length text ≤ room → g ≡ f) → TakesOrFaults sure before now f g text
took_all sure before now f g text done later still = record {
  later = later;
  still = still;
  front = (length text, rw (take_all (length text) text (omega arith)) done, λ lt. absurd (omega arith));
}

rose_since : (f g h : ℕ) → f ≤ g → Rose g h → Rose f h
rose_since f g h a b = omega arith

seam : (text front piece rest : List ℕ) (n : ℕ) → text ≡ (front ++ piece) ++ rest → take (length (front ++ take n piece)) text ≡ front ++ take n piece
seam text front piece rest n e =
    let parts : text ≡ (front ++ take n piece) ++ (drop n piece ++ rest) =
    e ∙ ap (λ (p : List ℕ). (front ++ p) ++ rest) (sym (take-append-drop n piece))
    ∙ ap (λ (l : List ℕ). l ++ rest) (sym (append_assoc front (take n piece) (drop n piece))) ∙ append_assoc (front ++ take n piece) (drop n piece) rest in
    rw parts (take-append_seam (front ++ take n piece) (drop n piece ++ rest))

-- what is taken and one piece are no longer than all
pub piece_fits : (text front piece rest : List ℕ) → text ≡ (front ++ piece) ++ rest → length front + length piece ≤ length text
piece_fits text front piece rest e =
    let whole = ap (λ (l : List ℕ). length l) e in
    let parts = length-append (front ++ piece) rest in
    let first = length-append front piece in
    omega (arith, whole, parts, first)

-- a front of it was taken, up to a part of a piece at which the sink failed
pub took_front : (sure : ℕ → Type 0) (before middle now : Option (List ℕ)) (f g h : ℕ)
    (text front piece rest : List ℕ) (n : ℕ) → text ≡ (front ++ piece) ++ rest
    → middle ≡ with_end before front → f ≤ g → now ≡ with_end middle (take n piece) → g ≤ h → Rose g h
    → ((room : ℕ) → sure room → length text ≤ room → length front + length piece ≤ room → ⊥) → TakesOrFaults sure before now f h text
took_front sure before middle now f g h text front piece rest n e taken later more last rose unsure = record {
  still = λ room s fits. absurd (unsure room s fits (omega (arith, fits, piece_fits text front piece rest e)));
  later = omega arith;
  front = (
    length (front ++ take n piece),
    rw (seam text front piece rest n e, sym (end_more before front (take n piece))) (more ∙ ap (λ (t : Option (List ℕ)). with_end t (take n piece)) taken),
    λ lt. rose_since f g h later rose,
  );
}

-- what stands for the items is that for those before one, for it, and for the rest
pub flat_map_at : {X : Type 0} (f : X → List ℕ) (xs : List X) (i : ℕ) (d : X) → i < length xs
    → (rest : List ℕ) × (flat_map f xs ≡ (flat_map f (take i xs) ++ f (slice_index_or xs i d)) ++ rest)
flat_map_at f [] i d lt = absurd (omega arith)
flat_map_at f (x ∷ xs) zero d lt = (flat_map f xs, refl)
flat_map_at f (x ∷ xs) (suc i) d lt =
    let k = flat_map_at f xs i d (omega arith) in (
      k.0,
      ap (λ (l : List ℕ). f x ++ l) k.1 ∙ sym (append_assoc (f x) (flat_map f (take i xs) ++ f (slice_index_or xs i d)) k.0)
          ∙ ap (λ (l : List ℕ). l ++ k.0) (sym (append_assoc (f x) (flat_map f (take i xs)) (f (slice_index_or xs i d)))),
    )

-- one piece more
pub flat_next : {X : Type 0} (f : X → List ℕ) (xs : List X) (i : ℕ) (d : X) → i < length xs
    → flat_map f (take (i + 1) xs) ≡ flat_map f (take i xs) ++ f (slice_index_or xs i d)
flat_next f xs i d lt =
    ap (λ ys. flat_map f ys) (take_more xs i d lt) ∙ flat_map-append f (take i xs) (slice_index_or xs i d ∷ [])
    ∙ ap (λ l. flat_map f (take i xs) ++ l) (append-nil (f (slice_index_or xs i d)))

pub more_taken : (before middle now : Option (List ℕ)) (front piece next : List ℕ)
    → middle ≡ with_end before front → now ≡ with_end middle piece → next ≡ front ++ piece → now ≡ with_end before next
more_taken before middle now front piece next taken more e =
    more ∙ ap (λ (t : Option (List ℕ)). with_end t piece) taken ∙ end_more before front piece ∙ ap (λ (l : List ℕ). with_end before l) (sym e)

-- a sink that was sure to take all is sure to take what is left
pub piece_more : (sure_middle sure_now : ℕ → Type 0) (before middle now room : ℕ) (text front piece next rest : List ℕ)
    → ((left : ℕ) → length piece ≤ left → sure_middle left → sure_now (left - length piece))
    → ((left : ℕ) → length piece ≤ left → sure_middle left → now ≡ middle) → next ≡ front ++ piece → text ≡ (front ++ piece) ++ rest → length text ≤ room
    → sure_middle (room - length front) × (middle ≡ before) → sure_now (room - length next) × (now ≡ before)
piece_more sure_middle sure_now before middle now room text front piece next rest goes is_open e whole fits was =
    let within : length front + length piece ≤ length text = piece_fits text front piece rest whole in
    let long : length next ≡ length front + length piece = ap (λ (l : List ℕ). length l) e ∙ length-append front piece in
    let left : length piece ≤ room - length front = omega (arith, within, fits) in
    let same : (room - length front) - length piece ≡ room - length next = omega (arith, long) in
    (subst sure_now same (goes (room - length front) left was.0), is_open (room - length front) left was.0 ∙ was.1)
