-- A copy is determined by which of the transactions that change its fragment are applied.
use Rattle.sdd_laws.proofs.All.{Bool, Catalogue, Change, Contains, Contains-here, Contains-later, Database, Dated, Decides-eqb, List, Writers, [], ap, arith, cases_Bool, changes_of, cond, copy_of, counts, dated, false, filter, first_row, inl, inr, map, of_fragment, refl, rows_left, rules, sym, taken, true, ℕ, ◌&&◌, ◌++◌, ◌==◌, ◌∙◌, ◌∷◌, ◌≡◌}

pub of_joined : (f : ℕ) (xs ys : Dated) → of_fragment f (xs ++ ys) ≡ of_fragment f xs ++ of_fragment f ys
of_joined f [] ys = refl
of_joined f (x ∷ xs) ys = search (rules, of_joined f xs ys)

-- the changes of a transaction that is applied, and of one that isn't
of_applied : (f date : ℕ) (cs : List Change) → of_fragment f (dated date cs) ≡ dated date (filter (counts true f) cs)
of_applied f date [] = refl
of_applied f date (c ∷ cs) = search (rules, of_applied f date cs)

of_others : (f : ℕ) (cs : List Change) → filter (counts false f) cs ≡ []
of_others f [] = refl
of_others f (c ∷ cs) = of_others f cs

module _ {T : Type 0} (w : Writers T) (f : ℕ) where
  all_taken : (commits : List T) (applied : T → Bool)
      → of_fragment f (changes_of w (filter applied commits)) ≡ taken w commits applied f
  all_taken [] applied = refl
  all_taken (x ∷ commits) applied = search (rules, of_joined, of_applied, of_others, all_taken commits applied)

  same_counted : (a b : Bool) (cs : List Change) → ((c : Change) → Contains cs c → c.frag.0 ≡ f → a ≡ b)
      → filter (counts a f) cs ≡ filter (counts b f) cs
  same_counted a b [] h = refl
  same_counted a b (c ∷ cs) h =
      let rest = same_counted a b cs (λ d there e. h d (Contains-later c cs d there) e) in
      let test : counts a f c ≡ counts b f c =
      elim (cases_Bool (c.frag.0 == f)) [
        | inl own ↦ ap (λ z. counts z f c) (h c (Contains-here c cs) ((Decides-eqb c.frag.0 f).0 own))
        | inr other ↦ ap (λ z. a && z) other ∙ neither a b ∙ ap (λ z. b && z) (sym other)
      ] in
      ap (λ z. cond z (c ∷ filter (counts a f) cs) (filter (counts a f) cs)) test
      ∙ ap (λ z. cond (counts b f c) (c ∷ z) z) rest
    where
      neither : (a b : Bool) → (a && false) ≡ (b && false)
      neither a b = grind arith

  same_taken : (commits : List T) (a b : T → Bool)
      → ((x : T) → Contains commits x → (c : Change) → Contains (w.changes x) c → c.frag.0 ≡ f → a x ≡ b x)
      → taken w commits a f ≡ taken w commits b f
  same_taken [] a b h = refl
  same_taken (x ∷ commits) a b h =
      ap (λ z. dated (w.ts x) z ++ taken w commits a f)
      (same_counted (a x) (b x) (w.changes x) (h x (Contains-here x commits)))
      ∙ ap (λ z. dated (w.ts x) (filter (counts (b x) f) (w.changes x)) ++ z)
      (same_taken commits a b (λ y there. h y (Contains-later x commits y there)))

module _ {T : Type 0} (cat : Catalogue) (first : Database) (w : Writers T) (commits : List T) where
  pub copy_takes : (applied : T → Bool) (f : ℕ)
      → copy_of cat first w commits applied f ≡ rows_left
      (of_fragment f (map (first_row cat) first) ++ taken w commits applied f)
  copy_takes applied f = search (rules, of_joined, all_taken)

  -- where two tests agree on the transactions that change the fragment, the copies are equal
  pub same_copies : (a b : T → Bool) (f : ℕ)
      → ((x : T) → Contains commits x → (c : Change) → Contains (w.changes x) c → c.frag.0 ≡ f → a x ≡ b x)
      → copy_of cat first w commits a f ≡ copy_of cat first w commits b f
  same_copies a b f h = search (rules, copy_takes, same_taken)
