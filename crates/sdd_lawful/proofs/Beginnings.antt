-- The Starts of undeclared transactions, as acts of U; and what is there in every catalogue.
use Rattle.sdd_lawful.proofs.All.{Act, Attempt, Committed, Does, FragNo, History, Input, IsAttempt, IsCommitted, IsFragment, IsPermitted, IsSoundCatalogue, IsStartOf, List, Log, Queued, Some, U, [], ap, arith, changes, contains, differ, frag_no, history, home, inl, inr, length, lower_same_higher, map, next_stamp, or_left, or_right, range_with_len, recorded, same_number, same_or_not, slice_get, start_at, start_u, subst, suc, true, u_stamp, zero, ℕ, ◌++◌, ◌+◌, ◌<◌, ◌==◌, ◌∙◌, ◌∷◌, ◌≡◌, ◌≤◌}
use Rattle.sdd_lawful.proofs.Classes.{at_home, home_setting}
use Rattle.sdd_lawful.proofs.Committed.{home_step}
use Rattle.sdd_lawful.proofs.Started.{start_act_of, start_in}

-- numbers of a range

pub in_numbers : (a n x : ℕ) → a ≤ x → x < a + n → (k : ℕ) × (slice_get (range_with_len a n) k ≡ Some x)
in_numbers a zero x lo hi = absurd (omega arith)
in_numbers a (suc n) x lo hi = elim (same_or_not a x) [
  | inl p ↦ (0, ap (λ y. Some y) p)
  | inr p ↦ (let ne : (a ≡ x → ⊥) = λ q. differ a x p q in let i = in_numbers (a + 1) n x (grind (arith, lower_same_higher)) (omega arith) in (suc i.0, i.1))
]

pub numbered_there : (ns : List ℕ) (k f : ℕ) → slice_get ns k ≡ Some f → contains (map (λ (g : FragNo). g.0) (map frag_no ns)) f ≡ true
numbered_there [] k f e = cc
numbered_there (n ∷ ns) zero f e = grind (arith, or_left, same_number)
numbered_there (n ∷ ns) (suc k) f e = or_right (n == f) (contains (map (λ (g : FragNo). g.0) (map frag_no ns)) f) (numbered_there ns k f e)

pub at_map : {A B : Type 0} (f : A → B) (xs : List A) (k : ℕ) (x : A) → slice_get xs k ≡ Some x → slice_get (map f xs) k ≡ Some (f x)
at_map f [] k x e = cc
at_map {A = A} f (y ∷ xs) zero x e = let p : ◌≡◌ {A = A} y x = cc in ap (λ z. Some (f z)) p
at_map f (y ∷ xs) (suc k) x e = at_map f xs k x e

-- the fragments that committed transactions change are there
abbrev pub ChangesExist : Input → History → Type 0
ChangesExist g h = (t : Committed) (f : ℕ) → IsCommitted h t → changes t f ≡ true → IsFragment g.catalogue f

-- the Start of an undeclared transaction

pub record IsStartedAtU (g : Input) (log : Log) (a : Attempt) : Type 0 where
  pub later : Log
  pub before : Log
  pub queued : Queued
  pub is : log ≡ later ++ Does U (start_u g before queued) ∷ before
  pub place_is : length (history before) ≡ a.place
  pub permitted : IsPermitted g (Does U (start_u g before queued) ∷ before)
  pub ts_is : a.ts ≡ u_stamp g before

pub started_at_u : (g : Input) (log : Log) (a : Attempt) → IsSoundCatalogue g.catalogue → IsPermitted g log → IsAttempt (history log) a → a.class ≡ 0
    → IsStartedAtU g log a
started_at_u g log a sound h s e =
    let x = start_in g log a sound h s in
    let act : Act = start_act_of a x.sends in
    let r : IsStartOf (home_setting g a.class) (at_home g a.class x.before) act a.class = recorded (home_setting g a.class) (at_home g a.class x.before) act
    (home_step g a.class x.before act x.permitted) in
    let is : log ≡ x.later ++ Does (home g.catalogue a.class)
    (start_at (home_setting g a.class) a.class (at_home g a.class x.before) r.queued) ∷ x.before = x.is
    ∙ ap (λ y. x.later ++ Does (home g.catalogue a.class) y ∷ x.before) r.act_is in
    let now : IsPermitted g
    (Does (home g.catalogue a.class) (start_at (home_setting g a.class) a.class (at_home g a.class x.before) r.queued) ∷ x.before) = subst
    (λ y. IsPermitted g (Does (home g.catalogue a.class) y ∷ x.before)) r.act_is x.permitted in
    record {
      later = x.later;
      before = x.before;
      queued = r.queued;
      is = subst (λ c. log ≡ x.later ++ Does (home g.catalogue c) (start_at (home_setting g c) c (at_home g c x.before) r.queued) ∷ x.before) e is;
      place_is = x.place_is;
      permitted = subst (λ c. IsPermitted g (Does (home g.catalogue c) (start_at (home_setting g c) c (at_home g c x.before) r.queued) ∷ x.before)) e now;
      ts_is = subst (λ c. a.ts ≡ next_stamp (home_setting g c) (at_home g c x.before)) e x.says.ts_is;
    }
