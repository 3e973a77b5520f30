-- Calls on one link: of a list of events of one kind as many change it as are on it, in either direction.
use Rattle.sdd_bounds.proofs.All.{Bool, Call, Deliver, Delivers, Event, Link, List, Resend, Resends, Site, [], ap, arith, cases_Bool, deliver, false, inl, inr, link, on_link, refl, resend, same_here, same_is, same_site, subst, suc, sym, true, turned, zero, ℕ, if◌then◌else◌, ◌&&◌, ◌++◌, ◌+◌, ◌∙◌, ◌∷◌, ◌≡◌, ◌≢◌, ◌⊎◌}
use Rattle.sdd_bounds.specs.RoundsOnLinks.{all_carried_out, carried_out}

-- one more, where the link from the one site to the other is the one from a to b
abbrev pub hit : Site → Site → Site → Site → ℕ → ℕ
hit a b from to n = if same_site a from && same_site b to then suc n else n

-- how many events are on the link from a to b
abbrev pub hits : Site → Site → List Event → ℕ
hits a b [] = 0
hits a b (Deliver from to place ∷ events) = hit a b from to (hits a b events)
hits a b (Resend from to ∷ events) = hit a b from to (hits a b events)
hits a b (_ ∷ events) = hits a b events

-- an event does f on the link
pub record DoesOn {M : Type 0} (f : Link M → Link M) (l : Site × Site) (e : Event) : Type 0 where
  pub hits_are : (a b : Site) (events : List Event) → hits a b (e ∷ events) ≡ hit a b l.0 l.1 (hits a b events)
  pub link_is : (a b : Site) (calls : List (Call M)) → link a b (carried_out e calls) ≡ on_link a b l.0 l.1 f (link a b calls)

pub by_delivery : {M : Type 0} (l : Site × Site) → DoesOn {M = M} (deliver 1) l (Deliver l.0 l.1 1)
by_delivery l = record { hits_are = λ a b events. refl; link_is = λ a b calls. refl }

pub by_resend : {M : Type 0} (l : Site × Site) → DoesOn {M = M} resend l (Resend l.0 l.1)
by_resend l = record { hits_are = λ a b events. refl; link_is = λ a b calls. refl }

abbrev pub AllDo : {M : Type 0} → (Link M → Link M) → List Event → Type 0
AllDo f [] = Unit {0}
AllDo f (e ∷ events) = ((l : Site × Site) × DoesOn f l e) × AllDo f events

-- how a link lies to the one from a to b: it is that, the one back, or another
pub data Lies (a b from to : Site) : Type 0 where
  here : (same_site a from && same_site b to) ≡ true → (same_site b from && same_site a to) ≡ false → Lies a b from to
  back : (same_site a from && same_site b to) ≡ false → (same_site a to && same_site b from) ≡ true → (same_site b from && same_site a to) ≡ true → Lies a b from to
  apart : (same_site a from && same_site b to) ≡ false → (same_site a to && same_site b from) ≡ false → (same_site b from && same_site a to) ≡ false → Lies a b from to

both_same : (a b from to : Site) → same_site a from ≡ true → same_site b from ≡ true → a ≡ b
both_same a b from to e f = same_is a from e ∙ sym (same_is b from f)

lies : (a b from to : Site) → a ≢ b → Lies a b from to
lies a b from to differ =
    elim (cases_Bool (same_site a from)) [
      | inl e ↦ elim (cases_Bool (same_site b from)) [
        | inl f ↦ absurd (differ (both_same a b from to e f))
        | inr f ↦ elim (cases_Bool (same_site b to)) [
          | inl g ↦ here (rw (e, g) refl) (rw f refl)
          | inr g ↦ elim (cases_Bool (same_site a to)) [
            | inl k ↦ apart (rw (e, g) refl) (rw (k, f) refl) (rw f refl)
            | inr k ↦ apart (rw (e, g) refl) (rw k refl) (rw f refl)
          ]
        ]
      ]
      | inr e ↦ elim (cases_Bool (same_site b from)) [
        | inl f ↦ elim (cases_Bool (same_site a to)) [
          | inl k ↦ back (rw e refl) (rw (k, f) refl) (rw (f, k) refl)
          | inr k ↦ apart (rw e refl) (rw k refl) (rw (f, k) refl)
        ]
        | inr f ↦ elim (cases_Bool (same_site a to)) [
          | inl k ↦ apart (rw e refl) (rw (k, f) refl) (rw f refl)
          | inr k ↦ apart (rw e refl) (rw k refl) (rw f refl)
        ]
      ]
    ]

-- What f keeps with one less to come, all events keep. P is said of the link, and Q of the link turned.
module _ {M : Type 0} (f : Link M → Link M) (P Q : ℕ → ℕ → Link M → Type 0)
    (go : (n m : ℕ) (l : Link M) → P n m l → Q m n (turned l)) (come : (n m : ℕ) (l : Link M) → Q m n l → P n m (turned l))
    (step : (n m : ℕ) (l : Link M) → P (suc n) m l → P n m (f l)) (step_back : (n m : ℕ) (l : Link M) → Q (suc m) n l → Q m n (f l))
  where
    one : (a b from to : Site) (n m : ℕ) (l : Link M) → a ≢ b → P (hit a b from to n) (hit b a from to m) l → P n m (on_link a b from to f l)
    one a b from to n m l differ h = elim (lies a b from to differ) [
      | here p q ↦ rw p (step n m l (rw (p, q) at h))
      | back p q r ↦ rw (p, q) (come n m (f (turned l)) (step_back n m (turned l) (go n (suc m) l (rw (p, r) at h))))
      | apart p q r ↦ rw (p, q) (rw (p, r) at h)
    ]

    pub all_keep : (a b : Site) (events : List Event) (calls : List (Call M)) → a ≢ b → AllDo f events
        → P (hits a b events) (hits b a events) (link a b calls) → P 0 0 (link a b (all_carried_out events calls))
    all_keep a b [] calls differ all h = h
    all_keep a b (e ∷ events) calls differ all h =
        let l = all.0.0 in
        let does = all.0.1 in
        let now : P (hit a b l.0 l.1 (hits a b events)) (hit b a l.0 l.1 (hits b a events)) (link a b calls) =
        subst (λ n. P n (hit b a l.0 l.1 (hits b a events)) (link a b calls)) (does.hits_are a b events)
        (subst (λ m. P (hits a b (e ∷ events)) m (link a b calls)) (does.hits_are b a events) h) in
        all_keep a b events (carried_out e calls) differ all.1
        (subst (P (hits a b events) (hits b a events)) (sym (does.link_is a b calls))
        (one a b l.0 l.1 (hits a b events) (hits b a events) (link a b calls) differ now))
