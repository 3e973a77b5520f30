-- On a lawful log all was idle wherever a further class list was put in force, if no module was down there.
use Rattle.sdd_progress.proofs.All.{AreSubmittedOnce, Bool, Entry, Event, HasSoundLists, Input, IsIdle, IsIdleAtRedeclares, IsLawful, IsModuleOf, IsQuiet, IsSoundList, IsUpAtRedeclares, List, Log, None, Option, Redeclare, Redeclares, Settle, Site, Some, Up, [], all_links, ap, arith, calls_of, false, found_at, greatest_bound, hand_due, is_down, lawful_permitted, left, mark_due, mark_from, mark_of, next, next_mark, next_mark_is, or_else, quiet, redeclares, refl, site_due, subst, sym, true, ℕ, ◌++◌, ◌∙◌, ◌∷◌, ◌≡◌}
use Rattle.sdd_progress.proofs.NoneWaits.{is_idle}
use Rattle.sdd_progress.proofs.SinceRedeclare.{redeclares_up}

-- a list is put in force neither by a mark, nor at a site, nor on a link

not_by_mark : (g : Input) (log : Log) (t : ℕ) → mark_due g log ≡ Some (Redeclares t) → ⊥
not_by_mark g log t e = grind (arith)

not_at_site : (g : Input) (log : Log) (t : ℕ) → site_due g log ≡ Some (Redeclares t) → ⊥
not_at_site g log t e = grind (arith, found_at)

not_on_link : (g : Input) (log : Log) (t : ℕ) → hand_due g log ≡ Some (Redeclares t) → ⊥
not_on_link g log t e = grind (arith, found_at)

-- but where nothing of these is due and the links are quiet

pub record IsAtRedeclare (g : Input) (log : Log) (t : ℕ) : Type 0 where
  pub no_site : site_due g log ≡ None
  pub no_hand : hand_due g log ≡ None
  pub links : quiet (all_links g) (calls_of log) ≡ true
  pub time_is : t ≡ greatest_bound g log

or_other : (P : Type 0) (x y : Option Entry) (e : Entry) → (x ≡ Some e → ⊥) → (x ≡ None → y ≡ Some e → P) → or_else x y ≡ Some e → P
or_other P x y e n f h = grind arith

by_events : (g : Input) (log : Log) (t : ℕ) (q : Bool) (r ws : List Event) → mark_from g log q r ws ≡ Some (Redeclares t)
    → (q ≡ true) × (t ≡ greatest_bound g log)
by_events g log t true r (Settle ∷ ws) e = by_events g log t true r ws e
by_events g log t true r (Redeclare ∷ ws) e = let p : greatest_bound g log ≡ t = cc in (refl, sym p)
by_events g log t false r (Up d ∷ ws) e = cc
by_events g log t _ r _ e = cc

by_left : (g : Input) (log : Log) (t : ℕ) (s : List Event × List Event) → mark_of g log s ≡ Some (Redeclares t)
    → (quiet (all_links g) (calls_of log) ≡ true) × (t ≡ greatest_bound g log)
by_left g log t s e = grind (arith, by_events)

by_next : (g : Input) (log : Log) (t : ℕ) → next_mark g log ≡ Some (Redeclares t)
    → (quiet (all_links g) (calls_of log) ≡ true) × (t ≡ greatest_bound g log)
by_next g log t e = by_left g log t (left g.events log) (sym (next_mark_is g log) ∙ e)

pub at_redeclare : (g : Input) (log : Log) (t : ℕ) → next g log ≡ Some (Redeclares t) → IsAtRedeclare g log t
at_redeclare g log t e =
    or_other (IsAtRedeclare g log t) (mark_due g log) _ (Redeclares t) (not_by_mark g log t)
    (λ no_mark at_site. or_other (IsAtRedeclare g log t) (site_due g log) _ (Redeclares t) (not_at_site g log t)
    (λ no_site on_link. or_other (IsAtRedeclare g log t) (hand_due g log) (next_mark g log) (Redeclares t) (not_on_link g log t)
    (λ no_hand marked. (let n = by_next g log t marked in record { no_site = no_site; no_hand = no_hand; links = n.0; time_is = n.1 })) on_link) at_site) e

-- so nothing goes on there, and all is idle, since all was idle where the earlier lists were put in force

idle_at_redeclare : (g : Input) (log : Log) (t : ℕ) → AreSubmittedOnce g.events → IsLawful g log → next g log ≡ Some (Redeclares t)
    → IsSoundList g (redeclares log) → IsIdleAtRedeclares g log → ((at : Site) → IsModuleOf g at → is_down at log ≡ false) → IsQuiet g log × IsIdle g log
idle_at_redeclare g log t once h e one marks up =
    let m = at_redeclare g log t e in
    let q : IsQuiet g log = record { permitted = lawful_permitted g log once h; links = m.links; up = up; no_act = m.no_site; no_hand = m.no_hand } in
    (q, is_idle g log q one marks)

pub idle_at_redeclares : (g : Input) (log : Log) → AreSubmittedOnce g.events → IsLawful g log → HasSoundLists g log → IsUpAtRedeclares g log
    → (later before : Log) (t : ℕ) → log ≡ later ++ Redeclares t ∷ before → IsQuiet g before × IsIdle g before
idle_at_redeclares g [] once h lists up [] before t e = cc
idle_at_redeclares g [] once h lists up (x ∷ later) before t e = cc
idle_at_redeclares g (x ∷ log) once h lists up [] before t e =
    let a : x ≡ Redeclares t = cc in
    let b : log ≡ before = cc in
    let grows = redeclares_up x log in
    subst (λ z. IsQuiet g z × IsIdle g z) b
    (idle_at_redeclare g log t once h.1 (subst (λ z. next g log ≡ Some z) a h.0) (lists (redeclares log) grows)
    (idle_at_redeclares g log once h.1 (λ k l. lists k (omega (arith, l, grows))) (λ more rest u p. up (x ∷ more) rest u (ap (λ z. x ∷ z) p)))
    (up [] log t (ap (λ z. z ∷ log) a)))
idle_at_redeclares g (x ∷ log) once h lists up (y ∷ later) before t e =
    let grows = redeclares_up x log in
    idle_at_redeclares g log once h.1 (λ k l. lists k (omega (arith, l, grows))) (λ more rest u p. up (x ∷ more) rest u (ap (λ z. x ∷ z) p)) later before t cc
