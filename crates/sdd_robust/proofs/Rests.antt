-- What a flood along conflicts leaves of a set of places, and that conflicts lead nowhere from what it took.
use Rattle.std.proofs.Common.{Bool, Contains, List, None, Option, Some, [], ap, false, inl, inr, not, refl, slice_index_or as get_or, subst, sym, true, ℕ, ◌&&◌, ◌∙◌, ◌∷◌, ◌≡◌, ◌⊎◌}
use Rattle.std.proofs.lemmas.Bool.{and_from}
use Rattle.sdd_lang.proofs.base.Membership.{Contains-cases, Contains-here, Contains-nil}
use Rattle.sdd_links.proofs.Members.{Contains-from_filter, Contains-from_map}
use Rattle.sdd_robust_laws.specs.Accesses.{are_apart, conflict}
use Rattle.sdd_robust_laws.specs.declared.access.Access.{Access}
use Rattle.sdd_robust.specs.Leading.{Leads}
use Rattle.sdd_robust.specs.Leading.Leads.{further, itself}
use Rattle.sdd_robust.specs.Members.{kinds}
use Rattle.sdd_robust.specs.Pivots.{beside, may_miss}
use Rattle.sdd_robust.specs.PlaceSets.{AreRows, Has, HasEach, IsRest, Lacks, LeadsToNone, Spreads, TakesOut}
use Rattle.sdd_robust.specs.declared.member.Member.{Member}
use Rattle.sdd_robust.proofs.Flooding.{leads_first}
use Rattle.sdd_robust.proofs.PlaceSets.{has_or_lacks, not_both}

-- Rows: none is known at first, and one more.

-- One step: a known row's places are taken out.

pub spreads : (members : List Member) (rows : List (Option (List ℕ))) (place : ℕ) (row ends old new before after : List ℕ)
    → AreRows members rows → get_or rows place None ≡ Some row → Lacks ends place → TakesOut old row new before after
    → Spreads members place ends old new before after
spreads members rows place row ends old new before after known is no_end takes = record {
  no_end = no_end;
  fewer = takes.fewer;
  leads = λ m k at there q h. none_left m k at there q h (conflict m.accesses k.accesses) refl;
  kept = takes.kept;
  queued = takes.queued;
} where
  none_left : (m k : Member) (at : Contains members m) (there : Contains members k) → at.0 ≡ place → Has new there.0
      → (b : Bool) → conflict m.accesses k.accesses ≡ b → conflict m.accesses k.accesses ≡ false
  none_left m k at there q h false e = e
  none_left m k at there q h true e =
      absurd (not_both row there.0 (known m at row (ap (λ z. get_or rows z None) q ∙ is) k there e) (takes.apart there.0 h))

-- What is taken out was there before, stands in the queue, or was gone through.
abbrev pub IsFlooded : List Member → List ℕ → List ℕ → List ℕ → List ℕ → Type 0
IsFlooded members left ends rest queue =
    (place : ℕ) → Lacks rest place → Lacks left place ⊎ (Contains queue place ⊎ (Lacks ends place × LeadsToNone members rest place))

pub flood_begins : (members : List Member) (left ends rest queue : List ℕ) (start : ℕ)
    → ((other : ℕ) → Lacks rest other → Lacks left other ⊎ (other ≡ start)) → queue ≡ start ∷ [] → IsFlooded members left ends rest queue
flood_begins members left ends rest queue start lacks is place l =
    elim (lacks place l) [
      | inl before ↦ inl before
      | inr e ↦ inr (inl (subst (λ z. Contains z place) (sym is) (subst (λ z. Contains (start ∷ []) z) (sym e) (Contains-here start []))))
    ]

module _ (members : List Member) (left ends old new queue before after : List ℕ) (at : ℕ) (flooded : IsFlooded members left ends old queue)
    (is : queue ≡ at ∷ before) (step : Spreads members at ends old new before after) where
  gone_through : (place : ℕ) → LeadsToNone members old place → LeadsToNone members new place
  gone_through place none m k p q e h = none m k p q e (step.fewer q.0 h)

  in_queue : (place : ℕ) → Contains queue place → Contains after place ⊎ (Lacks ends place × LeadsToNone members new place)
  in_queue place h =
      elim (Contains-cases at before place (subst (λ z. Contains z place) is h)) [
        | inl e ↦ inr (subst (λ z. Lacks ends z × LeadsToNone members new z) (sym e) (step.no_end, step.leads))
        | inr later ↦ inl (step.kept place later)
      ]

  pub flood_goes_on : IsFlooded members left ends new after
  flood_goes_on place l =
      elim (has_or_lacks old place) [
        | inl h ↦ inr (inl (step.queued place h l))
        | inr before_it ↦ elim (flooded place before_it) [
          | inl gone ↦ inl gone
          | inr (inl queued) ↦ inr (in_queue place queued)
          | inr (inr through) ↦ inr (inr (through.0, gone_through place through.1))
        ]
      ]

pub flood_ends : (members : List Member) (left ends rest queue : List ℕ) → IsFlooded members left ends rest queue → queue ≡ []
    → IsRest members left ends rest
flood_ends members left ends rest queue flooded is place l =
    elim (flooded place l) [
      | inl gone ↦ inl gone
      | inr (inl queued) ↦ absurd (Contains-nil place (subst (λ z. Contains z place) is queued))
      | inr (inr through) ↦ inr through
    ]

-- Conflicts lead from those beside a pivot that aren't left to none that may miss a change of it.

abbrev is_beside : List Access → Member → Bool
is_beside pivot m = not (are_apart pivot m.accesses)

abbrev pub LeadNowhere : List Member → List Access → Access → List ℕ → Type 0
LeadNowhere few pivot read left =
    (m : Member) (at : Contains few m) → not (are_apart pivot m.accesses) ≡ true → Lacks left at.0 → (a : List Access)
    → Leads (kinds (beside pivot few)) m.accesses a → may_miss a pivot read ≡ true → ⊥

module _ (few : List Member) (pivot : List Access) (read : Access) (left ends rest : List ℕ)
    (each : HasEach (λ m. not (are_apart pivot m.accesses) && may_miss m.accesses pivot read) few ends)
    (gone : LeadNowhere few pivot read left) (is_rest : IsRest few left ends rest) where
  not_false : (b : Bool) → b ≡ true → b ≡ false → ⊥
  not_false b p q = cc

  from_gone : (c a : List Access) → Leads (kinds (beside pivot few)) c a → (m : Member) (at : Contains few m) → c ≡ m.accesses
      → not (are_apart pivot m.accesses) ≡ true → Lacks rest at.0 → may_miss a pivot read ≡ true → ⊥
  from_gone _ _ (itself c there) m at e b l miss =
      elim (is_rest at.0 l) [
        | inl before ↦ gone m at b before c (subst (λ z. Leads (kinds (beside pivot few)) z c) e (itself c there)) miss
        | inr through ↦
            not_both ends at.0 (each m at (and_from _ _ b (subst (λ z. may_miss z pivot read ≡ true) e miss))) through.0
      ]
  from_gone _ _ (further c d a there f later) m at e b l miss =
      let k = Contains-from_map (λ (x : Member). x.accesses) (beside pivot few) d (leads_first (kinds (beside pivot few)) d a later) in
      let next = Contains-from_filter (is_beside pivot) few k.0 k.1 in
      elim (is_rest at.0 l) [
        | inl before ↦ gone m at b before a (subst (λ z. Leads (kinds (beside pivot few)) z a) e (further c d a there f later)) miss
        | inr through ↦ elim (has_or_lacks rest next.0.0) [
          | inl h ↦
              not_false (conflict m.accesses k.0.accesses) (subst (λ z. conflict z k.0.accesses ≡ true) e (subst (λ z. conflict c z ≡ true) k.2 f))
              (through.1 m k.0 at next.0 refl h)
          | inr lacks ↦ from_gone d a later k.0 next.0 k.2 next.1 lacks miss
        ]
      ]

  pub none_leads : LeadNowhere few pivot read rest
  none_leads m at b l a leads miss = from_gone m.accesses a leads m at refl b l miss
