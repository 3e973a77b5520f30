-- The events of a valid workload are allowed.
use Rattle.sdd_run.proofs.All.{All, All-head, All-tail, AreAllowed, Catalogue, ClassList, D, Deliver, Down, Era, Event, Input, IsGood, IsLink, IsPossible, IsSite, IsValidEvent, List, Lose, Redeclare, Repeat, Resend, Settle, Site, Some, T, Tick, U, Up, [], ap, append_assoc, are_linked, arith, count_join, drop, era_of_list, false, get_or, is_link, is_site, length, lists_after, map, redeclares_in, refl, slice_get, subst, suc, sym, takes_rounds, true, with_event, zero, ℕ, ◌&&◌, ◌++◌, ◌-◌, ◌<◌, ◌∙◌, ◌∷◌, ◌≡◌}
use Rattle.sdd_progress.specs.obligations.All.{Submit}
use Rattle.sdd_run.proofs.Modules.{module_of, numbered}

member : {A : Type 0} (xs : List A) (i : ℕ) → i < length xs → (x : A) × (slice_get xs i ≡ Some x)
member [] i l = absurd (omega arith)
member (x ∷ xs) zero l = (x, refl)
member (x ∷ xs) (suc i) l = member xs i (omega arith)

site_is : (cat : Catalogue) (at : Site) → IsSite cat at → is_site cat.tms cat.dms at ≡ true
site_is cat U h = refl
site_is cat (T t) h = numbered t.0 cat.tms h.0 h.1
site_is cat (D d) h = numbered d.0 cat.dms h.0 h.1

link_is : (cat : Catalogue) (a b : Site) → IsLink cat a b → is_link cat.tms cat.dms a b ≡ true
link_is cat a b h = ap (λ x. x && (is_site cat.tms cat.dms b && are_linked a b)) (site_is cat a h.0) ∙ ap (λ x. x && are_linked a b) (site_is cat b h.1) ∙ h.2

-- what a valid event names exists
pub possible : (g : Input) (e : Event) → IsValidEvent g.catalogue (length g.txns) e → takes_rounds e ≡ false → IsPossible g e
possible g (Submit n) h s = let m = member g.txns (n.0 - 1) (omega (arith, h.0, h.1)) in (m.0, h.0, m.1)
possible g (Deliver a b k) h s = (link_is g.catalogue a b h.0, h.1.0)
possible g (Lose a b k) h s = (link_is g.catalogue a b h.0, h.1.0)
possible g (Repeat a b k) h s = (link_is g.catalogue a b h.0, h.1.0)
possible g (Resend a b) h s = link_is g.catalogue a b h
possible g (Tick t n) h s = (numbered t.0 g.catalogue.tms h.0.0 h.0.1, h.1.1)
possible g (Down at) h s = module_of g at h
possible g (Up at) h s = module_of g at h
possible g _ h s = absurd cc

-- what is given is good with each part of the schedule that it begins with
abbrev pub IsGoodAlong : (Input → Type 0) → Input → List Event → Type 0
IsGoodAlong Good g all = (xs ys : List Event) → xs ++ ys ≡ all → Good (record g { events = xs })

-- what an event that puts no list in force leaves as it is
record IsOther (e : Event) (lists : List ClassList) : Type 0 where
  no_redeclare : e ≡ Redeclare → ⊥
  none_taken : lists_after e lists ≡ lists
  none_counted : redeclares_in (e ∷ []) ≡ 0

-- The class lists that aren't in force yet, after some events; each redeclare that is left has one.

abbrev AreLeft : Input → List ClassList → Type 0
AreLeft g lists = map era_of_list lists ≡ drop (suc (redeclares_in g.events)) g.eras

abbrev pub HasLists : Input → List Event → Type 0
HasLists g all = (front rest : List Event) → all ≡ front ++ Redeclare ∷ rest → suc (redeclares_in front) < length g.eras

record IsFirst (eras : List Era) (k : ℕ) (none : Era) (lists : List ClassList) : Type 0 where
  list : ClassList
  others : List ClassList
  is : lists ≡ list ∷ others
  era_is : get_or eras k none ≡ era_of_list list
  others_are : map era_of_list others ≡ drop (suc k) eras

first_is : (eras : List Era) (k : ℕ) (none : Era) (lists : List ClassList) → map era_of_list lists ≡ drop k eras → k < length eras
    → IsFirst eras k none lists
first_is [] k none lists h l = absurd (omega (arith, l))
first_is (f ∷ eras) zero none [] h l = absurd (cc)
first_is (f ∷ eras) zero none (x ∷ lists) h l =
    let p : era_of_list x ≡ f = cc in
    let q : map era_of_list lists ≡ eras = cc in
    record { list = x; others = lists; is = refl; era_is = sym p; others_are = q }
first_is (f ∷ eras) (suc k) none lists h l =
    let i = first_is eras k none lists h (omega (arith, l)) in
    record { list = i.list; others = i.others; is = i.is; era_is = i.era_is; others_are = i.others_are }

-- one event more, and then the others

module _ (all : List Event) where
  -- what is to hold of the events that are left
  abbrev Goes : Input → List Event → List ClassList → Type 0
  Goes g es lists =
      g.events ++ es ≡ all → All (IsValidEvent g.catalogue (length g.txns)) es → AreLeft g lists → HasLists g all → IsGoodAlong IsGood g all
      → AreAllowed g es lists

  other_event : (g : Input) (x : Event) (es : List Event) (lists : List ClassList) → IsOther x lists → Goes (with_event g x) es lists → Goes g (x ∷ es) lists
  other_event g x es lists o later e valid left has good =
      let further : (g.events ++ x ∷ []) ++ es ≡ all = append_assoc g.events (x ∷ []) es ∙ e in
      let more = count_join g.events (x ∷ []) in
      let none = o.none_counted in
      let same : redeclares_in (g.events ++ x ∷ []) ≡ redeclares_in g.events = omega (arith, more, none) in (
        record {
          possible = possible g x (All-head (IsValidEvent g.catalogue (length g.txns)) x es valid);
          listed = λ is. absurd (o.no_redeclare is);
          good = good (g.events ++ x ∷ []) es further;
        },
        subst (AreAllowed (with_event g x) es) (sym o.none_taken)
            (later further (All-tail (IsValidEvent g.catalogue (length g.txns)) x es valid) (left ∙ ap (λ n. drop (suc n) g.eras) (sym same)) has good),
      )

  next_list : (g : Input) (es : List Event) (lists : List ClassList) → ((others : List ClassList) → Goes (with_event g Redeclare) es others)
      → Goes g (Redeclare ∷ es) lists
  next_list g es lists later e valid left has good =
      let further : (g.events ++ Redeclare ∷ []) ++ es ≡ all = append_assoc g.events (Redeclare ∷ []) es ∙ e in
      let k : ℕ = redeclares_in g.events in
      let more = count_join g.events (Redeclare ∷ []) in
      let one : redeclares_in (g.events ++ Redeclare ∷ []) ≡ suc k = omega (arith, more) in
      let i = first_is g.eras (suc k) (record { catalogue = g.catalogue; table = [] }) lists left (has g.events es (sym e)) in
      subst (AreAllowed g (Redeclare ∷ es)) (sym i.is) (
        record {
          possible = possible g Redeclare (All-head (IsValidEvent g.catalogue (length g.txns)) Redeclare es valid);
          listed = λ is. i.era_is;
          good = good (g.events ++ Redeclare ∷ []) es further;
        },
        later i.others further (All-tail (IsValidEvent g.catalogue (length g.txns)) Redeclare es valid)
            (i.others_are ∙ ap (λ n. drop (suc n) g.eras) (sym one)) has good,
      )

  pub allowed : (es : List Event) (g : Input) (lists : List ClassList) → Goes g es lists
  allowed [] g lists = λ e valid left has good. tt
  allowed (Redeclare ∷ es) g lists = next_list g es lists (allowed es (with_event g Redeclare))
  allowed (Submit n ∷ es) g lists =
      other_event g (Submit n) es lists (record { no_redeclare = λ is. cc; none_taken = refl; none_counted = refl })
      (allowed es (with_event g (Submit n)) lists)
  allowed (Deliver a b k ∷ es) g lists =
      other_event g (Deliver a b k) es lists (record { no_redeclare = λ is. cc; none_taken = refl; none_counted = refl })
      (allowed es (with_event g (Deliver a b k)) lists)
  allowed (Lose a b k ∷ es) g lists =
      other_event g (Lose a b k) es lists (record { no_redeclare = λ is. cc; none_taken = refl; none_counted = refl })
      (allowed es (with_event g (Lose a b k)) lists)
  allowed (Repeat a b k ∷ es) g lists =
      other_event g (Repeat a b k) es lists (record { no_redeclare = λ is. cc; none_taken = refl; none_counted = refl })
      (allowed es (with_event g (Repeat a b k)) lists)
  allowed (Resend a b ∷ es) g lists =
      other_event g (Resend a b) es lists (record { no_redeclare = λ is. cc; none_taken = refl; none_counted = refl })
      (allowed es (with_event g (Resend a b)) lists)
  allowed (Tick t n ∷ es) g lists =
      other_event g (Tick t n) es lists (record { no_redeclare = λ is. cc; none_taken = refl; none_counted = refl })
      (allowed es (with_event g (Tick t n)) lists)
  allowed (Settle ∷ es) g lists =
      other_event g Settle es lists (record { no_redeclare = λ is. cc; none_taken = refl; none_counted = refl }) (allowed es (with_event g Settle) lists)
  allowed (Down at ∷ es) g lists =
      other_event g (Down at) es lists (record { no_redeclare = λ is. cc; none_taken = refl; none_counted = refl }) (allowed es (with_event g (Down at)) lists)
  allowed (Up at ∷ es) g lists =
      other_event g (Up at) es lists (record { no_redeclare = λ is. cc; none_taken = refl; none_counted = refl }) (allowed es (with_event g (Up at)) lists)
