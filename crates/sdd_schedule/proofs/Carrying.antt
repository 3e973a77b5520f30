-- Steps of a schedule: which lists are left, and which log the limit ends.
use Rattle.sdd_schedule.proofs.All.{AreAllowed, ClassList, EndsBy, Event, Input, IsAllowed, IsListed, IsNextList, List, Redeclare, Settle, [], ap, false, lawful_grows, lists_after, next_grows, refl, subst, sym, takes_rounds, with_event, with_events, ◌∙◌, ◌∷◌, ◌≡◌, ◌≢◌}

-- an event that is reached by no rounds
pub no_rounds : (e : Event) → e ≢ Settle → e ≢ Redeclare → takes_rounds e ≡ false
no_rounds Settle h k = absurd (h refl)
no_rounds Redeclare h k = absurd (k refl)
no_rounds _ h k = refl

pub lists_stay : (e : Event) (lists : List ClassList) → e ≢ Redeclare → lists ≡ lists_after e lists
lists_stay Redeclare lists h = absurd (h refl)
lists_stay _ lists h = refl

-- a log that the limit ends, it ends with further events too
pub ends_with_one : (g : Input) (e : Event) → EndsBy g → EndsBy (with_event g e)
ends_with_one g e h = (
  h.0,
  record {
    lawful = lawful_grows g e h.0 h.1.lawful;
    within = h.1.within;
    entry = h.1.entry;
    next_is = next_grows g e h.0 h.1.entry h.1.lawful h.1.next_is;
    past = h.1.past;
  },
)

pub ends_with_all : (g : Input) (events : List Event) → EndsBy g → EndsBy (with_events g events)
ends_with_all g [] h = h
ends_with_all g (e ∷ events) h = ends_with_all (with_event g e) events (ends_with_one g e h)

-- the first event of a schedule that is left, and the others
pub first_allowed : (g : Input) (events rest : List Event) (e : Event) (lists after : List ClassList) → events ≡ e ∷ rest
    → after ≡ lists_after e lists → AreAllowed g events lists → IsAllowed g e lists × AreAllowed (with_event g e) rest after
first_allowed g events rest e lists after is taken h =
    let p : IsAllowed g e lists × AreAllowed (with_event g e) rest (lists_after e lists) = subst (λ es. AreAllowed g es lists) is h in
    (p.0, subst (AreAllowed (with_event g e) rest) (sym taken) p.1)

pub first_one : (g : Input) (events rest : List Event) (e : Event) (lists : List ClassList)
    → events ≡ e ∷ rest → AreAllowed g events lists → IsAllowed g e lists
first_one g events rest e lists is h = (first_allowed g events rest e lists (lists_after e lists) is refl h).0

pub with_first : (g : Input) (events rest : List Event) (e : Event) → events ≡ e ∷ rest → with_events (with_event g e) rest ≡ with_events g events
with_first g events rest e is = sym (ap (with_events g) is)

pub ends_from : (g now : Input) (events rest : List Event) (e : Event) (all : Input) → events ≡ e ∷ rest → with_events now events ≡ all
    → EndsBy (with_event now e) → EndsBy all
ends_from g now events rest e all is same h = subst EndsBy (with_first now events rest e is ∙ same) (ends_with_all (with_event now e) rest h)

-- a redeclare puts the first of the lists in force

pub next_list : (g : Input) (lists rest : List ClassList) (first : ClassList) → lists ≡ first ∷ rest
    → IsAllowed g Redeclare lists → IsNextList g first.catalogue.now first.table.now
next_list g lists rest first is a = subst (IsListed g) is (a.listed refl)

pub some_list : (g : Input) (lists : List ClassList) → lists ≡ [] → IsAllowed g Redeclare lists → ⊥
some_list g lists none a = subst (IsListed g) none (a.listed refl)
