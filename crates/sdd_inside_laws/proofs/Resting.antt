-- Before each event of a run, and at its end, all is done that the earlier events made due.
use Rattle.std.proofs.Common.{ap, arith, inl, inr, lt-ltb, subst, sym, ◌∙◌}
use Rattle.std.proofs.lemmas.Bool.{cases_lt}
use Rattle.std.specs.Prelude.{ℕ, zero, suc, ◌-◌, ◌<◌, ◌≡◌, nat_le, Bool, true, false, if◌then◌else◌, List, [], ◌∷◌, ◌++◌, length, slice_get, Option, Some, None, refl}
use Rattle.sdd_app_inside.proofs.watch.obligations.invariants.InOrder.{delivered_within, handed_le}
use Rattle.sdd_app_inside.proofs.watch.obligations.invariants.Sent.{sent_grows}
use Rattle.sdd_app_inside.proofs.watch.obligations.invariants.Sites.{site_is}
use Rattle.sdd_app_inside.proofs.watch.obligations.logs.Completing.{OnlyMarksAreDue, complete_parts}
use Rattle.sdd_app_inside.proofs.watch.obligations.logs.NewMarks.{lawful_permitted}
use Rattle.sdd_app_inside.specs.watch.obligations.All.{Act, AllHanded, AllLinked, D, Deliver, Does, Down, Entry, Era, Event, Hand, Input, IsGood, IsLawful, IsTheLog, Log, Lose, Mark, Msg, Redeclares, Repeat, Resend, Rests, Site, Submit, Submitted, T, Tick, Txn, U, Up, all_links, delivered, does_at, due_by, first_some, good_input, hand_due, hand_number, hand_on, hand_with, handed, is_link, link_of, made, mark_due, marks, message_at, next, next_at, next_number, note_if, nth_era, or_else, redeclares, same_site, sends_of_act, sent, site_due, sites, takes_part, to_site, txn_at}
use Rattle.sdd_app_inside.specs.watch.obligations.invariants.Made.{given_to, made_by_mark, put_by, redeclared_entry}
use Rattle.sdd_app_inside.specs.watch.obligations.logs.Lawful.{IsWithin}
use Rattle.sdd_app_inside.specs.watch.obligations.site_module.SiteLog as site
use Rattle.sdd_app_inside.specs.watch.obligations.site_module.SiteLog.{Did, Handed, Ticked}
use Rattle.sdd_app_inside.proofs.watch.EachEvent.{event_of, lawful_at, at_self, marks_next}
use Rattle.sdd_app_inside.proofs.run.progress.Handed.{link_there}
use Rattle.sdd_app_inside.proofs.run.progress.Lists.{none_at}
use Rattle.sdd_app_inside.specs.watch.moments.Moments.{at_event}

-- what a mark makes due, what a site does and what is handed over marks no event

abbrev MarksNone : Option Entry → Type 0
MarksNone None = Unit {0}
MarksNone (Some x) = event_of x ≡ None

either : (a b : Option Entry) → MarksNone a → MarksNone b → MarksNone (or_else a b)
either None b h k = k
either (Some x) b h k = h

first : {A : Type 0} (f : A → Option Entry) (xs : List A) → ((x : A) → MarksNone (f x)) → MarksNone (first_some f xs)
first f [] h = tt
first f (x ∷ xs) h = either (f x) (first_some f xs) (h x) (first f xs h)

note_marks_none : (b : Bool) → MarksNone (note_if b)
note_marks_none true = refl
note_marks_none false = tt

due_marks_none : (g : Input) (e : Event) (log : Log) → MarksNone (due_by g e log)
due_marks_none g (Submit n) log = refl
due_marks_none g (Deliver a b k) log = note_marks_none _
due_marks_none g (Lose a b k) log = note_marks_none _
due_marks_none g (Repeat a b k) log = note_marks_none _
due_marks_none g (Resend a b) log = note_marks_none _
due_marks_none g (Down at) log = note_marks_none _
due_marks_none g (Up at) log = note_marks_none _
due_marks_none g _ log = tt

mark_marks_none : (g : Input) (log : Log) → MarksNone (mark_due g log)
mark_marks_none g (Mark e ∷ log) = due_marks_none g e log
mark_marks_none g _ = tt

does_marks_none : (at : Site) (o : Option Act) → MarksNone (does_at at o)
does_marks_none at None = tt
does_marks_none at (Some act) = refl

with_marks_none : (l : Site × Site) (n : ℕ) (o : Option Msg) → MarksNone (hand_with l n o)
with_marks_none l n None = tt
with_marks_none l n (Some m) = refl

number_marks_none : (log : Log) (l : Site × Site) (o : Option ℕ) → MarksNone (hand_number log l o)
number_marks_none log l None = tt
number_marks_none log l (Some n) = with_marks_none l n (message_at l.0 l.1 n log)

if_marks_none : (b : Bool) (o : Option Entry) → MarksNone o → MarksNone (if b then o else None)
if_marks_none true o h = h
if_marks_none false o h = tt

hand_marks_none : (log : Log) (l : Site × Site) → MarksNone (hand_on log l)
hand_marks_none log l = if_marks_none (takes_part l.1 log) _ (number_marks_none log l (next_number (handed l.0 l.1 log) (delivered (link_of l.0 l.1 log).there)))

-- so where the next entry marks an event, nothing of these is there
past : (o rest : Option Entry) (x : Entry) (e : Event) → MarksNone o → event_of x ≡ Some e → or_else o rest ≡ Some x → (o ≡ None) × (rest ≡ Some x)
past None rest x e h p q = (refl, q)
past (Some y) rest x e h p q =
    let same : y ≡ x = cc in
    let no : None ≡ Some e = sym h ∙ ap event_of same ∙ p in
    absurd cc

free_before : (g : Input) (log : Log) (x : Entry) (e : Event) → event_of x ≡ Some e → next g log ≡ Some x → OnlyMarksAreDue g log
free_before g log x e p q =
    let a = past (mark_due g log) _ x e (mark_marks_none g log) p q in
    let sites_none : MarksNone (site_due g log) =
    first (λ at. does_at at (next_at g log at)) (sites g.catalogue.tms g.catalogue.dms) (λ at. does_marks_none at (next_at g log at)) in
    let b = past (site_due g log) _ x e sites_none p a.1 in
    let c = past (hand_due g log) _ x e (first (hand_on log) (all_links g) (hand_marks_none log)) p b.1 in
    record { no_mark = a.0; no_site = b.0; no_hand = c.0 }

-- on what is no link of the network nothing is put

none_to : (g : Input) (at b : Site) (sends : List (Site × Msg)) → is_link g.catalogue.tms g.catalogue.dms at b ≡ false → AllLinked g at sends
    → to_site b sends ≡ []
none_to g at b [] apart h = refl
none_to g at b (s ∷ sends) apart h =
    elim (same_site b s.0) as (λ c. same_site b s.0 ≡ c → (if c then s.1 ∷ to_site b sends else to_site b sends) ≡ []) [
      | true ↦ λ e. (let same : b ≡ s.0 = site_is b s.0 e in
          let no_link : false ≡ true = sym apart ∙ ap (is_link g.catalogue.tms g.catalogue.dms at) same ∙ h.0 in absurd cc)
      | false ↦ λ e. none_to g at b sends apart h.1
    ] refl

none_by_act : (g : Input) (a b at : Site) (act : Act) → is_link g.catalogue.tms g.catalogue.dms a b ≡ false → AllLinked g at (sends_of_act act)
    → (c : Bool) → same_site a at ≡ c → put_by b (if c then Some (Did act) else None) ≡ []
none_by_act g a b at act apart h true e =
    let same : a ≡ at = site_is a at e in
    none_to g at b (sends_of_act act) (ap (λ s. is_link g.catalogue.tms g.catalogue.dms s b) (sym same) ∙ apart) h
none_by_act g a b at act apart h false e = refl

-- no other entry puts something

by_if : (b : Site) (c : Bool) (o : Option site.Entry) → put_by b o ≡ [] → put_by b (if c then o else None) ≡ []
by_if b true o h = h
by_if b false o h = refl

by_given : (b : Site) (n : ℕ) (o : Option Txn) → put_by b (given_to n o) ≡ []
by_given b n None = refl
by_given b n (Some txn) = refl

by_era : (b at : Site) (era : Era) (t : ℕ) → put_by b (redeclared_entry at era t) ≡ []
by_era b U era t = refl
by_era b (T n) era t = refl
by_era b (D d) era t = refl

by_mark : (b at : Site) (e : Event) → put_by b (made_by_mark at e) ≡ []
by_mark b at (Tick t n) = by_if b (same_site at (T t)) (Some (Ticked n)) refl
by_mark b at _ = refl

none_by : (g : Input) (a b : Site) (x : Entry) (log : Log) → IsGood g → is_link g.catalogue.tms g.catalogue.dms a b ≡ false → IsLawful g (x ∷ log)
    → put_by b (made g a log x) ≡ []
none_by g a b (Does at act) log good apart h =
    none_by_act g a b at act apart (good.needs.sends g (good_input g good) log at act h.1 h.0) (same_site a at) refl
none_by g a b (Mark e) log good apart h = by_mark b a e
none_by g a b (Redeclares t) log good apart h = by_era b a (nth_era g (suc (redeclares log))) t
none_by g a b (Hand from to n m) log good apart h = by_if b (same_site a to) (Some (Handed from m)) refl
none_by g a b (Submitted to n) log good apart h = by_if b (same_site a to) (given_to n (txn_at g n)) (by_given b n (txn_at g n))
none_by g a b _ log good apart h = refl

none_put : (g : Input) (a b : Site) (log : Log) → IsGood g → is_link g.catalogue.tms g.catalogue.dms a b ≡ false → IsLawful g log → sent a b log ≡ []
none_put g a b [] good apart h = refl
none_put g a b (x ∷ log) good apart h =
    sent_grows g a b x log ∙ ap (λ xs. xs ++ put_by b (made g a log x)) (none_put g a b log good apart h.1) ∙ none_by g a b x log good apart h

-- on a link of the network all is handed over, where nothing more is to be

some_at : (xs : List Msg) (k : ℕ) → k < length xs → (m : Msg) × (slice_get xs k ≡ Some m)
some_at [] k l = absurd (omega (arith, l))
some_at (x ∷ xs) zero l = (x, refl)
some_at (x ∷ xs) (suc k) l = some_at xs k (omega (arith, l))

one_more_due : (log : Log) (a b : Site) → takes_part b log ≡ true → handed a b log < delivered (link_of a b log).there → hand_on log (a, b) ≡ None → ⊥
one_more_due log a b part less none =
    let n : ℕ = handed a b log in
    let m = some_at (sent a b log) n (omega (arith, less, delivered_within a b log)) in
    let number : suc n - 1 ≡ n = omega arith in
    let message : message_at a b (suc n) log ≡ Some m.0 = ap (slice_get (sent a b log)) number ∙ m.1 in
    let due : hand_on log (a, b) ≡ Some (Hand a b (suc n) m.0) =
    (rw (part, lt-ltb n (delivered (link_of a b log).there) less, message) refl) in
    absurd (let no : None ≡ Some (Hand a b (suc n) m.0) = sym none ∙ due in cc)

all_handed : (g : Input) (log : Log) → IsGood g → IsLawful g log → hand_due g log ≡ None → AllHanded log
all_handed g log good h none a b part =
    let few = handed_le g log a b (lawful_permitted g log good.once h) in
    elim (is_link g.catalogue.tms g.catalogue.dms a b) as (λ c. is_link g.catalogue.tms g.catalogue.dms a b ≡ c
    → handed a b log ≡ delivered (link_of a b log).there) [
      | false ↦ λ no. (let size : length (sent a b log) ≡ 0 = ap length (none_put g a b log good no h) in
          omega (arith, few, delivered_within a b log, size))
      | true ↦ λ there. elim (cases_lt (handed a b log) (delivered (link_of a b log).there)) [
        | inl less ↦ (let i = link_there g.catalogue.tms g.catalogue.dms a b there in
            absurd (one_more_due log a b part less (none_at (hand_on log) (all_links g) i.0 (a, b) none i.1)))
        | inr more ↦ omega (arith, few, more)
      ]
    ] refl

rests_where_free : (g : Input) (log : Log) → IsGood g → IsLawful g log → IsWithin log → OnlyMarksAreDue g log → Rests g log
rests_where_free g log good h within f =
    record { lawful = h; within = within; no_mark = f.no_mark; no_site = f.no_site; handed_all = all_handed g log good h f.no_hand }

within_at : (n : ℕ) (log : Log) → IsWithin log → IsWithin (at_event n log)
within_at n [] h = tt
within_at n (x ∷ log) h =
    elim (nat_le (marks (x ∷ log)) n) as (λ b. IsWithin (if b then x ∷ log else at_event n log)) [ true ↦ h | false ↦ within_at n log h.1 ]

-- when so many events of a run are over
pub rests_at : (g : Input) (n : ℕ) (log : Log) → IsGood g → IsTheLog g log → Rests g (at_event n log)
rests_at g n log good h =
    rests_where_free g (at_event n log) good (lawful_at g n log h.lawful) (within_at n log h.within)
    (elim (cases_lt n (marks log)) [
      | inl below ↦ (let m = marks_next g n log h.lawful below in free_before g (at_event n log) m.entry m.event m.event_is m.next_is)
      | inr over ↦ (let o = complete_parts g log h.complete in
          subst (OnlyMarksAreDue g) (sym (at_self n log over)) (record { no_mark = o.no_mark; no_site = o.no_site; no_hand = o.no_hand }))
    ])
