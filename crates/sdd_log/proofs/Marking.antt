-- What the mark of an event leaves, where nothing else was due.
use Rattle.sdd_log.proofs.All.{Act, AllHanded, Bases, Bool, Down, Era, Event, Input, IsMarked, List, Log, MAX_RUN_EVENTS, Mark, None, Notes, Option, Redeclares, Rests, Site, Some, T, Tick, Ticked, TmNo, Up, [], arith, base_of, delivered, does_at, due_by, false, first_some, if◌then◌else◌, is_past, le-ltb, link_of, local_of, marks, next, next_at, next_in, nth_era, redeclares, refl, same_is, same_site, setting_of, site_due, sites, suc, sym, takes_part, true, with_era, ℕ, ◌∙◌, ◌∷◌, ◌≡◌, ◌≤◌}
use Rattle.sdd_log.proofs.Steps.{AllNone, all_none, none_any_base, none_more, none_same}
use Rattle.sdd_log.proofs.Ticking.{none_by_redeclare, none_by_tick}
use Rattle.sdd_rules.specs.site_module.SiteLog as site

-- where the logs of the sites stay, or that of one gets a tick, nothing gets due

none_at_all : (f h : Site → Option Act) (xs : List Site) → ((x : Site) → f x ≡ None → h x ≡ None) → AllNone f xs → first_some (λ b. does_at b (h b)) xs ≡ None
none_at_all f h [] k n = refl
none_at_all f h (x ∷ xs) k n = rw (k x n.0) (none_at_all f h xs k n.1)

pub still_none : (g : Input) (log more : Log) → ((x : Site) → takes_part x more ≡ true → takes_part x log ≡ true)
    → ((x : Site) → local_of g x more ≡ local_of g x log) → site_due g log ≡ None → site_due g more ≡ None
still_none g log more part e n =
    none_at_all (next_at g log) (next_at g more) (sites g.catalogue.tms g.catalogue.dms) (λ x k. none_same g log more x (part x) (e x) k)
    (all_none (next_at g log) (sites g.catalogue.tms g.catalogue.dms) n)

ticked_here : (g : Input) (x t : Site) (bases : Bases) (n : ℕ) (l : site.Log) → x ≡ t → next_in g x bases l ≡ None
    → (next_in g t bases l ≡ None → next_in g t bases (Ticked n ∷ l) ≡ None) → next_in g x bases (Ticked n ∷ l) ≡ None
ticked_here g x t bases n l e k h = grind arith

ticked_if : (g : Input) (x : Site) (bases : Bases) (n : ℕ) (c : Bool) (l : site.Log) → (c ≡ true → next_in g x bases (Ticked n ∷ l) ≡ None)
    → next_in g x bases l ≡ None → next_in g x bases (if c then Ticked n ∷ l else l) ≡ None
ticked_if g x bases n c l h k = grind arith

pub ticked_none : (g : Input) (log : Log) (t : TmNo) (n : ℕ) → site_due g log ≡ None → site_due g (Mark (Tick t n) ∷ log) ≡ None
ticked_none g log t n k =
    let more : Log = Mark (Tick t n) ∷ log in
    none_at_all (next_at g log) (next_at g more) (sites g.catalogue.tms g.catalogue.dms) (λ x k. none_more g log more x (λ part. part) (λ i.
    let j : next_in g x (base_of g more) (local_of g x log) ≡ None = none_any_base g x (base_of g log) (base_of g more) (local_of g x log) i in
    ticked_if g x (base_of g more) n (same_site x (T t)) (local_of g x log)
    (λ q. ticked_here g x (T t) (base_of g more) n (local_of g x log) (same_is x (T t) q) j
    (none_by_tick (setting_of g (T t)) (base_of g more) (local_of g x log) n)) j) k)
    (all_none (next_at g log) (sites g.catalogue.tms g.catalogue.dms) k)

-- the mark

pub mark_within : (log : Log) (e : Event) → suc (marks log) ≤ MAX_RUN_EVENTS → is_past log (Mark e) ≡ false
mark_within log e h = le-ltb MAX_RUN_EVENTS (suc (marks log)) h

abbrev pub IsNoTick : Event → Type 0
IsNoTick (Tick t n) = ⊥
IsNoTick _ = Unit {0}

pub mark_local : (g : Input) (e : Event) (log : Log) (x : Site) → IsNoTick e → local_of g x (Mark e ∷ log) ≡ local_of g x log
mark_local g e log x h = grind arith

-- no module that was down takes part after the event
abbrev pub BringsUpNone : Event → Log → Type 0
BringsUpNone e log = (x : Site) → takes_part x (Mark e ∷ log) ≡ true → takes_part x log ≡ true

pub none_by_mark : (g : Input) (log : Log) (e : Event) → IsNoTick e → BringsUpNone e log → site_due g log ≡ None → site_due g (Mark e ∷ log) ≡ None
none_by_mark g log e h part n = still_none g log (Mark e ∷ log) part (λ x. mark_local g e log x h) n

pub none_by_note : (g : Input) (log : Log) (e : Event) → IsNoTick e → BringsUpNone e log → site_due g log ≡ None → site_due g (Notes ∷ Mark e ∷ log) ≡ None
none_by_note g log e h part n = still_none g log (Notes ∷ Mark e ∷ log) part (λ x. mark_local g e log x h) n

-- an event of which nothing more is due
pub rests_marked : (g : Input) (log : Log) (e : Event) → IsMarked g log e → site_due g (Mark e ∷ log) ≡ None → due_by g e log ≡ None → AllHanded (Mark e ∷ log)
    → Rests g (Mark e ∷ log)
rests_marked g log e k s d h = record {
  lawful = (k.next_is, k.rests.lawful);
  within = (mark_within log e k.few, k.rests.within);
  no_mark = d;
  no_site = s;
  handed_all = h;
}

-- takes_part of a noted log is that of the log before the note
pub part_noted : (x : Site) (log : Log) → takes_part x (Notes ∷ log) ≡ takes_part x log
part_noted x log = refl

-- an event that finds nothing to do
pub rests_noted : (g : Input) (log : Log) (e : Event) → IsMarked g log e → IsNoTick e → BringsUpNone e log → due_by g e log ≡ Some Notes
    → AllHanded (Mark e ∷ log)
    → Rests g (Notes ∷ Mark e ∷ log)
rests_noted g log e k i part d h = grind (arith, mark_within, none_by_note, part_noted)

-- an event that turns no module up or down
abbrev pub TurnsNone : Event → Type 0
TurnsNone (Down d) = ⊥
TurnsNone (Up d) = ⊥
TurnsNone _ = Unit {0}

pub part_marked : (x : Site) (e : Event) (log : Log) → TurnsNone e → takes_part x (Mark e ∷ log) ≡ takes_part x log
part_marked x e log h = grind arith

pub turns_none : (e : Event) (log : Log) → TurnsNone e → BringsUpNone e log
turns_none e log h x part = sym (part_marked x e log h) ∙ part

-- where an event delivers nothing, all stays handed over
pub handed_still : (log : Log) (e : Event) → TurnsNone e → ((a b : Site) → delivered (link_of a b (Mark e ∷ log)).there ≡ delivered (link_of a b log).there)
    → AllHanded log → AllHanded (Mark e ∷ log)
handed_still log e t same h a b part = h a b (sym (part_marked b e log t) ∙ part) ∙ sym (same a b)

-- a class list is put in force

pub no_redeclare : (g : Input) (x : Site) (bases : Bases) (era : Era) (t : ℕ) (l : site.Log)
    → next_in g x bases l ≡ None → next_in g x bases (with_era x era t l) ≡ None
no_redeclare g (T n) bases era t l k = none_by_redeclare (setting_of g (T n)) bases l era t k
no_redeclare g _ bases era t l k = k

redeclared_none : (g : Input) (log : Log) (t : ℕ) → site_due g log ≡ None → site_due g (Redeclares t ∷ log) ≡ None
redeclared_none g log t k =
    let more : Log = Redeclares t ∷ log in
    none_at_all (next_at g log) (next_at g more) (sites g.catalogue.tms g.catalogue.dms) (λ x k. none_more g log more x (λ part. part) (λ i.
    no_redeclare g x (base_of g more) (nth_era g (suc (redeclares log))) t (local_of g x log)
    (none_any_base g x (base_of g log) (base_of g more) (local_of g x log) i)) k)
    (all_none (next_at g log) (sites g.catalogue.tms g.catalogue.dms) k)

pub part_redeclared : (x : Site) (t : ℕ) (log : Log) → takes_part x (Redeclares t ∷ log) ≡ takes_part x log
part_redeclared x t log = refl

-- after it the log is at rest
pub rests_redeclared : (g : Input) (log : Log) (t : ℕ) → Rests g log
    → next g log ≡ Some (Redeclares t) → suc (marks log) ≤ MAX_RUN_EVENTS → Rests g (Redeclares t ∷ log)
rests_redeclared g log t r n few = grind (arith, le-ltb, redeclared_none, part_redeclared)
