-- What is up where the modules are that a class needs: the modules that its attempts ask, since a class reads there, and so
-- those at which its READs wait; and what the classes need for which they wait.
use Rattle.sdd_progress.proofs.All.{AllByRecursion, Attempt, Catalogue, Cond, Contains, D, FragNo, Input, IsClass, IsDiagonalIn, IsFromTable, IsPermitted, IsPutAt, IsReader, IsSoundCatalogue, List, Log, Msg, Needs, NeedsAreUp, None, Option, P2, P3, Protocol, Read, Setting, Site, Some, T, [], active, ap, ascending, asks_by, at_home, attempt_task, attempts_need, both, class_at, class_number, contains, cons_option, dm_no, eq-eqb, eqb-true, false, filter_map, firsts, fragments_in, head_put, held_needs, home, home_fair, home_needs, inl, inr, is_site, is_wait, local_of, map, not, option_map, or_left, or_right, passing_task, queued_needs, read_needs, recursion_from_All, refl, same_number, sends_of_act, setting_of, slice_get, start_at, start_read, subst, sym, table_in_force, takes_part, time_at, to_site, true, true_or_false, uses_of, waits_by, waits_need, ℕ, ◌==◌, ◌∙◌, ◌∷◌, ◌≡◌}
use Rattle.sdd_lawful.proofs.Touched.{any_there}
use Rattle.sdd_obligations.proofs.catalog.Sound.{found_in_all}
use Rattle.sdd_obligations.proofs.invariants.Answered.{honest}
use Rattle.sdd_obligations.proofs.invariants.Readied.{readied}
use Rattle.sdd_obligations.proofs.laws.Members.{all_have}
use Rattle.sdd_obligations.proofs.lang.Sets.{All-ascending}
use Rattle.sdd_obligations.specs.All.{IsClassOf}
use Rattle.sdd_obligations.specs.catalog.Catalogue.{reads_at}
use Rattle.sdd_obligations.specs.catalog.declared.resolved.Read.{Read as ReadPlace}
use Rattle.sdd_obligations.specs.invariants.All.{modules_of}
use Rattle.sdd_obligations.specs.invariants.Puts.{IsRead}
use Rattle.sdd_obligations.specs.invariants.Readied.{AllReadied, IsReadied}
use Rattle.sdd_obligations.specs.protocol.declared.entry.Entry as line
use Rattle.sdd_obligations.specs.site_module.SiteLog as site
use Rattle.sdd_progress.proofs.Lacking.{AsksUp}
use Rattle.sdd_progress.proofs.Lists.{either}
use Rattle.sdd_progress.proofs.Still.{d_site, home_site}
use Rattle.std.proofs.lemmas.List.Elements.{All-from_recursion}
use Rattle.std.specs.List.{find}

-- the class reads at the module
pub record ReadsThere (cat : Catalogue) (c d : ℕ) : Type 0 where
  pub read : ReadPlace
  pub there : Contains (class_at cat c).reads read
  pub at_is : read.at.0 ≡ d

-- the modules that a declared class asks are such ones

found_read : (f d : ℕ) (rs : List ReadPlace) (o : Option ReadPlace) → find (λ r. r.fragment.0 == f) rs ≡ o
    → option_map (λ (r : ReadPlace). r.at.0) o ≡ Some d → (r : ReadPlace) × Contains rs r × (r.at.0 ≡ d)
found_read f d rs (Some r) e p =
    let all = All-from_recursion (Contains rs) rs (all_have (Contains rs) rs (λ x h. h)) in
    (r, found_in_all (Contains rs) (λ (x : ReadPlace). x.fragment.0 == f) rs r all e, cc)
found_read f d rs None e p = cc

read_there : (cat : Catalogue) (c f d : ℕ) → (c == 0) ≡ false → reads_at cat c f ≡ Some d → ReadsThere cat c d
read_there cat c f d z e =
    let rs : List ReadPlace = (class_at cat c).reads in
    let p : option_map (λ (r : ReadPlace). r.at.0) (find (λ (r : ReadPlace). r.fragment.0 == f) rs) ≡ Some d = rw z at e in
    let r = found_read f d rs (find (λ (r : ReadPlace). r.fragment.0 == f) rs) refl p in
    record { read = r.0; there = r.1; at_is = r.2 }

each_read : (cat : Catalogue) (c : ℕ) (fs : List ℕ) → (c == 0) ≡ false → AllByRecursion (ReadsThere cat c) (filter_map (reads_at cat c) fs)
each_read cat c [] z = tt
each_read cat c (f ∷ fs) z =
    let i = each_read cat c fs z in
    elim (reads_at cat c f) as (λ o. reads_at cat c f ≡ o → AllByRecursion (ReadsThere cat c) (cons_option o (filter_map (reads_at cat c) fs))) [
      | Some d ↦ λ e. (read_there cat c f d z e, i)
      | None ↦ λ e. i
    ] refl

of_each : (P : ℕ → Type 0) (xs : List ℕ) (d : ℕ) → AllByRecursion P xs → contains xs d ≡ true → P d
of_each P [] d all e = cc
of_each P (x ∷ xs) d all e = elim (either (x == d) (contains xs d) e) [
  | inl p ↦ subst P (eqb-true x d p) all.0
  | inr p ↦ of_each P xs d all.1 p
]

asked_reads : (cat : Catalogue) (c d : ℕ) (fs : List ℕ) → (c == 0) ≡ false → contains (modules_of cat c fs) d ≡ true → ReadsThere cat c d
asked_reads cat c d fs z e =
    let chosen : List ℕ = filter_map (reads_at cat c) fs in
    let here : contains (ascending chosen) d ≡ true = rw z at e in
    let all = All-ascending (ReadsThere cat c) [] chosen (All-from_recursion (ReadsThere cat c) [] tt) (each_read cat c fs z) in
    of_each (ReadsThere cat c) (ascending chosen) d (recursion_from_All (ReadsThere cat c) (ascending chosen) all) here

-- those of an attempt under way

pub attempt_reads : (g : Input) (log : Log) (c d : ℕ) (a : Attempt) → IsPermitted g log → (c == 0) ≡ false
    → active (setting_of g (home g.catalogue c)) c (at_home g c log) ≡ Some a → contains (firsts a.exchange.modules) d ≡ true → ReadsThere g.catalogue c d
attempt_reads g log c d a h z e asked =
    let at : Site = home g.catalogue c in
    let s : Setting = setting_of g at in
    let l : site.Log = at_home g c log in
    let r : IsReadied s c l a = subst (AllReadied s c l) e (readied s c l (home_fair g c log h) (honest g at log h)) in
    asked_reads g.catalogue c d (ascending (fragments_in (uses_of g.catalogue a.text))) z (subst (λ ms. contains ms d ≡ true) r.modules_are asked)

-- and those to which its READs go

to_module_in : (read : ℕ → Msg) (b : ℕ) (ds : List ℕ) (k : ℕ) (m : Msg)
    → slice_get (to_site (D (dm_no b)) (map (λ d. (D (dm_no d), read d)) ds)) k ≡ Some m → contains ds b ≡ true
to_module_in read b [] k m e = cc
to_module_in read b (d ∷ ds) k m e = elim (true_or_false (b == d)) [
  | inl p ↦ or_left (d == b) (contains ds b) (subst (λ x. (d == x) ≡ true) (sym (eqb-true b d p)) (same_number d))
  | inr p ↦ or_right (d == b) (contains ds b) (to_module_in read b ds k m (rw p at e))
]

pub reader_reads : (g : Input) (log : Log) (c ts : ℕ) (conds : List Cond) (r : IsReader g log c ts conds) → IsPermitted g log → (c == 0) ≡ false
    → ReadsThere g.catalogue c r.d
reader_reads g log c ts conds r h z =
    let at : Site = home g.catalogue c in
    let s : Setting = setting_of g at in
    let m : Msg = Read (time_at ts) r.of r.txn r.attempt conds r.uses in
    let p : IsPutAt g log c (dm_no r.d) m = head_put g c (dm_no r.d) log m h r.head_is in
    let l : site.Log = local_of g at p.before in
    let by : IsRead s l p.act c ts r.txn.0 r.attempt =
    subst (λ j. IsRead s l p.act j ts r.txn.0 r.attempt) (class_number r.of.0 c ts p.of_class) p.by in
    let there : slice_get (to_site (D (dm_no r.d)) (sends_of_act (start_at s c l by.queued))) p.place ≡ Some m =
    subst (λ x. slice_get (to_site (D (dm_no r.d)) (sends_of_act x)) p.place ≡ Some m) by.act_is p.there in
    let fs : List ℕ = ascending (fragments_in (uses_of g.catalogue by.queued.text)) in
    asked_reads g.catalogue c r.d fs z (to_module_in (start_read s c l by.queued) r.d (modules_of g.catalogue c fs) p.place m there)

-- a condition is on a class for which the table has the reader wait

diagonal_waits : (table : List line.Entry) (p : Protocol) (i j : ℕ) (f : FragNo) → asks_by p ≡ true → IsDiagonalIn table p i j f → waits_by table i j ≡ true
diagonal_waits table p i j f asks d =
    let named : ((d.reader.0 == i) ≡ true) × ((d.writer.0 == j) ≡ true) = (eq-eqb d.reader.0 i d.reader_is, eq-eqb d.writer.0 j d.writer_is) in
    any_there (is_wait i j) table d.place d.entry d.there
    (rw (d.edge_is, d.protocol_is) (both _ _ (both _ _ named.0 named.1) asks))

pub condition_waits : (table : List line.Entry) (i own p2 : ℕ) (q : Cond) → IsFromTable table i own p2 q → waits_by table i q.class.0 ≡ true
condition_waits table i own p2 q t = elim t.by [
  | inl a ↦ diagonal_waits table P3 i q.class.0 t.first refl (a.1 0 t.first (ap (λ l. slice_get l 0) t.names))
  | inr a ↦ diagonal_waits table P2 i q.class.0 t.first refl (a.1 0 t.first (ap (λ l. slice_get l 0) t.names))
]

-- what is up

-- what the passing needs of each class for which this class waits
abbrev pub PassingsUp : Input → Log → ℕ → Type 0
PassingsUp g log c = (j : ℕ) → waits_by (table_in_force g log) c j ≡ true → NeedsAreUp g log (passing_task j)

-- A set of classes that is closed: where a class of it waits for another one, the attempts of that one ask only modules that are
-- up, and it is of the set too, and so is each class whose READ may hold a WRITE of it back.
pub record IsClosed (g : Input) (log : Log) (Clear : ℕ → Type 0) : Type 0 where
  pub asks : (c j : ℕ) → Clear c → waits_by (table_in_force g log) c j ≡ true → (j == 0) ≡ false → IsClassOf g.catalogue j → AsksUp g log j
  pub writer : (c j : ℕ) → Clear c → waits_by (table_in_force g log) c j ≡ true → Clear j
  pub holder : (c j r : ℕ) → Clear c → waits_by (table_in_force g log) c j ≡ true → waits_by (table_in_force g log) r j ≡ true → Clear r

-- what is needed so that what stands in this pipe of the class can go on: also of each class whose READ may hold a WRITE
pub record CanMove (g : Input) (log : Log) (Clear : ℕ → Type 0) (c d : ℕ) : Type 0 where
  pub own : Clear c
  pub others : (r : ℕ) → ReadsThere g.catalogue r d → waits_by (table_in_force g log) r c ≡ true → Clear r

pub of_attempt : (g : Input) (log : Log) (c : ℕ) → NeedsAreUp g log (attempt_task c) → PassingsUp g log c
of_attempt g log c up j w at m n = up at m (waits_need c j at w n)

pub of_passing : (g : Input) (log : Log) (c : ℕ) → NeedsAreUp g log (passing_task c) → NeedsAreUp g log (attempt_task c)
of_passing g log c up at m n = up at m (attempts_need c at n)

pub of_held : (g : Input) (log : Log) (c r : ℕ) → NeedsAreUp g log (passing_task c) → waits_by (table_in_force g log) r c ≡ true → PassingsUp g log r
of_held g log c r up w j v at m n = up at m (held_needs c j r at w v n)

pub passing_moves : (g : Input) (log : Log) (c d : ℕ) → NeedsAreUp g log (passing_task c) → CanMove g log (PassingsUp g log) c d
passing_moves g log c d up = record { own = of_attempt g log c (of_passing g log c up); others = λ r there w. of_held g log c r up w }

pub attempt_moves : (g : Input) (log : Log) (c d : ℕ) → NeedsAreUp g log (attempt_task c) → ReadsThere g.catalogue c d → CanMove g log (PassingsUp g log) c d
attempt_moves g log c d up here = record {
  own = of_attempt g log c up;
  others = λ r there w j v at m n. up at m
      (queued_needs c j r here.read there.read at here.there there.there (ap dm_no (here.at_is ∙ sym there.at_is)) w v n);
}

-- so its transaction module is up
pub home_up : (g : Input) (log : Log) (c : ℕ) → IsSoundCatalogue g.catalogue → (c == 0) ≡ false → IsClassOf g.catalogue c
    → NeedsAreUp g log (attempt_task c) → takes_part (home g.catalogue c) log ≡ true
home_up g log c sound z class up =
    let at : home g.catalogue c ≡ T (class_at g.catalogue c).tm = rw z refl in
    let here : is_site g.catalogue.tms g.catalogue.dms (T (class_at g.catalogue c).tm) ≡ true =
    subst (λ x. is_site g.catalogue.tms g.catalogue.dms x ≡ true) at (home_site g.catalogue c sound class.to) in
    subst (λ x. takes_part x log ≡ true) (sym at) (ap not (up (T (class_at g.catalogue c).tm) here (home_needs c class)))

-- and so are the modules that an attempt asks
pub asks_up : (g : Input) (log : Log) (c : ℕ) → IsSoundCatalogue g.catalogue → IsPermitted g log → (c == 0) ≡ false → IsClassOf g.catalogue c
    → NeedsAreUp g log (attempt_task c) → AsksUp g log c
asks_up g log c sound h z class up = (
  home_up g log c sound z class up,
  λ a e d m asked. (let r = attempt_reads g log c d a h z e asked in
      up (D (dm_no d)) (d_site g.catalogue d m)
      (subst (λ x. Needs g.catalogue (table_in_force g log) (attempt_task c) (D (dm_no x))) r.at_is (read_needs c r.read class r.there))),
)

-- the classes are closed of which all is up for which they wait
pub passings_closed : (g : Input) (log : Log) → IsSoundCatalogue g.catalogue → IsPermitted g log → IsClosed g log (PassingsUp g log)
passings_closed g log sound h = record {
  asks = λ c j up w z class. asks_up g log j sound h z class (of_passing g log j (up j w));
  writer = λ c j up w. of_attempt g log j (of_passing g log j (up j w));
  holder = λ c j r up w v. of_held g log j r (up j w) v;
}

-- the transaction module is up, and so are the modules that the attempts ask, of each declared class
abbrev pub AllAskUp : Input → Log → Type 0
AllAskUp g log = (j : ℕ) → (j == 0) ≡ false → IsClass g.catalogue j → AsksUp g log j

-- then all classes are a closed set
abbrev pub AnyClass : ℕ → Type 0
AnyClass c = Unit {0}

pub all_closed : (g : Input) (log : Log) → AllAskUp g log → IsClosed g log AnyClass
all_closed g log ask = record {
  asks = λ c j up w z class. ask j z class.to;
  writer = λ c j up w. tt;
  holder = λ c j r up w v. tt;
}
