-- What a reader has of a queue after an event is what there is: which transactions of a class are submitted and not committed.
use Rattle.std.proofs.Common.{ap, append-nil, eq-eqb, eqb-true, subst, sym, ◌∙◌}
use Rattle.std.proofs.lemmas.Bool.{and_parts}
use Rattle.std.proofs.lemmas.List.{map-append}
use Rattle.std.specs.Prelude.{ℕ, ◌==◌, ◌&&◌, ◌≡◌, Bool, true, false, if◌then◌else◌, List, [], ◌∷◌, ◌++◌, drop, find, length, map, slice_get, None, Some, refl}
use Rattle.std.specs.List.{flat_map}
use Rattle.sdd_app_inside.proofs.watch.obligations.invariants.Bools.{not_zero}
use Rattle.sdd_app_inside.proofs.watch.obligations.invariants.Fair.{all_new, home_fair}
use Rattle.sdd_app_inside.proofs.watch.obligations.invariants.Lists.{in_filtered, in_range}
use Rattle.sdd_app_inside.proofs.watch.obligations.invariants.Made.{local_grows}
use Rattle.sdd_app_inside.proofs.watch.obligations.logs.NewMarks.{lawful_permitted}
use Rattle.sdd_app_inside.specs.watch.obligations.All.{Each, Input, IsGood, IsPermitted, Log, Setting, Site, T, TxnNo, class_at, class_no, home, is_empty, local_of, numbers_to, queue, runs, setting_of, tm_no}
use Rattle.sdd_app_inside.specs.watch.obligations.invariants.Steps.{IsFair, IsNew}
use Rattle.sdd_inside.specs.Differences.{came, changes, gone, queue_between}
use Rattle.sdd_inside.specs.declared.delta.QueueDelta.{QueueDelta}
use Rattle.sdd_inside.specs.declared.moment.QueueMoment.{QueueMoment}
use Rattle.sdd_inside_laws.proofs.FoundIn.{found_in}
use Rattle.sdd_inside_laws.proofs.PacketsRead.{each_change}
use Rattle.sdd_inside_laws.proofs.Parts.{same_members}
use Rattle.sdd_inside_laws.proofs.QueueMoves.{all_differ, numbers, queue_moved}
use Rattle.sdd_inside_laws.proofs.QueueNumbers.{queue_told}
use Rattle.sdd_inside_laws.specs.Reader.{is_queue_of, queue_classes, queue_moved as moved_by, read_queue}
use Rattle.sdd_app_inside.proofs.watch.moments.Between.{joined_more}
use Rattle.sdd_app_inside.specs.watch.Happens.{happened_at}
use Rattle.sdd_app_inside.specs.watch.moments.Moments.{queue_moment, queues_at, queues_of}
use Rattle.sdd_app_inside.specs.watch.Text.{change}
use Rattle.sdd_app_inside.specs.watch.moments.Changes.{IsBetween}

-- the queues, by their classes alone

abbrev pub of_class : Input → Log → ℕ → QueueMoment
of_class g log c = queue_moment g log (home g.catalogue c) c

abbrev runs_of : Input → ℕ → List ℕ
runs_of g t = runs (setting_of g (T (tm_no t)))

run_home : (g : Input) (c t k : ℕ) → slice_get (runs_of g t) k ≡ Some c → home g.catalogue c ≡ T (tm_no t)
run_home g c t k e =
    let size : ℕ = length g.catalogue.classes in
    let f = in_filtered (λ (i : ℕ). (class_at g.catalogue i).tm.0 == t) (numbers_to size) k c e in
    let r = in_range 1 size f.1 c f.2 in
    rw (not_zero c r.0) (ap (λ n. T (tm_no n)) (eqb-true (class_at g.catalogue c).tm.0 t f.0))

of_module : (g : Input) (log : Log) (t : ℕ) → queues_at g log t ≡ map (of_class g log) (runs_of g t)
of_module g log t =
    same_members (queue_moment g log (T (tm_no t))) (of_class g log) (runs_of g t)
    (λ k c e. ap (λ at. queue_moment g log at c) (sym (run_home g c t k e)))

of_modules : (g : Input) (log : Log) (ts : List ℕ) → flat_map (queues_at g log) ts ≡ map (of_class g log) (flat_map (runs_of g) ts)
of_modules g log [] = refl
of_modules g log (t ∷ ts) =
    (λ i. of_module g log t i ++ of_modules g log ts i) ∙ sym (map-append (of_class g log) (runs_of g t) (flat_map (runs_of g) ts))

pub all_queues : (g : Input) (log : Log) → queues_of g log ≡ map (of_class g log) (queue_classes g)
all_queues g log = ap (λ qs. of_class g log 0 ∷ qs) (of_modules g log (numbers_to g.catalogue.tms))

-- what is told of one

abbrev tells : Input → Log → Log → ℕ → List QueueDelta
tells g old new c = queue_between (happened_at g old new) (of_class g old c) (of_class g new c)

not_found : (c : ℕ) (x : QueueDelta) (b : Bool) → is_queue_of (class_no c) x ≡ false
    → find (is_queue_of (class_no c)) (if b then [] else x ∷ []) ≡ None
not_found c x true e = refl
not_found c x false e = rw e refl

self_is : (c : ℕ) → (c == c) ≡ true
self_is c = eq-eqb c c refl

of_queue : (g : Input) (old new : Log) (c j : ℕ) → slice_get (queue_classes g) j ≡ Some c
    → find (is_queue_of (class_no c)) (change g old new).queues ≡ find (is_queue_of (class_no c)) (tells g old new c)
of_queue g old new c j there =
    ap (find (is_queue_of (class_no c))) (λ i. changes (queue_between (happened_at g old new)) (all_queues g old i) (all_queues g new i))
    ∙ ap (find (is_queue_of (class_no c))) (each_change (queue_between (happened_at g old new)) (of_class g old) (of_class g new) (queue_classes g))
    ∙ found_in (is_queue_of (class_no c)) (λ k. k == c) (tells g old new) c (λ k e. eqb-true k c e) (λ k e. not_found c _ _ e) (self_is c)
    (queue_classes g) j there

-- the queue itself

nothing_in : {A : Type 0} (xs : List A) → is_empty xs ≡ true → xs ≡ []
nothing_in [] h = refl
nothing_in (x ∷ xs) h = absurd cc

abbrev queue_in : Input → ℕ → Log → List TxnNo
queue_in g c log = numbers (queue (setting_of g (home g.catalogue c)) c (local_of g (home g.catalogue c) log))

told : (g : Input) (old new : Log) (c : ℕ) → IsGood g → IsBetween g old new
    → drop (gone (queue_in g c old) (queue_in g c new)) (queue_in g c old ++ came (queue_in g c old) (queue_in g c new)) ≡ queue_in g c new
told g old new c good b =
    let at : Site = home g.catalogue c in
    let s : Setting = setting_of g at in
    let before : IsPermitted g old = lawful_permitted g old good.once b.before.lawful in
    let after : IsPermitted g new = lawful_permitted g new good.once b.after.lawful in
    let x = local_grows g at (b.more ++ b.mark ∷ []) old in
    let here : local_of g at new ≡ x.0 ++ local_of g at old = ap (local_of g at) (b.parts ∙ joined_more b.more b.mark old) ∙ x.1 in
    let fair : Each (IsFair s) (x.0 ++ local_of g at old) = subst (Each (IsFair s)) here (home_fair g c new after) in
    let fresh : Each IsNew (x.0 ++ local_of g at old) = subst (Each IsNew) here (all_new g at new after) in
    let m = queue_moved s c x.0 (local_of g at old) fair fresh in
    let is : queue_in g c new ≡ drop m.gone (queue_in g c old ++ m.more) = ap (λ l. numbers (queue s c l)) here ∙ m.is in
    let differ = all_differ s c (local_of g at old) (home_fair g c old before) (all_new g at old before) in
    (λ i. drop (gone (queue_in g c old) (is i)) (queue_in g c old ++ came (queue_in g c old) (is i)))
    ∙ queue_told m.gone (queue_in g c old) m.more differ m.new ∙ sym is

abbrev moment_as : ℕ → List TxnNo → QueueMoment
moment_as c ns = record { class = class_no c; queue = ns }

pub queue_read : (g : Input) (old new : Log) (c j : ℕ) → IsGood g → IsBetween g old new → slice_get (queue_classes g) j ≡ Some c
    → read_queue (change g old new) (queue_moment g old (home g.catalogue c) c) ≡ queue_moment g new (home g.catalogue c) c
queue_read g old new c j good b there =
    let before : List TxnNo = queue_in g c old in
    let after : List TxnNo = queue_in g c new in
    let moves = told g old new c good b in
    let delta : QueueDelta = record { class = class_no c; came = came before after; gone = gone before after } in
    ap (λ o. moment_as c (moved_by o before)) (of_queue g old new c j there)
    ∙ elim (is_empty (came before after) && gone before after == 0) as (λ t. (is_empty (came before after) && gone before after == 0) ≡ t
    → moment_as c (moved_by (find (is_queue_of (class_no c)) (if t then [] else delta ∷ [])) before) ≡ moment_as c after) [
      | true ↦ λ e. (let h = and_parts (is_empty (came before after)) (gone before after == 0) e in
          let none : came before after ≡ [] = nothing_in (came before after) h.0 in
          let still : gone before after ≡ 0 = eqb-true (gone before after) 0 h.1 in
          ap (moment_as c) (sym (append-nil before) ∙ (λ n. drop (sym still n) (before ++ sym none n)) ∙ moves))
      | false ↦ λ e. rw (self_is c) (ap (moment_as c) moves)
    ] refl
