-- The classes in the lines of a run, and in what is known of it, are of its catalogue.
use Rattle.std.proofs.Common.{arith, subst, sym, ◌∙◌}
use Rattle.std.specs.List.{AllByRecursion, flat_map}
use Rattle.std.specs.Prelude.{ℕ, zero, suc, ◌==◌, ◌≡◌, ◌≤◌, Bool, true, false, if◌then◌else◌, List, [], ◌∷◌, ◌++◌, length, map, slice_get, Some, refl}
use Rattle.sdd_inside.specs.Differences.{changes, pipe_between, queue_between}
use Rattle.sdd_inside.specs.declared.delta.PipeDelta.{PipeDelta}
use Rattle.sdd_inside.specs.declared.delta.QueueDelta.{QueueDelta}
use Rattle.sdd_inside.specs.declared.moment.QueueMoment.{QueueMoment}
use Rattle.sdd_inside_laws.proofs.PacketsRead.{each_change}
use Rattle.sdd_inside_laws.proofs.PipesThere.{at_flat, pipe_there}
use Rattle.sdd_inside_laws.proofs.QueuesRead.{all_queues, of_class}
use Rattle.sdd_inside_laws.specs.Reader.{KnownPipe, known, known_pipe, queue_classes}
use Rattle.sdd_inside_laws.specs.TextReader.{AreOfCatalogue}
use Rattle.sdd_app_inside.proofs.watch.obligations.invariants.Lists.{in_filtered, in_range}
use Rattle.sdd_app_inside.specs.watch.obligations.All.{Input, Log, T, class_at, numbers_to, runs, setting_of, tm_no}
use Rattle.sdd_app_inside.specs.watch.Happens.{happened_at}
use Rattle.sdd_app_inside.specs.watch.moments.Moments.{all_pipes, pipe_moment, queues_of}
use Rattle.sdd_app_inside.specs.watch.Text.{change}

-- what holds of each image, and of each item of what is put together

each_map : {A B : Type 0} (P : B → Type 0) (f : A → B) (xs : List A) → ((k : ℕ) (x : A) → slice_get xs k ≡ Some x → P (f x)) → AllByRecursion P (map f xs)
each_map P f [] h = tt
each_map P f (x ∷ xs) h = (h 0 x refl, each_map P f xs (λ k y e. h (suc k) y e))

each_more : {B : Type 0} (P : B → Type 0) (xs ys : List B) → AllByRecursion P xs → AllByRecursion P ys → AllByRecursion P (xs ++ ys)
each_more P [] ys h k = k
each_more P (x ∷ xs) ys h k = (h.0, each_more P xs ys h.1 k)

pub each_flat : {A B : Type 0} (P : B → Type 0) (f : A → List B) (xs : List A) → ((k : ℕ) (x : A) → slice_get xs k ≡ Some x → AllByRecursion P (f x))
    → AllByRecursion P (flat_map f xs)
each_flat P f [] h = tt
each_flat P f (x ∷ xs) h = each_more P (f x) (flat_map f xs) (h 0 x refl) (each_flat P f xs (λ k y e. h (suc k) y e))

pub each_if : {B : Type 0} (P : B → Type 0) (b : Bool) (x : B) → P x → AllByRecursion P (if b then [] else x ∷ [])
each_if P true x h = tt
each_if P false x h = (h, tt)

-- classes that have a queue

queue_class : (g : Input) (j c : ℕ) → slice_get (queue_classes g) j ≡ Some c → c ≤ length g.catalogue.classes
queue_class g zero c e = (let none : 0 ≡ c = cc in omega (arith, none))
queue_class g (suc j) c e =
    at_flat (λ t. runs (setting_of g (T (tm_no t)))) (λ n. n ≤ length g.catalogue.classes) (numbers_to g.catalogue.tms)
    (λ k t p i n q.
    let size : ℕ = length g.catalogue.classes in
    let f = in_filtered (λ (m : ℕ). (class_at g.catalogue m).tm.0 == t) (numbers_to size) i n q in
    let r = in_range 1 size f.1 n f.2 in
    omega (arith, r.1)) j c e

pub of_catalogue : (g : Input) (old new : Log) → AreOfCatalogue g.catalogue (change g old new) (known g old)
of_catalogue g old new =
    let h = happened_at g old new in
    let told_queues : changes (queue_between h) (queues_of g old) (queues_of g new) ≡ flat_map (λ c. queue_between h (of_class g old c) (of_class g new c)) (queue_classes g) =
    (λ i. changes (queue_between h) (all_queues g old i) (all_queues g new i)) ∙ each_change (queue_between h) (of_class g old) (of_class g new) (queue_classes g) in
    let told_pipes = each_change (pipe_between h) (pipe_moment g old) (pipe_moment g new) (all_pipes g) in
    record {
      queues = subst (AllByRecursion (λ (q : QueueDelta). q.class.0 ≤ length g.catalogue.classes)) (sym told_queues)
          (each_flat (λ (q : QueueDelta). q.class.0 ≤ length g.catalogue.classes) (λ c. queue_between h (of_class g old c) (of_class g new c)) (queue_classes g)
          (λ j c e. each_if (λ (q : QueueDelta). q.class.0 ≤ length g.catalogue.classes) _ _ (queue_class g j c e)));
      pipes = subst (AllByRecursion (λ (p : PipeDelta). p.class.0 ≤ length g.catalogue.classes)) (sym told_pipes)
          (each_flat (λ (p : PipeDelta). p.class.0 ≤ length g.catalogue.classes) (λ p. pipe_between h (pipe_moment g old p) (pipe_moment g new p)) (all_pipes g)
          (λ j p e. each_if (λ (p : PipeDelta). p.class.0 ≤ length g.catalogue.classes) _ _ (pipe_there g j p e).class));
      known_queues = subst (AllByRecursion (λ (q : QueueMoment). q.class.0 ≤ length g.catalogue.classes)) (sym (all_queues g old))
          (each_map (λ (q : QueueMoment). q.class.0 ≤ length g.catalogue.classes) (of_class g old) (queue_classes g) (queue_class g));
      known_pipes = each_map (λ (p : KnownPipe). p.class.0 ≤ length g.catalogue.classes) (known_pipe g old) (all_pipes g)
          (λ j p e. (pipe_there g j p e).class);
    }
