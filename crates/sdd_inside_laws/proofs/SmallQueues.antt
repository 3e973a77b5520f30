-- No more transactions leave a queue at an event than stand in it, and there stand no more than a run has events.
use Rattle.std.proofs.Common.{arith, subst, sym, ◌∙◌}
use Rattle.std.proofs.lemmas.List.{length-append, length-map}
use Rattle.std.proofs.lemmas.List.Sums.{prefix_len-le-length}
use Rattle.std.specs.List.{AllByRecursion, flat_map}
use Rattle.std.specs.Prelude.{ℕ, suc, ◌==◌, ◌≡◌, ◌≤◌, Bool, true, false, not, if◌then◌else◌, List, [], ◌∷◌, ◌++◌, filter, length, map}
use Rattle.sdd_inside.specs.Differences.{changes, gone, is_first, queue_between}
use Rattle.sdd_inside_laws.proofs.OfCatalogue.{each_flat, each_if}
use Rattle.sdd_inside_laws.proofs.PacketsRead.{each_change}
use Rattle.sdd_inside_laws.proofs.QueueNumbers.{gone_is}
use Rattle.sdd_inside_laws.proofs.QueuesRead.{all_queues, of_class}
use Rattle.sdd_inside_laws.specs.Reader.{queue_classes}
use Rattle.sdd_inside_read.specs.Small.{IsSmallQueue}
use Rattle.sdd_app_inside.proofs.watch.obligations.Limits.{submits_few}
use Rattle.sdd_app_inside.proofs.watch.obligations.logs.NewMarks.{lawful_permitted}
use Rattle.sdd_app_inside.proofs.watch.obligations.needs.FewMarks.{marks_few}
use Rattle.sdd_app_inside.specs.watch.obligations.All.{Act, Commit, Did, Input, IsGood, IsPermitted, Log, Records, Setting, Start, Submits, TxnNo, current_era, home, local_of, queue, setting_of, txn_no}
use Rattle.sdd_app_inside.specs.watch.obligations.attempt.Queues.{Queued, is_for, queue_after, tried}
use Rattle.sdd_app_inside.specs.watch.obligations.site_module.SiteLog as site
use Rattle.sdd_app_inside.specs.watch.obligations.site_module.SiteLog.{submits}
use Rattle.sdd_app_inside.specs.watch.Happens.{happened_at}
use Rattle.sdd_app_inside.specs.watch.moments.Moments.{queues_of}
use Rattle.sdd_app_inside.specs.watch.Text.{change}
use Rattle.sdd_app_inside.specs.watch.moments.Changes.{IsBetween}

-- how many stand in it

passed_few : {A : Type 0} (p : A → Bool) (xs : List A) → length (filter p xs) ≤ length xs
passed_few p [] = omega arith
passed_few p (x ∷ xs) =
    let l = passed_few p xs in
    elim (p x) as (λ b. length (if b then x ∷ filter p xs else filter p xs) ≤ suc (length xs)) [ true ↦ omega (arith, l) | false ↦ omega (arith, l) ]

after_few : (c : ℕ) (act : Act) (qs : List Queued) → length (queue_after c act qs) ≤ length qs
after_few c (Records k (Start txn attempt class ts p2 uses) sends) qs =
    elim (k == c) as (λ b. length (if b then map (tried txn.0) qs else qs) ≤ length qs) [
      | true ↦ omega (arith, length-map qs (tried txn.0))
      | false ↦ omega arith
    ]
after_few c (Records k (Commit txn attempt reply new values rows) sends) qs =
    elim (k == c) as (λ b. length (if b then filter (λ (q : Queued). not (q.number == txn.0)) qs else qs) ≤ length qs) [
      | true ↦ passed_few (λ (q : Queued). not (q.number == txn.0)) qs
      | false ↦ omega arith
    ]
after_few c _ qs = omega arith

in_queue_few : (s : Setting) (c : ℕ) (log : site.Log) → length (queue s c log) ≤ length (submits log)
in_queue_few s c [] = omega arith
in_queue_few s c (Submits n txn ∷ log) =
    let l = in_queue_few s c log in
    let q : Queued = record { number = n; text = txn; tries = 0 } in
    let more = length-append (queue s c log) (q ∷ []) in
    elim (is_for c (current_era s log).catalogue txn) as (λ b. length (if b then queue s c log ++ q ∷ [] else queue s c log) ≤ suc (length (submits log))) [
      | true ↦ omega (arith, l, more)
      | false ↦ omega (arith, l)
    ]
in_queue_few s c (Did act ∷ log) = let l = in_queue_few s c log in let m = after_few c act (queue s c log) in omega (arith, l, m)
in_queue_few s c (_ ∷ log) = in_queue_few s c log

-- how many leave it

gone_few : (before after : List TxnNo) → gone before after ≤ length before
gone_few before after = (omega (arith, gone_is before after, prefix_len-le-length (λ n. not (is_first after n)) before))

pub queues_small : (g : Input) (old new : Log) → IsGood g → IsBetween g old new → AllByRecursion IsSmallQueue (change g old new).queues
queues_small g old new good i =
    let h = happened_at g old new in
    let told : changes (queue_between h) (queues_of g old) (queues_of g new) ≡ flat_map (λ c. queue_between h (of_class g old c) (of_class g new c)) (queue_classes g) =
    (λ j. changes (queue_between h) (all_queues g old j) (all_queues g new j)) ∙ each_change (queue_between h) (of_class g old) (of_class g new) (queue_classes g) in
    let permitted : IsPermitted g old = lawful_permitted g old good.once i.before.lawful in
    subst (AllByRecursion IsSmallQueue) (sym told)
    (each_flat IsSmallQueue (λ c. queue_between h (of_class g old c) (of_class g new c)) (queue_classes g)
    (λ j c e. each_if IsSmallQueue _ _ (
    let before = queue (setting_of g (home g.catalogue c)) c (local_of g (home g.catalogue c) old) in
    let stand = in_queue_few (setting_of g (home g.catalogue c)) c (local_of g (home g.catalogue c) old) in
    let numbers = length-map before (λ (q : Queued). txn_no q.number) in
    let few = submits_few g (home g.catalogue c) old permitted in
    let most = marks_few old i.before.within in
    omega (arith, gone_few (of_class g old c).queue (of_class g new c).queue, numbers, stand, few, most))))
