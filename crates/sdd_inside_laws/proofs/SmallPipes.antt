-- The numbers of the messages that come to a pipe are at most what a link may carry, and the times that its class passes are
-- those of messages, which stay low.
use Rattle.std.proofs.Common.{ap, arith, subst, sym}
use Rattle.std.specs.List.{AllByRecursion, cons_option, filter_map}
use Rattle.std.specs.Prelude.{ℕ, zero, suc, ◌+◌, ◌<◌, ◌^◌, ◌≡◌, ◌≤◌, max, Bool, true, false, if◌then◌else◌, List, [], ◌∷◌, ◌++◌, filter, fold, length, map, slice_get, take, Option, Some, None, refl}
use Rattle.sdd_inside.specs.Differences.{pipe_between}
use Rattle.sdd_inside_laws.proofs.OfCatalogue.{each_flat, each_if}
use Rattle.sdd_inside_laws.proofs.PacketsRead.{each_change}
use Rattle.sdd_inside_laws.proofs.PipesThere.{pipe_there}
use Rattle.sdd_inside_laws.proofs.SmallLinks.{each_dropped}
use Rattle.sdd_inside_laws.proofs.SmallPlaces.{HasFewModules, site_small}
use Rattle.sdd_inside_read.specs.Small.{IsSmall, IsSmallPipe}
use Rattle.sdd_app_inside.proofs.watch.obligations.Early.{times_below}
use Rattle.sdd_app_inside.proofs.watch.obligations.Limits.{sent_few}
use Rattle.sdd_app_inside.proofs.watch.obligations.invariants.InPipe.{in_pipe}
use Rattle.sdd_app_inside.proofs.watch.obligations.logs.NewMarks.{lawful_permitted}
use Rattle.sdd_app_inside.specs.watch.obligations.All.{D, Input, IsGood, IsLawful, IsPermitted, Log, MAX_LINK_MESSAGES, Msg, Null, Read, Site, Write, dm_no, goes_through, handed, home, local_of, pipe, puts_to, sent, time_of}
use Rattle.sdd_app_inside.specs.watch.obligations.Bounds.{IsSmall as HasFewOfAll}
use Rattle.sdd_app_inside.specs.watch.obligations.Heights.{times_of}
use Rattle.sdd_app_inside.specs.watch.obligations.base.Words.{head_of}
use Rattle.sdd_app_inside.specs.watch.obligations.dm.Due.{or_zero}
use Rattle.sdd_app_inside.specs.watch.obligations.invariants.All.{AllLt, all_of}
use Rattle.sdd_app_inside.specs.watch.obligations.logs.Lawful.{IsWithin}
use Rattle.sdd_app_inside.specs.watch.obligations.net.Links.{numbered}
use Rattle.sdd_app_inside.specs.watch.obligations.pipe.Pipe.{greatest, raised}
use Rattle.sdd_app_inside.proofs.watch.moments.Came.{all_came}
use Rattle.sdd_app_inside.proofs.watch.moments.Numbered.{take_numbered}
use Rattle.sdd_app_inside.specs.watch.Happens.{happened_at}
use Rattle.sdd_app_inside.specs.watch.moments.Moments.{all_pipes, came, number_through, pipe_moment, source, time_passed}
use Rattle.sdd_app_inside.specs.watch.Text.{change}
use Rattle.sdd_app_inside.specs.watch.moments.Changes.{IsBetween}

-- numbers of messages

numbers_few : (c k most : ℕ) (ms : List Msg) → k + length ms ≤ most → most < 2 ^ 64 → AllByRecursion IsSmall (filter_map (number_through c) (numbered k ms))
numbers_few c k most [] l few = tt
numbers_few c k most (m ∷ ms) l few =
    let rest = numbers_few c (k + 1) most ms (omega (arith, l)) few in
    elim (goes_through c m) as (λ b. AllByRecursion IsSmall (cons_option (if b then Some (k + 1) else None) (filter_map (number_through c) (numbered (k + 1) ms)))) [
      | true ↦ (omega (arith, l, few), rest)
      | false ↦ rest
    ]

taken_few : {A : Type 0} (n : ℕ) (xs : List A) → length (take n xs) ≤ length xs
taken_few zero xs = omega arith
taken_few (suc n) [] = omega arith
taken_few (suc n) (x ∷ xs) = omega (arith, taken_few n xs)

came_small : (g : Input) (d c : ℕ) (log : Log) → length (sent (source g d c) (D (dm_no d)) log) ≤ MAX_LINK_MESSAGES → AllByRecursion IsSmall (came g d c log)
came_small g d c log few =
    let n : ℕ = handed (source g d c) (D (dm_no d)) log in
    let ms : List Msg = sent (source g d c) (D (dm_no d)) log in
    subst (λ ps. AllByRecursion IsSmall (filter_map (number_through c) ps)) (sym (take_numbered n 0 ms))
    (numbers_few c 0 MAX_LINK_MESSAGES (take n ms) (omega (arith, taken_few n ms, few)) (omega arith))

mapped_few : {A B : Type 0} (f : A → Option B) (xs : List A) → length (filter_map f xs) ≤ length xs
mapped_few f [] = omega arith
mapped_few f (x ∷ xs) =
    let l = mapped_few f xs in
    elim (f x) as (λ o. length (cons_option o (filter_map f xs)) ≤ suc (length xs)) [ None ↦ omega (arith, l) | Some y ↦ omega (arith, l) ]

as_many_numbered : (k : ℕ) (ms : List Msg) → length (numbered k ms) ≡ length ms
as_many_numbered k [] = refl
as_many_numbered k (m ∷ ms) = ap suc (as_many_numbered (k + 1) ms)

came_few : (g : Input) (d c : ℕ) (log : Log) → length (sent (source g d c) (D (dm_no d)) log) ≤ MAX_LINK_MESSAGES → length (came g d c log) ≤ MAX_LINK_MESSAGES
came_few g d c log few =
    let n : ℕ = handed (source g d c) (D (dm_no d)) log in
    let ms : List Msg = sent (source g d c) (D (dm_no d)) log in
    let through = mapped_few (number_through c) (take n (numbered 0 ms)) in
    let front = taken_few n (numbered 0 ms) in
    omega (arith, through, front, as_many_numbered 0 ms, few)

-- times of messages

abbrev IsEarly : Msg → Type 0
IsEarly m = time_of m < 2 ^ 60

early : (m : Msg) → AllLt (2 ^ 60) (times_of m) → IsEarly m
early (Read ts class txn attempt conds uses) h = h.0
early (Write ts class txn changes) h = h.0
early (Null class time) h = h.0
early _ h = omega arith

all_early : (p : Msg → Bool) (ms : List Msg) → ((k : ℕ) (m : Msg) → slice_get ms k ≡ Some m → AllLt (2 ^ 60) (times_of m)) → AllByRecursion IsEarly (filter p ms)
all_early p [] h = tt
all_early p (m ∷ ms) h =
    let rest = all_early p ms (λ k x e. h (suc k) x e) in
    elim (p m) as (λ b. AllByRecursion IsEarly (if b then m ∷ filter p ms else filter p ms)) [ true ↦ (early m (h 0 m refl), rest) | false ↦ rest ]

front_part : {A : Type 0} (P : A → Type 0) (xs ys : List A) → AllByRecursion P (xs ++ ys) → AllByRecursion P xs
front_part P [] ys h = tt
front_part P (x ∷ xs) ys h = (h.0, front_part P xs ys h.1)

part_behind : {A : Type 0} (P : A → Type 0) (xs ys : List A) → AllByRecursion P (xs ++ ys) → AllByRecursion P ys
part_behind P [] ys h = h
part_behind P (x ∷ xs) ys h = part_behind P xs ys h.1

abbrev IsEarlyTime : Option ℕ → Type 0
IsEarlyTime None = Unit {0}
IsEarlyTime (Some t) = t < 2 ^ 60

greatest_early : (o : Option ℕ) (ms : List Msg) → IsEarlyTime o → AllByRecursion IsEarly ms → IsEarlyTime (fold raised o (map time_of ms))
greatest_early o [] h k = h
greatest_early None (m ∷ ms) h k = greatest_early (Some (time_of m)) ms k.0 k.1
greatest_early (Some t) (m ∷ ms) h k = greatest_early (Some (max t (time_of m))) ms (omega (arith, h, k.0)) k.1

or_zero_early : (o : Option ℕ) → IsEarlyTime o → or_zero o < 2 ^ 60
or_zero_early None h = omega arith
or_zero_early (Some t) h = h

passed_early : (processed unprocessed : List Msg) → AllByRecursion IsEarly (processed ++ unprocessed) → time_passed (head_of unprocessed) processed < 2 ^ 60
passed_early processed [] h =
    or_zero_early (greatest (map time_of processed)) (greatest_early None processed tt (front_part IsEarly processed [] h))
passed_early processed (m ∷ rest) h = (part_behind IsEarly processed (m ∷ rest) h).0

pipe_early : (g : Input) (d c : ℕ) (log : Log) → IsGood g → HasFewOfAll g → IsLawful g log → IsWithin log
    → AllByRecursion IsEarly (all_of (pipe c (local_of g (D (dm_no d)) log)))
pipe_early g d c log good few lawful within =
    let at : Site = home g.catalogue c in
    let permitted : IsPermitted g log = lawful_permitted g log good.once lawful in
    let in_it = in_pipe g c (dm_no d) log permitted in
    let puts = all_early (goes_through c) (puts_to (D (dm_no d)) (local_of g at log)) (λ k m e. times_below g log at (D (dm_no d)) k m few lawful within e) in
    front_part IsEarly (all_of (pipe c (local_of g (D (dm_no d)) log))) in_it.0 (subst (AllByRecursion IsEarly) in_it.1 puts)

-- what is told of the pipes

pub pipes_small : (g : Input) (old new : Log) → IsGood g → HasFewModules g → HasFewOfAll g → IsBetween g old new → AllByRecursion IsSmallPipe (change g old new).pipes
pipes_small g old new good few all i =
    let h = happened_at g old new in
    let permitted : IsPermitted g new = lawful_permitted g new good.once i.after.lawful in
    subst (AllByRecursion IsSmallPipe) (sym (each_change (pipe_between h) (pipe_moment g old) (pipe_moment g new) (all_pipes g)))
    (each_flat IsSmallPipe (λ p. pipe_between h (pipe_moment g old p) (pipe_moment g new p)) (all_pipes g)
    (λ j p e. each_if IsSmallPipe _ _ (
    let there = pipe_there g j p e in
    let local = pipe p.1 (local_of g (D (dm_no p.0)) new) in
    let sent_most = sent_few g new i.after.within (source g p.0 p.1) (D (dm_no p.0)) in
    let count = came_few g p.0 p.1 new sent_most in
    let parts = all_came g new p.0 p.1 permitted (omega (arith, there.class)) in
    let passed = passed_early local.processed local.unprocessed (pipe_early g p.0 p.1 new good all i.after.lawful i.after.within) in (
      site_small g (D (dm_no p.0)) few there.site,
      each_dropped IsSmall (length (came g p.0 p.1 old)) (came g p.0 p.1 new) (came_small g p.0 p.1 new sent_most),
      omega (arith, parts, count),
      omega (arith, passed),
    ))))
