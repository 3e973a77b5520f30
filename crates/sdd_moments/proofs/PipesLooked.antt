-- A look at a pipe, at what is read of it in the world.
use Rattle.sdd_moments.proofs.All.{AllRepresent, Arrived, Bool, D, Digest, DmNo, Input, IsBetween, IsDigest, IsGood, IsSiteOf, Kept, List, LivesD, Log, Msg, None, Option, Pipe, PipeMoment, Setting, Site, Sites, Some, State, Ts, WatchedPipe, [], and_parts, ap, arith, arrived, came, class_no, dm_no, drop, eqb-true, false, filter_map, find, greatest, head_of, if◌then◌else◌, is_changed_pipe, is_empty, is_on, lawful_permitted, length, list_any, local_grows, local_of, map, messages_in, not, number_for, numbers_for, or_zero, passed_to, passed_with, pipe, pipe_after, pipe_at, pipe_before, processed_grows, refl, same_site, setting_of, source, subst, sym, time_at, time_of, time_passed, true, watched_pipe, ℕ, ◌&&◌, ◌++◌, ◌+◌, ◌-◌, ◌==◌, ◌∙◌, ◌∷◌, ◌≡◌, ◌≤◌}
use Rattle.sdd_moments.proofs.Came.{all_came, came_is, more_came, processed_is}
use Rattle.sdd_moments.proofs.Between.{joined_more}
use Rattle.sdd_moments.proofs.Reached.{neither}
use Rattle.sdd_moments.proofs.Sourced.{source_there}
use Rattle.sdd_schedule.specs.world.sites.Modules.{Represent}
use Rattle.sdd_progress.specs.obligations.pipe.Digest as digest
use Rattle.sdd_progress.specs.obligations.site_module.SiteLog as site

-- the pipe in the module

lives_at : (g : Input) (log : Log) (sites : Sites) (dm : DmNo) (d : ℕ) (k : Kept State) → dm ≡ dm_no d → AllRepresent sites g log → IsSiteOf g (D (dm_no d))
    → ((setting : Setting) (own : site.Log) → Represent sites true (D dm) setting own → LivesD k setting own)
    → LivesD k (setting_of g (D (dm_no d))) (local_of g (D (dm_no d)) log)
lives_at g log sites dm d k is all here lives =
    let f : (setting : Setting) (own : site.Log) → Represent sites true (D (dm_no d)) setting own → LivesD k setting own =
    subst (λ (x : DmNo). (setting : Setting) (own : site.Log) → Represent sites true (D x) setting own → LivesD k setting own) is lives in
    f (setting_of g (D (dm_no d))) (local_of g (D (dm_no d)) log) (all (D (dm_no d)) here)

-- what the module keeps of a pipe is of that of the log
digest_at : (g : Input) (log : Log) (d c : ℕ) (k : Kept State) → LivesD k (setting_of g (D (dm_no d))) (local_of g (D (dm_no d)) log)
    → c ≤ length g.catalogue.classes → IsDigest (pipe_at k.value.pipes c) (pipe c (local_of g (D (dm_no d)) log))
digest_at g log d c k lives few = (lives.represents_log.shows.classes c few).pipe

passed_by_head : (o : Option Msg) (processed : List Msg) → or_zero (passed_with o (greatest (map time_of processed))) ≡ time_passed o processed
passed_by_head None processed = refl
passed_by_head (Some m) processed = refl

passed_reported : (d : Digest) (p : Pipe) → IsDigest d p → or_zero (digest.passed_to d) ≡ passed_to p
passed_reported d p is =
    (λ i. or_zero (passed_with (head_of (is.unprocessed i)) (is.latest i))) ∙ passed_by_head (head_of p.unprocessed) p.processed

-- what is read of a pipe after the event
pub record IsRead (g : Input) (new : Log) (d c : ℕ) (unprocessed : ℕ) (passed : Ts) : Type 0 where
  pub left : unprocessed ≡ length (pipe c (local_of g (D (dm_no d)) new)).unprocessed
  pub passed_is : passed ≡ time_at (passed_to (pipe c (local_of g (D (dm_no d)) new)))

pub left_over : (g : Input) (old new : Log) (d c : ℕ) (w : WatchedPipe) (sites : Sites) (k : Kept State) (unprocessed : ℕ)
    → w ≡ watched_pipe g old (d, c) → AllRepresent sites g new → IsSiteOf g (D (dm_no d)) → c ≤ length g.catalogue.classes
    → ((setting : Setting) (own : site.Log) → Represent sites true (D w.dm) setting own → LivesD k setting own)
    → unprocessed ≡ length (pipe_at k.value.pipes w.class.0).unprocessed
    → unprocessed ≡ length (pipe c (local_of g (D (dm_no d)) new)).unprocessed
left_over g old new d c w sites k unprocessed is all here few lives u =
    let class : w.class ≡ class_no c = ap (λ (x : WatchedPipe). x.class) is in
    let i = digest_at g new d c k (lives_at g new sites w.dm d k (ap (λ (x : WatchedPipe). x.dm) is) all here lives) few in
    u ∙ ap (λ n. length (pipe_at k.value.pipes n.0).unprocessed) class ∙ ap length i.unprocessed

pub read_pipe : (g : Input) (old new : Log) (d c : ℕ) (w : WatchedPipe) (sites : Sites) (k : Kept State) (unprocessed : ℕ) (passed : Ts)
    → w ≡ watched_pipe g old (d, c) → AllRepresent sites g new → IsSiteOf g (D (dm_no d)) → c ≤ length g.catalogue.classes
    → ((setting : Setting) (own : site.Log) → Represent sites true (D w.dm) setting own → LivesD k setting own)
    → unprocessed ≡ length (pipe_at k.value.pipes w.class.0).unprocessed
    → passed ≡ time_at (or_zero (digest.passed_to (pipe_at k.value.pipes w.class.0))) → IsRead g new d c unprocessed passed
read_pipe g old new d c w sites k unprocessed passed is all here few lives u p =
    let class : w.class ≡ class_no c = ap (λ (x : WatchedPipe). x.class) is in
    let i = digest_at g new d c k (lives_at g new sites w.dm d k (ap (λ (x : WatchedPipe). x.dm) is) all here lives) few in
    record {
      left = left_over g old new d c w sites k unprocessed is all here few lives u;
      passed_is = p ∙ ap (λ n. time_at (or_zero (digest.passed_to (pipe_at k.value.pipes n.0)))) class
          ∙ ap time_at (passed_reported (pipe_at k.value.pipes c) (pipe c (local_of g (D (dm_no d)) new)) i);
    }

-- what is kept of it

abbrev with_unprocessed : WatchedPipe → ℕ → WatchedPipe
with_unprocessed w n = record w { unprocessed = n }

pub pipe_kept : (g : Input) (old new : Log) (d c : ℕ) (w next : WatchedPipe) (unprocessed : ℕ) (passed : Ts) → w ≡ watched_pipe g old (d, c)
    → IsRead g new d c unprocessed passed → next ≡ record w { unprocessed = unprocessed } → next ≡ watched_pipe g new (d, c)
pipe_kept g old new d c w next unprocessed passed is read e = e ∙ (λ i. with_unprocessed (is i) (read.left i))

-- what is seen of it

abbrev moment_for : WatchedPipe → List ℕ → ℕ → Ts → PipeMoment
moment_for w numbers processed passed = record { dm = w.dm; class = w.class; came = numbers; processed = processed; passed = passed }

pub seen_before : (g : Input) (old new : Log) (d c : ℕ) (w : WatchedPipe) (unprocessed : ℕ) (passed : Ts) (moment : PipeMoment) (none : List ℕ)
    → w ≡ watched_pipe g old (d, c) → IsRead g new d c unprocessed passed → none ≡ []
    → moment ≡ record { dm = w.dm; class = w.class; came = none; processed = 0; passed = passed } → moment ≡ pipe_before g old new (d, c)
seen_before g old new d c w unprocessed passed moment none is read z e = e ∙ (λ i. moment_for (is i) (z i) 0 (read.passed_is i))

-- what came is what was handed over on its link
numbers_came : (g : Input) (old new : Log) (d c : ℕ) (w : WatchedPipe) (numbers : List ℕ) (here : List Arrived) → IsGood g → IsBetween g old new
    → IsSiteOf g (D (dm_no d)) → w ≡ watched_pipe g old (d, c) → here ≡ arrived g old new → numbers ≡ numbers_for w.source (D w.dm) w.class.0 here
    → numbers ≡ drop (length (came g d c old)) (came g d c new)
numbers_came g old new d c w numbers here good b site is all e =
    e ∙ ap (λ (x : WatchedPipe). numbers_for x.source (D x.dm) x.class.0 here) is
    ∙ ap (numbers_for (source g d c) (D (dm_no d)) c) all ∙ came_is g old new d c good b (source_there g d c good site)

-- how many were processed
count_processed : (g : Input) (old new : Log) (d c : ℕ) (w : WatchedPipe) (numbers : List ℕ) (unprocessed count : ℕ) (passed : Ts)
    → IsGood g → IsBetween g old new → c ≤ length g.catalogue.classes → w ≡ watched_pipe g old (d, c) → IsRead g new d c unprocessed passed
    → numbers ≡ drop (length (came g d c old)) (came g d c new) → count ≡ (w.unprocessed + length numbers) - unprocessed
    → count ≡ length (pipe c (local_of g (D (dm_no d)) new)).processed - length (pipe c (local_of g (D (dm_no d)) old)).processed
count_processed g old new d c w numbers unprocessed count passed good b few is read came_are e =
    let o : Pipe = pipe c (local_of g (D (dm_no d)) old) in
    let n : Pipe = pipe c (local_of g (D (dm_no d)) new) in
    let a = all_came g old d c (lawful_permitted g old good.once b.before.lawful) (omega (arith, few)) in
    let z = all_came g new d c (lawful_permitted g new good.once b.after.lawful) (omega (arith, few)) in
    let m = more_came g old new d c good b in
    e ∙ ap (λ (x : WatchedPipe). (x.unprocessed + length numbers) - unprocessed) is
    ∙ (λ i. (length o.unprocessed + length (came_are i)) - read.left i)
    ∙ processed_is (length o.unprocessed) (length n.unprocessed) (length o.processed) (length n.processed) (length (came g d c old)) (length (came g d c new))
    (length (drop (length (came g d c old)) (came g d c new))) a z m

pub seen_after : (g : Input) (old new : Log) (d c : ℕ) (w : WatchedPipe) (numbers : List ℕ) (unprocessed count : ℕ) (passed : Ts) (moment : PipeMoment)
    (here : List Arrived) → IsGood g → IsBetween g old new → IsSiteOf g (D (dm_no d)) → c ≤ length g.catalogue.classes → w ≡ watched_pipe g old (d, c)
    → here ≡ arrived g old new → IsRead g new d c unprocessed passed → numbers ≡ numbers_for w.source (D w.dm) w.class.0 here
    → count ≡ (w.unprocessed + length numbers) - unprocessed
    → moment ≡ record { dm = w.dm; class = w.class; came = numbers; processed = count; passed = passed } → moment ≡ pipe_after g old new (d, c)
seen_after g old new d c w numbers unprocessed count passed moment here good b site few is all read came_are counted e =
    let news : numbers ≡ drop (length (came g d c old)) (came g d c new) = numbers_came g old new d c w numbers here good b site is all came_are in
    let many = count_processed g old new d c w numbers unprocessed count passed good b few is read news counted in
    e ∙ (λ i. moment_for (is i) (news i) (many i) (read.passed_is i))

-- a pipe to which nothing came, and of which as many messages are unprocessed, is passed over

nothing_in : {A : Type 0} (xs : List A) → is_empty xs ≡ true → xs ≡ []
nothing_in [] e = refl
nothing_in (x ∷ xs) e = let no : false ≡ true = e in cc

pub pipe_quiet : (g : Input) (old new : Log) (d c : ℕ) (w : WatchedPipe) (numbers : List ℕ) (unprocessed : ℕ) (quiet : Bool) (here : List Arrived)
    → IsGood g → IsBetween g old new → IsSiteOf g (D (dm_no d)) → c ≤ length g.catalogue.classes → w ≡ watched_pipe g old (d, c)
    → here ≡ arrived g old new → unprocessed ≡ length (pipe c (local_of g (D (dm_no d)) new)).unprocessed
    → numbers ≡ numbers_for w.source (D w.dm) w.class.0 here → quiet ≡ (is_empty numbers && w.unprocessed == unprocessed) → quiet ≡ true
    → (w ≡ watched_pipe g new (d, c)) × (is_changed_pipe g old new (d, c) ≡ false)
pipe_quiet g old new d c w numbers unprocessed quiet here good b site few is all left came_are test is_quiet =
    let both = and_parts (is_empty numbers) (w.unprocessed == unprocessed) (sym test ∙ is_quiet) in
    let empty : numbers ≡ [] = nothing_in numbers both.0 in
    let same : w.unprocessed ≡ unprocessed = eqb-true w.unprocessed unprocessed both.1 in
    let passed : Ts = time_at (passed_to (pipe c (local_of g (D (dm_no d)) new))) in
    let read : IsRead g new d c unprocessed passed = record { left = left; passed_is = refl } in
    let count : ℕ = (w.unprocessed + length numbers) - unprocessed in
    let none : count ≡ 0 = (λ i. (same i + length (empty i)) - unprocessed) ∙ omega arith in
    let seen : moment_for w numbers count passed ≡ pipe_after g old new (d, c) =
    seen_after g old new d c w numbers unprocessed count passed (moment_for w numbers count passed) here good b site few is all read came_are refl refl in (
      pipe_kept g old new d c w w unprocessed passed is read (ap (with_unprocessed w) same),
      ap (λ (m : PipeMoment). not (is_empty m.came && m.processed == 0)) (sym seen) ∙ (λ i. not (is_empty (empty i) && none i == 0)),
    )

-- a pipe whose messages are all processed, and on whose link nothing was handed over, is passed over too

processed_rises : (g : Input) (old new : Log) (d c : ℕ) → IsBetween g old new
    → length (pipe c (local_of g (D (dm_no d)) old)).processed ≤ length (pipe c (local_of g (D (dm_no d)) new)).processed
processed_rises g old new d c b =
    let at : Site = D (dm_no d) in
    let own = local_grows g at (b.more ++ b.mark ∷ []) old in
    let is : local_of g at new ≡ own.0 ++ local_of g at old = ap (local_of g at) (b.parts ∙ joined_more b.more b.mark old) ∙ own.1 in
    subst (λ l. length (pipe c (local_of g at old)).processed ≤ length (pipe c l).processed) (sym is) (processed_grows c own.0 (local_of g at old))

idle_stays : (g : Input) (old new : Log) (d c : ℕ) → IsGood g → IsBetween g old new → c ≤ length g.catalogue.classes
    → length (pipe c (local_of g (D (dm_no d)) old)).unprocessed ≡ 0 → drop (length (came g d c old)) (came g d c new) ≡ []
    → 0 ≡ length (pipe c (local_of g (D (dm_no d)) new)).unprocessed
idle_stays g old new d c good b few idle none =
    let a = all_came g old d c (lawful_permitted g old good.once b.before.lawful) (omega (arith, few)) in
    let z = all_came g new d c (lawful_permitted g new good.once b.after.lawful) (omega (arith, few)) in
    let m = more_came g old new d c good b in
    let n = ap length none in
    let r = processed_rises g old new d c b in
    omega (arith, a, z, m, n, r, idle)

not_so : (b : Bool) → not b ≡ true → b ≡ false
not_so true e = let no : false ≡ true = e in cc
not_so false e = refl

none_from : (a b : Site) (known : List Arrived) → list_any (λ (one : Arrived). same_site one.from a) known ≡ false → find (is_on a b) known ≡ None
none_from a b [] e = refl
none_from a b (one ∷ known) e =
    let none = neither (same_site one.from a) (list_any (λ (one : Arrived). same_site one.from a) known) e in
    ap (λ c. if c && same_site one.to b then Some one else find (is_on a b) known) none.0 ∙ none_from a b known none.1

pub pipe_idle : (g : Input) (old new : Log) (d c : ℕ) (w : WatchedPipe) (idle : Bool) (here : List Arrived) → IsGood g → IsBetween g old new
    → IsSiteOf g (D (dm_no d)) → c ≤ length g.catalogue.classes → w ≡ watched_pipe g old (d, c) → here ≡ arrived g old new
    → idle ≡ (w.unprocessed == 0 && not (list_any (λ (one : Arrived). same_site one.from w.source) here)) → idle ≡ true
    → (w ≡ watched_pipe g new (d, c)) × (is_changed_pipe g old new (d, c) ≡ false)
pipe_idle g old new d c w idle here good b site few is all test is_idle =
    let others : Bool = list_any (λ (one : Arrived). same_site one.from w.source) here in
    let both = and_parts (w.unprocessed == 0) (not others) (sym test ∙ is_idle) in
    let done : w.unprocessed ≡ 0 = eqb-true w.unprocessed 0 both.0 in
    let numbers : List ℕ = numbers_for w.source (D w.dm) w.class.0 here in
    let empty : numbers ≡ [] =
    ap (λ o. filter_map (number_for w.class.0) (messages_in o)) (none_from w.source (D w.dm) here (not_so others both.1)) in
    let came_are = numbers_came g old new d c w numbers here good b site is all refl in
    let left = idle_stays g old new d c good b few (ap (λ (x : WatchedPipe). x.unprocessed) (sym is) ∙ done) (sym came_are ∙ empty) in
    pipe_quiet g old new d c w numbers 0 true here good b site few is all left refl (sym (λ i. is_empty (empty i) && done i == 0)) refl
