-- Where no transaction enters a queue or leaves one, all queues stay as they are, and those of a site that doesn't act stay anyway.
use Rattle.sdd_moments.proofs.All.{Act, All, All-get_or, All-head, All-tail, AreAside, Bool, IsGood, IsMark, IsSiteOf, Reach, all_sites, flat_map-append, length-map, looks, may_act, queues_from, queues_if, ClassNo, Commit, Did, Does, Entry, Hand, Happened, History, Input, IsBetween, List, Log, Mark, Notes, QueueDelta, QueueMoment, Queued, Rec, Records, Redeclares, Sends, Setting, Site, Some, Start, Submitted, T, D, U, Tick, Ticked, TxnNo, [], ap, append-nil, append_assoc, arith, changes, class_no, cond, drop, drop-append-le, drop_all, eq-eqb, false, flat_map, have_moved, history, if◌then◌else◌, is_empty, is_of_queue, length, list_any, list_any-append, local_of, map, marks, numbers_to, position, position_from, position_from-zero, queue_between, queue_in_log, queue_moment, queues_at, queues_of, refl, runs, same_site, setting_of, subst, sym, tried, true, txn_of, unwrap_or, ℕ, ◌&&◌, ◌++◌, ◌+◌, ◌-◌, ◌==◌, ◌||◌, ◌∙◌, ◌∷◌, ◌≡◌, ◌<◌, ◌≤◌, get_or}
use Rattle.sdd_progress.specs.obligations.All.{Handed}
use Rattle.sdd_moments.proofs.Between.{joined_more}
use Rattle.sdd_moments.proofs.Flights.{length_joined}
use Rattle.sdd_moments.proofs.Recorded.{ends}
use Rattle.sdd_moments.proofs.SitesThere.{sites_there}
use Rattle.sdd_moments.proofs.Reached.{aside_log, neither, reach_after}
use Rattle.sdd_inside.specs.Differences.{came, gone, is_first}
use Rattle.sdd_progress.specs.obligations.site_module.SiteLog as site

-- an entry by which a transaction enters a queue or leaves one

abbrev moves : Entry → Bool
moves (Submitted at n) = true
moves (Does at (Records k (Commit txn attempt reply changes values rows) sends)) = true
moves _ = false

abbrev NoneMoves : Log → Type 0
NoneMoves [] = Unit {0}
NoneMoves (e ∷ log) = (moves e ≡ false) × NoneMoves log

-- the records tell whether there is one

one_record : (at : Site) (k n : ℕ) (r : Rec) (sends : List (Site × _)) → (is_of_queue (n, r) || false) ≡ false → moves (Does at (Records k r sends)) ≡ false
one_record at k n (Commit txn attempt reply changes values rows) sends e = e
one_record at k n _ sends e = refl

act_moves : (at : Site) (n : ℕ) (act : Act) → list_any is_of_queue (map (λ r. (n, r)) (site.records_of_act act)) ≡ false → moves (Does at act) ≡ false
act_moves at n (Records k r sends) e = one_record at k n r sends e
act_moves at n (Sends to m hand) e = refl

more_records : (more old : Log) → length (history old) ≤ length (history (more ++ old))
more_records more old =
    let e = ends more old in
    let n = ap length e.1 in
    let both = length_joined (history old) e.0 in omega (arith, n, both)

further_records : (more old : Log) (rs : History) → drop (length (history old)) (history (more ++ old) ++ rs) ≡ drop (length (history old)) (history (more ++ old)) ++ rs
further_records more old rs = drop-append-le (length (history old)) (history (more ++ old)) rs (more_records more old)

split_records : (more old : Log) (rs : History) → list_any is_of_queue (drop (length (history old)) (history (more ++ old) ++ rs)) ≡ false
    → (list_any is_of_queue (drop (length (history old)) (history (more ++ old))) ≡ false) × (list_any is_of_queue rs ≡ false)
split_records more old rs e =
    let first : History = drop (length (history old)) (history (more ++ old)) in
    neither (list_any is_of_queue first) (list_any is_of_queue rs)
    (sym (list_any-append is_of_queue first rs) ∙ sym (ap (list_any is_of_queue) (further_records more old rs)) ∙ e)

none_moves : (more old : Log) → list_any is_of_queue (drop (length (history old)) (history (more ++ old))) ≡ false → NoneMoves more
none_moves [] old e = tt
none_moves (Submitted at n ∷ more) old e =
    let p = split_records more old _ e in (p.1, none_moves more old p.0)
none_moves (Notes ∷ more) old e = let p = split_records more old _ e in (refl, none_moves more old p.0)
none_moves (Does at act ∷ more) old e =
    let p = split_records more old _ e in (act_moves at (marks (more ++ old)) act p.1, none_moves more old p.0)
none_moves (_ ∷ more) old e = (refl, none_moves more old e)

-- the numbers in a queue

abbrev numbers : Setting → ℕ → site.Log → List TxnNo
numbers s c log = map txn_of (queue_in_log s c log)

tried_number : (n : ℕ) (q : Queued) → txn_of (tried n q) ≡ txn_of q
tried_number n q = grind arith

tried_numbers : (n : ℕ) (qs : List Queued) → map txn_of (map (tried n) qs) ≡ map txn_of qs
tried_numbers n [] = refl
tried_numbers n (q ∷ qs) = (λ i. tried_number n q i ∷ tried_numbers n qs i)

start_numbers : (b : Bool) (n : ℕ) (qs : List Queued) → map txn_of (if b then map (tried n) qs else qs) ≡ map txn_of qs
start_numbers true n qs = tried_numbers n qs
start_numbers false n qs = refl

numbers_by_act : (s : Setting) (c : ℕ) (at : Site) (act : Act) (log : site.Log) → moves (Does at act) ≡ false → numbers s c (Did act ∷ log) ≡ numbers s c log
numbers_by_act s c at (Records k (Start txn attempt class ts p2 uses) sends) log e = start_numbers (k == c) txn.0 (queue_in_log s c log)
numbers_by_act s c at (Records k (Commit txn attempt reply changes values rows) sends) log e = let no : true ≡ false = e in cc
numbers_by_act s c at _ log e = refl

numbers_if : (s : Setting) (c : ℕ) (b : Bool) (e : site.Entry) (log : site.Log) → numbers s c (e ∷ log) ≡ numbers s c log
    → numbers s c (if b then e ∷ log else log) ≡ numbers s c log
numbers_if s c true e log h = h
numbers_if s c false e log h = refl

numbers_stay : (g : Input) (s : Setting) (at : Site) (c : ℕ) (more old : Log) → NoneMoves more
    → numbers s c (local_of g at (more ++ old)) ≡ numbers s c (local_of g at old)
numbers_stay g s at c [] old h = refl
numbers_stay g s at c (Submitted to n ∷ more) old h = let no : true ≡ false = h.0 in cc
numbers_stay g s at c (Does by act ∷ more) old h =
    numbers_if s c (same_site at by) (Did act) (local_of g at (more ++ old)) (numbers_by_act s c by act (local_of g at (more ++ old)) h.0)
    ∙ numbers_stay g s at c more old h.1
numbers_stay g s at c (Hand from to n m ∷ more) old h =
    numbers_if s c (same_site at to) (Handed from m) (local_of g at (more ++ old)) refl ∙ numbers_stay g s at c more old h.1
numbers_stay g s at c (Mark (Tick t n) ∷ more) old h =
    numbers_if s c (same_site at (T t)) (Ticked n) (local_of g at (more ++ old)) refl ∙ numbers_stay g s at c more old h.1
numbers_stay g s U c (Redeclares t ∷ more) old h = numbers_stay g s U c more old h.1
numbers_stay g s (T n) c (Redeclares t ∷ more) old h = numbers_stay g s (T n) c more old h.1
numbers_stay g s (D d) c (Redeclares t ∷ more) old h = numbers_stay g s (D d) c more old h.1
numbers_stay g s at c (_ ∷ more) old h = numbers_stay g s at c more old h.1

-- all queues

abbrev queue_with : ℕ → List TxnNo → QueueMoment
queue_with c ns = record { class = class_no c; queue = ns }

queue_stays : (g : Input) (at : Site) (c : ℕ) (more old : Log) → NoneMoves more → queue_moment g (more ++ old) at c ≡ queue_moment g old at c
queue_stays g at c more old h = ap (queue_with c) (numbers_stay g (setting_of g at) at c more old h)

each_same : {A B : Type 0} (f h : A → B) (xs : List A) → ((x : A) → f x ≡ h x) → map f xs ≡ map h xs
each_same f h [] e = refl
each_same f h (x ∷ xs) e = (λ i. e x i ∷ each_same f h xs e i)

queues_stay : (g : Input) (at : Site) (more old : Log) → NoneMoves more → queues_from g (more ++ old) at ≡ queues_from g old at
queues_stay g U more old h = ap (λ q. q ∷ []) (queue_stays g U 0 more old h)
queues_stay g (T t) more old h =
    each_same (queue_moment g (more ++ old) (T t)) (queue_moment g old (T t)) (runs (setting_of g (T t))) (λ c. queue_stays g (T t) c more old h)
queues_stay g (D d) more old h = refl

same_queues : (g : Input) (old new : Log) (at : Site) → IsBetween g old new → have_moved old new ≡ false → queues_from g new at ≡ queues_from g old at
same_queues g old new at b e =
    let is : new ≡ (b.more ++ b.mark ∷ []) ++ old = b.parts ∙ joined_more b.more b.mark old in
    ap (λ log. queues_from g log at) is
    ∙ queues_stay g at (b.more ++ b.mark ∷ []) old
    (none_moves (b.more ++ b.mark ∷ []) old (ap (λ l. list_any is_of_queue (drop (length (history old)) (history l))) (sym is) ∙ e))

-- at a site that doesn't act

same_log : (g : Input) (at : Site) (old new : Log) → local_of g at new ≡ local_of g at old → queues_from g new at ≡ queues_from g old at
same_log g U old new e = ap (λ l. queue_with 0 (numbers (setting_of g U) 0 l) ∷ []) e
same_log g (T t) old new e = ap (λ l. map (λ c. queue_with c (numbers (setting_of g (T t)) c l)) (runs (setting_of g (T t)))) e
same_log g (D d) old new e = refl

marks_move_none : (mark : Entry) → IsMark mark → NoneMoves (mark ∷ [])
marks_move_none (Mark e) h = (refl, tt)
marks_move_none (Redeclares t) h = (refl, tt)
marks_move_none _ h = absurd h

aside_queues : (g : Input) (old new : Log) (at : Site) → IsGood g → IsBetween g old new → IsSiteOf g at → may_act (reach_after g old new new) at ≡ false
    → queues_from g new at ≡ queues_from g old at
aside_queues g old new at good b here e =
    same_log g at (b.mark ∷ old) new (aside_log g old new good b at here e) ∙ queues_stay g at (b.mark ∷ []) old (marks_move_none b.mark b.is_mark)

pub are_aside : (g : Input) (old new : Log) (moved : Bool) (reach : Reach) → IsGood g → IsBetween g old new → moved ≡ have_moved old new
    → reach ≡ reach_after g old new new → AreAside g old new moved reach
are_aside g old new true reach good b moves is =
    λ at here e. aside_queues g old new at good b here (ap (λ r. may_act r at) (sym is) ∙ e)
are_aside g old new false reach good b moves is = λ at here e. same_queues g old new at b (sym moves)

-- of which nothing is reported then

first_found : (x : TxnNo) (xs : List TxnNo) → gone (x ∷ xs) (x ∷ xs) ≡ 0
first_found x xs =
    let at : position (is_first (x ∷ xs)) (x ∷ xs) ≡ Some 0 =
    position_from-zero (is_first (x ∷ xs)) (x ∷ xs)
    ∙ ap (λ b. cond b (Some 0) (position_from (is_first (x ∷ xs)) (0 + 1) xs)) (eq-eqb x.0 x.0 refl) in
    ap (λ o. unwrap_or o (length (x ∷ xs))) at

none_gone : (xs : List TxnNo) → gone xs xs ≡ 0
none_gone [] = refl
none_gone (x ∷ xs) = first_found x xs

none_came : (xs : List TxnNo) → came xs xs ≡ []
none_came xs = ap (λ n. drop (length xs - n) xs) (none_gone xs) ∙ drop_all (length xs - 0) xs (omega arith)

abbrev queue_report : ClassNo → List TxnNo → ℕ → List QueueDelta
queue_report class came gone = if is_empty came && gone == 0 then [] else (record { class = class; came = came; gone = gone } ∷ [])

queue_quiet : (h : Happened) (q : QueueMoment) → queue_between h q q ≡ []
queue_quiet h q = (λ i. queue_report q.class (none_came q.queue i) (none_gone q.queue i))

queues_quiet : (h : Happened) (qs : List QueueMoment) → changes (queue_between h) qs qs ≡ []
queues_quiet h [] = refl
queues_quiet h (q ∷ qs) = (λ i. queue_quiet h q i ++ queues_quiet h qs i)

-- so those of the sites that aren't looked at may be left out

changes_join : {A B : Type 0} (f : A → A → List B) (xs ys us vs : List A) → length xs ≡ length us
    → changes f (xs ++ ys) (us ++ vs) ≡ changes f xs us ++ changes f ys vs
changes_join f [] ys [] vs e = refl
changes_join f [] ys (u ∷ us) vs e = absurd (omega (arith, e))
changes_join f (x ∷ xs) ys [] vs e = absurd (omega (arith, e))
changes_join f (x ∷ xs) ys (u ∷ us) vs e =
    ap (λ r. f x u ++ r) (changes_join f xs ys us vs (omega (arith, e))) ∙ sym (append_assoc (f x u) (changes f xs us) (changes f ys vs))

as_many_queues : (g : Input) (old new : Log) (at : Site) → length (queues_from g old at) ≡ length (queues_from g new at)
as_many_queues g old new U = refl
as_many_queues g old new (T t) =
    length-map (runs (setting_of g (T t))) (queue_moment g old (T t)) ∙ sym (length-map (runs (setting_of g (T t))) (queue_moment g new (T t)))
as_many_queues g old new (D d) = refl

one_left_out : (g : Input) (old new : Log) (h : Happened) (at : Site) (b : Bool) (xs ys us vs : List QueueMoment)
    → (b ≡ false → queues_from g new at ≡ queues_from g old at) → changes (queue_between h) xs us ≡ changes (queue_between h) ys vs
    → changes (queue_between h) ((if b then queues_from g old at else []) ++ xs) ((if b then queues_from g new at else []) ++ us)
    ≡ changes (queue_between h) (queues_from g old at ++ ys) (queues_from g new at ++ vs)
one_left_out g old new h at true xs ys us vs same e =
    let f = queue_between h in
    changes_join f (queues_from g old at) xs (queues_from g new at) us (as_many_queues g old new at)
    ∙ ap (λ r. changes f (queues_from g old at) (queues_from g new at) ++ r) e
    ∙ sym (changes_join f (queues_from g old at) ys (queues_from g new at) vs (as_many_queues g old new at))
one_left_out g old new h at false xs ys us vs same e =
    let f = queue_between h in
    e ∙ ap (λ r. r ++ changes f ys vs) (sym (ap (changes f (queues_from g old at)) (same refl) ∙ queues_quiet h (queues_from g old at)))
    ∙ sym (changes_join f (queues_from g old at) ys (queues_from g new at) vs (as_many_queues g old new at))

some_left_out : (g : Input) (old new : Log) (h : Happened) (moved : Bool) (reach : Reach) → AreAside g old new moved reach → (sites : List Site)
    → All (IsSiteOf g) sites
    → changes (queue_between h) (flat_map (queues_if moved reach g old) sites) (flat_map (queues_if moved reach g new) sites)
    ≡ changes (queue_between h) (flat_map (queues_from g old) sites) (flat_map (queues_from g new) sites)
some_left_out g old new h moved reach aside [] here = refl
some_left_out g old new h moved reach aside (at ∷ sites) here =
    one_left_out g old new h at (looks moved reach at) (flat_map (queues_if moved reach g old) sites) (flat_map (queues_from g old) sites)
    (flat_map (queues_if moved reach g new) sites) (flat_map (queues_from g new) sites) (aside at (All-head (IsSiteOf g) at sites here))
    (some_left_out g old new h moved reach aside sites (All-tail (IsSiteOf g) at sites here))

-- by site they are all queues

of_txn_modules : (g : Input) (log : Log) (ts : List ℕ) → flat_map (queues_from g log) (map (λ n. T (record { 0 = n })) ts) ≡ flat_map (queues_at g log) ts
of_txn_modules g log [] = refl
of_txn_modules g log (t ∷ ts) = ap (λ qs. queues_at g log t ++ qs) (of_txn_modules g log ts)

of_data_modules : (g : Input) (log : Log) (ds : List ℕ) → flat_map (queues_from g log) (map (λ n. D (record { 0 = n })) ds) ≡ []
of_data_modules g log [] = refl
of_data_modules g log (d ∷ ds) = of_data_modules g log ds

by_site : (g : Input) (log : Log) → flat_map (queues_from g log) (all_sites g) ≡ queues_of g log
by_site g log =
    let ts : List Site = map (λ n. T (record { 0 = n })) (numbers_to g.catalogue.tms) in
    let ds : List Site = map (λ n. D (record { 0 = n })) (numbers_to g.catalogue.dms) in
    ap (λ qs. queue_moment g log U 0 ∷ qs)
    (flat_map-append (queues_from g log) ts ds
    ∙ (λ i. of_txn_modules g log (numbers_to g.catalogue.tms) i ++ of_data_modules g log (numbers_to g.catalogue.dms) i)
    ∙ append-nil (flat_map (queues_at g log) (numbers_to g.catalogue.tms)))

pub left_out : (g : Input) (old new : Log) (h : Happened) (moved : Bool) (reach : Reach) → AreAside g old new moved reach
    → changes (queue_between h) (flat_map (queues_if moved reach g old) (all_sites g)) (flat_map (queues_if moved reach g new) (all_sites g))
    ≡ changes (queue_between h) (queues_of g old) (queues_of g new)
left_out g old new h moved reach aside =
    some_left_out g old new h moved reach aside (all_sites g) (sites_there g)
    ∙ (λ i. changes (queue_between h) (by_site g old i) (by_site g new i))

-- a site at a place among them
pub site_at_place : (g : Input) (sites : List Site) (i : ℕ) (d : Site) → sites ≡ all_sites g → i < length sites → IsSiteOf g (get_or sites i d)
site_at_place g sites i d e few = All-get_or (IsSiteOf g) sites i d few (subst (λ (xs : List Site). All (IsSiteOf g) xs) (sym e) (sites_there g))
