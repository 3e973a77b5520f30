-- The split, said of records: a transaction of a condition's class that changes one of its fragments with a copy there is
-- applied before the Answer exactly where its timestamp is below the condition's time.
use Rattle.sdd_invariants.proofs.All.{Act, AllGt, Answer, Attempt, Bases, Change, Cond, D, Did, DmNo, Does, FragNo, Input, IsAnswerWith, IsApplied, IsOf, IsOfWrite, IsPermitted, IsStrict, List, Msg, None, Option, Rec, Records, Site, Some, Ts, Write, [], ap, append_assoc, arith, changes_to, class_in, class_no, class_puts, commit_act, cond, cons_option, false, filter_map, goes_through, home, if◌then◌else◌, length, local_of, number_of, pipe, pipe_at, place_within, puts_to, read_at, refl, results, same_site, setting_of, slice_get, subst, suc, sym, time_at, touches, true, txn_no, write_at, zero, ℕ, ◌++◌, ◌<◌, ◌∙◌, ◌∷◌, ◌≡◌, ◌≢◌, ◌≤◌}
use Rattle.sdd_invariants.proofs.Origins.{commit_writes, is_put}
use Rattle.sdd_invariants.proofs.ReadsPut.{read_once}
use Rattle.sdd_invariants.proofs.WritesPut.{written}
use Rattle.sdd_invariants.proofs.Processed.{matched, zip_at, zip_back}
use Rattle.sdd_invariants.proofs.InPipe.{in_pipe_later}
use Rattle.sdd_invariants.proofs.Split.{processed_stays, processed_there, split}
use Rattle.sdd_invariants.proofs.Bools.{same_number}
use Rattle.sdd_invariants.proofs.Sites.{site_self}
use Rattle.sdd_invariants.proofs.Fair.{d_fair, home_fair}
use Rattle.sdd_invariants.proofs.Made.{local_at, permitted_before}
use Rattle.sdd_log.specs.All.{Log}
use Rattle.sdd_log.specs.site_module.SiteLog as site

pub in_class : (c : ℕ) (ms : List Msg) (k : ℕ) (m : Msg) → slice_get ms k ≡ Some m → goes_through c m ≡ true → (j : ℕ) × (slice_get (class_in c ms) j ≡ Some m)
in_class c [] k m e f = cc
in_class c (x ∷ ms) zero m e f = let p : x ≡ m = cc in let q : goes_through c x ≡ true = ap (goes_through c) p ∙ f in (0, rw q e)
in_class c (x ∷ ms) (suc k) m e f =
    let i = in_class c ms k m e f in
    elim (goes_through c x) as (λ b. (j : ℕ) × (slice_get (cond b (x ∷ class_in c ms) (class_in c ms)) j ≡ Some m)) [ true ↦ (suc i.0, i.1) | false ↦ i ]

-- one message of a kind for each key, where keys rise

gt_key : (f : Msg → Option ℕ) (k : ℕ) (ms : List Msg) (b : ℕ) (y : Msg) (t : ℕ) → AllGt k (filter_map f ms) → slice_get ms b ≡ Some y → f y ≡ Some t → k < t
gt_key f k [] b y t h e p = cc
gt_key f k (m ∷ ms) zero y t h e p = let q : m ≡ y = cc in (subst (λ o. AllGt k (cons_option o (filter_map f ms)) → k < t) (sym (ap f q ∙ p)) (λ z. z.0)) h
gt_key f k (m ∷ ms) (suc b) y t h e p =
    elim (f m) as (λ o. AllGt k (cons_option o (filter_map f ms)) → k < t) [ None ↦ λ z. gt_key f k ms b y t z e p | Some u ↦ λ z. gt_key f k ms b y t z.1 e p ] h

pub one_of_key : (f : Msg → Option ℕ) (ms : List Msg) (a b : ℕ) (x y : Msg) (t : ℕ) → IsStrict (filter_map f ms)
    → slice_get ms a ≡ Some x → slice_get ms b ≡ Some y → f x ≡ Some t → f y ≡ Some t → a ≡ b
one_of_key f [] a b x y t h e i p q = cc
one_of_key f (m ∷ ms) zero zero x y t h e i p q = refl
one_of_key f (m ∷ ms) zero (suc b) x y t h e i p q =
    let s : m ≡ x = cc in let l = gt_key f t ms b y t
    ((subst (λ o. IsStrict (cons_option o (filter_map f ms)) → AllGt t (filter_map f ms)) (sym (ap f s ∙ p))
    (λ z. z.0)) h) i q in absurd (omega arith)
one_of_key f (m ∷ ms) (suc a) zero x y t h e i p q =
    let s : m ≡ y = cc in let l = gt_key f t ms a x t
    ((subst (λ o. IsStrict (cons_option o (filter_map f ms)) → AllGt t (filter_map f ms)) (sym (ap f s ∙ q))
    (λ z. z.0)) h) e p in absurd (omega arith)
one_of_key f (m ∷ ms) (suc a) (suc b) x y t h e i p q =
    ap suc (one_of_key f ms a b x y t (elim (f m) as (λ o. IsStrict (cons_option o (filter_map f ms))
    → IsStrict (filter_map f ms)) [ None ↦ λ z. z | Some u ↦ λ z. z.1 ] h) e i p q)

pub key_rises : (f : Msg → Option ℕ) (ms : List Msg) (a b : ℕ) (x y : Msg) (t u : ℕ) → IsStrict (filter_map f ms)
    → slice_get ms a ≡ Some x → slice_get ms b ≡ Some y → f x ≡ Some t → f y ≡ Some u → a < b → t < u
key_rises f (m ∷ ms) zero (suc b) x y t u h e i p q l = let s : m ≡ x = cc in
    gt_key f t ms b y u ((subst (λ o. IsStrict (cons_option o (filter_map f ms)) → AllGt t (filter_map f ms))
    (sym (ap f s ∙ p)) (λ z. z.0)) h) i q
key_rises f (m ∷ ms) (suc a) (suc b) x y t u h e i p q l =
    key_rises f ms a b x y t u (elim (f m) as (λ o. IsStrict (cons_option o (filter_map f ms))
    → IsStrict (filter_map f ms)) [ None ↦ λ z. z | Some u ↦ λ z. z.1 ] h) e i p q (omega arith)
key_rises f ms a b x y t u h e i p q l = grind arith

-- what has a key of a class goes through its pipe

same_keys : (c : ℕ) (f : Msg → Option ℕ) (ms : List Msg) → ((m : Msg) → goes_through c m ≡ false → f m ≡ None) → filter_map f (class_in c ms) ≡ filter_map f ms
same_keys c f [] k = refl
same_keys c f (x ∷ ms) k = grind (arith, cond, same_keys c f ms k)

no_write : (c : ℕ) (m : Msg) → goes_through c m ≡ false → write_at c m ≡ None
no_write c m e = grind arith

no_read : (c : ℕ) (m : Msg) → goes_through c m ≡ false → read_at c m ≡ None
no_read c m e = grind arith

pub writes_strict : (g : Input) (c : ℕ) (d : DmNo) (log : Log) → IsPermitted g log → number_of (home g.catalogue c) ≤ 63
    → IsStrict (filter_map (write_at c) (class_puts g c d log))
writes_strict g c d log h small =
    subst IsStrict (sym (same_keys c (write_at c) (puts_to (D d) (local_of g (home g.catalogue c) log)) (no_write c)))
    (written (setting_of g (home g.catalogue c)) c (D d) (local_of g (home g.catalogue c) log) small (home_fair g c log h)).strict

pub reads_strict : (g : Input) (c : ℕ) (d : DmNo) (log : Log) → IsPermitted g log → number_of (home g.catalogue c) ≤ 63
    → IsStrict (filter_map (read_at c) (class_puts g c d log))
reads_strict g c d log h small =
    subst IsStrict (sym (same_keys c (read_at c) (puts_to (D d) (local_of g (home g.catalogue c) log)) (no_read c)))
    (read_once (setting_of g (home g.catalogue c)) c (D d) (local_of g (home g.catalogue c) log) small (home_fair g c log h)).strict

-- a record of a WRITE belongs to a WRITE of that time and class
pub of_write : (ts : Ts) (c txn : ℕ) (r : Rec) (m : Msg) → IsOfWrite ts c txn r → IsOf r m → write_at c m ≡ Some ts.0
of_write ts c txn r m h i = grind (arith, same_number)

pub write_own : (c t n : ℕ) (xs : List Change) → write_at c (Write (time_at t) (class_no c) (txn_no n) xs) ≡ Some t
write_own c t n xs = rw (same_number c) refl

touched_some : (frags : List FragNo) (xs : List Change) → touches frags xs ≡ true → 0 < length xs
touched_some frags [] e = cc
touched_some frags (x ∷ xs) e = omega arith

pub own_made : (at : Site) (act : Act) → (if same_site at at then Some (Did act) else None) ≡ Some (Did act)
own_made at act = rw (site_self at) refl

-- the WRITE of a Commit is among what its class's site put on the link
pub commit_there : (g : Input) (d : DmNo) (j : ℕ) (later log : Log) (bases : Bases) (a : Attempt) → 1 ≤ d.0
    → d.0 ≤ g.catalogue.dms → 0 < length (changes_to g bases a d)
    → (i : ℕ) × (slice_get (class_puts g j d (later ++ Does (home g.catalogue j) (commit_act g.catalogue bases j a) ∷ log)) i ≡ Some
    (Write (time_at a.ts) (class_no j) (txn_no a.txn) (changes_to g bases a d)))
commit_there g d j later log bases a lo hi t =
    let at : Site = home g.catalogue j in
    let act : Act = commit_act g.catalogue bases j a in
    let w : Msg = Write (time_at a.ts) (class_no j) (txn_no a.txn) (changes_to g bases a d) in
    let s = local_at g at later log (Does at act) (Did act) (own_made at act) in
    let k = commit_writes (setting_of g at) j bases a d.0 lo hi t in
    let p = is_put (D d) s.0 act (local_of g at log) k.0 w k.1 in
    let there : slice_get (puts_to (D d) (local_of g at (later ++ Does at act ∷ log))) p.0 ≡ Some w = subst (λ l. slice_get (puts_to (D d) l) p.0 ≡ Some w)
    (sym s.1) p.1 in
    in_class j (puts_to (D d) (local_of g at (later ++ Does at act ∷ log))) p.0 w there (same_number j)

-- applied exactly where its WRITE stands among the processed ones
pub applied_processed : (g : Input) (d : DmNo) (j : ℕ) (later log : Log) (a : Attempt) (i : ℕ) (n : ℕ) (xs : List Change)
    → IsPermitted g (later ++ log) → number_of (home g.catalogue j) ≤ 63
    → slice_get (class_puts g j d (later ++ log)) i ≡ Some (Write (time_at a.ts) (class_no j) (txn_no n) xs)
    → IsApplied g log d j a → i < length (pipe_at g j d log).processed
applied_processed g d j later log a i n xs h small there x =
    let l : site.Log = local_of g (D d) log in
    let before = permitted_before g later log h in
    let more = in_pipe_later g j d later log before in
    let z = zip_back IsOf (results j l) (pipe j l).processed x.place x.rec (matched (setting_of g (D d)) j l (d_fair g d log before)).matched x.there in
    let at : slice_get (class_puts g j d (later ++ log)) x.place ≡ Some z.0 = subst (λ ms. slice_get ms x.place ≡ Some z.0) (sym more.1)
    (processed_stays (pipe j l) more.0 x.place z.0 z.1) in
    let k : x.place ≡ i = one_of_key (write_at j) (class_puts g j d (later ++ log)) x.place i z.0 (Write (time_at a.ts) (class_no j) (txn_no n) xs) a.ts
    (writes_strict g j d (later ++ log) h small) at there (of_write (time_at a.ts) j a.txn x.rec z.0 x.is z.2) (write_own j a.ts n xs) in
    subst (λ y. y < length (pipe j l).processed) k (place_within (pipe j l).processed x.place z.0 z.1)

pub processed_applied : (g : Input) (d : DmNo) (j : ℕ) (later log : Log) (a : Attempt) (i : ℕ) (xs : List Change) → IsPermitted g (later ++ log)
    → slice_get (class_puts g j d (later ++ log)) i ≡ Some (Write (time_at a.ts) (class_no j) (txn_no a.txn) xs)
    → i < length (pipe_at g j d log).processed → IsApplied g log d j a
processed_applied g d j later log a i xs h there lt =
    let l : site.Log = local_of g (D d) log in
    let before = permitted_before g later log h in
    let more = in_pipe_later g j d later log before in
    let w : Msg = Write (time_at a.ts) (class_no j) (txn_no a.txn) xs in
    let in_it : slice_get (pipe j l).processed i ≡ Some w = processed_there (pipe j l) more.0 i w (subst (λ ms. slice_get ms i ≡ Some w) more.1 there) lt in
    let z = zip_at IsOf (results j l) (pipe j l).processed i w (matched (setting_of g (D d)) j l (d_fair g d log before)).matched in_it in
    record { place = i; rec = z.0; there = z.1; is = z.2 }

-- at an Answer with the condition q, of a transaction of its class that is committed anywhere in the log
pub split_applied : (g : Input) (d : DmNo) (q : Cond) (act : Act) (later log later2 log2 : Log) (bases : Bases) (a : Attempt)
    → IsPermitted g (later ++ Does (D d) act ∷ log) → number_of (home g.catalogue q.class.0) ≤ 63 → 1 ≤ d.0
    → d.0 ≤ g.catalogue.dms → IsAnswerWith g log d q act → q.class.0 ≢ 0
    → later ++ Does (D d) act ∷ log ≡ later2 ++ Does (home g.catalogue q.class.0) (commit_act g.catalogue bases q.class.0 a) ∷ log2
    → touches q.frags (changes_to g bases a d) ≡ true → (IsApplied g log d q.class.0 a → a.ts < q.time.0) × (a.ts < q.time.0 → IsApplied g log d q.class.0 a)
split_applied g d q act later log later2 log2 bases a h small lo hi r declared same t =
    let j : ℕ = q.class.0 in
    let xs : List Change = changes_to g bases a d in
    let w : Msg = Write (time_at a.ts) (class_no j) (txn_no a.txn) xs in
    let l : site.Log = local_of g (D d) log in
    let full : Log = later ++ Does (D d) act ∷ log in
    let whole : (later ++ Does (D d) act ∷ []) ++ log ≡ full = append_assoc later (Does (D d) act ∷ []) log in
    let found = commit_there g d j later2 log2 bases a lo hi (touched_some q.frags xs t) in
    let there : slice_get (class_puts g j d full) found.0 ≡ Some w = subst (λ x. slice_get (class_puts g j d x) found.0 ≡ Some w) (sym same) found.1 in
    let h2 : IsPermitted g (later ++ Does (D d) (Records r.class (Answer r.txn r.attempt r.module_no) r.sends) ∷ log) = subst
    (λ x. IsPermitted g (later ++ Does (D d) x ∷ log)) r.act_is h in
    let there2 : slice_get
    (class_puts g j d (later ++ Does (D d) (Records r.class (Answer r.txn r.attempt r.module_no) r.sends) ∷ log)) found.0 ≡ Some w = subst
    (λ x. slice_get (class_puts g j d (later ++ Does (D d) x ∷ log)) found.0 ≡ Some w) r.act_is there in
    let h3 : IsPermitted g ((later ++ Does (D d) act ∷ []) ++ log) = subst (IsPermitted g) (sym whole) h in
    let there3 : slice_get (class_puts g j d ((later ++ Does (D d) act ∷ []) ++ log)) found.0 ≡ Some w = subst
    (λ x. slice_get (class_puts g j d x) found.0 ≡ Some w) (sym whole) there in
    let parts = split g later log d q r.class r.txn r.attempt r.module_no r.sends r.ts r.of r.reader r.tries r.conds r.uses r.place found.0 (time_at a.ts)
    (class_no j) (txn_no a.txn) xs h2 small r.head_is r.there declared there2 t in (grind (arith, applied_processed, processed_applied))
