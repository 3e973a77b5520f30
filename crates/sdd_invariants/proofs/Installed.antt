-- An Apply follows the Commit that put its WRITE; within a class a module applies in the order of timestamps and leaves
-- none out; and an Answer stands after the Applies of its class with smaller timestamps, and before the others.
use Rattle.sdd_invariants.proofs.All.{Act, Apply, Attempt, Bases, Bool, Change, ClassNo, D, Did, DmNo, Does, Each, Input, IsApplied, IsApplyOf, IsFair, IsOf, IsPermitted, IsPutAt, IsPutBy, IsReadStep, IsWrite, List, May, Msg, None, Option, Rec, Records, Setting, Site, Some, Ts, TxnNo, Write, [], allowed_act, ap, arith, by_record, by_wait, changes_at, changes_to, class_in, class_is, class_no, class_puts, commit_act, cond, dm_no, effect, eqb-true, false, filter_map, goes_through, head, home, in_passing, inl, inr, length, local_of, not, number_of, or_left, or_right, pipe, pipe_at, place_within, puts_to, range_with_len, refl, results, sends_of_act, setting_of, slice_get, subst, suc, sym, time_at, time_of, to_site, true, txn_no, view_of, waits, write_at, write_to, zero, ℕ, ◌++◌, ◌+◌, ◌<◌, ◌==◌, ◌∙◌, ◌∷◌, ◌≡◌, ◌≤◌, ◌⊎◌}
use Rattle.sdd_invariants.proofs.Origins.{is_put, not_empty, was_put}
use Rattle.sdd_invariants.proofs.ReadsPut.{put_by}
use Rattle.sdd_invariants.proofs.WritesPut.{goes_write, write_is}
use Rattle.sdd_invariants.proofs.Processed.{matched, zip_back}
use Rattle.sdd_invariants.proofs.Applied.{applied_processed, in_class, key_rises, of_write, own_made, processed_applied, writes_strict}
use Rattle.sdd_invariants.proofs.ClassOrder.{around_head, head_place}
use Rattle.sdd_invariants.proofs.InPipe.{in_pipe}
use Rattle.sdd_invariants.proofs.Split.{processed_stays}
use Rattle.sdd_invariants.proofs.Active.{each_at}
use Rattle.sdd_invariants.proofs.AreReadSteps.{d_step}
use Rattle.sdd_invariants.proofs.Bools.{not_both, same_number, same_or_not}
use Rattle.sdd_invariants.proofs.Sites.{GoesTo, some_to}
use Rattle.sdd_invariants.proofs.Fair.{d_fair, home_fair}
use Rattle.sdd_invariants.proofs.Made.{local_at, place_of_act}
use Rattle.sdd_log.specs.All.{Log}
use Rattle.sdd_log.specs.site_module.SiteLog as site

-- what goes through a pipe stands on its link

out_cons : (c : ℕ) (x : Msg) (ms : List Msg) (k : ℕ) (m : Msg) → goes_through c x ≡ true
    → ((j : ℕ) → slice_get (class_in c ms) j ≡ Some m → (i : ℕ) × (slice_get ms i ≡ Some m) × (goes_through c m ≡ true))
    → slice_get (x ∷ class_in c ms) k ≡ Some m → (i : ℕ) × (slice_get (x ∷ ms) i ≡ Some m) × (goes_through c m ≡ true)
out_cons c x ms zero m p f e = let q : x ≡ m = cc in (0, e, subst (λ y. goes_through c y ≡ true) q p)
out_cons c x ms (suc k) m p f e = let i = f k e in (suc i.0, i.1, i.2)

out_class : (c : ℕ) (ms : List Msg) (k : ℕ) (m : Msg) → slice_get (class_in c ms) k ≡ Some m → (i : ℕ) × (slice_get ms i ≡ Some m) × (goes_through c m ≡ true)
out_class c [] k m e = cc
out_class c (x ∷ ms) k m e =
    elim (goes_through c x) as
    (λ b. goes_through c x ≡ b → slice_get (cond b (x ∷ class_in c ms) (class_in c ms)) k ≡ Some m → (i : ℕ) × (slice_get (x ∷ ms) i ≡ Some m) × (goes_through c m ≡ true)) [
      | true ↦ λ p q. out_cons c x ms k m p (λ j r. out_class c ms j m r) q
      | false ↦ λ p q. let i = out_class c ms k m q in (suc i.0, i.1, i.2)
    ] refl e

pub origin : (g : Input) (c : ℕ) (d : DmNo) (log : Log) (k : ℕ) (m : Msg) → IsPermitted g log
    → slice_get (class_puts g c d log) k ≡ Some m → IsPutAt g log c d m
origin g c d log k m h e =
    let at : Site = home g.catalogue c in
    let o = out_class c (puts_to (D d) (local_of g at log)) k m e in
    let p = was_put (D d) (local_of g at log) o.0 m o.1 in
    let fair = each_at (IsFair (setting_of g at)) p.later (Did p.act) p.before (subst (Each (IsFair (setting_of g at))) p.is (home_fair g c log h)) in
    let by = put_by (setting_of g at) (D d) p.before p.act p.place m fair.0 p.there in
    let l = place_of_act g at log p.later p.act p.before p.is in
    record { later = l.later; act = p.act; before = l.rest; is = l.is; place = p.place; there = p.there; by = subst (λ b. IsPutBy (setting_of g at) b p.act m) (sym l.local_is) by; of_class = o.2 }

-- what stands at the head of a pipe
pub head_put : (g : Input) (c : ℕ) (d : DmNo) (log : Log) (m : Msg) → IsPermitted g log → head (pipe_at g c d log) ≡ Some m → IsPutAt g log c d m
head_put g c d log m h e = origin g c d log (length (pipe_at g c d log).processed) m h (head_place g c d [] log m h e)

-- a WRITE goes where a changed fragment has a copy, and of class 0 everywhere

abbrev to_module : ℕ → Msg → Option (Site × Msg)
to_module d m = Some (D (dm_no d), m)

in_here : (f : ℕ → Option (Site × Msg)) (x a : ℕ) (ms : List Msg) (k : ℕ) (m y : Msg) → x ≡ a → f a ≡ to_module a y
    → ((j : ℕ) → slice_get ms j ≡ Some m → f x ≡ to_module x m) → slice_get (y ∷ ms) k ≡ Some m → f x ≡ to_module x m
in_here f x a ms k m y q p g e = grind arith

in_to : (f : ℕ → Option (Site × Msg)) (x a n k : ℕ) (m : Msg) → GoesTo f
    → slice_get (to_site (D (dm_no x)) (filter_map f (range_with_len a n))) k ≡ Some m → f x ≡ to_module x m
in_to f x a zero k m g e = cc
in_to f x a (suc n) k m g e = elim (g a) [
  | inl p ↦ in_to f x (a + 1) n k m g (rw p at e)
  | inr p ↦ elim (same_or_not x a) [
    | inl q ↦ (let t : (x == a) ≡ true = ap (λ y. x == y) (sym q) ∙ same_number x in in_here f x a _ k m p.0 q p.1 (λ j r. in_to f x (a + 1) n j m g r) (rw (p.1, t) at e))
    | inr q ↦ in_to f x (a + 1) n k m g (rw (p.1, q) at e)
  ]
]

cond_true : (b : Bool) (x y : Site × Msg) → cond b (Some x) None ≡ Some y → b ≡ true
cond_true b x y e = grind arith

-- what a Commit puts on the link to a module
pub commit_put_is : (s : Setting) (c : ℕ) (bases : Bases) (a : Attempt) (d : DmNo) (k : ℕ) (m : Msg)
    → slice_get (to_site (D d) (sends_of_act (commit_act s.catalogue bases c a))) k ≡ Some m
    → (m ≡ Write (time_at a.ts) (class_no c) (txn_no a.txn) (changes_at s.catalogue d.0 (effect s.catalogue (bases a.ts) a.text).changes))
    × (((c == 0) ≡ true) ⊎ (0 < length (changes_at s.catalogue d.0 (effect s.catalogue (bases a.ts) a.text).changes)))
commit_put_is s c bases a d k m e =
    let xs : List Change = (effect s.catalogue (bases a.ts) a.text).changes in
    let here : List Change = changes_at s.catalogue d.0 xs in
    let w : Msg = Write (time_at a.ts) (class_no c) (txn_no a.txn) here in
    let i = in_to (write_to s.catalogue c a xs) d.0 1 s.catalogue.dms k m (goes_write s.catalogue c a xs) e in
    (write_is s.catalogue c a xs d.0 m i, (grind arith))

-- an Apply follows the Commit of the attempt with its transaction, timestamp and class, and it is at a module that this touches
pub write_origin : (g : Input) (log : Log) (k : ℕ) (d : DmNo) (ts : Ts) (of : ClassNo) (txn : TxnNo) (changes : List Change)
    → of.0 ≡ k → IsPutAt g log k d (Write ts of txn changes) → IsApplyOf g log d k txn.0 ts.0
write_origin g log k d ts of txn changes e p =
    let at : Site = home g.catalogue k in
    let w : IsWrite (setting_of g at) (local_of g at p.before) p.act k ts.0 txn.0 = subst
    (λ j. IsWrite (setting_of g at) (local_of g at p.before) p.act j ts.0 txn.0) e p.by in
    let i = commit_put_is (setting_of g at) k w.bases w.attempt d p.place (Write ts of txn changes) (subst (λ x. slice_get (to_site (D d) (sends_of_act x)) p.place ≡ Some (Write ts of txn changes)) w.act_is p.there) in
    record { later = p.later; before = p.before; bases = w.bases; attempt = w.attempt; is = p.is ∙ ap (λ x. p.later ++ Does at x ∷ p.before) w.act_is; active_is = w.active_is; ts_is = w.time_is; number_is = w.number_is; touches_it = i.1 }

-- an Apply that is due is of a head

apply_may : (s : Setting) (l : site.Log) (k : ℕ) (w : Bool) (m : Msg) (r : Rec) (txn : TxnNo) (of : ClassNo) (dm : DmNo) (ts : Ts)
    → May (view_of s l) k w m r → r ≡ Apply txn of dm ts → (changes : List Change) × (m ≡ Write ts of txn changes)
apply_may s l k w (Write t c n changes) (Apply x j dm2 u) txn of dm ts h e =
    let a : x ≡ txn = cc in let b : j ≡ of = cc in let f : u ≡ ts = cc in
    let p : t ≡ ts = sym h.1 ∙ f in
    let q : c ≡ of = ap (λ y. class_no y) (sym h.2) ∙ b in
    let z : n ≡ txn = ap (λ y. txn_no y) (sym h.0) ∙ a in
    (changes, ap (λ y. Write y c n changes) p ∙ ap (λ y. Write ts y n changes) q ∙ ap (λ y. Write ts of y changes) z)
apply_may s l k w m r txn of dm ts h q = grind arith

pub apply_head : (s : Setting) (l : site.Log) (k : ℕ) (txn : TxnNo) (of : ClassNo) (dm : DmNo) (ts : Ts) (sends : List (Site × Msg))
    → IsReadStep s l (Records k (Apply txn of dm ts) sends) → (changes : List Change) × (head (pipe k l) ≡ Some (Write ts of txn changes))
apply_head s l k txn of dm ts sends (in_passing e) = cc
apply_head s l k txn of dm ts sends (by_wait j ds r ss lt p w i q e) = grind (arith, not_both)
apply_head s l k txn of dm ts sends (by_record j m r ss lt p i may e) =
    let at : k ≡ j = cc in
    let x = apply_may s l j (waits j l) m r txn of dm ts may (sym cc) in
    (x.0, subst (λ y. head (pipe y l) ≡ Some (Write ts of txn x.0)) (sym at) (i ∙ ap (λ y. Some y) x.1))

pub apply_of_head : (g : Input) (log : Log) (d : DmNo) (k : ℕ) (txn : TxnNo) (of : ClassNo) (dm : DmNo) (ts : Ts) (sends : List (Site × Msg))
    → IsPermitted g (Does (D d) (Records k (Apply txn of dm ts) sends) ∷ log)
    → (changes : List Change) × (head (pipe_at g k d log) ≡ Some (Write ts of txn changes))
apply_of_head g log d k txn of dm ts sends h =
    let act : Act = Records k (Apply txn of dm ts) sends in
    apply_head (setting_of g (D d)) (local_of g (D d) log) k txn of dm ts sends
    (d_step (setting_of g (D d)) (local_of g (D d) log) act (allowed_act g log (Does (D d) act) h.0))

pub class_number : (c k t : ℕ) → class_is k (Some (c, t)) ≡ true → c ≡ k
class_number c k t e = eqb-true c k e

pub apply_follows : (g : Input) (log : Log) (d : DmNo) (k : ℕ) (txn : TxnNo) (of : ClassNo) (dm : DmNo) (ts : Ts) (sends : List (Site × Msg))
    → IsPermitted g (Does (D d) (Records k (Apply txn of dm ts) sends) ∷ log) → (of.0 ≡ k) × IsApplyOf g log d k txn.0 ts.0
apply_follows g log d k txn of dm ts sends h =
    let x = apply_of_head g log d k txn of dm ts sends h in
    let p = head_put g k d log (Write ts of txn x.0) h.1 x.1 in
    let e : of.0 ≡ k = class_number of.0 k ts.0 p.of_class in
    (e, write_origin g log k d ts of txn x.0 e p)

-- of a class the Applies at a module rise: what was applied has a smaller timestamp than the WRITE at the head; so an
-- Apply is the only one of its transaction there
pub applied_below : (g : Input) (log : Log) (d : DmNo) (k : ℕ) (ts : Ts) (of : ClassNo) (txn : TxnNo) (changes : List Change) (a : Attempt)
    → IsPermitted g log → number_of (home g.catalogue k) ≤ 63 → head (pipe_at g k d log) ≡ Some (Write ts of txn changes) → IsApplied g log d k a → a.ts < ts.0
applied_below g log d k ts of txn changes a h small e x =
    let l : site.Log = local_of g (D d) log in
    let z = zip_back IsOf (results k l) (pipe k l).processed x.place x.rec (matched (setting_of g (D d)) k l (d_fair g d log h)).matched x.there in
    let p = in_pipe g k d log h in
    let there : slice_get (class_puts g k d log) x.place ≡ Some z.0 = subst (λ ms. slice_get ms x.place ≡ Some z.0) (sym p.1)
    (processed_stays (pipe k l) p.0 x.place z.0 z.1) in
    let put = head_put g k d log (Write ts of txn changes) h e in
    let c : of.0 ≡ k = class_number of.0 k ts.0 put.of_class in
    let now : write_at k (Write ts of txn changes) ≡ Some ts.0 = (let q : (of.0 == k) ≡ true = ap (λ y. y == k) c ∙ same_number k in rw q refl) in
    key_rises (write_at k) (class_puts g k d log) x.place (length (pipe k l).processed) z.0 (Write ts of txn changes) a.ts ts.0
    (writes_strict g k d log h small) there (head_place g k d [] log (Write ts of txn changes) h e) (of_write (time_at a.ts) k a.txn x.rec z.0 x.is z.2) now
    (place_within (pipe k l).processed x.place z.0 z.1)

-- the WRITE of a Commit to a module that it touches
pub commit_put : (g : Input) (c : ℕ) (d : DmNo) (later log : Log) (bases : Bases) (a : Attempt) → 1 ≤ d.0 → d.0 ≤ g.catalogue.dms
    → ((c == 0) ≡ true) ⊎ (0 < length (changes_to g bases a d))
    → (i : ℕ) × (slice_get (class_puts g c d (later ++ Does (home g.catalogue c) (commit_act g.catalogue bases c a) ∷ log)) i ≡ Some
    (Write (time_at a.ts) (class_no c) (txn_no a.txn) (changes_to g bases a d)))
commit_put g c d later log bases a lo hi t =
    let at : Site = home g.catalogue c in
    let act : Act = commit_act g.catalogue bases c a in
    let w : Msg = Write (time_at a.ts) (class_no c) (txn_no a.txn) (changes_to g bases a d) in
    let s = local_at g at later log (Does at act) (Did act) (own_made at act) in
    let k = some_to (write_to g.catalogue c a (effect g.catalogue (bases a.ts) a.text).changes) 1 g.catalogue.dms d.0 w lo (omega arith)
    (ap (λ b. cond b (to_module d.0 w) None) (elim t [ inl z ↦ or_right _ _ z | inr n ↦ or_left _ _ (ap not (not_empty (changes_to g bases a d) n)) ])) in
    let p = is_put (D d) s.0 act (local_of g at log) k.0 w k.1 in
    let there : slice_get (puts_to (D d) (local_of g at (later ++ Does at act ∷ log))) p.0 ≡ Some w = subst (λ l. slice_get (puts_to (D d) l) p.0 ≡ Some w)
    (sym s.1) p.1 in
    in_class c (puts_to (D d) (local_of g at (later ++ Does at act ∷ log))) p.0 w there (same_number c)

-- at a head m of class c, a transaction of c that is committed anywhere in the log and touches the module: it is applied
-- where its timestamp is smaller than the time of m, and isn't where it is greater
pub around_applied : (g : Input) (c : ℕ) (d : DmNo) (later log later2 log2 : Log) (m : Msg) (bases : Bases) (a : Attempt)
    → IsPermitted g (later ++ log) → number_of (home g.catalogue c) ≤ 63 → 1 ≤ d.0 → d.0 ≤ g.catalogue.dms → head (pipe_at g c d log) ≡ Some m
    → later ++ log ≡ later2 ++ Does (home g.catalogue c) (commit_act g.catalogue bases c a) ∷ log2 → ((c == 0) ≡ true) ⊎ (0 < length (changes_to g bases a d))
    → (a.ts < time_of m → IsApplied g log d c a) × (time_of m < a.ts → IsApplied g log d c a → ⊥)
around_applied g c d later log later2 log2 m bases a h small lo hi e same t =
    let w : Msg = Write (time_at a.ts) (class_no c) (txn_no a.txn) (changes_to g bases a d) in
    let found = commit_put g c d later2 log2 bases a lo hi t in
    let there : slice_get (class_puts g c d (later ++ log)) found.0 ≡ Some w = subst (λ x. slice_get (class_puts g c d x) found.0 ≡ Some w)
    (sym same) found.1 in
    let r = around_head g c d later log found.0 w m h small e there in (grind (arith, processed_applied, changes_to, applied_processed))
