-- Where as many DONEs for a timestamp were handed to U as there are data modules, each of these has an Apply of class 0 with it.
use Rattle.sdd_invariants.proofs.All.{Act, AllGt, Apply, Attempt, Bases, Bool, Change, ClassNo, D, Did, DmNo, Does, Done, Each, Handed, HasApply, Input, IsDoneBy, IsDueEach, IsPermitted, IsPutByD, IsStrict, IsWrite, List, Msg, Option, Pipe, Setting, Site, Some, Ts, TxnNo, U, Write, [], all_of, ap, arith, commit_act, dec_le, dm_no, dones_of, each_local, effect, eqb-true, false, filter_map, filter_map-append, goes_through, handed, hands_from, head, head_of, home, home_of, if◌then◌else◌, in_left, inl, inr, is_done_of, length, local_of, number_of, numbers_to, one_if, pipe, pipe_at, place_within, puts_to, range_with_len, refl, sends_of_act, setting_of, slice_get, subst, suc, sym, tally, to_site, true, write_at, write_to, writes_in, zero, ℕ, ◌++◌, ◌+◌, ◌<◌, ◌==◌, ◌∙◌, ◌∷◌, ◌≡◌, ◌≤◌}
use Rattle.sdd_invariants.proofs.Turns.{tally_append, tally_take}
use Rattle.sdd_invariants.proofs.WritesPut.{goes_write}
use Rattle.sdd_invariants.proofs.Processed.{own_record, processed_handed, processed_more}
use Rattle.sdd_invariants.proofs.PutBy.{put_by_d}
use Rattle.sdd_invariants.proofs.Answered.{from_a_d, is_from_d, put_in_by_d}
use Rattle.sdd_invariants.proofs.Installed.{head_put}
use Rattle.sdd_invariants.proofs.Applied.{key_rises, writes_strict}
use Rattle.sdd_invariants.proofs.InPipe.{in_pipe}
use Rattle.sdd_invariants.proofs.Bools.{if_way, same_or_not}
use Rattle.sdd_invariants.proofs.Lists.{at_seam, in_taken}
use Rattle.sdd_invariants.proofs.Sites.{GoesTo, site_self}
use Rattle.sdd_invariants.proofs.Fair.{d_fair}
use Rattle.sdd_invariants.proofs.InOrder.{hand_was_put, in_order}
use Rattle.sdd_invariants.proofs.Made.{permitted_before}
use Rattle.sdd_log.specs.All.{Log}
use Rattle.sdd_log.specs.site_module.SiteLog as site

-- lists
pub tally_at : (f : Msg → Bool) (ms : List Msg) → 0 < tally f ms → (k : ℕ) × (m : Msg) × (slice_get ms k ≡ Some m) × (f m ≡ true)
tally_at f [] l = absurd (omega arith)
tally_at f (m ∷ ms) l = elim (f m) as (λ b. f m ≡ b → 0 < one_if b + tally f ms → (k : ℕ) × (x : Msg) × (slice_get (m ∷ ms) k ≡ Some x) × (f x ≡ true)) [
  | true ↦ λ p q. (0, m, refl, p)
  | false ↦ λ p q. let i = tally_at f ms (omega arith) in (suc i.0, i.1, i.2, i.3)
] refl l

pub gt_left : (k : ℕ) (xs ys : List ℕ) → AllGt k (xs ++ ys) → AllGt k xs
gt_left k [] ys h = tt
gt_left k (x ∷ xs) ys h = (h.0, gt_left k xs ys h.1)

pub strict_left : (xs ys : List ℕ) → IsStrict (xs ++ ys) → IsStrict xs
strict_left [] ys h = tt
strict_left (x ∷ xs) ys h = (gt_left x xs ys h.0, strict_left xs ys h.1)

-- the WRITEs of a pipe rise, and its head is of the class
pub strict_pipe : (g : Input) (c : ℕ) (d : DmNo) (log : Log) → number_of (home g.catalogue c) ≤ 63 → IsPermitted g log
    → IsStrict (writes_in c (all_of (pipe_at g c d log)))
strict_pipe g c d log small h =
    let l : List Msg = all_of (pipe_at g c d log) in
    grind (arith, strict_left, filter_map-append, writes_strict, in_pipe g c d log h)

abbrev IsStrictHere : site.Log → site.Entry → Type 0
IsStrictHere log (Did act) = IsStrict (writes_in 0 (all_of (pipe 0 log))) × ((m : Msg) → head (pipe 0 log) ≡ Some m → goes_through 0 m ≡ true)
IsStrictHere log _ = Unit {0}

stricts : (g : Input) (d : DmNo) (log : Log) → IsPermitted g log → Each IsStrictHere (local_of g (D d) log)
stricts g d = each_local g (D d) IsStrictHere (record {
  handed = λ log p from n m a i. tt;
  ticked = λ log p n i. tt;
  submits = λ log p n k a e i. tt;
  redeclared = λ l k u i. tt;
  did = λ log act p due i. (strict_pipe g 0 d log (omega arith) p, λ m e. (head_put g 0 d log m p e).of_class);
})

-- at most one DONE with a timestamp, and after its WRITE
record IsOnce (x : ℕ) (log : site.Log) : Type 0 where
  pub le : tally (is_done_of x) (puts_to U log) ≤ 1
  pub was : 0 < tally (is_done_of x) (puts_to U log) → (k : ℕ) × (m : Msg) × (slice_get (pipe 0 log).processed k ≡ Some m) × (write_at 0 m ≡ Some x)

done_is : (x : ℕ) (m : Msg) → is_done_of x m ≡ true → (t : Ts) × (m ≡ Done t) × (t.0 ≡ x)
done_is x m e = grind (arith, eqb-true)

pub next_in : (ps us : List Msg) (m : Msg) → head_of us ≡ Some m → slice_get (ps ++ us) (length ps) ≡ Some m
next_in ps us m e = grind (arith, at_seam)

pub head_in : (p : Pipe) (m : Msg) → head p ≡ Some m → slice_get (all_of p) (length p.processed) ≡ Some m
head_in p m e = next_in p.processed p.unprocessed m e

own_did : (s : Setting) (x : ℕ) (act : Act) (log : site.Log) (t : Ts) → t.0 ≡ x → IsStrictHere log (Did act)
    → IsDoneBy s log U act t → IsOnce x log → IsOnce x (Did act ∷ log)
own_did s x act log t tx strict b h =
    let p : Pipe = pipe 0 log in
    let w : Msg = Write t b.class b.txn b.changes in
    let at : slice_get (all_of p) (length p.processed) ≡ Some w = head_in p w b.head_is in
    let own : write_at 0 w ≡ Some x = (let q : (b.class.0 == 0) ≡ true = strict.1 w b.head_is in rw q (ap (λ y. Some y) tx)) in
    let none : tally (is_done_of x) (puts_to U log) ≤ 0 = elim (dec_le 1 (tally (is_done_of x) (puts_to U log))) [
      | yes l ↦ (let v = h.was l in
          let less = key_rises (write_at 0) (all_of p) v.0 (length p.processed) v.1 w x x strict.0 (in_left p.processed p.unprocessed v.0 v.1 v.2) at v.3 own
          (place_within p.processed v.0 v.1 v.2) in
          absurd (omega (arith, less)))
      | no n ↦ omega (arith, n)
    ] in
    let a = tally_append (is_done_of x) (puts_to U log) (to_site U (sends_of_act act)) in
    let r = own_record 0 (Apply b.txn b.class (home_of s).dm t) ((U, Done t) ∷ []) log refl in
    let pr : (pipe 0 (Did act ∷ log)).processed ≡ p.processed ++ w ∷ [] = ap (λ y. (pipe 0 (Did y ∷ log)).processed) b.act_is
    ∙ ap (λ (q : Pipe). q.processed) r.0 ∙ processed_more p w b.head_is in
    record {
      le = omega (arith, a, none, (subst (λ y. tally (is_done_of x) (to_site U (sends_of_act y)) ≤ 1) (sym b.act_is) ((grind arith))));
      was = λ l. (length p.processed, w, subst (λ ms. slice_get ms (length p.processed) ≡ Some w) (sym pr) (at_seam p.processed [] w), own);
    }

once_did : (s : Setting) (x : ℕ) (act : Act) (log : site.Log) → IsDueEach s log (Did act) → IsStrictHere log (Did act) → IsOnce x log → IsOnce x (Did act ∷ log)
once_did s x act log f strict h = elim (dec_le 1 (tally (is_done_of x) (to_site U (sends_of_act act)))) [
  | yes l ↦ (let w = tally_at (is_done_of x) (to_site U (sends_of_act act)) l in
      let d = done_is x w.1 w.3 in
      own_did s x act log d.0 d.2 strict (subst (IsPutByD s log U act) d.1 (put_by_d s log act f U w.0 w.1 w.2)) h)
  | no n ↦ (grind (arith, tally_append, if_way, slice_get, in_left))
]

once : (s : Setting) (x : ℕ) (log : site.Log) → Each (IsDueEach s) log → Each IsStrictHere log → IsOnce x log
once s x [] h k = record { le = omega arith; was = λ l. absurd (omega arith) }
once s x (Handed from m ∷ log) h k = grind (arith, slice_get, processed_handed, (once s x log h.1 k.1))
once s x (Did act ∷ log) h k = once_did s x act log h.0 k.0 (once s x log h.1 k.1)
once s x (_ ∷ log) h k = let i = once s x log h.1 k.1 in record { le = i.le; was = i.was }

-- sums over the modules
abbrev sum_of : (ℕ → ℕ) → List ℕ → ℕ
sum_of f [] = 0
sum_of f (d ∷ dms) = f d + sum_of f dms

sum_le : (f : ℕ → ℕ) (dms : List ℕ) → ((d : ℕ) → f d ≤ 1) → sum_of f dms ≤ length dms
sum_le f [] h = omega arith
sum_le f (d ∷ dms) h = let i = sum_le f dms h in let j = h d in omega arith

all_one : (f : ℕ → ℕ) (dms : List ℕ) (k d : ℕ) → ((d : ℕ) → f d ≤ 1) → length dms ≤ sum_of f dms → slice_get dms k ≡ Some d → 0 < f d
all_one f [] k d h l e = cc
all_one f (x ∷ dms) zero d h l e = let p : x ≡ d = cc in subst (λ y. 0 < f y) p (let i = sum_le f dms h in omega arith)
all_one f (x ∷ dms) (suc k) d h l e = let i = h x in all_one f dms k d h (omega (arith, i)) e

sum_up : (f g : ℕ → ℕ) (dms : List ℕ) → ((d : ℕ) → f d ≤ g d) → sum_of f dms ≤ sum_of g dms
sum_up f g [] h = omega arith
sum_up f g (d ∷ dms) h = let i = sum_up f g dms h in let j = h d in omega arith

sum_more : (f g : ℕ → ℕ) (dms : List ℕ) (k d : ℕ) → ((d : ℕ) → f d ≤ g d) → suc (f d) ≤ g d → slice_get dms k ≡ Some d → suc (sum_of f dms) ≤ sum_of g dms
sum_more f g [] k d h l e = cc
sum_more f g (x ∷ dms) zero d h l e = grind (arith, sum_up)
sum_more f g (x ∷ dms) (suc k) d h l e = let i = sum_more f g dms k d h l e in let j = h x in omega arith

-- each DONE comes from a data module of the catalogue
abbrev IsFromModule : ℕ → site.Log → site.Entry → Type 0
IsFromModule n l (Handed from m) = (x : ℕ) → is_done_of x m ≡ true → (k : ℕ) × (d : ℕ) × (from ≡ D (dm_no d)) × (slice_get (numbers_to n) k ≡ Some d)
IsFromModule n l _ = Unit {0}

abbrev from_d : ℕ → site.Log → ℕ → ℕ
from_d x l d = tally (is_done_of x) (hands_from (D (dm_no d)) l)

to_range : (f : ℕ → Option (Site × Msg)) (x a n k : ℕ) (m : Msg) → GoesTo f → slice_get (to_site (D (dm_no x)) (filter_map f (range_with_len a n))) k ≡ Some m
    → (j : ℕ) × (slice_get (range_with_len a n) j ≡ Some x)
to_range f x a zero k m g e = cc
to_range f x a (suc n) k m g e = elim (g a) [
  | inl p ↦ (let i = to_range f x (a + 1) n k m g (rw p at e) in (suc i.0, i.1))
  | inr p ↦ elim (same_or_not x a) [
    | inl q ↦ (0, ap (λ y. Some y) (sym q))
    | inr q ↦ (let i = to_range f x (a + 1) n k m g (rw (p.1, q) at e) in (suc i.0, i.1))
  ]
]

pub hand_more : (f : Msg → Bool) (b : Bool) (xs : List Msg) (m : Msg) → tally f xs ≤ tally f (if b then xs ++ m ∷ [] else xs)
hand_more f b xs m = grind (arith, tally_append)

dones_within : (n x : ℕ) (l : site.Log) → Each (IsFromModule n) l → dones_of x l ≤ sum_of (from_d x l) (numbers_to n)
dones_within n x [] h = omega arith
dones_within n x (Handed from m ∷ l) h = grind (arith, hand_more, site_self, sum_more, tally_append, one_if, sum_up, (dones_within n x l h.1))
dones_within n x (_ ∷ l) h = dones_within n x l h.1

write_range : (g : Input) (d : DmNo) (bases : Bases) (a : Attempt) (k : ℕ) (m : Msg)
    → slice_get (to_site (D d) (sends_of_act (commit_act g.catalogue bases 0 a))) k ≡ Some m → (j : ℕ) × (slice_get (numbers_to g.catalogue.dms) j ≡ Some d.0)
write_range g d bases a k m e =
    let xs : List Change = (effect g.catalogue (bases a.ts) a.text).changes in
    to_range (write_to g.catalogue 0 a xs) d.0 1 g.catalogue.dms k m (goes_write g.catalogue 0 a xs) e

in_range : (g : Input) (log : Log) (d : DmNo) (ts : Ts) (of : ClassNo) (txn : TxnNo) (changes : List Change) → IsPermitted g log
    → head (pipe_at g 0 d log) ≡ Some (Write ts of txn changes) → (j : ℕ) × (slice_get (numbers_to g.catalogue.dms) j ≡ Some d.0)
in_range g log d ts of txn changes h e =
    let p = head_put g 0 d log (Write ts of txn changes) h e in
    let z : of.0 ≡ 0 = (eqb-true of.0 0 p.of_class) in
    grind (arith, write_range, subst (λ j. IsWrite (setting_of g U) (local_of g U p.before) p.act j ts.0 txn.0) z p.by)

done_from : (g : Input) (log : Log) (from : Site) (k : ℕ) (m : Msg) (x : ℕ) → IsPermitted g log
    → slice_get (puts_to U (local_of g from log)) k ≡ Some m → is_done_of x m ≡ true
    → (j : ℕ) × (d : ℕ) × (from ≡ D (dm_no d)) × (slice_get (numbers_to g.catalogue.dms) j ≡ Some d)
done_from g log from k m x h e f =
    let t = done_is x m f in
    let d = from_a_d g log from U k m h e (ap is_from_d t.1) in
    let p = put_in_by_d g log d.0 U k m h (subst (λ y. slice_get (puts_to U (local_of g y log)) k ≡ Some m) d.1 e) in
    let b : IsDoneBy (setting_of g (D d.0)) (local_of g (D d.0) p.before) U p.act t.0 = subst
    (IsPutByD (setting_of g (D d.0)) (local_of g (D d.0) p.before) U p.act) t.1 p.by in
    let hb : IsPermitted g p.before = (permitted_before g p.later (Does (D d.0) p.act ∷ p.before) (subst (IsPermitted g) p.is h)).1 in
    let r = in_range g p.before d.0 t.0 b.class b.txn b.changes hb b.head_is in
    (r.0, d.0.0, d.1, r.1)

module_hands : (g : Input) (log : Log) → IsPermitted g log → Each (IsFromModule g.catalogue.dms) (local_of g U log)
module_hands g = grind (arith, each_local, handed, done_from, hand_was_put)

from_one : (g : Input) (log : Log) (x d : ℕ) → IsPermitted g log → from_d x (local_of g U log) d ≤ 1
from_one g log x d h =
    let at : DmNo = dm_no d in
    let o = (once (setting_of g (D at)) x (local_of g (D at) log) (d_fair g at log h) (stricts g at log h)).le in
    let t = tally_take (is_done_of x) (handed (D at) U log) (puts_to U (local_of g (D at) log)) in
    omega (arith, ap (tally (is_done_of x)) (in_order g log (D at) U h))

pub range_length : (a n : ℕ) → length (range_with_len a n) ≡ n
range_length a zero = refl
range_length a (suc n) = ap suc (range_length (a + 1) n)

pub all_applied : (g : Input) (log : Log) (x k d : ℕ) → IsPermitted g log → g.catalogue.dms ≤ dones_of x (local_of g U log)
    → slice_get (numbers_to g.catalogue.dms) k ≡ Some d → HasApply g log (dm_no d) x
all_applied g log x k d h l e =
    let at : DmNo = dm_no d in
    let lu : site.Log = local_of g U log in
    let n : length (numbers_to g.catalogue.dms) ≡ g.catalogue.dms = range_length 1 g.catalogue.dms in
    let pos : 0 < from_d x lu d = all_one (from_d x lu) (numbers_to g.catalogue.dms) k d (λ d. from_one g log x d h) (omega (arith, n, (dones_within g.catalogue.dms x lu (module_hands g log h)), l)) e in
    let w = tally_at (is_done_of x) (hands_from (D at) lu) pos in
    let t = done_is x w.1 w.3 in
    let put : slice_get (puts_to U (local_of g (D at) log)) w.0 ≡ Some (Done t.0) = (in_taken (puts_to U (local_of g (D at) log))
    (handed (D at) U log) w.0 (Done t.0)
    (subst (λ ms. slice_get ms w.0 ≡ Some (Done t.0)) (in_order g log (D at) U h) (w.2 ∙ ap (λ y. Some y) t.1))).0 in
    let p = put_in_by_d g log at U w.0 (Done t.0) h put in
    let b : IsDoneBy (setting_of g (D at)) (local_of g (D at) p.before) U p.act t.0 = p.by in
    record { later = p.later; before = p.before; txn = b.txn; of = b.class; ts = t.0; changes = b.changes; is = p.is ∙ ap (λ y. p.later ++ Does (D at) y ∷ p.before) b.act_is; head_is = b.head_is; ts_is = t.2 }

-- a data module puts at most one DONE with a timestamp, and U is handed no more than there are modules
pub put_once : (g : Input) (log : Log) (x : ℕ) (d : DmNo) → IsPermitted g log → tally (is_done_of x) (puts_to U (local_of g (D d) log)) ≤ 1
put_once g log x d h = (once (setting_of g (D d)) x (local_of g (D d) log) (d_fair g d log h) (stricts g d log h)).le

pub dones_few : (g : Input) (log : Log) (x : ℕ) → IsPermitted g log → dones_of x (local_of g U log) ≤ g.catalogue.dms
dones_few g log x h =
    let lu : site.Log = local_of g U log in
    let few = sum_le (from_d x lu) (numbers_to g.catalogue.dms) (λ d. from_one g log x d h) in
    omega (arith, dones_within g.catalogue.dms x lu (module_hands g log h), range_length 1 g.catalogue.dms, few)
