-- No READ of a class that isn't the catalogue's waits at a data module.
use Rattle.sdd_schedule.proofs.All.{Act, Bool, ClassView, D, Did, DmNo, Does, Fetch, Hand, Handed, Home, Input, IsDue, IsDueAt, IsLawful, Log, Mark, Msg, None, Null, Open, Option, Processes, Read, Records, Reduce, Refuses, Sends, Setting, Ship, Site, Some, Step, Submit, Submitted, Txn, View, Waits, Write, [], act_by, act_where, allowed_act, answer_of, answer_to, ap, arith, by_head, by_open, class_view, conds_of, dm_no, false, filter, head, head_of, head_step, in_mapped, if◌then◌else◌, is_asked_of, is_processing, is_wait, length, local_of, ne_eqb, next_allowed, numbers_to, option_map, range_with_len, pipe, refl, same_is, same_site, setting_of, slice_get, subst, suc, sym, true, txn_at, unmet, view_of, wait_at, wait_for, waiting_at, waits, waits_acted, waits_of, with_submit, zero, ℕ, ◌+◌, ◌<◌, ◌||◌, ◌∙◌, ◌∷◌, ◌≡◌}
use Rattle.sdd_schedule.proofs.Lists.{none_chosen}
use Rattle.sdd_world.specs.needs.All.{home_of}
use Rattle.sdd_world.specs.needs.site_module.SiteLog as site

-- an act doesn't change whether the head of a class waits
abbrev Leaves : ℕ → Act → Type 0
Leaves c a = (w : Bool) → waits_acted c a w ≡ w

-- what it records is of class k
abbrev IsOf : ℕ → Act → Type 0
IsOf k (Records j r sends) = j ≡ k
IsOf k (Sends to m hand) = Unit {0}

leaves : (c k : ℕ) (a : Act) → k < c → IsOf k a → Leaves c a
leaves c k (Records j r sends) l e w =
    let apart : j ≡ c → ⊥ = λ same. omega arith in
    ap (λ b. if b then (if is_processing r then false else is_wait r || w) else w) (ne_eqb j c apart)
leaves c k (Sends to m hand) l e w = refl

it_is : (k : ℕ) (x a : Act) → IsOf k x → Some x ≡ Some a → IsOf k a
it_is k x a h e = let same : x ≡ a = cc in subst (IsOf k) same h

-- what answers a message is of its class

answer_is : (h : Home) (k : ClassView) (o : Open) (m : Msg) (a : Act) → answer_to h k o m ≡ Some a → IsOf k.class a
answer_is h k o (Read ts class txn attempt conds uses) a e = it_is k.class _ a refl e
answer_is h k o (Fetch ts class u col) a e = it_is k.class _ a tt e
answer_is h k o (Reduce ts class u col values) a e = it_is k.class _ a tt e
answer_is h k o (Ship ts class) a e = it_is k.class _ a tt e
answer_is h k o _ a e = cc

open_is : (h : Home) (k : ClassView) (o : Option Open) (a : Act) → answer_of h k o ≡ Some a → IsOf k.class a
open_is h k None a e = cc
open_is h k (Some o) a e = answer_is h k o o.msg a e

-- and so is what a head does

acting : (h : Home) (v : View) (k : ℕ) (m : Msg) (step : Step) → IsOf k (act_by h v k m step)
acting h v k (Null class time) step = refl
acting h v k (Write ts class txn changes) step = refl
acting h v k (Read ts class txn attempt conds uses) Processes = refl
acting h v k (Read ts class txn attempt conds uses) (Refuses by write) = refl
acting h v k (Read ts class txn attempt conds uses) (Waits ds) = refl
acting h v k _ step = tt

head_is : (h : Home) (v : View) (k : ℕ) (m : Option Msg) (step : Option Step) (a : Act) → act_where h v k m step ≡ Some a → IsOf k a
head_is h v k (Some m) (Some step) a e = it_is k _ a (acting h v k m step) e
head_is h v k _ _ a e = cc

in_range : (a n k x : ℕ) → slice_get (range_with_len a n) k ≡ Some x → x < a + n
in_range a zero k x e = cc
in_range a (suc n) zero x e = let p : a ≡ x = cc in omega (arith, p)
in_range a (suc n) (suc k) x e = let i = in_range (a + 1) n k x e in omega (arith, i)

-- a class of the view, by its place
class_at_place : (s : Setting) (log : site.Log) (n : ℕ) (k : ClassView) → slice_get (view_of s log).classes n ≡ Some k
    → (c : ℕ) × (c < suc (length s.catalogue.classes)) × (class_view s log c ≡ k)
class_at_place s log n k e = grind (arith, in_mapped, in_range)

class_below : (s : Setting) (log : site.Log) (c n : ℕ) (k : ClassView) → length s.catalogue.classes < c
    → slice_get (view_of s log).classes n ≡ Some k → k.class < c
class_below s log c n k l e =
    let r = class_at_place s log n k e in
    let same : r.0 ≡ k.class = ap (λ (x : ClassView). x.class) r.2 in
    omega (arith, r.1, same)

due_leaves : (s : Setting) (log : site.Log) (c : ℕ) (a : Act) → length s.catalogue.classes < c → IsDue (home_of s) (view_of s log) a → Leaves c a
due_leaves s log c a l (by_open n k e f) =
    leaves c k.class a (class_below s log c n k l e) (open_is (home_of s) k (head_of (filter (is_asked_of k.class) (view_of s log).opens)) a f)
due_leaves s log c a l (by_head n k e f) =
    leaves c k.class a (class_below s log c n k l e) (head_is (home_of s) (view_of s log) k.class (head k.pipe) (head_step (view_of s log) k) a f)

-- so no head of a further class ever waits

waits_if : (c : ℕ) (b : Bool) (k l : site.Log) → (b ≡ true → waits c k ≡ false) → waits c l ≡ false → waits c (if b then k else l) ≡ false
waits_if c true k l f h = f refl
waits_if c false k l f h = h

waits_submit : (c n : ℕ) (o : Option Txn) (l : site.Log) → waits c l ≡ false → waits c (with_submit n o l) ≡ false
waits_submit c n None l h = h
waits_submit c n (Some t) l h = h

module _ (g : Input) (d : DmNo) (c : ℕ) (far : length g.catalogue.classes < c) where
  pub none_waits : (log : Log) → IsLawful g log → waits c (local_of g (D d) log) ≡ false
  none_waits [] h = refl
  none_waits (Mark (Submit n) ∷ log) h = none_waits log h.1
  none_waits (Submitted to n ∷ log) h =
      let i = none_waits log h.1 in
      waits_if c (same_site (D d) to) (with_submit n (txn_at g n) (local_of g (D d) log)) (local_of g (D d) log)
      (λ e. waits_submit c n (txn_at g n) (local_of g (D d) log) i) i
  none_waits (Hand from to n m ∷ log) h =
      let i = none_waits log h.1 in
      waits_if c (same_site (D d) to) (Handed from m ∷ local_of g (D d) log) (local_of g (D d) log) (λ e. i) i
  none_waits (Does by act ∷ log) h =
      let i = none_waits log h.1 in
      let due = allowed_act g log (Does by act) (next_allowed g log (Does by act) h.0 tt) in
      waits_if c (same_site (D d) by) (Did act ∷ local_of g (D d) log) (local_of g (D d) log)
      (λ e. (let here : IsDueAt g log (D d) act = subst (λ z. IsDueAt g log z act) (sym (same_is (D d) by e)) due in
      due_leaves (setting_of g (D d)) (local_of g (D d) log) c act far here (waits c (local_of g (D d) log)) ∙ i)) i
  none_waits (_ ∷ log) h = none_waits log h.1

-- and nothing is lacking of it
pub none_lacks : (g : Input) (c t d : ℕ) → length g.catalogue.classes < c → (log : Log) → IsLawful g log → wait_at g log c t d ≡ None
none_lacks g c t d far log h =
    let at : Site = D (dm_no d) in
    let asleep : waiting_at c t (local_of g at log) ≡ None =
    ap (λ b. if b then conds_of t (head (pipe c (local_of g at log))) else None) (none_waits g (dm_no d) c far log h) in
    ap (λ o. option_map (wait_for d) (unmet (setting_of g at) (local_of g at log) o)) asleep

pub no_waits : (g : Input) (c t : ℕ) → length g.catalogue.classes < c → (log : Log) → IsLawful g log → waits_of g log c t ≡ []
no_waits g c t far log h = none_chosen (wait_at g log c t) (numbers_to g.catalogue.dms) (λ d. none_lacks g c t d far log h)
