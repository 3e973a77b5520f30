-- The WRITEs of a class on a link have different, rising times; each was put by the Commit of the attempt with its time.
use Rattle.sdd_invariants.proofs.All.{Act, AllLt, Attempt, Bases, Bool, Catalogue, Change, D, Did, Each, Entry, Handed, IsFair, IsSend, IsStep, IsStrict, List, Log, Msg, None, Option, Setting, Site, Some, Submits, Write, [], active, ap, append-nil, arith, bound, changes_at, class_no, commit_act, cond, dm_no, effect, filter_map-append, if◌then◌else◌, inl, inr, last_stamp, map, number_of, puts_to, refl, same_site, sends_of_act, stamp_or, start_at, subst, suc, sym, time_at, to_site, txn_no, write_at, write_to, writes_in, ℕ, ◌<◌, ◌∷◌, ◌≡◌, ◌≤◌, ◌⊎◌}
use Rattle.sdd_invariants.proofs.Clocks.{bound_rises, drawn, stamp_below_bound}
use Rattle.sdd_invariants.proofs.Active.{handed_way, sent_way, step_way}
use Rattle.sdd_invariants.proofs.Bools.{same_number, same_or_not}
use Rattle.sdd_invariants.proofs.Lists.{lt_push, lt_up, strict_push}
use Rattle.sdd_invariants.proofs.Sites.{GoesTo, one_to}

-- no WRITE with this time or a later one was put yet
abbrev pub open_of : ℕ → Option Attempt → ℕ
open_of b None = suc b
open_of b (Some a) = a.ts

abbrev pub open_from : Setting → ℕ → Log → ℕ
open_from s c log = open_of (bound s log) (active s c log)

-- one act puts at most one WRITE of the class on the link, at the open time
pub record Opens (s : Setting) (c : ℕ) (b : Site) (log : Log) (act : Act) : Type 0 where
  pub rises : open_from s c log ≤ open_from s c (Did act ∷ log)
  pub puts : (writes_in c (to_site b (sends_of_act act)) ≡ []) ⊎ ((t : ℕ) × (open_from s c log ≤ t) × (t < open_from s c (Did act ∷ log)) × (writes_in c (to_site b (sends_of_act act)) ≡ t ∷ []))

open_le : (b d : ℕ) (o : Option Attempt) → b ≤ d → open_of b o ≤ open_of d o
open_le b d o l = grind arith

no_writes_if : (c : ℕ) (b : Bool) (m : Msg) (ms : List Msg) → write_at c m ≡ None → writes_in c ms ≡ [] → writes_in c (if b then m ∷ ms else ms) ≡ []
no_writes_if c b m ms e h = grind arith

start_writes : (c : ℕ) (b : Site) (f : ℕ → Site × Msg) (dms : List ℕ) → ((d : ℕ) → write_at c (f d).1 ≡ None) → writes_in c (to_site b (map f dms)) ≡ []
start_writes c b f [] h = refl
start_writes c b f (d ∷ dms) h = no_writes_if c (same_site b (f d).0) (f d).1 (to_site b (map f dms)) (h d) (start_writes c b f dms h)

abbrev sent_to : ℕ → Msg → Option (Site × Msg)
sent_to d m = Some (D (dm_no d), m)

pub goes_write : (cat : Catalogue) (c : ℕ) (a : Attempt) (changes : List Change) → GoesTo (write_to cat c a changes)
goes_write cat c a changes d = (grind arith)

pub cond_is : (b : Bool) (x y : Site × Msg) → cond b (Some x) None ≡ Some y → x ≡ y
cond_is b x y e = grind arith

pub write_is : (cat : Catalogue) (c : ℕ) (a : Attempt) (changes : List Change) (d : ℕ) (m : Msg) → write_to cat c a changes d ≡ Some (D (dm_no d), m)
    → m ≡ Write (time_at a.ts) (class_no c) (txn_no a.txn) (changes_at cat d changes)
write_is cat c a changes d m e = grind (arith, cond_is)

-- what a Commit puts on a link
pub commit_puts : (s : Setting) (c : ℕ) (bases : Bases) (b : Site) (a : Attempt)
    → (to_site b (sends_of_act (commit_act s.catalogue bases c a)) ≡ [])
    ⊎ ((d : ℕ) × (to_site b (sends_of_act (commit_act s.catalogue bases c a)) ≡ Write (time_at a.ts) (class_no c) (txn_no a.txn)
    (changes_at s.catalogue d (effect s.catalogue (bases a.ts) a.text).changes) ∷ []))
commit_puts s c bases b a = grind (arith, one_to, goes_write, write_is)

opens_commit_own : (s : Setting) (c : ℕ) (bases : Bases) (b : Site) (log : Log) (a : Attempt) → active s c log ≡ Some a
    → a.ts ≤ bound s log → Opens s c b log (commit_act s.catalogue bases c a)
opens_commit_own s c bases b log a e l = grind (arith, same_number, commit_puts)

send_not_write : (s : Setting) (c : ℕ) (log : Log) (m : Msg) → IsSend s log m → write_at c m ≡ None
send_not_write s c log m e = grind (arith)

pub opens : (s : Setting) (c : ℕ) (b : Site) (log : Log) (act : Act) → number_of s.site ≤ 63
    → ((k : ℕ) → stamp_or (active s k log) ≤ last_stamp s log) → IsStep s log act → Opens s c b log act
opens s c b log act w l i = step_way s log act (Opens s c b log) (λ k q at f e. (record { rises = (grind (arith, same_or_not, start_at, same_number, open_le, bound, active)); puts = inl (start_writes c b _ _ (λ d. refl)) }))
    (λ k bases a at f. elim (same_or_not k c) [
      | inl p ↦ subst (λ j. Opens s c b log (commit_act s.catalogue bases j a)) (sym p) (opens_commit_own s c bases b log a (rw p at f)
          (let m : stamp_or (Some a) ≤ last_stamp s log = subst (λ o. stamp_or o ≤ last_stamp s log) f (l k) in let z = stamp_below_bound s log w in omega arith))
      | inr p ↦ (grind (arith, commit_puts))
    ])
    (λ to m hand f. record { rises = (let q = (sent_way (λ o. open_from s c log ≡ open_of (bound s log) o) c m (active s c log) (λ a x e. ap (open_of (bound s log)) e) refl) in omega arith); puts = inl (no_writes_if c (same_site b to) m [] (send_not_write s c log m f) refl) }) i

pub record IsWritten (s : Setting) (c : ℕ) (b : Site) (log : Log) : Type 0 where
  pub strict : IsStrict (writes_in c (puts_to b log))
  pub closed : AllLt (open_from s c log) (writes_in c (puts_to b log))

written_on : (s : Setting) (c : ℕ) (b : Site) (log : Log) (e : Entry) → open_from s c log ≤ open_from s c (e ∷ log)
    → puts_to b (e ∷ log) ≡ puts_to b log → IsWritten s c b log → IsWritten s c b (e ∷ log)
written_on s c b log e l p h = grind (arith, lt_up, open_from)

open_handed : (s : Setting) (c : ℕ) (from : Site) (m : Msg) (log : Log) → number_of s.site ≤ 63
    → stamp_or (active s c log) ≤ last_stamp s log → open_from s c log ≤ open_from s c (Handed from m ∷ log)
open_handed s c from m log w l = grind (arith, bound_rises, stamp_below_bound, handed_way, open_le)

pub written : (s : Setting) (c : ℕ) (b : Site) (log : Log) → number_of s.site ≤ 63 → Each (IsFair s) log → IsWritten s c b log
written s c b [] w h = record { strict = tt; closed = tt }
written s c b (Handed from m ∷ log) w h = written_on s c b log (Handed from m) (open_handed s c from m log w (drawn s log h.1 c)) refl (written s c b log w h.1)
written s c b (Submits n txn ∷ log) w h = written_on s c b log (Submits n txn) (omega arith) refl (written s c b log w h.1)
written s c b (Did act ∷ log) w h =
    let i = written s c b log w h.1 in
    let o = opens s c b log act w (drawn s log h.1) h.0 in
    let e = filter_map-append (write_at c) (puts_to b log) (to_site b (sends_of_act act)) in
    elim o.puts [
      | inl p ↦ (grind (arith, writes_in, puts_to, append-nil, lt_up, open_from))
      | inr p ↦ (grind (arith, writes_in, puts_to, strict_push, lt_up, open_from, lt_push))
    ]
written s c b (x ∷ log) w h =
    written_on s c b log x (open_le (bound s log) (bound s (x ∷ log)) (active s c log) (bound_rises s x log)) refl (written s c b log w h.1)
