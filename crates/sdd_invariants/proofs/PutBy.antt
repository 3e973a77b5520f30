-- Who puts what at a data module.
use Rattle.sdd_invariants.proofs.All.{Act, Apply, Bool, Change, ClassNo, ClassView, Cond, Did, Done, Each, Entry, Handed, Home, IsClassHere, IsDue, IsDueEach, IsPutByD, List, Log, Msg, None, Open, Option, Processes, Read, Records, Setting, Site, Some, Ts, TxnNo, U, Use, WasAsked, Write, [], act_by, act_where, answer_of, answer_to, ap, arith, ask_for, by_head, by_open, class_asked, eqb-true, false, filter, hands, head, head_of, home_of, if◌then◌else◌, inl, inr, is_asked_of, is_held, is_met, is_some, judged, list_all, map, not, opens, opens_acted, pipe, piped, puts_to, refl, same_site, sends_of_act, slice_get, spoiler, step_on, subst, suc, to_site, true, view_of, waits, zero, ℕ, ◌++◌, ◌==◌, ◌∷◌, ◌≡◌, ◌⊎◌}
use Rattle.sdd_invariants.proofs.AreReadSteps.{class_at_place}
use Rattle.sdd_invariants.proofs.Lists.{in_either, in_filtered, in_one}
use Rattle.sdd_invariants.proofs.Sites.{site_is, the_one}

abbrev PutsBy : Setting → Log → Act → Type 0
PutsBy s log act = (b : Site) (k : ℕ) (m : Msg) → slice_get (to_site b (sends_of_act act)) k ≡ Some m → IsPutByD s log b act m

puts_some : (s : Setting) (log : Log) (x a : Act) → PutsBy s log x → Some x ≡ Some a → PutsBy s log a
puts_some s log x a h e = let p : x ≡ a = cc in subst (PutsBy s log) p h

-- what is open was handed

more_asked : (log : Log) (e : Entry) (b : Site) (P : Msg → Type 0) → WasAsked log b P → WasAsked (e ∷ log) b P
more_asked log e b P h = record { asked = h.asked; later = e ∷ h.later; before = h.before; is = ap (λ l. e ∷ l) h.is; fits = h.fits }

abbrev open_of : ℕ → Site → Msg → Open
open_of n from m = record { hand = n; from = from; msg = m }

open_in : (n : ℕ) (from : Site) (m : Msg) (b : Bool) (os : List Open) (k : ℕ) (o : Open) → slice_get (if b then os ++ open_of n from m ∷ [] else os) k ≡ Some o
    → ((j : ℕ) × (slice_get os j ≡ Some o)) ⊎ ((from ≡ o.from) × (m ≡ o.msg))
open_in n from m b os k o e = grind (arith, in_either, in_one)

acted_in : (act : Act) (os : List Open) (k : ℕ) (o : Open) → slice_get (opens_acted act os) k ≡ Some o → (j : ℕ) × (slice_get os j ≡ Some o)
acted_in act os k o e = grind (arith, in_filtered)

abbrev IsMsg : Msg → Msg → Type 0
IsMsg m x = x ≡ m

pub was_handed : (log : Log) (k : ℕ) (o : Open) → slice_get (opens log) k ≡ Some o → WasAsked log o.from (IsMsg o.msg)
was_handed [] k o e = cc
was_handed (Handed from m ∷ log) k o e = elim (open_in (suc (hands log)) from m (is_some (class_asked m)) (opens log) k o e) [
  | inl p ↦ more_asked log (Handed from m) o.from (IsMsg o.msg) (was_handed log p.0 o p.1)
  | inr p ↦ record { asked = m; later = []; before = log; is = ap (λ x. Handed x m ∷ log) p.0; fits = p.1 }
]
was_handed (Did act ∷ log) k o e = let i = acted_in act (opens log) k o e in more_asked log (Did act) o.from (IsMsg o.msg) (was_handed log i.0 o i.1)
was_handed (x ∷ log) k o e = more_asked log x o.from (IsMsg o.msg) (was_handed log k o e)

-- the answer to an open message

by_open_one : (s : Setting) (log : Log) (h : Home) (k : ClassView) (o : Open) (m : Msg) (a : Act) → WasAsked log o.from (IsMsg m)
    → answer_to h k o m ≡ Some a → PutsBy s log a
by_open_one s log h k o (Read ts class txn attempt conds uses) a w e = puts_some s log _ a (λ b j x q. cc) e
by_open_one s log h k o m a w e = grind (arith, puts_some, the_one)

pub first_there : (os : List Open) (o : Open) → head_of os ≡ Some o → slice_get os 0 ≡ Some o
first_there os o e = grind arith

by_asked : (s : Setting) (log : Log) (h : Home) (k : ClassView) (x : Option Open) (a : Act)
    → head_of (filter (is_asked_of k.class) (opens log)) ≡ x → answer_of h k x ≡ Some a → PutsBy s log a
by_asked s log h k None a p e = cc
by_asked s log h k (Some o) a p e =
    let i = in_filtered (is_asked_of k.class) (opens log) 0 o (first_there _ o p) in
    by_open_one s log h k o o.msg a (was_handed log i.1 o i.2) e

-- what the head of a pipe makes due

map_cons : (f : Cond → Site × Msg) (d : Cond) (ds : List Cond) (ms : List Msg) (b : Site) (k : ℕ) (m : Msg) → b ≡ (f d).0
    → ((j : ℕ) → slice_get ms j ≡ Some m → (i : ℕ) × (x : Cond) × (slice_get ds i ≡ Some x) × (f x ≡ (b, m)))
    → slice_get ((f d).1 ∷ ms) k ≡ Some m → (i : ℕ) × (x : Cond) × (slice_get (d ∷ ds) i ≡ Some x) × (f x ≡ (b, m))
map_cons f d ds ms b zero m p g e = let q : (f d).1 ≡ m = cc in (0, d, refl, (rw p (ap (λ z. ((f d).0, z)) q)))
map_cons f d ds ms b (suc k) m p g e = let i = g k e in (suc i.0, i.1, i.2, i.3)

in_map : (f : Cond → Site × Msg) (b : Site) (ds : List Cond) (k : ℕ) (m : Msg) → slice_get (to_site b (map f ds)) k ≡ Some m
    → (i : ℕ) × (x : Cond) × (slice_get ds i ≡ Some x) × (f x ≡ (b, m))
in_map f b [] k m e = cc
in_map f b (d ∷ ds) k m e = elim (same_site b (f d).0) as
    (λ x. same_site b (f d).0 ≡ x → slice_get (if x then (f d).1 ∷ to_site b (map f ds) else to_site b (map f ds)) k ≡ Some m → (i : ℕ) × (y : Cond) ×
    (slice_get (d ∷ ds) i ≡ Some y) × (f y ≡ (b, m))) [
      | true ↦ λ p q. map_cons f d ds (to_site b (map f ds)) b k m (site_is b (f d).0 p) (λ j r. in_map f b ds j m r) q
      | false ↦ λ p q. let i = in_map f b ds k m q in (suc i.0, i.1, i.2, i.3)
    ] refl e

ask_by : (s : Setting) (log : Log) (c : ℕ) (ts : Ts) (class : ClassNo) (txn : TxnNo) (attempt : ℕ) (conds : List Cond) (uses : List Use) (lacking : List Cond) (b : Site) (x : Msg) (i : ℕ) (d : Cond) (act : Act)
    → IsClassHere s c → head (pipe c log) ≡ Some (Read ts class txn attempt conds uses)
    → lacking ≡ filter (λ d. not (is_met (view_of s log) d)) conds → slice_get lacking i ≡ Some d → ask_for (home_of s) d ≡ (b, x) → IsPutByD s log b act x
ask_by s log c ts class txn attempt conds uses h10 b x i d act l h f e p = grind (arith, in_filtered, slice_get)

by_judged : (s : Setting) (log : Log) (c : ℕ) (ts : Ts) (class : ClassNo) (txn : TxnNo) (attempt : ℕ) (conds : List Cond) (uses : List Use) (lacking : List Cond) (by : Option Cond) (a : Act)
    → IsClassHere s c → waits c log ≡ false → head (pipe c log) ≡ Some (Read ts class txn attempt conds uses)
    → spoiler (view_of s log) conds ≡ by → lacking ≡ filter (λ d. not (is_met (view_of s log) d)) conds
    → Some (act_by (home_of s) (view_of s log) c (Read ts class txn attempt conds uses) (judged (view_of s log) lacking by)) ≡ Some a → PutsBy s log a
by_judged s log c ts class txn attempt conds uses lacking (Some d) a l w h q f e = puts_some s log _ a
    (λ b j x r. let i = the_one b _ _ j x r in subst (IsPutByD s log b _) i.1
    (record { class = c; txn = txn; attempt = attempt; conds = conds; uses = uses; here = l; head_is = h; waits_not = w; cond_by = d; spoiler_is = q; by_is = refl; write_is = refl; act_is = refl; to_is = i.0 })) e
by_judged s log c ts class txn attempt conds uses [] None a l w h q f e = grind (arith, puts_some, the_one)
by_judged s log c ts class txn attempt conds uses (d ∷ ds) None a l w h q f e = puts_some s log _ a
    (λ b j x r. let i = in_map (ask_for (home_of s)) b (d ∷ ds) j x r in ask_by s log c ts class txn attempt conds uses (d ∷ ds) b x i.0 i.1 _ l h f i.2 i.3) e

by_done : (s : Setting) (log : Log) (c : ℕ) (z : Bool) (ts : Ts) (class : ClassNo) (txn : TxnNo) (changes : List Change)
    → (c == 0) ≡ z → head (pipe c log) ≡ Some (Write ts class txn changes)
    → PutsBy s log (Records c (Apply txn class (home_of s).dm ts) (if z then (U, Done ts) ∷ [] else []))
by_done s log zero true ts class txn changes z h b j x r = grind (arith, the_one)
by_done s log (suc c) true ts class txn changes z h b j x r = absurd (let p : suc c ≡ 0 = eqb-true (suc c) 0 z in omega arith)
by_done s log c false ts class txn changes z h b j x r = cc

by_write : (s : Setting) (log : Log) (c : ℕ) (held : Bool) (ts : Ts) (class : ClassNo) (txn : TxnNo) (changes : List Change) (a : Act)
    → head (pipe c log) ≡ Some (Write ts class txn changes)
    → act_where (home_of s) (view_of s log) c (Some (Write ts class txn changes)) (if held then None else Some Processes) ≡ Some a → PutsBy s log a
by_write s log c held ts class txn changes a h e = grind (arith, puts_some, by_done)

by_waited : (s : Setting) (log : Log) (c : ℕ) (met : Bool) (ts : Ts) (class : ClassNo) (txn : TxnNo) (attempt : ℕ) (conds : List Cond) (uses : List Use) (a : Act)
    → IsClassHere s c → head (pipe c log) ≡ Some (Read ts class txn attempt conds uses)
    → act_where (home_of s) (view_of s log) c (Some (Read ts class txn attempt conds uses)) (if met then Some Processes else None) ≡ Some a → PutsBy s log a
by_waited s log c met ts class txn attempt conds uses a l h e = grind (arith, puts_some, the_one)

by_on : (s : Setting) (log : Log) (c : ℕ) (w : Bool) (m : Msg) (a : Act) → IsClassHere s c → waits c log ≡ w → head (pipe c log) ≡ Some m
    → act_where (home_of s) (view_of s log) c (Some m) (step_on (view_of s log) c w (Some m)) ≡ Some a → PutsBy s log a
by_on s log c false (Read ts class txn attempt conds uses) a l i h e = by_judged s log c ts class txn attempt conds uses _ _ a l i h refl refl e
by_on s log c w m a l i h e = grind (arith, puts_some, by_write, is_held, view_of, by_waited, list_all, is_met)

by_head_of : (s : Setting) (log : Log) (c : ℕ) (o : Option Msg) (a : Act) → IsClassHere s c → head (pipe c log) ≡ o
    → act_where (home_of s) (view_of s log) c o (step_on (view_of s log) c (waits c log) o) ≡ Some a → PutsBy s log a
by_head_of s log c o a l h e = grind (arith, by_on)

pub put_by_d : (s : Setting) (log : Log) (act : Act) → IsDue (home_of s) (view_of s log) act → (b : Site) (k : ℕ) (m : Msg)
    → slice_get (to_site b (sends_of_act act)) k ≡ Some m → IsPutByD s log b act m
put_by_d s log act (by_open n k p e) = by_asked s log (home_of s) k (head_of (filter (is_asked_of k.class) (opens log))) act refl e
put_by_d s log act (by_head n k p e) = grind (arith, class_at_place, by_head_of)

-- a data module puts nothing that goes through a pipe
not_piped : (s : Setting) (log : Log) (b : Site) (act : Act) (m : Msg) → IsPutByD s log b act m → piped m ≡ None
not_piped s log b act m h = grind arith

none_at : (xs ys : List Msg) → ((k : ℕ) (m : Msg) → slice_get xs k ≡ Some m → piped m ≡ None)
    → ((k : ℕ) (m : Msg) → slice_get ys k ≡ Some m → piped m ≡ None) → (k : ℕ) (m : Msg) → slice_get (xs ++ ys) k ≡ Some m → piped m ≡ None
none_at xs ys f g k m e = elim (in_either xs ys k m e) [ inl p ↦ f k m p | inr p ↦ g p.0 m p.1 ]

pub d_pipes_none : (s : Setting) (b : Site) (log : Log) → Each (IsDueEach s) log → (k : ℕ) (m : Msg) → slice_get (puts_to b log) k ≡ Some m → piped m ≡ None
d_pipes_none s b [] h k m e = cc
d_pipes_none s b (Did act ∷ log) h k m e =
    none_at (puts_to b log) (to_site b (sends_of_act act)) (d_pipes_none s b log h.1) (λ j x p. not_piped s log b act x (put_by_d s log act h.0 b j x p)) k m e
d_pipes_none s b (_ ∷ log) h k m e = d_pipes_none s b log h.1 k m e
