-- An attempt sends to data modules of the catalogue alone.
use Rattle.sdd_obligations.proofs.All.{Act, All, All-get_or, All-nil, Asking, Attempt, Bool, Catalogue, D, Did, Each, Exchange, Fetching, Handed, IsFair, IsStep, IsWhole, List, Move, Msg, None, Option, Over, Phase, Queued, ReadPlace, Ready, Reduced, Rows, Setting, Shipping, Site, Some, Step, Values, [], active, active_handed, after_hand, answered, arith, ascending, class_at, cond, cons_option, contains, counted, dm_no, false, fetches_from, filter_map, find, fold, found_in_all, get_or_past, goes_on, head_of, if_way, if◌then◌else◌, insert_key, length, lower_same_higher, map, module_read, modules_asked, modules_of, nat_cmp, next_stamp, numbers_to, on_answer, option_map, phase_ends, queue, range_with_len, reads_at, reduces, refl, rejects, sends_of_act, ships, start_at, start_read, started, step_way, subst, suc, to_all, true, with_use, with_values, without, zero, ℕ, ◌&&◌, ◌++◌, ◌+◌, ◌-◌, ◌==◌, ◌∷◌, ◌≡◌, ◌≤◌}
use Rattle.sdd_invariants.specs.catalog.Numbers.{IsServed}
use Rattle.sdd_invariants.specs.site_module.SiteLog.{Log}

-- numbers from 1 to n

abbrev pub IsNear : ℕ → ℕ → Type 0
IsNear n d = (1 ≤ d) × (d ≤ n)

abbrev pub AllNear : ℕ → List ℕ → Type 0
AllNear n [] = Unit {0}
AllNear n (d ∷ dms) = IsNear n d × AllNear n dms

abbrev ModulesNear : ℕ → List (ℕ × List ℕ) → Type 0
ModulesNear n [] = Unit {0}
ModulesNear n (m ∷ ms) = IsNear n m.0 × ModulesNear n ms

abbrev pub SendsNear : ℕ → List (ℕ × Msg) → Type 0
SendsNear n [] = Unit {0}
SendsNear n (p ∷ ps) = IsNear n p.0 × SendsNear n ps

-- the modules of an exchange, and those to which it is still to send
pub record IsNearBy (n : ℕ) (x : Exchange) : Type 0 where
  pub modules : ModulesNear n x.modules
  pub sends : SendsNear n x.to_send

-- steps of an exchange

to_near : (n : ℕ) (m : Msg) (dms : List ℕ) → AllNear n dms → SendsNear n (to_all m dms)
to_near n m [] h = tt
to_near n m (d ∷ dms) h = (h.0, to_near n m dms h.1)

cons_near : (n : ℕ) (b : Bool) (d : ℕ) (dms : List ℕ) → IsNear n d → AllNear n dms → AllNear n (cons_option (cond b (Some d) None) dms)
cons_near n b d dms h i = grind arith

use_near : (n u : ℕ) (ms : List (ℕ × List ℕ)) → ModulesNear n ms → AllNear n (filter_map (λ m. cond (contains m.1 u) (Some m.0) None) ms)
use_near n u [] h = tt
use_near n u (m ∷ ms) h = cons_near n (contains m.1 u) m.0 _ h.0 (use_near n u ms h.1)

firsts_near : (n : ℕ) (ms : List (ℕ × List ℕ)) → ModulesNear n ms → AllNear n (map (λ (m : ℕ × List ℕ). m.0) ms)
firsts_near n [] h = tt
firsts_near n (m ∷ ms) h = (h.0, firsts_near n ms h.1)

reduces_near : (n ts c : ℕ) (m : Move) (x : Exchange) → IsNearBy n x → IsNearBy n (reduces ts c m x)
reduces_near n ts c m x h = record { modules = h.modules; sends = to_near n _ (with_use x m.target.part) (use_near n m.target.part x.modules h.modules) }

fetches_near : (n ts c : ℕ) (m : Move) (x : Exchange) (dms : List ℕ) → AllNear n dms → IsNearBy n x → IsNearBy n (fetches_from ts c m x dms)
fetches_near n ts c m x [] k h = reduces_near n ts c m (record x { union = [] }) (record { modules = h.modules; sends = h.sends })
fetches_near n ts c m x (d ∷ dms) k h = record { modules = h.modules; sends = to_near n _ (d ∷ dms) k }

ships_near : (n ts c : ℕ) (x : Exchange) → IsNearBy n x → IsNearBy n (ships ts c x)
ships_near n ts c x h = record { modules = h.modules; sends = to_near n _ (map (λ (m : ℕ × List ℕ). m.0) x.modules) (firsts_near n x.modules h.modules) }

on_near : (n ts c : ℕ) (x : Exchange) (qs : List Asking) (done : List Step) → IsNearBy n x → IsNearBy n (goes_on ts c x qs done)
on_near n ts c x [] done h = ships_near n ts c x h
on_near n ts c x (q ∷ rest) done h = grind (arith, IsNearBy, fetches_near, use_near, (on_near n ts c x rest))

ends_near : (n ts c : ℕ) (x : Exchange) (p : Phase) → IsNearBy n x → IsNearBy n (phase_ends ts c x p)
ends_near n ts c x (Fetching m) h = reduces_near n ts c m x h
ends_near n ts c x Shipping h = record { modules = h.modules; sends = h.sends }
ends_near n ts c x Over h = h
ends_near n ts c x _ h = on_near n ts c x x.left x.done h

on_answer_near : (n ts c : ℕ) (x : Exchange) (dms : List ℕ) → IsNearBy n x → IsNearBy n (on_answer ts c x dms)
on_answer_near n ts c x [] h = ends_near n ts c (record x { lacks = [] }) x.phase (record { modules = h.modules; sends = h.sends })
on_answer_near n ts c x (d ∷ dms) h = record { modules = h.modules; sends = h.sends }

answered_near : (n ts c d : ℕ) (b : Bool) (x y : Exchange) → IsNearBy n x → IsNearBy n y → IsNearBy n (if b then answered ts c d y else x)
answered_near n ts c d true x y h k = on_answer_near n ts c y (without y.lacks d) k
answered_near n ts c d false x y h k = h

hand_near : (n ts c d : ℕ) (m : Msg) (x : Exchange) → IsNearBy n x → IsNearBy n (after_hand ts c d m x)
hand_near n ts c d (Ready t k counts) x h =
    answered_near n ts c d ((t.0 == ts) && (k.0 == c)) x (record x { counts = counted d counts x.counts }) h
    (record { modules = h.modules; sends = h.sends })
hand_near n ts c d (Values t k u vs) x h =
    answered_near n ts c d ((t.0 == ts) && (k.0 == c)) x (record x { union = with_values x.union vs; values = x.values + length vs }) h (grind arith)
hand_near n ts c d (Reduced t k u r) x h =
    answered_near n ts c d ((t.0 == ts) && (k.0 == c)) x (record x {
      counts = counted d ((u, r) ∷ []) x.counts;
    }) h (record { modules = h.modules; sends = h.sends })
hand_near n ts c d (Rows t k rows) x h =
    answered_near n ts c d ((t.0 == ts) && (k.0 == c)) x (record x {
      found = x.found ++ rows;
      rows = x.rows + length rows;
    }) h (record { modules = h.modules; sends = h.sends })
hand_near n ts c d _ x h = h

-- the modules that a transaction reads at

insert_near : (n : ℕ) (ks : List ℕ) (k : ℕ) → IsNear n k → AllNear n ks → AllNear n (insert_key nat_cmp ks k)
insert_near n [] k h i = (h, tt)
insert_near n (x ∷ ks) k h i = grind (arith, lower_same_higher, insert_near n ks k h i.1)

fold_near : (n : ℕ) (dms ks : List ℕ) → AllNear n dms → AllNear n ks → AllNear n (fold (λ ks k. insert_key nat_cmp ks k) ks dms)
fold_near n [] ks h i = i
fold_near n (d ∷ dms) ks h i = fold_near n dms (insert_key nat_cmp ks d) h.1 (insert_near n ks d h.0 i)

range_near : (a m n : ℕ) → 1 ≤ a → a + m ≤ suc n → AllNear n (range_with_len a m)
range_near a zero n l k = tt
range_near a (suc m) n l k = ((l, omega (arith, k)), range_near (a + 1) m n (omega (arith, l)) (omega (arith, k)))

made_cons : (n : ℕ) (o : Option ℕ) (dms : List ℕ) → ((d : ℕ) → o ≡ Some d → IsNear n d) → AllNear n dms → AllNear n (cons_option o dms)
made_cons n o dms f h = grind arith

made_near : (n : ℕ) (f : ℕ → Option ℕ) (xs : List ℕ) → ((x d : ℕ) → f x ≡ Some d → IsNear n d) → AllNear n (filter_map f xs)
made_near n f [] h = tt
made_near n f (x ∷ xs) h = made_cons n (f x) (filter_map f xs) (h x) (made_near n f xs h)

found_near : (cat : Catalogue) (p : ReadPlace → Bool) (rs : List ReadPlace) (o : Option ReadPlace) (d : ℕ) → All (IsServed cat) rs → find p rs ≡ o
    → option_map (λ r. r.at.0) o ≡ Some d → IsNear cat.dms d
found_near cat p rs None d h e f = cc
found_near cat p rs (Some r) d h e f =
    let q : r.at.0 ≡ d = cc in let i = found_in_all (IsServed cat) p rs r h e in
    subst (IsNear cat.dms) q (i.module_from, i.module_to)

read_near : (cat : Catalogue) (c f d : ℕ) → IsWhole cat → (c == 0) ≡ false → reads_at cat c f ≡ Some d → IsNear cat.dms d
read_near cat c f d w z e =
    found_near cat (λ r. r.fragment.0 == f) (class_at cat c).reads (find (λ r. r.fragment.0 ==
    f) (class_at cat c).reads) d (grind (arith, All-get_or, get_or_past, All-nil)) refl (rw z at e)

pub modules_near : (cat : Catalogue) (c : ℕ) (fs : List ℕ) → IsWhole cat → AllNear cat.dms (modules_of cat c fs)
modules_near cat c fs w = elim (c ==
    0) as (λ b. (c == 0) ≡ b → AllNear cat.dms (if b then numbers_to cat.dms else ascending
    (filter_map (reads_at cat c) fs))) [
      | true ↦ λ z. range_near 1 cat.dms cat.dms (omega arith) (omega arith)
      | false ↦ λ z. fold_near cat.dms (filter_map (reads_at cat c) fs) [] (made_near cat.dms (reads_at cat c) fs (λ f d e. read_near cat c f d w z e)) tt
    ] refl

-- the active attempts

abbrev pub HasNear : ℕ → Option Attempt → Type 0
HasNear n None = Unit {0}
HasNear n (Some a) = IsNearBy n a.exchange

started_near : (n ts : ℕ) (sends : List (Site × Msg)) (o : Option Queued) → ModulesNear n (filter_map module_read sends) → HasNear n (started ts sends o)
started_near n ts sends o h = grind arith

reads_near : (n : ℕ) (s : Setting) (c : ℕ) (log : Log) (q : Queued) (dms : List ℕ) → AllNear n dms
    → ModulesNear n (filter_map module_read (map (λ d. (D (dm_no d), start_read s c log q d)) dms))
reads_near n s c log q [] h = tt
reads_near n s c log q (d ∷ dms) h = (h.0, reads_near n s c log q dms h.1)

handed_near : (n c : ℕ) (from : Site) (m : Msg) (o : Option Attempt) → HasNear n o → HasNear n (active_handed c from m o)
handed_near n c (D d) m None h = tt
handed_near n c (D d) m (Some a) h =
    if_way (HasNear n) (rejects m a.ts c) None (Some (record a { exchange = after_hand a.ts c d.0 m a.exchange })) tt (hand_near n a.ts c d.0 m a.exchange h)
handed_near n c _ m o h = h

act_near : (s : Setting) (c : ℕ) (log : Log) (act : Act) → IsWhole s.catalogue → IsStep s log act → HasNear s.catalogue.dms (active s c log)
    → HasNear s.catalogue.dms (active s c (Did act ∷ log))
act_near s c log act w i h = step_way s log act (λ x. HasNear s.catalogue.dms (active s c (Did x ∷ log)))
    (λ k q at f e. if_way (HasNear s.catalogue.dms) (k ==
    c) (started (next_stamp s log) (sends_of_act (start_at s k log q)) (head_of (queue s c log))) (active s c log)
    (started_near s.catalogue.dms (next_stamp s log) (sends_of_act (start_at s k log q))
    (head_of (queue s c log)) (reads_near s.catalogue.dms s k log q (modules_asked s k q.text) (modules_near s.catalogue k _ w))) h)
    (λ k bases a at f. if_way (HasNear s.catalogue.dms) (k == c) None (active s c log) tt h)
    (λ to m hand f. (grind (arith, if_way))) i

pub active_near : (s : Setting) (c : ℕ) (log : Log) → IsWhole s.catalogue → Each (IsFair s) log → HasNear s.catalogue.dms (active s c log)
active_near s c [] w f = tt
active_near s c (Handed from m ∷ log) w f = handed_near s.catalogue.dms c from m (active s c log) (active_near s c log w f.1)
active_near s c (Did act ∷ log) w f = act_near s c log act w f.0 (active_near s c log w f.1)
active_near s c (_ ∷ log) w f = active_near s c log w f.1
