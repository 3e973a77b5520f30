-- The conditions of a READ are on classes of the catalogue.
use Rattle.sdd_obligations.proofs.All.{Act, All, All-cons, All-nil, AllLt, Catalogue, ClassNo, Cond, Each, FitsCond, FragNo, IsFair, IsRead, List, Msg, None, Option, Queued, Read, Setting, Site, Some, Ts, TxnNo, Use, [], arith, by_condition, cond_of, condition_on, conditions, conditions_at, cons_option, each_at, filter_map, frag_no, fragments_of, if_way, in_none, in_one, inl, inr, is_asked, length, map, puts_to, range_with_len, sends_of_act, slice_get, start_at, start_puts, start_read, subst, suc, to_site, undeclared_conditions, was_put, zero, ℕ, ◌+◌, ◌<◌, ◌^◌, ◌∷◌, ◌≡◌, ◌≤◌, ◌==◌}
use Rattle.sdd_invariants.specs.All.{P2, P3, asked_by, classes_of, cond_for}
use Rattle.sdd_invariants.specs.site_module.SiteLog.{Log}
use Rattle.sdd_invariants.proofs.ReadsPut.{put_by}
use Rattle.sdd_invariants.specs.protocol.declared.entry.Entry as line

-- conditions on classes from 1 to n

abbrev IsFrom1 : ℕ → ℕ → Type 0
IsFrom1 n c = (1 ≤ c) × (c ≤ n)

abbrev pub AllWithin : ℕ → List Cond → Type 0
AllWithin n [] = Unit {0}
AllWithin n (d ∷ ds) = IsFrom1 n d.class.0 × AllWithin n ds

abbrev IsWithin : ℕ → Option Cond → Type 0
IsWithin n None = Unit {0}
IsWithin n (Some d) = IsFrom1 n d.class.0

abbrev AllFrom1 : ℕ → List ℕ → Type 0
AllFrom1 n [] = Unit {0}
AllFrom1 n (c ∷ cs) = IsFrom1 n c × AllFrom1 n cs

cons_within : (n : ℕ) (o : Option Cond) (ds : List Cond) → IsWithin n o → AllWithin n ds → AllWithin n (cons_option o ds)
cons_within n o ds h i = grind arith

made_within : (n : ℕ) (f : ℕ → Option Cond) (cs : List ℕ) → ((c : ℕ) → IsFrom1 n c → IsWithin n (f c)) → AllFrom1 n cs → AllWithin n (filter_map f cs)
made_within n f [] h l = tt
made_within n f (c ∷ cs) h l = cons_within n (f c) (filter_map f cs) (h c l.0) (made_within n f cs h l.1)

mapped_within : (n : ℕ) (f : ℕ → Cond) (cs : List ℕ) → ((c : ℕ) → IsFrom1 n c → IsFrom1 n (f c).class.0) → AllFrom1 n cs → AllWithin n (map f cs)
mapped_within n f [] h l = tt
mapped_within n f (c ∷ cs) h l = (h c l.0, mapped_within n f cs h l.1)

range_le : (a n k : ℕ) → 1 ≤ a → a + n ≤ suc k → AllFrom1 k (range_with_len a n)
range_le a zero k m l = tt
range_le a (suc n) k m l = ((m, omega (arith, l)), range_le (a + 1) n k (omega (arith, m)) (omega (arith, l)))

cond_within : (n j t : ℕ) (frags : List FragNo) → IsFrom1 n j → IsWithin n (cond_for j t frags)
cond_within n j t [] h = tt
cond_within n j t (f ∷ frags) h = h

conditions_within : (cat : Catalogue) (table : List line.Entry) (c : ℕ) (frags : List ℕ) (own p2 d : ℕ)
    → AllWithin (length cat.classes) (conditions_at cat table c frags own p2 d)
conditions_within cat table c frags own p2 d =
    let n : ℕ = length cat.classes in
    let classes : AllFrom1 n (classes_of cat) = range_le 1 n n (omega arith) (omega arith) in
    let test = is_asked cat c d (map frag_no frags) in
    if_way (AllWithin n) (c == 0) (undeclared_conditions cat own) (conditions cat table c d (map frag_no frags) own p2)
    (mapped_within n (λ j. cond_of j own (map frag_no (fragments_of cat))) (classes_of cat) (λ j h. h) classes)
    (made_within n (condition_on test table c own p2) (classes_of cat)
    (λ j h. by_condition test table c own p2 j (IsWithin n) tt (cond_within n j p2 (asked_by P2 test table c j) h) (cond_within n j own (asked_by P3 test table c j) h)) classes)

-- of a READ that was put

abbrev ReadWithin : ℕ → Msg → Type 0
ReadWithin n (Read ts class txn attempt conds uses) = AllWithin n conds
ReadWithin n _ = Unit {0}

of_start : (s : Setting) (c : ℕ) (log : Log) (q : Queued) (b : Site) (k : ℕ) (m : Msg)
    → slice_get (to_site b (sends_of_act (start_at s c log q))) k ≡ Some m → ReadWithin (length s.catalogue.classes) m
of_start s c log q b k m e = elim (start_puts s c b log q) [
  | inl p ↦ in_none _ k m p e
  | inr p ↦ subst (ReadWithin (length s.catalogue.classes)) (in_one _ (start_read s c log q p.0) k m p.1 e) (grind (arith, conditions_within))
]

pub act_within : (s : Setting) (b : Site) (log : Log) (act : Act) (k : ℕ) (ts : Ts) (class : ClassNo)
    (txn : TxnNo) (attempt : ℕ) (conds : List Cond) (uses : List Use)
    → IsRead s log act class.0 ts.0 txn.0 attempt
    → slice_get (to_site b (sends_of_act act)) k ≡ Some (Read ts class txn attempt conds uses) → AllWithin (length s.catalogue.classes) conds
act_within s b log act k ts class txn attempt conds uses by e =
    of_start s class.0 log by.queued b k (Read ts class txn attempt conds uses)
    (grind (arith, slice_get, to_site, sends_of_act))

pub read_within : (s : Setting) (b : Site) (log : Log) (k : ℕ) (ts : Ts) (class : ClassNo) (txn : TxnNo) (attempt : ℕ) (conds : List Cond) (uses : List Use)
    → Each (IsFair s) log → slice_get (puts_to b log) k ≡ Some (Read ts class txn attempt conds uses) → AllWithin (length s.catalogue.classes) conds
read_within s b log k ts class txn attempt conds uses f e =
    let p = was_put b log k (Read ts class txn attempt conds uses) e in
    let q = each_at (IsFair s) p.later _ p.before (subst (Each (IsFair s)) p.is f) in
    let by : IsRead s p.before p.act class.0 ts.0 txn.0 attempt = put_by s b p.before p.act p.place (Read ts class txn attempt conds uses) q.0 p.there in
    act_within s b p.before p.act p.place ts class txn attempt conds uses by p.there

-- so they are what a data module asks

pub late : (t : ℕ) → t < 2 ^ 60 → t < 2 ^ 62
late t l = omega (arith, l)

pub conds_fit : (s : Setting) (ds : List Cond) → AllWithin (length s.catalogue.classes) ds → AllLt (2 ^ 60) (map (λ (d : Cond). d.time.0) ds)
    → All (FitsCond s) ds
conds_fit s [] h l = All-nil (FitsCond s)
conds_fit s (d ∷ ds) h l = All-cons (FitsCond s) d ds (record { is_class = h.0.1; early = late d.time.0 l.0 }) (conds_fit s ds h.1 l.1)

-- and so one of them
pub one_within : (n : ℕ) (ds : List Cond) (k : ℕ) (d : Cond) → AllWithin n ds → slice_get ds k ≡ Some d → IsFrom1 n d.class.0
one_within n [] k d h e = cc
one_within n (x ∷ ds) zero d h e = let p : x ≡ d = cc in subst (λ (y : Cond). IsFrom1 n y.class.0) p h.0
one_within n (x ∷ ds) (suc k) d h e = one_within n ds k d h.1 e
