-- An Answer splits the WRITEs of a condition's class: those that change one of its fragments are processed before it
-- exactly where their time is below the condition's.
use Rattle.sdd_invariants.proofs.All.{Act, AllUnspoilt, Answer, Change, ClassNo, ClassView, Cond, D, DmNo, Does, Each, Input, IsDueEach, IsPermitted, IsReadStep, IsRising, List, Msg, Pipe, Read, Records, Setting, Site, Some, Ts, TxnNo, Use, Write, [], all_of, allowed_act, append_assoc, arith, class_puts, dec_le, empty_pipe, false, head, head_of, home, in_left, inl, inr, is_met, length, length-append, list_all, list_any, local_of, map, nat_le, nat_tests, number_of, passed, passed_by, pipe, pipe_at, place_within, setting_of, slice_get, spoiling, spoils, subst, suc, sym, time_of, touches, true, view_of, zero, ℕ, ◌++◌, ◌+◌, ◌<◌, ◌∙◌, ◌∷◌, ◌≡◌, ◌≢◌, ◌≤◌, ◌⊎◌}
use Rattle.sdd_invariants.proofs.Waiting.{any_false_at, no_spoiler, processed_in_is, spoils_is, waiting}
use Rattle.sdd_invariants.proofs.ClassOrder.{class_rises, earlier}
use Rattle.sdd_invariants.proofs.InPipe.{in_pipe_later}
use Rattle.sdd_invariants.proofs.AreReadSteps.{class_in_view, class_not_in_view, d_step}
use Rattle.sdd_invariants.proofs.Bools.{not_both}
use Rattle.sdd_invariants.proofs.Lists.{all_at, any_at, at_seam, within_left}
use Rattle.sdd_invariants.proofs.Fair.{d_fair}
use Rattle.sdd_invariants.proofs.Made.{permitted_before}
use Rattle.sdd_log.specs.All.{Log}
use Rattle.sdd_log.specs.site_module.SiteLog as site

pub le_is : (a b : ℕ) → nat_le a b ≡ true → a ≤ b
le_is a b e = grind (arith, nat_tests)

-- where a class has passed a time, what has a smaller time is processed
passed_at : (ps qs more : List Msg) (t i : ℕ) (m : Msg) → IsRising (map time_of ((ps ++ qs) ++ more))
    → slice_get ((ps ++ qs) ++ more) i ≡ Some m → time_of m < t → passed_by (head_of qs) ps t ≡ true → i < length ps
passed_at ps [] more t i m h e l q =
    let a = any_at (λ x. nat_le t (time_of x)) ps q in
    let k = earlier ((ps ++ []) ++ more) i a.0 t m a.1 h e (in_left (ps ++ []) more a.0 a.1 (in_left ps [] a.0 a.1 a.2)) l (le_is t (time_of a.1) a.3) in
    omega (arith, k, (place_within ps a.0 a.1 a.2))
passed_at ps (x ∷ qs) more t i m h e l q =
    earlier ((ps ++ x ∷ qs) ++ more) i (length ps) t m x h e (in_left (ps ++ x ∷ qs) more (length ps) x (at_seam ps qs x)) l (le_is t (time_of x) q)

-- what the Answer's step says of its conditions

unspoilt_at : (s : Setting) (log : site.Log) (ds : List Cond) (n : ℕ) (d : Cond) → AllUnspoilt s log ds → slice_get ds n ≡ Some d
    → (d.class.0 ≡ 0) ⊎ (spoils (view_of s log) d ≡ false)
unspoilt_at s log [] n d h e = cc
unspoilt_at s log (x ∷ ds) zero d h e = let p : x ≡ d = cc in subst (λ y. (y.class.0 ≡ 0) ⊎ (spoils (view_of s log) y ≡ false)) p h.0
unspoilt_at s log (x ∷ ds) (suc n) d h e = unspoilt_at s log ds n d h.1 e

pub answered_if : (s : Setting) (log : site.Log) (c : ℕ) (txn : TxnNo) (attempt : ℕ) (module_no : DmNo)
    (sends : List (Site × Msg)) (ts : Ts) (k : ClassNo) (t : TxnNo) (a : ℕ) (conds : List Cond) (uses : List Use)
    → Each (IsDueEach s) log → IsReadStep s log (Records c (Answer txn attempt module_no) sends) → head (pipe c log) ≡ Some (Read ts k t a conds uses)
    → (list_all (is_met (view_of s log)) conds ≡ true) × AllUnspoilt s log conds
answered_if s log c txn attempt module_no sends ts k t a conds uses h e f = grind (arith, not_both, waiting, no_spoiler)

below_time : (q : Cond) (w : Ts) (j : ClassNo) (x : TxnNo) (changes : List Change) → touches q.frags changes ≡ true
    → spoiling q (Write w j x changes) ≡ false → w.0 < q.time.0
below_time q w j x changes t e = (grind (arith, nat_tests))

pub processed_there : (p : Pipe) (more : List Msg) (i : ℕ) (m : Msg) → slice_get (all_of p ++ more) i ≡ Some m
    → i < length p.processed → slice_get p.processed i ≡ Some m
processed_there p more i m e l = grind (arith, all_of, length-append, within_left)

pub processed_stays : (p : Pipe) (more : List Msg) (i : ℕ) (m : Msg) → slice_get p.processed i ≡ Some m → slice_get (all_of p ++ more) i ≡ Some m
processed_stays p more i m e = in_left (all_of p) more i m (in_left p.processed p.unprocessed i m e)

-- the split

pub split : (g : Input) (later log : Log) (d : DmNo) (q : Cond) (r : ℕ) (txn : TxnNo) (attempt : ℕ) (module_no : DmNo)
    (sends : List (Site × Msg)) (ts : Ts) (k : ClassNo) (t : TxnNo) (a : ℕ) (conds : List Cond) (uses : List Use)
    (n : ℕ) (i : ℕ) (w : Ts) (j : ClassNo) (x : TxnNo) (changes : List Change)
    → IsPermitted g (later ++ Does (D d) (Records r (Answer txn attempt module_no) sends) ∷ log) → number_of (home g.catalogue q.class.0) ≤ 63
    → head (pipe_at g r d log) ≡ Some (Read ts k t a conds uses) → slice_get conds n ≡ Some q → q.class.0 ≢ 0
    → slice_get (class_puts g q.class.0 d (later ++ Does (D d) (Records r (Answer txn attempt module_no) sends) ∷ log)) i ≡ Some (Write w j x changes)
    → touches q.frags changes ≡ true
    → (i < length (pipe_at g q.class.0 d log).processed → w.0 < q.time.0) × (w.0 < q.time.0 → i < length (pipe_at g q.class.0 d log).processed)
split g later log d q r txn attempt module_no sends ts k t a conds uses n i w j x changes h small f at declared e tch =
    let s : Setting = setting_of g (D d) in
    let act : Act = Records r (Answer txn attempt module_no) sends in
    let l : site.Log = local_of g (D d) log in
    let all : Log = later ++ Does (D d) act ∷ log in
    let c : ℕ = q.class.0 in
    let before = permitted_before g later (Does (D d) act ∷ log) h in
    let facts = answered_if s l r txn attempt module_no sends ts k t a conds uses (d_fair g d log before.1) (d_step s l act (allowed_act g log (Does (D d) act) before.0)) f in
    let met : is_met (view_of s l) q ≡ true = all_at (is_met (view_of s l)) conds n q facts.0 at in
    let clean : spoils (view_of s l) q ≡ false = elim (unspoilt_at s l conds n q facts.1 at) [ inl z ↦ absurd (declared z) | inr u ↦ u ] in
    let more = in_pipe_later g c d (later ++ Does (D d) act ∷ []) log before.1 in
    let whole : (later ++ Does (D d) act ∷ []) ++ log ≡ all = append_assoc later (Does (D d) act ∷ []) log in
    let is : class_puts g c d all ≡ all_of (pipe c l) ++ more.0 = subst (λ z. class_puts g c d z ≡ all_of (pipe c l) ++ more.0) whole more.1 in
    let rises : IsRising (map time_of (all_of (pipe c l) ++ more.0)) = subst (λ ms. IsRising (map time_of ms)) is (class_rises g c d all h small) in
    let there : slice_get (all_of (pipe c l) ++ more.0) i ≡ Some (Write w j x changes) = subst (λ ms. slice_get ms i ≡ Some (Write w j x changes)) is e in
    elim (dec_le (suc c) (suc (length s.catalogue.classes))) [
      | yes lt ↦ (
        (λ lo. let in_it : slice_get (pipe c l).processed i ≡ Some (Write w j x changes) = processed_there (pipe c l) more.0 i (Write w j x changes) there lo in
            let none : list_any (spoiling q) (pipe c l).processed ≡ false = subst (λ ms. list_any (spoiling q) ms ≡ false) (processed_in_is s l c lt)
            (sym (spoils_is s l q) ∙ clean) in
            below_time q w j x changes tch (any_false_at (spoiling q) (pipe c l).processed i (Write w j x changes) none in_it)),
        (λ lo. (passed_at (pipe c l).processed (pipe c l).unprocessed more.0 q.time.0 i (Write w j x changes) rises
            there lo (subst (λ (v : ClassView). passed v.pipe q.time.0 ≡ true) (class_in_view s l c lt) met))),
      )
      | no nlt ↦ (let p : passed empty_pipe q.time.0 ≡ true = subst (λ (v : ClassView). passed v.pipe q.time.0 ≡ true) (class_not_in_view s l c (omega (arith, nlt))) met in cc)
    ]
