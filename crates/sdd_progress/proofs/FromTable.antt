-- The conditions of a READ of a declared class come from the table that was in force at its Start.
use Rattle.std.proofs.Common.{arith}
use Rattle.sdd_progress.proofs.AllWaits.{AllDiagonalsIn, AreConditionsOf, Bool, Catalogue, ClassNo, Cond, D, Diagonal, DmNo, Does, Edge, FragNo, Input, IsFromTable, IsPermitted, IsPutAt, IsRead, List, Log, Msg, None, Option, P2, P3, Protocol, Queued, Read, Setting, Site, Some, Ts, TxnNo, Use, [], all_of, and_left, and_right, ap, ascending, asked_by, asked_in, asked_on, bound, class_number, class_puts, cond, condition_is, condition_on, conditions_at, current_era, eqb-true, era_there, fragments_in, home, in_filter_mapped, in_left, in_none, in_one, in_pipe, inl, inr, local_of, next_stamp, nth_era, origin, pipe_at, redeclares, refl, same_or_not, same_protocol, sends_of_act, setting_of, slice_get, start_at, start_puts, start_read, subst, sym, to_site, true, uses_of, ℕ, ◌++◌, ◌∙◌, ◌∷◌, ◌≡◌, ◌≢◌}
use Rattle.sdd_obligations.specs.protocol.declared.entry.Entry as line
use Rattle.sdd_obligations.specs.site_module.SiteLog as site

-- the classes in force at a transaction module are those of the list that was put in force last

era_of_class : (g : Input) (c : ℕ) (log : Log) → c ≢ 0
    → current_era (setting_of g (home g.catalogue c)) (local_of g (home g.catalogue c) log) ≡ nth_era g (redeclares log)
era_of_class g c log n = grind (arith, same_or_not, era_there)

-- a diagonal that asks

cond_some : (b : Bool) (o : Option FragNo) (f : FragNo) → cond b o None ≡ Some f → (b ≡ true) × (o ≡ Some f)
cond_some b o f e = grind arith

pub record IsAsked (i j : ℕ) (f : FragNo) (e : Edge) : Type 0 where
  pub reader : ClassNo
  pub writer : ClassNo
  pub is : e ≡ Diagonal reader writer f
  pub reader_is : reader.0 ≡ i
  pub writer_is : writer.0 ≡ j

asked_edge : (test : ℕ → Bool) (i j : ℕ) (e : Edge) (f : FragNo) → asked_on test i j e ≡ Some f → IsAsked i j f e
asked_edge test i j e f h6 = grind (arith, cond_some, eqb-true, and_left, and_right)

diagonals : (table : List line.Entry) (protocol : Protocol) (test : ℕ → Bool) (i j : ℕ) → AllDiagonalsIn table protocol i j (asked_by protocol test table i j)
diagonals table protocol test i j k f e =
    let m = in_filter_mapped (asked_in protocol test i j) table k f e in
    let p = cond_some (same_protocol m.1.protocol protocol) (asked_on test i j m.1.edge) f m.3 in
    let a = asked_edge test i j m.1.edge f p.1 in
    record { place = m.0; entry = m.1; there = m.2; reader = a.reader; writer = a.writer; edge_is = a.is; reader_is = a.reader_is; writer_is = a.writer_is; protocol_is = (grind arith) }

-- a condition comes from the diagonals of the protocol that asks it

on_class : (table : List line.Entry) (test : ℕ → Bool) (i own p2 j : ℕ) (q : Cond) → condition_on test table i own p2 j ≡ Some q → IsFromTable table i own p2 q
on_class table test i own p2 j q e = elim (condition_is test table i own p2 j q e) [
  | inl a ↦ subst (IsFromTable table i own p2) (sym a.is) (record { first = a.first; more = a.more; names = a.some; by = inl (refl, diagonals table P3 test i j) })
  | inr a ↦ subst (IsFromTable table i own p2) (sym a.is) (record { first = a.first; more = a.more; names = a.some; by = inr (refl, diagonals table P2 test i j) })
]

pub from_table : (cat : Catalogue) (table : List line.Entry) (c : ℕ) (frags : List ℕ) (own p2 d k : ℕ) (q : Cond) → c ≢ 0
    → slice_get (conditions_at cat table c frags own p2 d) k ≡ Some q → IsFromTable table c own p2 q
from_table cat table c frags own p2 d k q n e = grind (arith, same_or_not, slice_get, in_filter_mapped, on_class)

-- the READ of an attempt

conds_in : Msg → List Cond
conds_in (Read ts of txn attempt conds uses) = conds
conds_in _ = []

abbrev frags_asked : Setting → Queued → List ℕ
frags_asked s q = ascending (fragments_in (uses_of s.catalogue q.text))

read_conds : (s : Setting) (c : ℕ) (log : site.Log) (q : Queued) (d : ℕ) (ts : Ts) (of : ClassNo) (txn : TxnNo) (attempt : ℕ) (conds : List Cond)
    (uses : List Use)
    → start_read s c log q d ≡ Read ts of txn attempt conds uses
    → conditions_at s.catalogue (current_era s log).table c (frags_asked s q) (next_stamp s log) (bound s log) d ≡ conds
unfolding conds_in
read_conds s c log q d ts of txn attempt conds uses e = ap conds_in e

start_conds : (s : Setting) (b : Site) (log : site.Log) (c : ℕ) (q : Queued) (k : ℕ) (ts : Ts) (of : ClassNo) (txn : TxnNo) (attempt : ℕ)
    (conds : List Cond) (uses : List Use)
    → slice_get (to_site b (sends_of_act (start_at s c log q))) k ≡ Some (Read ts of txn attempt conds uses)
    → (d : ℕ) × (conditions_at s.catalogue (current_era s log).table c (frags_asked s q) (next_stamp s log) (bound s log) d ≡ conds)
start_conds s b log c q k ts of txn attempt conds uses e = grind (arith, start_puts, in_none, read_conds, in_one)

conditions_by : (g : Input) (log : Log) (c : ℕ) (d : DmNo) (ts : Ts) (of : ClassNo) (txn : TxnNo) (attempt : ℕ) (conds : List Cond) (uses : List Use)
    → c ≢ 0 → IsPutAt g log c d (Read ts of txn attempt conds uses) → AreConditionsOf g log c ts.0 conds
conditions_by g log c d ts of txn attempt conds uses n p =
    let at : Site = home g.catalogue c in
    let s : Setting = setting_of g at in
    let l : site.Log = local_of g at p.before in
    let r : IsRead s l p.act c ts.0 txn.0 attempt = subst (λ j. IsRead s l p.act j ts.0 txn.0 attempt) (class_number of.0 c ts.0 p.of_class) p.by in
    let there : slice_get (to_site (D d) (sends_of_act (start_at s c l r.queued))) p.place ≡ Some (Read ts of txn attempt conds uses) = subst
    (λ x. slice_get (to_site (D d) (sends_of_act x)) p.place ≡ Some (Read ts of txn attempt conds uses)) r.act_is p.there in
    let i = start_conds s (D d) l c r.queued p.place ts of txn attempt conds uses there in
    let by_stamp : (k : ℕ) (q : Cond) → slice_get conds k ≡ Some q → IsFromTable (current_era s l).table c (next_stamp s l)
    (bound s l) q = λ k q e. from_table g.catalogue (current_era s l).table c (frags_asked s r.queued) (next_stamp s l) (bound s l) i.0 k q n
    (subst (λ ds. slice_get ds k ≡ Some q) (sym i.1) e) in
    record {
      later = p.later;
      before = p.before;
      queued = r.queued;
      is = p.is ∙ ap (λ x. p.later ++ Does at x ∷ p.before) r.act_is;
      ts_is = r.time_is;
      from_table = λ k q e. subst (λ f. IsFromTable f.table c ts.0 (bound s l) q) (era_of_class g c p.before n)
          (subst (λ t. IsFromTable (current_era s l).table c t (bound s l) q) (sym r.time_is) (by_stamp k q e));
    }

-- wherever it stands in a pipe
pub conditions_of : (g : Input) (log : Log) (c : ℕ) (d : DmNo) (k : ℕ) (ts : Ts) (of : ClassNo) (txn : TxnNo) (attempt : ℕ) (conds : List Cond)
    (uses : List Use)
    → IsPermitted g log → c ≢ 0 → slice_get (all_of (pipe_at g c d log)) k ≡ Some (Read ts of txn attempt conds uses) → AreConditionsOf g log c ts.0 conds
conditions_of g log c d k ts of txn attempt conds uses h n e =
    let m : Msg = Read ts of txn attempt conds uses in
    let i = in_pipe g c d log h in
    let there : slice_get (class_puts g c d log) k ≡ Some m = subst (λ ms. slice_get ms k ≡ Some m) (sym i.1)
    (in_left (all_of (pipe_at g c d log)) i.0 k m e) in
    conditions_by g log c d ts of txn attempt conds uses n (origin g c d log k m h there)

-- and by the act that put the READ
pub conditions_at_put : (g : Input) (log : Log) (c : ℕ) (d : DmNo) (ts : Ts) (of : ClassNo) (txn : TxnNo) (attempt : ℕ) (conds : List Cond) (uses : List Use)
    → c ≢ 0 → (p : IsPutAt g log c d (Read ts of txn attempt conds uses)) → (from : AreConditionsOf g log c ts.0 conds) × (from.before ≡ p.before)
unfolding conditions_by
conditions_at_put g log c d ts of txn attempt conds uses n p = (conditions_by g log c d ts of txn attempt conds uses n p, refl)
