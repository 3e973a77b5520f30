-- A data module puts at most one READY or REJECT for a READ, after which the READ is processed.
use Rattle.sdd_obligations.proofs.All.{Act, ClassNo, Cond, D, Did, DmNo, Each, Handed, Input, IsDueEach, IsPermitted, IsPutByD, IsStrict, List, Log, Msg, Pipe, Read, Ready, Rec, Records, Reject, Setting, Site, Some, Ts, TxnNo, Use, [], all_of, and_left, and_right, ap, arith, at_seam, class_number, d_fair, dec_le, each_local, eqb-true, filter_map-append, goes_through, head, head_put, home, home_of, if_way, in_left, in_pipe, is_processing, is_verdict, key_rises, length, local_of, next_in, number_of, one_le, own_record, pipe, pipe_at, place_within, processed_handed, processed_more, put_by_d, puts_to, read_at, reads_in, reads_strict, same_number, sends_of_act, setting_of, slice_get, source_of, strict_left, subst, sym, tally, tally_append, tally_at, to_site, true, ℕ, ◌&&◌, ◌++◌, ◌<◌, ◌==◌, ◌∙◌, ◌∷◌, ◌≡◌, ◌≤◌}
use Rattle.sdd_invariants.specs.site_module.SiteLog as site

-- the READs of a pipe rise, and its head is of the class

strict_reads : (g : Input) (c : ℕ) (d : DmNo) (log : Log) → number_of (home g.catalogue c) ≤ 63 → IsPermitted g log
    → IsStrict (reads_in c (all_of (pipe_at g c d log)))
strict_reads g c d log small h =
    let p = in_pipe g c d log h in
    let l : List Msg = all_of (pipe_at g c d log) in
    strict_left (reads_in c l) (reads_in c p.0) (subst IsStrict (ap (reads_in c) p.1 ∙ filter_map-append (read_at c) l p.0) (reads_strict g c d log h small))

abbrev IsInClass : site.Log → Type 0
IsInClass log = (c : ℕ) (m : Msg) → head (pipe c log) ≡ Some m → goes_through c m ≡ true

abbrev IsStrictAt : ℕ → site.Log → site.Entry → Type 0
IsStrictAt c log (Did act) = IsStrict (reads_in c (all_of (pipe c log))) × IsInClass log
IsStrictAt c log _ = Unit {0}

stricts : (g : Input) (c : ℕ) (d : DmNo) (log : Log) → number_of (home g.catalogue c) ≤ 63 → IsPermitted g log → Each (IsStrictAt c) (local_of g (D d) log)
stricts g c d log small = each_local g (D d) (IsStrictAt c) (record {
  handed = λ log p from n m a i. tt;
  ticked = λ log p n i. tt;
  submits = λ log p n k a e i. tt;
  redeclared = λ l k u i. tt;
  did = λ log act p due i. (strict_reads g c d log small p, λ j m e. (head_put g j d log m p e).of_class);
}) log

-- the act that puts a verdict processes its READ
pub record IsVerdictBy (c ts : ℕ) (log : site.Log) (act : Act) : Type 0 where
  pub rec : Rec
  pub to : Site
  pub msg : Msg
  pub stamp : Ts
  pub of : ClassNo
  pub txn : TxnNo
  pub attempt : ℕ
  pub conds : List Cond
  pub uses : List Use
  pub processes : is_processing rec ≡ true
  pub head_is : head (pipe c log) ≡ Some (Read stamp of txn attempt conds uses)
  pub class_is : of.0 ≡ c
  pub time_is : stamp.0 ≡ ts
  pub act_is : act ≡ Records c rec ((to, msg) ∷ [])

pub two_same : (a b c d : ℕ) → ((a == b) && (c == d)) ≡ true → (a ≡ b) × (c ≡ d)
two_same a b c d e = (eqb-true a b (and_left (a == b) (c == d) e), eqb-true c d (and_right (a == b) (c == d) e))

at_class : (c j : ℕ) (log : site.Log) (act : Act) (ts : ℕ) → j ≡ c → IsVerdictBy j ts log act → IsVerdictBy c ts log act
at_class c j log act ts e h = subst (λ k. IsVerdictBy k ts log act) e h

pub verdict_by : (s : Setting) (c ts : ℕ) (b : Site) (log : site.Log) (act : Act) (m : Msg) → IsInClass log → is_verdict ts c m ≡ true
    → IsPutByD s log b act m → IsVerdictBy c ts log act
verdict_by s c ts b log act (Ready t k counts) i e h =
    let q = two_same t.0 ts k.0 c e in
    let own : k.0 ≡ h.class = class_number k.0 h.class t.0 (i h.class (Read t k h.txn h.attempt h.conds h.uses) h.head_is) in
    at_class c h.class log act ts (sym own ∙ q.1) (grind (arith, home_of, source_of))
verdict_by s c ts b log act (Reject t k by write) i e h =
    let q = two_same t.0 ts k.0 c e in
    let own : k.0 ≡ h.class = class_number k.0 h.class t.0 (i h.class (Read t k h.txn h.attempt h.conds h.uses) h.head_is) in
    at_class c h.class log act ts (sym own ∙ q.1) (grind (arith, home_of, source_of))
verdict_by s c ts b log act m i e h = cc

-- at most one

record IsOnce (c ts : ℕ) (b : Site) (log : site.Log) : Type 0 where
  pub le : tally (is_verdict ts c) (puts_to b log) ≤ 1
  pub was : 0 < tally (is_verdict ts c) (puts_to b log) → (k : ℕ) × (m : Msg) × (slice_get (pipe c log).processed k ≡ Some m) × (read_at c m ≡ Some ts)

own_did : (c ts : ℕ) (b : Site) (act : Act) (log : site.Log) → IsStrict (reads_in c (all_of (pipe c log))) → IsVerdictBy c ts log act
    → IsOnce c ts b log → IsOnce c ts b (Did act ∷ log)
own_did c ts b act log strict v h =
    let p : Pipe = pipe c log in
    let w : Msg = Read v.stamp v.of v.txn v.attempt v.conds v.uses in
    let own : read_at c w ≡ Some ts = (let q : (v.of.0 == c) ≡ true = subst (λ x. (v.of.0 == x) ≡ true) v.class_is (same_number v.of.0) in rw q (ap (λ y. Some y) v.time_is)) in
    let none : tally (is_verdict ts c) (puts_to b log) ≤ 0 = elim (dec_le 1 (tally (is_verdict ts c) (puts_to b log))) [
      | yes l ↦ (let u = h.was l in
          let less = key_rises (read_at c) (all_of p) u.0 (length p.processed) u.1 w ts ts strict
          (in_left p.processed p.unprocessed u.0 u.1 u.2) (next_in p.processed p.unprocessed w v.head_is) u.3 own (place_within p.processed u.0 u.1 u.2) in
          absurd (omega (arith, less)))
      | no n ↦ omega (arith, n)
    ] in
    let one : tally (is_verdict ts c) (to_site b (sends_of_act act)) ≤ 1 =
    subst (λ y. tally (is_verdict ts c) (to_site b (sends_of_act y)) ≤ 1) (sym v.act_is) (grind (arith, one_le)) in
    let r = own_record c v.rec ((v.to, v.msg) ∷ []) log v.processes in
    let pr : (pipe c (Did act ∷ log)).processed ≡ p.processed ++ w ∷ [] =
    ap (λ y. (pipe c (Did y ∷ log)).processed) v.act_is ∙ ap (λ (q : Pipe). q.processed) r.0 ∙ processed_more p w v.head_is in
    record {
      le = omega (arith, tally_append (is_verdict ts c) (puts_to b log) (to_site b (sends_of_act act)), none, one);
      was = λ l. (length p.processed, w, subst (λ ms. slice_get ms (length p.processed) ≡ Some w) (sym pr) (at_seam p.processed [] w), own);
    }

once_did : (s : Setting) (c ts : ℕ) (b : Site) (act : Act) (log : site.Log) → IsDueEach s log (Did act) → IsStrictAt c log (Did act)
    → IsOnce c ts b log → IsOnce c ts b (Did act ∷ log)
once_did s c ts b act log f strict h = elim (dec_le 1 (tally (is_verdict ts c) (to_site b (sends_of_act act)))) [
  | yes l ↦ (let w = tally_at (is_verdict ts c) (to_site b (sends_of_act act)) l in
      own_did c ts b act log strict.0 (verdict_by s c ts b log act w.1 strict.1 w.3 (put_by_d s log act f b w.0 w.1 w.2)) h)
  | no n ↦ (grind (arith, tally_append, if_way, slice_get, in_left))
]

once : (s : Setting) (c ts : ℕ) (b : Site) (log : site.Log) → Each (IsDueEach s) log → Each (IsStrictAt c) log → IsOnce c ts b log
once s c ts b [] h k = record { le = omega arith; was = λ l. absurd (omega (arith, l)) }
once s c ts b (Handed from m ∷ log) h k = grind (arith, slice_get, processed_handed, (once s c ts b log h.1 k.1))
once s c ts b (Did act ∷ log) h k = once_did s c ts b act log h.0 k.0 (once s c ts b log h.1 k.1)
once s c ts b (_ ∷ log) h k = let i = once s c ts b log h.1 k.1 in record { le = i.le; was = i.was }

pub one_verdict : (g : Input) (c ts : ℕ) (d : DmNo) (b : Site) (log : Log) → number_of (home g.catalogue c) ≤ 63 → IsPermitted g log
    → tally (is_verdict ts c) (puts_to b (local_of g (D d) log)) ≤ 1
one_verdict g c ts d b log small h = (once (setting_of g (D d)) c ts b (local_of g (D d) log) (d_fair g d log h) (stricts g c d log small h)).le

pub in_class : (g : Input) (d : DmNo) (log : Log) → IsPermitted g log → IsInClass (local_of g (D d) log)
in_class g d log h = λ c m e. (head_put g c d log m h e).of_class
