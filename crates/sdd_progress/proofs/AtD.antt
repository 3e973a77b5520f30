-- A data module has less left to do after each act.
use Rattle.sdd_progress.proofs.AllEnds.{Act, Bool, ClassView, Did, Home, IsDue, List, Msg, Open, Option, Rec, Records, Setting, Site, Some, View, [], act_where, answer_of, ap, arith, by_head, by_open, class_view, classes_of, false, filter, head, head_due, head_of, home_of, in_filtered, in_mapped, is_asked_of, is_processing, is_wait, length, list_all, opens, pipe, refl, same_Some, same_number, slice_get, step_on, subst, suc, sym, true, view_of, waits, ℕ, ◌+◌, ◌<◌, ◌∷◌, ◌≡◌}
use Rattle.sdd_progress.proofs.Sums.{by_class, filter_shorter, total, total_less, total_up}
use Rattle.sdd_obligations.specs.site_module.SiteLog.{Log}
use Rattle.sdd_progress.proofs.Lists.{head_at as first_there}

-- a head may wait once, and is then processed
abbrev pub steps_left : List Msg → Bool → ℕ
steps_left [] waits = 0
steps_left (m ∷ ms) true = suc (length ms + length ms)
steps_left (m ∷ ms) false = suc (suc (length ms + length ms))

abbrev pub pipe_work : Log → ℕ → ℕ
pipe_work log c = steps_left (pipe c log).unprocessed (waits c log)

abbrev pub d_work : Setting → Log → ℕ
d_work s log = total (pipe_work log) (classes_of s) + length (opens log)

-- a head that is processed, or waits

module _ (s : Setting) (log : Log) where
  -- a record that processes a head, or has it wait

  processing : (c n : ℕ) (r : Rec) (sends : List (Site × Msg)) (m : Msg) → slice_get (classes_of s) n ≡ Some c → head (pipe c log) ≡ Some m
      → is_processing r ≡ true → opens (Did (Records c r sends) ∷ log) ≡ opens log → d_work s (Did (Records c r sends) ∷ log) < d_work s log
  processing c n r sends m at top p same =
      let own : pipe_work (Did (Records c r sends) ∷ log) c < pipe_work log c =
      rw (same_number c, p) (grind (arith)) in
      let all = total_less (pipe_work (Did (Records c r sends) ∷ log)) (pipe_work log) (classes_of s) n c at
      (by_class _ _ c own (λ k e. (rw e refl))) own in
      omega (arith, all, ap length same)

  waiting : (c n : ℕ) (r : Rec) (sends : List (Site × Msg)) (m : Msg) → slice_get (classes_of s) n ≡ Some c → head (pipe c log) ≡ Some m
      → is_processing r ≡ false → is_wait r ≡ true → waits c log ≡ false → opens (Did (Records c r sends) ∷ log) ≡ opens log
      → d_work s (Did (Records c r sends) ∷ log) < d_work s log
  waiting c n r sends m at top p w idle same =
      let own : pipe_work (Did (Records c r sends) ∷ log) c < pipe_work log c =
      rw (same_number c, p, w, idle) (grind arith) in
      let all = total_less (pipe_work (Did (Records c r sends) ∷ log)) (pipe_work log) (classes_of s) n c at
      (by_class _ _ c own (λ k e. (rw e refl))) own in
      omega (arith, all, ap length same)

  -- what a head does

  head_falls : (h : Home) (v : View) (c n : ℕ) (w : Bool) (o : Option Msg) (act : Act) → slice_get (classes_of s) n ≡ Some c → head (pipe c log) ≡ o
      → waits c log ≡ w → act_where h v c o (step_on v c w o) ≡ Some act → d_work s (Did act ∷ log) < d_work s log
  head_falls h v c n w o act at top is e = grind (arith, d_work, same_Some, processing, list_all, waiting)

  -- what answers a message that asks

  first_open : (h : Home) (k : ClassView) (o : Option Open) (act : Act) → head_of (filter (is_asked_of k.class) (opens log)) ≡ o
      → answer_of h k o ≡ Some act → d_work s (Did act ∷ log) < d_work s log
  first_open h k o act is e = grind (arith, in_filtered, first_there, d_work, same_Some, total_up, pipe_work, steps_left, same_number, filter_shorter)

  pub d_falls : (act : Act) → IsDue (home_of s) (view_of s log) act → d_work s (Did act ∷ log) < d_work s log
  d_falls act (by_open n k p e) = first_open (home_of s) k (head_of (filter (is_asked_of k.class) (opens log))) act refl e
  d_falls act (by_head n k p e) =
      let r = in_mapped (class_view s log) (classes_of s) n k p in
      head_falls (home_of s) (view_of s log) r.0 n (waits r.0 log) (head (pipe r.0 log)) act r.1 refl refl
      (subst (λ x. head_due (home_of s) (view_of s log) x ≡ Some act) (sym r.2) e)
