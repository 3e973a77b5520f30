-- What a data module sends lies below what was handed to it.
use Rattle.sdd_obligations.proofs.All.{Act, AllLow, Ask, ClassNo, Did, Handed, HandsLow, IsAskBy, IsDue, IsLow, IsPutByD, IsRejectBy, List, Msg, None, Option, Pipe, Read, Records, Reject, Sends, Setting, Site, Some, Ts, [], arith, at_class, class_in_view, class_not_in_view, dec_le, filter_map, goes_through, head, head_processed, home_of, if_way, is_processing, pipe, pipe_acted, put, put_by_d, sends_of_act, starts_by, subst, sym, to_site, top, view_of, write_time, ℕ, ◌&&◌, ◌+◌, ◌==◌, ◌∷◌, ◌≡◌, ◌≤◌}
use Rattle.sdd_obligations.proofs.LowLists.{all_low_join, all_low_of, all_low_up, cond_le_at, greatest_le, write_times_le}
use Rattle.sdd_obligations.proofs.SendsLow.{PutsLow}
use Rattle.sdd_invariants.specs.site_module.SiteLog.{Log}

-- pipes

pub record IsPipeLow (h : ℕ) (p : Pipe) : Type 0 where
  pub done : AllLow h p.processed
  pub left : AllLow h p.unprocessed

acted_low : (h c : ℕ) (act : Act) (p : Pipe) → IsPipeLow h p → IsPipeLow h (pipe_acted c act p)
acted_low h c (Records k r sends) p j = if_way (IsPipeLow h) ((k == c) && is_processing r) (head_processed p) p (grind (arith, all_low_join)) j
acted_low h c (Sends to m hand) p j = j

pub pipe_low : (h c : ℕ) (log : Log) → HandsLow h log → IsPipeLow h (pipe c log)
pipe_low h c [] i = record { done = tt; left = tt }
pipe_low h c (Handed from m ∷ log) i =
    if_way (IsPipeLow h) (goes_through c m) (put m (pipe c log)) (pipe c log) (record { done = (pipe_low h c log i.1).done; left = all_low_join h (pipe c log).unprocessed (m ∷ []) (pipe_low h c log i.1).left (i.0, tt) }) (pipe_low h c log i.1)
pipe_low h c (Did act ∷ log) i = acted_low h c act (pipe c log) (pipe_low h c log i)
pipe_low h c (_ ∷ log) i = pipe_low h c log i

view_low : (h : ℕ) (s : Setting) (log : Log) (c : ℕ) → HandsLow h log → IsPipeLow h (at_class (view_of s log) c).pipe
view_low h s log c i = grind (arith, dec_le, IsPipeLow, class_in_view, pipe_low, class_not_in_view)

-- the head of a pipe

abbrev IsHeadLow : ℕ → Option Msg → Type 0
IsHeadLow h None = Unit {0}
IsHeadLow h (Some m) = IsLow h m

first_low : (h : ℕ) (ms : List Msg) → AllLow h ms → IsHeadLow h (head (record { processed = []; unprocessed = ms }))
first_low h ms i = grind arith

pub head_is_low : (h c : ℕ) (log : Log) (m : Msg) → HandsLow h log → head (pipe c log) ≡ Some m → IsLow h m
head_is_low h c log m i e = subst (IsHeadLow h) e (first_low h (pipe c log).unprocessed (pipe_low h c log i).left)

-- what is put

reject_low : (h : ℕ) (s : Setting) (log : Log) (b : Site) (act : Act) (ts : Ts) (k by : ClassNo) (write : Ts) → HandsLow h log
    → IsRejectBy s log b act ts k by write → IsLow h (Reject ts k by write)
reject_low h s log b act ts k by write i r =
    let l = greatest_le (top h) (filter_map (write_time r.cond_by.frags)
    (at_class (view_of s log) r.cond_by.class.0).pipe.processed) (write_times_le h r.cond_by.frags
    (at_class (view_of s log) r.cond_by.class.0).pipe.processed (view_low h s log r.cond_by.class.0 i).done) in
    (subst (λ t. t ≤ top h) (sym r.write_is) l, tt)

ask_low : (h : ℕ) (s : Setting) (log : Log) (b : Site) (k : ClassNo) (time : Ts) → HandsLow h log → IsAskBy s log b k time → IsLow h (Ask k time)
ask_low h s log b k time i r =
    let m = head_is_low h r.class log (Read r.ts r.of r.txn r.attempt r.conds r.uses) i r.head_is in
    (subst (λ (t : Ts). t.0 ≤ top h) (sym r.time_is) (cond_le_at (top h) r.conds r.place r.cond_at m.1 r.there), tt)

by_d_low : (h : ℕ) (s : Setting) (log : Log) (b : Site) (act : Act) (m : Msg) → HandsLow h log → IsPutByD s log b act m → IsLow h m
by_d_low h s log b act m i p = grind (arith, reject_low, ask_low)

pub d_low : (h : ℕ) (s : Setting) (log : Log) (act : Act) → HandsLow h log → IsDue (home_of s) (view_of s log) act → PutsLow h act
d_low h s log act i d b =
    all_low_up h (starts_by act + h) (to_site b (sends_of_act act)) (omega arith)
    (all_low_of h (to_site b (sends_of_act act)) (λ k m e. by_d_low h s log b act m i (put_by_d s log act d b k m e)))
