-- A message that came to a pipe and is processed later: the record that processes it.
use Rattle.sdd_progress.proofs.AllWaits.{Act, Bool, D, Did, DmNo, Does, Entry, Hand, Handed, Input, IsPermitted, IsReadStep, List, Log, May, Msg, None, Pipe, Rec, Records, Setting, Site, Some, [], all_of, ap, append_assoc, arith, at_seam, d_step, dec_le, goes_through, head, head_place, if◌then◌else◌, in_left, inl, inr, length, length-append, local_grows, not_own, own_record, passing, pipe, place_within, processed_handed, processed_more, put, read_step_way, refl, same_or_not, setting_of, site_self, slice_get, subst, suc, sym, true, view_of, waits, ℕ, ◌++◌, ◌<◌, ◌∙◌, ◌∷◌, ◌≡◌, ◌≤◌}
use Rattle.sdd_progress.proofs.AtModule.{IsEntryAt, acting, aside, at_module, entry_at, handing}
use Rattle.sdd_progress.proofs.Passing.{pipe_later}
use Rattle.sdd_progress.proofs.Rejected.{IsProcessing, processing_of}
use Rattle.sdd_obligations.specs.site_module.SiteLog as site

-- among these entries, which came after the log, is a record that processes this message of class c at module d
pub record IsProcessedIn (g : Input) (log : Log) (d : DmNo) (c : ℕ) (m : Msg) (entries : Log) : Type 0 where
  pub later : Log
  pub before : Log
  pub rec : Rec
  pub sends : List (Site × Msg)
  pub is : entries ≡ later ++ Does (D d) (Records c rec sends) ∷ before
  pub head_is : head (pipe c (at_module g d (before ++ log))) ≡ Some m
  pub may : May (view_of (setting_of g (D d)) (at_module g d (before ++ log))) c (waits c (at_module g d (before ++ log))) m rec

-- an act that takes the count of what is processed past a place processes what stands there

abbrev Processes : Setting → site.Log → ℕ → Msg → Act → Type 0
Processes s l c m act = (r : Rec) × (sends : List (Site × Msg)) × (act ≡ Records c r sends) × (head (pipe c l) ≡ Some m) × May (view_of s l) c (waits c l) m r

count_same : (c k : ℕ) (l h : site.Log) → (pipe c h).processed ≡ (pipe c l).processed → length (pipe c l).processed ≤ k → k < length (pipe c h).processed → ⊥
count_same c k l h e lo hi = let n : length (pipe c h).processed ≡ length (pipe c l).processed = ap length e in omega arith

act_processes : (s : Setting) (l : site.Log) (c k : ℕ) (m : Msg) (act : Act) → IsReadStep s l act
    → slice_get (all_of (pipe c l)) k ≡ Some m → length (pipe c l).processed ≤ k → k < length (pipe c (Did act ∷ l)).processed → Processes s l c m act
act_processes s l c k m act i there lo hi =
    read_step_way s l act (λ a. k < length (pipe c (Did a ∷ l)).processed → Processes s l c m a)
    (λ e x. absurd (count_same c k l (Did act ∷ l) (ap (λ (y : Pipe). y.processed) (passing c act l e).0.pipe_same) lo x))
    (λ j ds r sends here p q y z x. absurd (count_same c k l (Did (Records j r sends) ∷ l) (ap (λ (y : Pipe). y.processed) (not_own c j r sends l (inr p)).pipe_same) lo x))
    (λ j n r sends here p h may x. elim (same_or_not j c) [
      | inl e ↦ subst (λ z. Processes s l c m (Records z r sends)) (sym e)
          (grind (arith, IsProcessing, processing_of, own_record, processed_more, length-append, head_place, slice_get))
      | inr e ↦ absurd (count_same c k l (Did (Records j r sends) ∷ l) (ap (λ (y : Pipe). y.processed) (not_own c j r sends l (inl e)).pipe_same) lo x)
    ]) i hi

processed_now : (g : Input) (d : DmNo) (c k : ℕ) (m : Msg) (e : Entry) (entries log : Log) → IsEntryAt g d (entries ++ log) e
    → slice_get (all_of (pipe c (at_module g d (entries ++ log)))) k ≡ Some m → length (pipe c (at_module g d (entries ++ log))).processed ≤ k
    → k < length (pipe c (at_module g d (e ∷ (entries ++ log)))).processed → IsProcessedIn g log d c m (e ∷ entries)
processed_now g d c k m e entries log (aside f) there lo hi =
    absurd (count_same c k (at_module g d (entries ++ log)) (at_module g d (e ∷ (entries ++ log))) (ap (λ (x : Pipe). x.processed) (f c).pipe_same) lo hi)
processed_now g d c k m e entries log (handing from x s) there lo hi = grind (arith, at_module, count_same, processed_handed)
processed_now g d c k m e entries log (acting act is s due) there lo hi =
    let set : Setting = setting_of g (D d) in
    let l : site.Log = at_module g d (entries ++ log) in
    let x = act_processes set l c k m act (d_step set l act due) there lo (subst (λ y. k < length (pipe c y).processed) s hi) in
    record { later = []; before = entries; rec = x.0; sends = x.1; is = ap (λ y. y ∷ entries) (is ∙ ap (λ a. Does (D d) a) x.2); head_is = x.3; may = x.4 }

pub processed_in : (g : Input) (d : DmNo) (c k : ℕ) (m : Msg) (entries log : Log) → IsPermitted g (entries ++ log)
    → slice_get (all_of (pipe c (at_module g d log))) k ≡ Some m → length (pipe c (at_module g d log)).processed ≤ k
    → k < length (pipe c (at_module g d (entries ++ log))).processed → IsProcessedIn g log d c m entries
processed_in g d c k m [] log h there lo hi = absurd (omega arith)
processed_in g d c k m (e ∷ entries) log h there lo hi =
    let l : site.Log = at_module g d (entries ++ log) in
    elim (dec_le (suc k) (length (pipe c l).processed)) [
      | yes p ↦ (record { later = e ∷ (processed_in g d c k m entries log h.1 there lo p).later; before = (processed_in g d c k m entries log h.1 there lo p).before; rec = (processed_in g d c k m entries log h.1 there lo p).rec; sends = (processed_in g d c k m entries log h.1 there lo p).sends; is = ap (λ l. e ∷ l) (processed_in g d c k m entries log h.1 there lo p).is; head_is = (processed_in g d c k m entries log h.1 there lo p).head_is; may = (processed_in g d c k m entries log h.1 there lo p).may })
      | no n ↦ (let x = local_grows g (D d) entries log in
          let more = pipe_later c x.0 (at_module g d log) in
          let now : slice_get (all_of (pipe c l)) k ≡ Some m = ap (λ ms. slice_get ms k) (ap (λ y. all_of (pipe c y)) x.1 ∙ more.1)
          ∙ in_left (all_of (pipe c (at_module g d log))) more.0 k m there in
          processed_now g d c k m e entries log (entry_at g d (entries ++ log) e h) now (omega (arith, n)) hi)
    ]

-- a message that is handed over stands last in its pipe, and isn't processed

put_last : (b : Bool) (p : Pipe) (m : Msg) → b ≡ true
    → (slice_get (all_of (if b then put m p else p)) (length (all_of p)) ≡ Some m) × (length (if b then put m p else p).processed ≤ length (all_of p))
put_last b p m e = grind (arith, length-append, slice_get, append_assoc, at_seam)

pub handed_last : (g : Input) (d : DmNo) (c : ℕ) (from : Site) (n : ℕ) (m : Msg) (log : Log) → goes_through c m ≡ true
    → (slice_get (all_of (pipe c (at_module g d (Hand from (D d) n m ∷ log)))) (length (all_of (pipe c (at_module g d log)))) ≡ Some m)
    × (length (pipe c (at_module g d (Hand from (D d) n m ∷ log))).processed ≤ length (all_of (pipe c (at_module g d log))))
handed_last g d c from n m log e =
    let l : site.Log = at_module g d log in
    let s : at_module g d (Hand from (D d) n m ∷ log) ≡ Handed from m ∷ l = rw (site_self (D d)) refl in
    let p = put_last (goes_through c m) (pipe c l) m e in (
      ap (λ y. slice_get (all_of (pipe c y)) (length (all_of (pipe c l)))) s ∙ p.0,
      subst (λ y. length (pipe c y).processed ≤ length (all_of (pipe c l))) (sym s) p.1,
    )

-- where a pipe has no head, all that came to it is processed

pub processed_by_end : (g : Input) (d : DmNo) (c : ℕ) (from : Site) (n : ℕ) (m : Msg) (entries log : Log)
    → IsPermitted g (entries ++ Hand from (D d) n m ∷ log) → goes_through c m ≡ true
    → head (pipe c (at_module g d (entries ++ Hand from (D d) n m ∷ log))) ≡ None → IsProcessedIn g (Hand from (D d) n m ∷ log) d c m entries
processed_by_end g d c from n m entries log h e none =
    let handed : Log = Hand from (D d) n m ∷ log in
    let place : ℕ = length (all_of (pipe c (at_module g d log))) in
    let last = handed_last g d c from n m log e in
    let x = local_grows g (D d) entries handed in
    let more = pipe_later c x.0 (at_module g d handed) in
    let whole : site.Log = at_module g d (entries ++ handed) in
    let there : slice_get (all_of (pipe c whole)) place ≡ Some m = ap (λ y. slice_get (all_of (pipe c y)) place) x.1 ∙ ap (λ ms. slice_get ms place) more.1
    ∙ in_left (all_of (pipe c (at_module g d handed))) more.0 place m last.0 in
    processed_in g d c place m entries handed h last.0 last.1 (grind (arith, place_within, length-append))
