-- Every run ends: there is the log of what is given, or the limit ends it.
use Rattle.sdd_progress.proofs.AllEnds.{AreSubmittedOnce, Ends, Entry, Event, Input, IsLawful, IsWithin, List, Log, None, Option, Settle, Settles, Some, [], ap, arith, false, inl, inr, is_past, lawful_permitted, next, refl, submits_by, submits_in, suc, true, with_event, zero, ℕ, ◌++◌, ◌+◌, ◌<◌, ◌∷◌, ◌≡◌, ◌≤◌}
use Rattle.sdd_progress.proofs.QuietAfter.{quiet_at_last}
use Rattle.sdd_progress.proofs.Falls.{Falls, falls, stage}
use Rattle.sdd_progress.proofs.Falls.Falls.{in_acts, in_hands, in_stage}
use Rattle.sdd_progress.proofs.Sites.{acts_left, hands_left}

module _ (g : Input) (once : AreSubmittedOnce g.events) where
  abbrev Sound : Log → Type 0
  Sound log = IsLawful g log × IsWithin log

  by_entry : (log : Log) → Sound log → (o : Option Entry) → next g log ≡ o → ((e : Entry) → Sound (e ∷ log) → Falls g (e ∷ log) log → Ends g) → Ends g
  by_entry log h None is f = (log, inl (record { lawful = h.0; within = h.1; complete = is }))
  by_entry log h (Some e) is f =
      elim (is_past log e) as (λ b. is_past log e ≡ b → Ends g) [
        | true ↦ λ p. (log, inr (record { lawful = h.0; within = h.1; entry = e; next_is = is; past = p }))
        | false ↦ λ p. f e ((is, h.0), (p, h.1)) (falls g log e (lawful_permitted g log once h.0) is p)
      ] refl

  module _ (m : ℕ) (earlier : (log : Log) → Sound log → stage g log < m → Ends g) where
    module _ (n : ℕ) (fewer : (log : Log) → Sound log → stage g log ≤ m → hands_left g log < n → Ends g) where
      by_acts : (k : ℕ) (log : Log) → Sound log → stage g log ≤ m → hands_left g log ≤ n → acts_left g log < k → Ends g
      by_acts zero log h a b c = absurd (omega arith)
      by_acts (suc k) log h a b c =
          by_entry log h (next g log) refl
          (λ e i f. elim f [
            | in_stage x ↦ earlier (e ∷ log) i (omega (arith, a, x))
            | in_hands x y ↦ fewer (e ∷ log) i (omega (arith, a, x)) (omega (arith, b, y))
            | in_acts x y z ↦ by_acts k (e ∷ log) i (omega (arith, a, x)) (omega (arith, b, y)) (omega (arith, c, z))
          ])

    by_hands : (n : ℕ) (log : Log) → Sound log → stage g log ≤ m → hands_left g log < n → Ends g
    by_hands zero log h a b = absurd (omega arith)
    by_hands (suc n) log h a b = by_acts n (λ l i x y. by_hands n l i x y) (suc (acts_left g log)) log h a (omega arith) (omega arith)

  by_stages : (m : ℕ) (log : Log) → Sound log → stage g log < m → Ends g
  by_stages zero log h a = absurd (omega arith)
  by_stages (suc m) log h a = by_hands m (λ l i x. by_stages m l i x) (suc (hands_left g log)) log h (omega arith) (omega arith)

  pub run_ends : Ends g
  run_ends = by_stages (suc (stage g [])) [] (tt, tt) (omega arith)

-- with a settle at the end

no_more : (n : ℕ) (events : List Event) → submits_in n (events ++ Settle ∷ []) ≡ submits_in n events
no_more n [] = refl
no_more n (e ∷ events) = ap (λ k. submits_by n e + k) (no_more n events)

still_once : (g : Input) → AreSubmittedOnce g.events → AreSubmittedOnce (with_event g Settle).events
still_once g once n = let l = once n in let e = no_more n g.events in omega arith

pub settle_ends : (g : Input) → AreSubmittedOnce g.events → Settles g
settle_ends g once =
    let r = run_ends (with_event g Settle) (still_once g once) in
    elim r.1 [
      | inl is ↦ (r.0, inl (is, quiet_at_last g r.0 is.lawful is.complete))
      | inr by ↦ (r.0, inr by)
    ]
