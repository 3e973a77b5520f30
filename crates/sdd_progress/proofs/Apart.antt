-- Of two committed transactions the second was submitted in a later era: a class list was put in force between them,
-- so that the first is committed and applied before the second starts.
use Rattle.sdd_progress.proofs.All.{AppliedBefore, Committed, Entry, GoesTo, Input, IsAttempt, IsOfEarlierEra, IsSubmitted, Log, Redeclares, Submit, Submitted, [], ap, append_assoc, arith, eras_begun, eras_of, event_at, history, inl, inr, length, length-append, redeclares, refl, submit_in, subst, sym, txn_no, ℕ, ◌++◌, ◌+◌, ◌<◌, ◌∙◌, ◌∷◌, ◌≡◌, ◌≢◌, ◌≤◌}
use Rattle.sdd_progress.proofs.SinceRedeclare.{redeclares_back}
use Rattle.sdd_progress.proofs.AtRest.{IsRest, applied_by, committed_by, rest}
use Rattle.sdd_progress.proofs.Fronts.{ends, history_le, recorded_front, redeclare_between}
use Rattle.sdd_progress.proofs.Known.{Known, begun_at}
use Rattle.sdd_obligations.specs.links.Attempts.{Attempt}

-- a list was put in force after the Submit at a place and before an upper end
pub record IsApart (g : Input) (log : Log) (n place : ℕ) (upper : Log) : Type 0 where
  pub mid : Log
  pub at_rest : IsRest g log mid
  pub submitted : IsSubmitted (history mid) n place
  pub below : length (history mid) ≤ length (history upper)

-- where that was
pub record IsEarlier (g : Input) (log : Log) (x : Committed) (a : Attempt) : Type 0 where
  pub mid : Log
  pub at_rest : IsRest g log mid
  pub first : x.place < length (history mid)
  pub second : length (history mid) < a.place

module _ (g : Input) (log : Log) (w : Known g log) where
  pub apart : (n place : ℕ) → IsSubmitted (history log) n place → (e : Entry) (later upper : Log) → log ≡ later ++ e ∷ upper
      → eras_begun (eras_of g log) (event_at (history log) place) ≤ redeclares upper → IsApart g log n place upper
  apart n place s e later upper is l =
      let x = submit_in g log n place w.permitted s in
      let above : Log = later ++ e ∷ [] in
      let parts : log ≡ above ++ upper = is ∙ sym (append_assoc later (e ∷ []) upper) in
      let first = begun_at g log (Submitted x.at n) (Submit (txn_no n)) x.later x.rest place refl x.is x.place_is in
      let fewer : redeclares x.rest < redeclares upper = omega (arith, l, first) in
      elim (ends x.later above (Submitted x.at n ∷ x.rest) upper (sym x.is ∙ parts)) [
        | inl q ↦ (let b = redeclares_back q.0 upper in
            let same : redeclares x.rest ≡ redeclares (q.0 ++ upper) = ap redeclares q.1 in
            absurd (omega (arith, fewer, b, same)))
        | inr q ↦ elim (redeclare_between (Submitted x.at n) x.rest upper q.0 q.1) [
          | inl same ↦ (let equal : redeclares x.rest ≡ redeclares upper = same in absurd (omega (arith, fewer, equal)))
          | inr b ↦ (let whole : log ≡ (above ++ b.after) ++ Redeclares b.time ∷ b.mid =
              parts ∙ ap (λ z. above ++ z) b.upper_is ∙ sym (append_assoc above b.after (Redeclares b.time ∷ b.mid)) in
              let r = rest g log w (above ++ b.after) b.mid b.time whole in
              let le = history_le (b.after ++ Redeclares b.time ∷ []) b.mid in
              let inside = history_le b.between (Submitted x.at n ∷ x.rest) in
              let mid_long : length (history b.mid) ≡ length (history (b.between ++ Submitted x.at n ∷ x.rest)) = ap (λ z. length (history z)) b.mid_is in
              let one : length (history (Submitted x.at n ∷ x.rest)) ≡ length (history x.rest) + 1 = length-append (history x.rest) _ in
              let there = x.place_is in
              record {
                mid = b.mid;
                at_rest = r;
                submitted = recorded_front (history b.mid) r.more place (Submit (txn_no n)) (omega (arith, inside, mid_long, one, there))
                    (subst (λ z. IsSubmitted z n place) r.history_is s);
                below = omega (arith, le, (ap (λ z. length (history z)) (b.upper_is ∙ sym (append_assoc b.after (Redeclares b.time ∷ []) b.mid))));
              })
        ]
      ]

  -- two transactions of different eras
  pub earlier : (x y : Committed) (a : Attempt) → IsOfEarlierEra (eras_of g log) (history log) x y → IsAttempt (history log) a → a.txn ≡ y.start.txn
      → IsEarlier g log x a
  earlier x y a o s e =
      let m = y.start.txn in
      let q = submit_in g log m o.second_place w.permitted o.second_submitted in
      let second = begun_at g log (Submitted q.at m) (Submit (txn_no m)) q.later q.rest o.second_place refl q.is q.place_is in
      let p = apart x.start.txn o.first_place o.first_submitted (Submitted q.at m) q.later q.rest q.is (omega (arith, o.earlier, second)) in
      let first = committed_by g log w p.mid p.at_rest x.start.txn o.first_place p.submitted x o.first refl in
      let z = w.starts.submitted a s in
      let one = w.starts.one_submit m z.place o.second_place (subst (λ n. IsSubmitted (history log) n z.place) e z.submitted) o.second_submitted in
      let below = p.below in let before = z.before in let there = q.place_is in
      record { mid = p.mid; at_rest = p.at_rest; first = first; second = omega (arith, one, below, before, there) }

  pub committed_first : (x y : Committed) (a : Attempt) → IsOfEarlierEra (eras_of g log) (history log) x y → IsAttempt (history log) a → a.txn ≡ y.start.txn
      → x.place < a.place
  committed_first x y a o s e = let q = earlier x y a o s e in let l = q.first in let m = q.second in omega (arith, l, m)

  pub applied_first : (x y : Committed) (a : Attempt) (d : ℕ) → IsOfEarlierEra (eras_of g log) (history log) x y → IsAttempt (history log) a
      → a.txn ≡ y.start.txn
      → GoesTo g.catalogue x d → AppliedBefore (history log) x.start.txn d a.place
  applied_first x y a d o s e goes =
      let q = earlier x y a o s e in
      let b = applied_by g log w q.mid q.at_rest x d o.first q.first goes in
      let l = b.before in let m = q.second in
      record { place = b.place; applied = b.applied; before = omega (arith, l, m) }

  pub other_txn : (x y : Committed) → IsOfEarlierEra (eras_of g log) (history log) x y → x.start.txn ≢ y.start.txn
  other_txn x y o e = grind arith
