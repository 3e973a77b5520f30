-- No class list is put in force between the Submit of a transaction and one of its Starts.
use Rattle.sdd_progress.proofs.All.{Committed, Did, Does, HasCommit, Input, IsAttempt, IsCommitted, IsSubmitted, Log, Submit, Submitted, [], act_local, ap, append_assoc, arith, commit_act, committed_in, committed_later, dec_le, eras_begun, eras_of, event_at, false, history, home, is_committed, length, length-append, one_start_class, redeclares, refl, start_act_of, start_in, submit_in, subst, sym, true, txn_no, ℕ, ◌++◌, ◌+◌, ◌<◌, ◌∙◌, ◌∷◌, ◌≡◌, ◌≤◌}
use Rattle.sdd_progress.proofs.SinceRedeclare.{redeclares_back}
use Rattle.sdd_progress.proofs.Apart.{apart}
use Rattle.sdd_progress.proofs.AtRest.{commit_there}
use Rattle.sdd_progress.proofs.Fronts.{in_longer, longer}
use Rattle.sdd_progress.proofs.Known.{Known, begun_at, commit_done}
use Rattle.sdd_obligations.specs.links.Attempts.{Attempt}
use Rattle.sdd_lawful.proofs.Classes.{at_home}

module _ (g : Input) (log : Log) (w : Known g log) where
  -- an attempt doesn't start once its transaction is committed
  again : (a : Attempt) → IsAttempt (history log) a → (before : Log) → length (history before) ≡ a.place
      → is_committed a.class a.txn (at_home g a.class before) ≡ false → (later : Log) → log ≡ later ++ before
      → (number place : ℕ) → HasCommit (history log) a.txn number place → place < length (history before) → ⊥
  again a s before at none later is number place c l =
      let b = w.after_start a.txn number place c in
      let t : Committed = record { start = b.attempt; reply = c.reply; changes = c.changes; values = c.values; rows = c.rows; place = place } in
      let ct : IsCommitted (history log) t = record {
        started = b.started;
        committed = grind (arith, history, txn_no);
      } in
      let t0 = committed_in g log t w.sound w.permitted ct in
      let class : a.class ≡ b.attempt.class = one_start_class g log a b.attempt w.permitted (start_in g log a w.sound w.permitted s)
      (start_in g log b.attempt w.sound w.permitted b.started) (sym b.txn_is) in
      let k : ℕ = b.attempt.class in
      let act = commit_act g.catalogue t0.bases k t0.running in
      let one : length (history (Does (home g.catalogue k) act ∷ t0.before)) ≡ length (history t0.before) + 1 = length-append (history t0.before) _ in
      let there_is = t0.place_is in
      let i = in_longer log t0.later t0.before later before (Does (home g.catalogue k) act) t0.is is (omega (arith, l, there_is)) (omega (arith, one)) in
      let m = act_local g (home g.catalogue k) act i.0 t0.before in
      let done : is_committed k t0.running.txn (m.0 ++ Did act ∷ at_home g k t0.before) ≡ true =
      committed_later k t0.running.txn m.0 (Did act ∷ at_home g k t0.before) (commit_done g.catalogue t0.bases k t0.running (at_home g k t0.before)) in
      let there : is_committed k t0.running.txn (at_home g k before) ≡ true =
      subst (λ z. is_committed k t0.running.txn z ≡ true) (sym (ap (at_home g k) i.1 ∙ m.1)) done in
      let txn : t0.running.txn ≡ a.txn = t0.txn_is ∙ b.txn_is in
      let yes : is_committed a.class a.txn (at_home g a.class before) ≡ true =
      subst (λ j. is_committed j a.txn (at_home g j before) ≡ true) (sym class) (subst (λ n. is_committed k n (at_home g k before) ≡ true) txn there) in
      let wrong : true ≡ false = sym yes ∙ none in cc

  none_between : (a : Attempt) (k : ℕ) → IsAttempt (history log) a → IsSubmitted (history log) a.txn k
      → eras_begun (eras_of g log) (event_at (history log) k) < eras_begun (eras_of g log) (event_at (history log) a.place) → ⊥
  none_between a k s t l =
      let x = start_in g log a w.sound w.permitted s in
      let act = Does (home g.catalogue a.class) (start_act_of a x.sends) in
      let p = apart g log w a.txn k t act x.later x.before x.is (omega (arith, l, (begun_at g log act _ x.later x.before a.place refl x.is x.place_is))) in
      let c = commit_there g log w p.mid p.at_rest a.txn k p.submitted in
      let within = c.2 in let below = p.below in
      again a s x.before x.place_is x.says.not_committed (x.later ++ act ∷ []) (x.is ∙ sym (append_assoc x.later (act ∷ []) x.before))
      c.0 c.1 c.3 (omega (arith, within, below))

  begun_up : (a : Attempt) (k : ℕ) → IsAttempt (history log) a → IsSubmitted (history log) a.txn k
      → eras_begun (eras_of g log) (event_at (history log) k) ≤ eras_begun (eras_of g log) (event_at (history log) a.place)
  begun_up a k s t =
      let x = submit_in g log a.txn k w.permitted t in
      let y = start_in g log a w.sound w.permitted s in
      let act = Does (home g.catalogue a.class) (start_act_of a y.sends) in
      let z = w.starts.submitted a s in
      let before = z.before in let submit_place = x.place_is in let start_place = y.place_is in
      let upper : log ≡ (y.later ++ act ∷ []) ++ y.before = y.is ∙ sym (append_assoc y.later (act ∷ []) y.before) in
      let lower : log ≡ (x.later ++ Submitted x.at a.txn ∷ []) ++ x.rest = x.is ∙ sym (append_assoc x.later (Submitted x.at a.txn ∷ []) x.rest) in
      let i = longer log (y.later ++ act ∷ []) y.before (x.later ++ Submitted x.at a.txn ∷ []) x.rest upper lower
      (omega (arith, w.starts.one_submit a.txn z.place k z.submitted t, before, submit_place, start_place)) in
      let submit = begun_at g log (Submitted x.at a.txn) (Submit (txn_no a.txn)) x.later x.rest k refl x.is x.place_is in
      omega (arith, redeclares_back i.0 x.rest, ap redeclares i.1, (begun_at g log act _ y.later y.before a.place refl y.is y.place_is), submit)

  pub one_era : (a : Attempt) (k : ℕ) → IsAttempt (history log) a → IsSubmitted (history log) a.txn k
      → eras_begun (eras_of g log) (event_at (history log) k) ≡ eras_begun (eras_of g log) (event_at (history log) a.place)
  one_era a k s t = elim (dec_le (eras_begun (eras_of g log) (event_at (history log) a.place)) (eras_begun (eras_of g log) (event_at (history log) k))) [
    | no p ↦ absurd (none_between a k s t (omega (arith, p)))
    | yes p ↦ (let up = begun_up a k s t in omega (arith, p, up))
  ]
