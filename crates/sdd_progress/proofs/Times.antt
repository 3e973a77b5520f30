-- Of two committed transactions of different eras the first has the smaller timestamp.
use Rattle.sdd_progress.proofs.All.{Commit, Committed, Did, Does, Entry, HasCommit, Input, IsCommitted, IsOfEarlierEra, IsRecordAt, Log, Redeclares, Site, T, [], act_local, ap, append_assoc, arith, clock, clock_grows, eras_of, false, greatest_bound, history, home, home_small, inl, inr, length, length-append, local_grows, local_of, number_of, refl, same_or_not, setting_of, sound_whole, stamp_ticks, start_act_of, start_in, start_within, subst, sym, tm_no, txn_no, ℕ, ◌*◌, ◌++◌, ◌+◌, ◌/◌, ◌<◌, ◌==◌, ◌∙◌, ◌∷◌, ◌≡◌, ◌≤◌}
use Rattle.sdd_progress.proofs.ErasOf.{are_eras_of}
use Rattle.sdd_progress.proofs.IdleAtRedeclares.{at_redeclare}
use Rattle.sdd_progress.proofs.Apart.{committed_first, earlier, other_txn}
use Rattle.sdd_progress.proofs.AtRest.{next_at_redeclare}
use Rattle.sdd_progress.proofs.Bounds.{at_t, bound_within, max_ge, rise_by}
use Rattle.sdd_progress.proofs.Fronts.{in_longer, longer}
use Rattle.sdd_progress.proofs.Known.{Known, started_before}
use Rattle.sdd_obligations.specs.site_module.SiteLog as site

module _ (g : Input) (log : Log) (w : Known g log) where
  -- of two declared transactions: the clocks were pushed by the greatest bound
  declared_rise : (x y : Committed) → IsOfEarlierEra (eras_of g log) (history log) x y → (x.start.class == 0) ≡ false → (y.start.class == 0) ≡ false
      → x.start.ts < y.start.ts
  declared_rise x y o zx zy =
      let q = earlier g log w x y y.start o o.second.started refl in
      let r = q.at_rest in
      let are = are_eras_of g log w.lists in
      let sx = start_in g log x.start w.sound w.permitted o.first.started in
      let sy = start_in g log y.start w.sound w.permitted o.second.started in
      let tx = at_t g x.start.class w.sound zx (start_within g log (eras_of g log) x.start are sx) in
      let ty = at_t g y.start.class w.sound zy (start_within g log (eras_of g log) y.start are sy) in
      let hx : Site = home g.catalogue x.start.class in
      let hy : Site = home g.catalogue y.start.class in
      let parts : log ≡ (r.other ++ Redeclares r.time ∷ []) ++ q.mid = r.is ∙ sym (append_assoc r.other (Redeclares r.time ∷ []) q.mid) in
      let ex : Entry = Does hx (start_act_of x.start sx.sends) in
      let first = q.first in let startx = started_before g log w x o.first in let placex = sx.place_is in
      let one : length (history (ex ∷ sx.before)) ≡ length (history sx.before) + 1 = length-append (history sx.before) _ in
      let inx = in_longer log sx.later sx.before (r.other ++ Redeclares r.time ∷ []) q.mid ex sx.is parts
      (omega (arith, first, startx, placex)) (omega (arith, one)) in
      let lx = act_local g hx (start_act_of x.start sx.sends) inx.0 sx.before in
      let lbx : site.Log = local_of g hx sx.before in
      let lmx : site.Log = local_of g hx q.mid in
      let growx : (clock hx lbx).ticks + 1 ≤ (clock hx (lx.0 ++ Did (start_act_of x.start sx.sends) ∷ lbx)).ticks =
      clock_grows hx lx.0 (Did (start_act_of x.start sx.sends) ∷ lbx) in
      let tsx : x.start.ts ≡ ((clock hx lbx).ticks + 1) * 64 + number_of hx = sx.says.ts_is ∙ stamp_ticks (setting_of g hx) lbx in
      let smallx = home_small g.catalogue w.sound x.start.class in
      let boundx : (clock hx lmx).ticks * 64 + 63 ≤ greatest_bound g q.mid =
      subst (λ s. (clock s (local_of g s q.mid)).ticks * 64 + 63 ≤ greatest_bound g q.mid) (sym tx.home_is) (bound_within g q.mid tx.t tx.from tx.to) in
      let time : r.time ≡ greatest_bound g q.mid = (at_redeclare g q.mid r.time (next_at_redeclare g log r.other q.mid r.time w.lawful r.is)).time_is in
      let boundt : (clock hx lmx).ticks * 64 + 63 ≤ r.time = omega (arith, boundx, time) in
      let second = q.second in let placey = sy.place_is in
      let party : log ≡ (sy.later ++ Does hy (start_act_of y.start sy.sends) ∷ []) ++ sy.before =
      sy.is ∙ sym (append_assoc sy.later (Does hy (start_act_of y.start sy.sends) ∷ []) sy.before) in
      let lessy : length (history q.mid) < length (history sy.before) = omega (arith, second, placey) in
      let iny = longer log (sy.later ++ Does hy (start_act_of y.start sy.sends) ∷ []) sy.before r.other (Redeclares r.time ∷ q.mid) party r.is lessy in
      let ly = local_grows g hy iny.0 (Redeclares r.time ∷ q.mid) in
      let lmy : site.Log = local_of g hy (Redeclares r.time ∷ q.mid) in
      let lby : site.Log = local_of g hy sy.before in
      let growy = clock_grows hy ly.0 lmy in
      let topy : (clock hy lby).ticks ≡ (clock hy (ly.0 ++ lmy)).ticks = ap (λ l. (clock hy l).ticks) (ap (local_of g hy) iny.1 ∙ ly.1) in
      let upy : (clock hy lmy).ticks ≤ (clock hy lby).ticks = omega (arith, growy, topy) in
      let pushed : r.time / 64 ≤ (clock hy lmy).ticks =
      subst (λ s. r.time / 64 ≤ (clock s (local_of g s (Redeclares r.time ∷ q.mid))).ticks) (sym ty.home_is)
      (max_ge (clock (T (tm_no ty.t)) (local_of g (T (tm_no ty.t)) q.mid)).ticks (r.time / 64)) in
      let tsy : y.start.ts ≡ ((clock hy lby).ticks + 1) * 64 + number_of hy = sy.says.ts_is ∙ stamp_ticks (setting_of g hy) lby in
      rise_by (clock hx lbx).ticks (clock hx lmx).ticks r.time (clock hy lmy).ticks (clock hy lby).ticks x.start.ts (number_of hx) y.start.ts (number_of hy)
      (omega (arith, growx, (ap (λ l. (clock hx l).ticks) (ap (local_of g hx) inx.1 ∙ lx.1)))) tsx smallx boundt pushed upy tsy

  pub times_rise : (x y : Committed) → IsOfEarlierEra (eras_of g log) (history log) x y → x.start.ts < y.start.ts
  times_rise x y o =
      let before = committed_first g log w x y y.start o o.second.started refl in
      let sx = started_before g log w x o.first in
      let sy = started_before g log w y o.second in
      elim (same_or_not x.start.class 0) [
        | inl p ↦ grind (arith, other_txn)
        | inr p ↦ elim (same_or_not y.start.class 0) [
          | inl q ↦ elim (w.alone.alone y x o.second o.first q (λ e. other_txn g log w x y o (sym e))) [
            | inl b ↦ b.time
            | inr a ↦ (let some = (sound_whole g.catalogue w.sound).some_dm in
                let b = a.applied 1 (omega arith, some) in
                let c = w.applies.of_commit y.start.txn b.applied.class 1 b.applied.ts b.place b.applied.is_recorded in
                let one = w.starts.one_commit y.start.txn c.committed.start.number y.start.number c.committed.place y.place
                (commit_of c.committed y.start.txn c.is_committed c.txn_is) (commit_of y y.start.txn o.second refl) in
                let l = c.before in let m = b.before in
                absurd (omega (arith, before, sx, sy, one, l, m)))
          ]
          | inr q ↦ declared_rise x y o p q
        ]
      ]
    where
      commit_of : (t : Committed) (n : ℕ) → IsCommitted (history log) t → t.start.txn ≡ n → HasCommit (history log) n t.start.number t.place
      commit_of t n c e = record {
        reply = t.reply;
        changes = t.changes;
        values = t.values;
        rows = t.rows;
        is_recorded = subst (λ m. IsRecordAt (history log) t.place (Commit (txn_no m) t.start.number t.reply t.changes t.values t.rows)) e c.committed;
      }
