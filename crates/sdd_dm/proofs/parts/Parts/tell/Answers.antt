use Rattle.sdd_dm.proofs.All.{ClassNo, List, Notes, Reduced, Site, State, Ts, Value, ap, frozen_of, length, reduced_at, rows_held, update, with_out, ℕ, ◌∙◌}
use Rattle.sdd_dm.proofs.Results.{on_ok}
use Rattle.sdd_dm.proofs.parts.Parts.tell.Goals as goal

abbrev with_reduced : Site → Ts → ClassNo → ℕ → Notes → ℕ → Notes
with_reduced from ts class u n count = with_out from (Reduced ts class u count) n

abbrev left_by : Ts → ℕ → ℕ → ClassNo → State → List Value → ℕ
left_by ts u col class st values = length (rows_held u (frozen_of (update class.0 (reduced_at ts.0 u col values) st.frozen) class.0))

pub returns-in-Reduce-clause-notes : goal.returns-in-Reduce-clause-notes
returns-in-Reduce-clause-notes c =
    let i = c.in-Reduce in
    let n = c.in_ok-count-in-Reduce.ensures.count ∙ ap (left_by i.ts i.use_no i.column i.class c.args.self.now) c.as_slice.ensures in
    on_ok c.send-in-Reduce.result c.send-in-Reduce.ensures (λ e. rw i.is (e ∙ ap (with_reduced c.args.from i.ts i.class i.use_no c.args.draft.now) n))
