use Rattle.sdd_dm.proofs.All.{ask_for, drop, map, with_sends, ◌≡◌}
use Rattle.sdd_dm.proofs.parts.Parts.ask.Given as goal

abbrev pub invariant-loop-cond : goal.invariant-loop-cond
invariant-loop-cond l = record {
  recs : l.draft.recs ≡ l.initial.draft.recs;
  out : with_sends (map (ask_for l.self.home) (drop l.cond-index l.conds)) l.draft.out ≡ with_sends (map (ask_for l.self.home) l.conds) l.initial.draft.out;
}
