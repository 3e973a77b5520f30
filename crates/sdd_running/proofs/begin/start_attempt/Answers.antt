use Rattle.sdd_running.proofs.All.{Queued, [], ap, begins, option_map, reads_of, unwrap_or, ◌∙◌}
use Rattle.sdd_running.proofs.Noting.{begun_noted, begun_running}
use Rattle.sdd_running.proofs.begin.start_attempt.Goals as goal

pub returns-clause-running : goal.returns-clause-running
returns-clause-running c =
    begun_running c.args.catalogue.now
    (unwrap_or (option_map (λ t. t.now) c.args.table) []) c.args.class.0 c.args.queued.now c.args.clock.now c.start-own.new.self c.start-own.result.0 c.bound-p2.result.0
    c.in_ok-beginning.beginning c.in_ok-exchange.exchange
    c.start-own.ensures.clock c.start-own.ensures.timestamp c.bound-p2.ensures c.in_ok-beginning.ensures
    (c.in_ok-exchange.ensures (reads_of c.in_ok-beginning.beginning) c.in_ok-modules.ensures.modules
    ∙ ap (λ (q : Queued). begins q.text (reads_of c.in_ok-beginning.beginning)) c.queued.view_is)

pub returns-clause-draft : goal.returns-clause-draft
returns-clause-draft c =
    begun_noted c.args.catalogue.now
    (unwrap_or (option_map (λ t. t.now) c.args.table) []) c.args.class.0 c.args.queued.now c.args.clock.now c.start-own.new.self c.start-own.result.0 c.bound-p2.result.0
    c.in_ok-beginning.beginning c.into_record.result c.args.draft.now c.send_reads.new.draft c.record.new.self
    c.start-own.ensures.clock c.start-own.ensures.timestamp c.bound-p2.ensures c.in_ok-beginning.ensures c.into_record.ensures c.in_ok-modules.ensures.draft c.in_ok-record.ensures
