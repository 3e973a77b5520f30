use Rattle.sdd_moments.proofs.All.{List, QueueMoment, [], ap, append-nil, append_assoc, drop, drop_all, sym, ℕ, ◌++◌, ◌+◌, ◌∙◌, ◌∷◌, ◌≡◌}
use Rattle.sdd_moments.proofs.Loops.{next}
use Rattle.sdd_moments.proofs.queues.add_copies.Goals as goal

-- a copy more, beside what is left
copy_more : (queues old more all : List QueueMoment) (x copy : QueueMoment) (i : ℕ) → drop i queues ≡ x ∷ drop (i + 1) queues → copy ≡ x
    → more ≡ old ++ copy ∷ [] → old ++ drop i queues ≡ all → more ++ drop (i + 1) queues ≡ all
copy_more queues old more all x copy i rest is add e =
    ap (λ qs. qs ++ drop (i + 1) queues) (add ∙ ap (λ q. old ++ q ∷ []) is)
    ∙ append_assoc old (x ∷ []) (drop (i + 1) queues) ∙ ap (λ qs. old ++ qs) (sym rest) ∙ e

pub loop-queue-preserved : goal.loop-queue-preserved
loop-queue-preserved c =
    copy_more c.args.queues.now c.loop-queue.copies.items c.push.new.self.items (c.args.copies.now.items ++ c.args.queues.now) c.queue-item.result
    c.in_ok-copy_of.field-0 c.loop-queue.queue-index
    (next c.args.queues.now c.queue-item.result c.loop-queue.queue-index c.loop-queue-test.true c.queue-item.is)
    c.in_ok-copy_of.ensures c.in_ok-push.ensures.items c.loop-queue.invariant

pub returns : goal.returns
returns c =
    sym (append-nil c.loop-queue.copies.items)
    ∙ ap (λ qs. c.loop-queue.copies.items ++ qs) (sym (drop_all c.loop-queue.queue-index c.args.queues.now c.loop-queue-test.false))
    ∙ c.loop-queue.invariant
