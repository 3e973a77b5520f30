use Rattle.std.proofs.Common.{ap, append-nil, sym, ◌++◌, ◌∙◌}
use Rattle.sdd_robust.specs.PlaceSets.{word_places}
use Rattle.sdd_robust.proofs.PlaceSets.{rest_of_word}
use Rattle.sdd_robust.proofs.WordPlaces.{no_places}
use Rattle.sdd_robust.proofs.place_set.take_word.Goals.{then-taken-ne0+in_ok-queue_places, else-taken-ne0}
use Rattle.sdd_robust.proofs.place_set.take_word.Goals as goal

pub returns-clause-rest : goal.returns-clause-rest
returns-clause-rest c = λ bit l. rest_of_word c.args.word c.args.other bit c.ranges.other.fits l

pub returns-clause-queued : goal.returns-clause-queued
returns-clause-queued c =
    elim c.if-taken-ne0.branch [
      | then-taken-ne0+in_ok-queue_places w ↦ ap (λ q. q.items) w.queue-is ∙ w.in_ok-queue_places.ensures
      | else-taken-ne0 w ↦
          ap (λ q. q.items) w.queue-is
          ∙ sym (ap (λ x. c.args.queue.now.items ++ word_places x c.args.first) w.if-taken-ne0.false
          ∙ ap (λ xs. c.args.queue.now.items ++ xs) (no_places c.args.first) ∙ append-nil c.args.queue.now.items)
    ]
