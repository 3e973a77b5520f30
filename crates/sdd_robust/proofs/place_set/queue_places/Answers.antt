use Rattle.std.proofs.Common.{ap, append-nil, arith, rules, sym, w64, ◌++◌, ◌∙◌, ◌≡◌}
use Rattle.std.proofs.lemmas.Nat.Bits.{bit_at-trailing_zeros}
use Rattle.sdd_robust.specs.PlaceSets.{word_places}
use Rattle.sdd_robust.proofs.PlaceSets.{cleared}
use Rattle.sdd_robust.proofs.WordPlaces.{no_places, one_place_more}
use Rattle.sdd_robust.proofs.place_set.queue_places.Goals as goal

pub bits-smaller : goal.bits-smaller
bits-smaller c =
    let lowest = bit_at-trailing_zeros w64 c.bits.left (omega arith) (search rules) in
    cleared c.bits.left _ lowest.0 lowest.1

pub bits-preserved : goal.bits-preserved
bits-preserved c =
    let lowest = bit_at-trailing_zeros w64 c.bits.left (omega arith) (search rules) in
    one_place_more c.args.word c.bits.left c.args.first _ c.args.queue.now.items c.bits.queue.items c.push_back.new.self.items lowest.0 lowest.1 lowest.2
    c.in_ok-push_back.ensures.items c.bits.invariant

pub returns : goal.returns
returns c =
    let none : c.bits.left ≡ 0 = c.bits-test.false in
    sym (ap (λ w. c.bits.queue.items ++ word_places w c.args.first) none ∙ ap (λ xs. c.bits.queue.items ++ xs) (no_places c.args.first)
    ∙ append-nil c.bits.queue.items) ∙ c.bits.invariant
