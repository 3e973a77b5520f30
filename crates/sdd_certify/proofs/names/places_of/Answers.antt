use Rattle.sdd_certify.proofs.All.{List, Option, get, map, nat_cmp, slice_cmp, subst, sym, take, ℕ, ◌+◌, ◌∙◌}
use Rattle.sdd_certify.proofs.PlacesFound.{Found, known_step, new_step}
use Rattle.sdd_certify.proofs.names.places_of.Goals.{then-not-contains_key+in_ok-insert, else-not-contains_key}
use Rattle.sdd_certify.proofs.names.places_of.Goals as goal

pub names-preserved : goal.names-preserved
names-preserved c =
    let names = c.args.names.now in
    let i = c.names.i in
    let within = c.names-test.true in
    let same = c.in_ok-name.ensures in
    let old : List ℕ → Option ℕ = λ n. get (slice_cmp nat_cmp) c.names.made n in
    elim c.if-not-contains_key.branch [
      | then-not-contains_key+in_ok-insert w ↦
          let absent = sym c.contains_key.ensures ∙ w.if-not-contains_key.true in
          let new : List ℕ → Option ℕ = λ n. get (slice_cmp nat_cmp) w.insert.new.self n in
          let now = new_step names i _ c.in_ok-name.name old new within same absent w.in_ok-insert.ensures.updates.0 c.names.invariant in
          subst (λ m. Found (λ n. get (slice_cmp nat_cmp) m n) (map (λ t. t.now) (take (i + 1) names))) (sym w.made-is) now
      | else-not-contains_key w ↦
          let has = sym c.contains_key.ensures ∙ w.if-not-contains_key.false in
          let now = known_step names i _ c.in_ok-name.name old within same has c.names.invariant in
          subst (λ m. Found (λ n. get (slice_cmp nat_cmp) m n) (map (λ t. t.now) (take (i + 1) names))) (sym w.made-is) now
    ]
