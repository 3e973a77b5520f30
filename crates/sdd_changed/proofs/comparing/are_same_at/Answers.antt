use Rattle.sdd_changed.proofs.All.{ap, chosen, sym, ◌∙◌, ◌≡◌}
use Rattle.sdd_changed.proofs.Chosen.{entries_alike}
use Rattle.sdd_changed.proofs.comparing.are_same_at.Goals as goal

pub returns : goal.returns
returns c =
    let rel = c.args.rel.0 in
    λ same.
    let conds : c.as_slice.result.now ≡ c.as_slice-2.result.now = c.as_slice.ensures.value ∙ sym c.as_slice-2.ensures.value in
    let alike : c.in_ok-in_a.in_a ≡ c.in_ok-in_b.in_b =
    entries_alike rel c.in_ok-in_a.in_a c.in_ok-in_b.in_b
    (c.in_ok-in_a.ensures ∙ ap (λ db. chosen db rel c.as_slice.result.now) same ∙ ap (chosen c.args.b.now rel) conds ∙ sym c.in_ok-in_b.ensures) in
    c.are_same_entries.ensures (c.as_slice-3.ensures ∙ alike ∙ sym c.as_slice-4.ensures)
