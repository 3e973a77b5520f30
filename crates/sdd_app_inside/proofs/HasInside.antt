-- The run of a workload has a text of what happens inside it, or the limit ends it.
use Rattle.sdd_app_inside.proofs.All.{Catalogue, EndsAtLimit, IsInsideOf, IsValid, List, Workload, has_run, inl, input, inr, inside_text, refl, ℕ, ◌⊎◌}

pub has_inside : (cat : Catalogue) (work : Workload) → IsValid cat work → ((text : List ℕ) × IsInsideOf cat work text) ⊎ EndsAtLimit cat work
has_inside cat work valid = elim (has_run cat work valid) [
  | inl r ↦ inl (inside_text (input r) r.log, record { of_run = r; text_is = refl })
  | inr limit ↦ inr limit
]
