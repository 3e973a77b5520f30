-- The modules of an exchange: those to which its READs went, and they stay.
use Rattle.sdd_rules.proofs.All.{Asking, Catalogue, Exchange, List, Phase, Queued, Step, Ticking, Use, [], ap, arith, ascending, filter_map, fragments_in, goes_on, map, module_read, modules_of, on_answer, phase_ends, read_to, refl, sends_of_act, start_act, ticked, uses_of, ℕ, ◌∷◌, ◌≡◌}
use Rattle.sdd_rules.proofs.attempt.Numbers.{own}
use Rattle.sdd_module.specs.protocol.declared.entry.Entry as line

pub goes_modules : (ts c : ℕ) (x : Exchange) (qs : List Asking) (done : List Step) → (goes_on ts c x qs done).modules ≡ x.modules
goes_modules ts c x [] done = refl
goes_modules ts c x (q ∷ rest) done = grind (arith, goes_modules ts c x rest [])

pub ends_modules : (ts c : ℕ) (x : Exchange) (p : Phase) → (phase_ends ts c x p).modules ≡ x.modules
ends_modules ts c x p = grind (arith, goes_modules)

pub on_answer_modules : (ts c : ℕ) (x : Exchange) (dms : List ℕ) → (on_answer ts c x dms).modules ≡ x.modules
on_answer_modules ts c x dms = grind (arith, ends_modules)

pub modules_read : (cat : Catalogue) (table : List line.Entry) (c : ℕ) (q : Queued) (uses : List Use) (own p2 : ℕ) (dms : List ℕ)
    → map (λ (m : ℕ × List ℕ). m.0) (filter_map module_read (map (read_to cat table c q uses own p2) dms)) ≡ dms
modules_read cat table c q uses own p2 [] = refl
modules_read cat table c q uses own p2 (d ∷ dms) = ap (λ es. d ∷ es) (modules_read cat table c q uses own p2 dms)

-- the modules to which it sends READs
pub start_modules : (cat : Catalogue) (table : List line.Entry) (c : ℕ) (k : Ticking) (q : Queued)
    → map (λ (m : ℕ × List ℕ). m.0) (filter_map module_read (sends_of_act (start_act cat table c k q))) ≡ modules_of cat c (ascending (fragments_in (uses_of cat q.text)))
start_modules cat table c k q = grind (arith, modules_read, ticked, ascending)
