-- What is tested of all records of a history holds of the one at a place.
use Rattle.std.proofs.Common.{ap, arith, sym, ◌∙◌}
use Rattle.std.proofs.lemmas.Bool.{and_parts}
use Rattle.std.specs.Prelude.{ℕ, zero, suc, ◌+◌, ◌≡◌, Bool, true, [], ◌∷◌, Some, None}
use Rattle.std.specs.List.{list_all}
use Rattle.sdd_run.specs.progress.obligations.All.{History, IsRecordAt, Rec, event_at, placed}

pub passes_at : (test : ℕ → Rec → Bool) (h : History) (k : ℕ) (r : Rec) → list_all (λ e. test e.0 e.1) h ≡ true → IsRecordAt h k r
    → test (event_at h k) r ≡ true
passes_at test [] k r all there = absurd (let no : None ≡ Some r = there in cc)
passes_at test (e ∷ h) zero r all there =
    let same : e.1 ≡ r = (let s : Some e.1 ≡ Some r = there in cc) in
    ap (test e.0) (sym same) ∙ (and_parts (test e.0 e.1) (list_all (λ x. test x.0 x.1) h) all).0
passes_at test (e ∷ h) (suc k) r all there =
    passes_at test h k r (and_parts (test e.0 e.1) (list_all (λ x. test x.0 x.1) h) all).1 there

-- the same for tests of a record and its place
holds_at : (test : ℕ → Rec → Bool) (n : ℕ) (h : History) (k : ℕ) (r : Rec) → list_all (λ e. test e.0 e.1) (placed n h) ≡ true
    → IsRecordAt h k r → test (n + k) r ≡ true
holds_at test n [] k r all there = absurd (let no : None ≡ Some r = there in cc)
holds_at test n (e ∷ h) zero r all there =
    let same : e.1 ≡ r = (let s : Some e.1 ≡ Some r = there in cc) in
    let at : n + 0 ≡ n = omega arith in
    (λ i. test (at i) (sym same i)) ∙ (and_parts (test n e.1) (list_all (λ x. test x.0 x.1) (placed (suc n) h)) all).0
holds_at test n (e ∷ h) (suc k) r all there =
    let at : n + suc k ≡ suc n + k = omega arith in
    ap (λ j. test j r) at ∙ holds_at test (suc n) h k r (and_parts (test n e.1) (list_all (λ x. test x.0 x.1) (placed (suc n) h)) all).1 there

pub passes_place : (test : ℕ → Rec → Bool) (h : History) (k : ℕ) (r : Rec) → list_all (λ e. test e.0 e.1) (placed 0 h) ≡ true
    → IsRecordAt h k r → test k r ≡ true
passes_place test h k r all there =
    let at : k ≡ 0 + k = omega arith in ap (λ j. test j r) at ∙ holds_at test 0 h k r all there
