-- A run has one report, and one summary.
use Rattle.sdd_run.proofs.All.{AllZip, Catalogue, Entry, IsReportOn, IsSummaryOn, IsTable, List, Workload, [], ap, arith, one_log, one_table, refl, sym, ℕ, ◌∙◌, ◌∷◌, ◌≡◌}

-- the protocol tables of catalogues are one list
pub one_list_of_tables : (cats : List Catalogue) (a b : List (List Entry)) → AllZip IsTable cats a → AllZip IsTable cats b → a ≡ b
one_list_of_tables [] [] [] x y = refl
one_list_of_tables [] [] (t ∷ ts) x y = absurd y
one_list_of_tables (cat ∷ cats) (s ∷ a) [] x y = absurd y
one_list_of_tables (cat ∷ cats) (s ∷ a) (t ∷ b) x y = ap (λ z. z ∷ a) (one_table cat s t x.0 y.0) ∙ ap (λ zs. t ∷ zs) (one_list_of_tables cats a b x.1 y.1)
one_list_of_tables _ _ b x y = absurd x

pub one_report : (cat : Catalogue) (work : Workload) (text other : List ℕ) → IsReportOn cat work text → IsReportOn cat work other → text ≡ other
one_report cat work text other r s =
    r.text_is ∙ (grind (arith, one_list_of_tables, one_log)) ∙ sym s.text_is

pub one_summary : (cat : Catalogue) (work : Workload) (text other : List ℕ) → IsSummaryOn cat work text → IsSummaryOn cat work other → text ≡ other
one_summary cat work text other r s =
    r.text_is ∙ (grind (arith, one_list_of_tables, one_log)) ∙ sym s.text_is
