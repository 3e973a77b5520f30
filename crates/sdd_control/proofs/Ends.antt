-- The lines of sites, one after the other.
use Rattle.sdd_control.proofs.All.{List, Log, append_assoc, arith, site_line, site_lines, suc, ℕ, ◌++◌, ◌+◌, ◌-◌, ◌<◌, ◌≡◌}

-- a site more is written
pub one_site_more : (log : Log) (old new whole : List ℕ) (i e : ℕ) → i < e → new ≡ old ++ site_line log i
    → old ++ site_lines log i (e - i) ≡ whole → new ++ site_lines log (i + 1) (e - (i + 1)) ≡ whole
one_site_more log old new whole i e l is h =
    let left : e - i ≡ suc (e - (i + 1)) = omega arith in
    cc (is, append_assoc old (site_line log i) (site_lines log (i + 1) (e - (i + 1))), left, h)
