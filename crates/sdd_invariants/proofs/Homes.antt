-- What goes through a class's pipes is put by the site that runs the class.
use Rattle.sdd_invariants.proofs.All.{Act, AllHomed, AllPiped, Bool, Catalogue, Did, Each, IsFair, IsHomed, IsSend, IsStep, List, Log, Msg, None, Option, Setting, Site, Some, [], ap, arith, commit_act, home, if◌then◌else◌, next_stamp, puts_to, same_site, sends_of_act, start_at, subst, sym, to_site, ℕ, ◌++◌, ◌∙◌, ◌∷◌, ◌≡◌}
use Rattle.sdd_invariants.proofs.Times.{piped_commit, piped_start}
use Rattle.sdd_invariants.proofs.Active.{step_way}

pub homed_join : (cat : Catalogue) (at : Site) (xs ys : List Msg) → AllHomed cat at xs → AllHomed cat at ys → AllHomed cat at (xs ++ ys)
homed_join cat at [] ys h k = k
homed_join cat at (x ∷ xs) ys h k = (h.0, homed_join cat at xs ys h.1 k)

homed_if : (cat : Catalogue) (at : Site) (b : Bool) (m : Msg) (ms : List Msg) → IsHomed cat at m → AllHomed cat at ms
    → AllHomed cat at (if b then m ∷ ms else ms)
homed_if cat at b m ms h k = grind arith

class_of : Option (ℕ × ℕ) → ℕ
class_of None = 0
class_of (Some p) = p.0

homed_piped : (cat : Catalogue) (at : Site) (k t : ℕ) (b : Site) (ps : List (Site × Msg)) → home cat k ≡ at → AllPiped k t ps → AllHomed cat at (to_site b ps)
unfolding class_of
homed_piped cat at k t b [] e h = tt
homed_piped cat at k t b (p ∷ ps) e h = homed_if cat at (same_site b p.0) p.1 (to_site b ps)
    (λ c u f. let q : k ≡ c = ap class_of (sym h.0 ∙ f) in subst (λ j. home cat j ≡ at) q e) (homed_piped cat at k t b ps e h.1)

send_homed : (s : Setting) (log : Log) (m : Msg) → IsSend s log m → IsHomed s.catalogue s.site m
unfolding class_of
send_homed s log m h4 = grind (arith, class_of)

pub act_homed : (s : Setting) (b : Site) (log : Log) (act : Act) → IsStep s log act → AllHomed s.catalogue s.site (to_site b (sends_of_act act))
act_homed s b log act i = step_way s log act (λ x. AllHomed s.catalogue s.site (to_site b (sends_of_act x)))
    (λ c q at f e. homed_piped s.catalogue s.site c (next_stamp s log) b (sends_of_act (start_at s c log q)) at (piped_start s c log q))
    (λ c bases a at f. homed_piped s.catalogue s.site c a.ts b (sends_of_act (commit_act s.catalogue bases c a)) at (piped_commit s c bases a))
    (λ to m hand f. homed_if s.catalogue s.site (same_site b to) m [] (send_homed s log m f) tt) i

pub homed : (s : Setting) (b : Site) (log : Log) → Each (IsFair s) log → AllHomed s.catalogue s.site (puts_to b log)
homed s b [] h = tt
homed s b (Did act ∷ log) h = homed_join s.catalogue s.site (puts_to b log) (to_site b (sends_of_act act)) (homed s b log h.1) (act_homed s b log act h.0)
homed s b (_ ∷ log) h = homed s b log h.1
