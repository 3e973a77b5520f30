-- Which sites make which records: a site that runs transactions makes Starts and Commits of the classes that it runs, a
-- data module makes the others, each with its own number.
use Rattle.sdd_lawful.proofs.All.{Act, Answer, Apply, Arrive, Bool, Commit, D, DmNo, Does, Each, Home, Input, IsDue, IsFair, IsPermitted, IsStep, List, Log, Msg, Nothing, Pass, Rec, Records, Rejected, Sends, Setting, Site, SiteLog, Start, Submit, T, U, View, Wait, allowed_act, arith, false, home, home_of, local_of, own_act, refl, setting_of, step_way, subst, t_fair, true, u_fair, view_of, ℕ, ◌∷◌, ◌≡◌}

abbrev pub is_of_run : Rec → Bool
is_of_run (Start txn attempt class ts p2 uses) = true
is_of_run (Commit txn attempt reply changes values rows) = true
is_of_run _ = false

-- a record of the data module with this number
abbrev pub IsOfData : DmNo → Rec → Type 0
IsOfData d (Arrive txn attempt dm) = dm ≡ d
IsOfData d (Wait txn attempt dm conds) = dm ≡ d
IsOfData d (Answer txn attempt dm) = dm ≡ d
IsOfData d (Rejected txn attempt dm by write) = dm ≡ d
IsOfData d (Apply txn class dm ts) = dm ≡ d
IsOfData d (Pass class dm time) = dm ≡ d
IsOfData d _ = ⊥

abbrev pub IsDataAct : DmNo → Act → Type 0
IsDataAct d (Records k r sends) = IsOfData d r
IsDataAct d (Sends to m hand) = Unit {0}

abbrev pub IsRunAct : Setting → Act → Type 0
IsRunAct s (Records k r sends) = (home s.catalogue k ≡ s.site) × (is_of_run r ≡ true)
IsRunAct s (Sends to m hand) = Unit {0}

step_kind : (s : Setting) (log : SiteLog) (act : Act) → IsStep s log act → IsRunAct s act
step_kind s log act i = step_way s log act (IsRunAct s) (λ c q at f e. (at, refl)) (λ c bases a at f. (at, refl)) (λ to m hand f. tt) i

-- what a data module has due

due_kind : (h : Home) (v : View) (a : Act) → IsDue h v a → IsDataAct h.dm a
due_kind h v a h4 = grind (arith, IsDataAct)

abbrev pub IsActOf : Input → Site → Act → Type 0
IsActOf g (D d) act = IsDataAct d act
IsActOf g x act = IsRunAct (setting_of g x) act

pub act_kind : (g : Input) (at : Site) (act : Act) (log : Log) → IsPermitted g (Does at act ∷ log) → IsActOf g at act
act_kind g (D d) act log h =
    due_kind (home_of (setting_of g (D d))) (view_of (setting_of g (D d)) (local_of g (D d) log)) act (allowed_act g log (Does (D d) act) h.0)
act_kind g U act log h =
    step_kind (setting_of g U) (local_of g U log) act (subst (λ l. Each (IsFair (setting_of g U)) l) (own_act g U act log) (u_fair g (Does U act ∷ log) h)).0
act_kind g (T t) act log h =
    step_kind (setting_of g (T t)) (local_of g (T t) log) act
    (subst (λ l. Each (IsFair (setting_of g (T t))) l) (own_act g (T t) act log) (t_fair g t (Does (T t) act ∷ log) h)).0

-- a Start or a Commit is made at the site that runs its class
pub run_home : (g : Input) (at : Site) (k : ℕ) (r : Rec) (sends : List (Site × Msg)) (log : Log)
    → IsPermitted g (Does at (Records k r sends) ∷ log) → is_of_run r ≡ true → at ≡ home g.catalogue k
run_home g at k r sends log h e = grind (arith, act_kind)

pub data_home : (g : Input) (at : Site) (k : ℕ) (r : Rec) (sends : List (Site × Msg)) (log : Log)
    → IsPermitted g (Does at (Records k r sends) ∷ log) → is_of_run r ≡ false → (d : DmNo) × (at ≡ D d) × IsOfData d r
data_home g at k r sends log h e = grind (arith, act_kind)

-- no site makes a Submit by itself
abbrev pub is_own : Rec → Bool
is_own (Submit txn) = true
is_own Nothing = true
is_own _ = false

pub none_own : (g : Input) (at : Site) (k : ℕ) (r : Rec) (sends : List (Site × Msg)) (log : Log)
    → IsPermitted g (Does at (Records k r sends) ∷ log) → is_own r ≡ false
none_own g at k r sends log h = grind (arith, act_kind)
