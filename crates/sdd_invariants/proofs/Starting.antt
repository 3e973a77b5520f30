-- What is said of a record that a site makes.
use Rattle.sdd_invariants.proofs.All.{Act, Attempt, Bases, Commit, DmNo, Does, Each, HasAnswer, Input, IsBased, IsFair, IsPermitted, IsStep, Records, Says, Setting, Some, T, TmNo, U, active, allowed_act, arith, base_of, commit_act, contains, home, is_over, local_of, modules_asked, number_of, setting_of, subst, sym, true, ℕ, ◌∙◌, ◌∷◌, ◌≡◌, ◌≤◌}
use Rattle.sdd_invariants.proofs.Recorded.{says}
use Rattle.sdd_invariants.proofs.Answered.{answered_all}
use Rattle.sdd_invariants.proofs.Based.{t_based, u_based}
use Rattle.sdd_invariants.proofs.Active.{step_way_over}
use Rattle.sdd_invariants.proofs.Fair.{all_new, home_fair}
use Rattle.sdd_invariants.proofs.Made.{own_act}
use Rattle.sdd_log.specs.All.{Log}
use Rattle.sdd_log.specs.site_module.SiteLog as site

home_step : (g : Input) (c : ℕ) (log : Log) (act : Act) → IsPermitted g (Does (home g.catalogue c) act ∷ log)
    → IsStep (setting_of g (home g.catalogue c)) (local_of g (home g.catalogue c) log) act
home_step g c log act h =
    (subst (λ l. Each (IsFair (setting_of g (home g.catalogue c))) l) (own_act g (home g.catalogue c) act log) (home_fair g c (Does (home g.catalogue c) act ∷ log) h)).0

-- a Start and a Commit
pub says_at : (g : Input) (c : ℕ) (log : Log) (act : Act) → IsPermitted g (Does (home g.catalogue c) act ∷ log)
    → number_of (home g.catalogue c) ≤ 63 → Says (setting_of g (home g.catalogue c)) (local_of g (home g.catalogue c) log) act
says_at g c log act h small =
    says (setting_of g (home g.catalogue c)) (local_of g (home g.catalogue c) log) act small (home_fair g c log h.1) (all_new g (home g.catalogue c) log h.1)
    (home_step g c log act h)

-- at a Commit its attempt's exchange is over
abbrev IsOverAt : Setting → site.Log → Act → Type 0
IsOverAt s log (Records k (Commit txn attempt reply changes values rows) sends) = (a : Attempt) → active s k log ≡ Some a → is_over a.exchange.phase ≡ true
IsOverAt s log act = Unit {0}

pub one_active : (s : Setting) (c : ℕ) (log : site.Log) (a b : Attempt) → active s c log ≡ Some a → active s c log ≡ Some b → a ≡ b
one_active s c log a b e f = let p : Some a ≡ Some b = sym e ∙ f in cc

over_at : (s : Setting) (log : site.Log) (act : Act) → IsStep s log act → IsOverAt s log act
over_at s log act i = grind (arith, step_way_over, IsOverAt, one_active)

pub commit_over : (s : Setting) (log : site.Log) (c : ℕ) (bases : Bases) (a : Attempt)
    → IsStep s log (commit_act s.catalogue bases c a) → active s c log ≡ Some a → is_over a.exchange.phase ≡ true
commit_over s log c bases a i e = over_at s log (commit_act s.catalogue bases c a) i a e

-- a Commit has an Answer of its attempt at each module that it reads
pub commit_answered : (g : Input) (c : ℕ) (log : Log) (bases : Bases) (a : Attempt) (d : DmNo)
    → IsPermitted g (Does (home g.catalogue c) (commit_act g.catalogue bases c a) ∷ log)
    → active (setting_of g (home g.catalogue c)) c (local_of g (home g.catalogue c) log) ≡ Some a
    → contains (modules_asked (setting_of g (home g.catalogue c)) c a.text) d.0 ≡ true → HasAnswer g log d c a
commit_answered g c log bases a d h e p = grind (arith, answered_all, commit_over, home_step)

-- its reply and changes are those of the effect on the database of the attempt's snapshots
pub t_commit : (g : Input) (t : TmNo) (log : Log) (act : Act) → IsPermitted g (Does (T t) act ∷ log)
    → IsBased (setting_of g (T t)) (base_of g log) (local_of g (T t) log) act
t_commit g t log act h = t_based (setting_of g (T t)) (base_of g log) (local_of g (T t) log) act (allowed_act g log (Does (T t) act) h.0)

pub u_commit : (g : Input) (log : Log) (act : Act) → IsPermitted g (Does U act ∷ log) → IsBased (setting_of g U) (base_of g log) (local_of g U log) act
u_commit g log act h = u_based (setting_of g U) (base_of g log) (local_of g U log) act (allowed_act g log (Does U act) h.0)
