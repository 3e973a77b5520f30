-- On a permitted log each site's own log is made of steps, and submits no number twice.
use Rattle.sdd_invariants.proofs.All.{D, DmNo, Each, Input, IsAllowed, IsDueEach, IsFair, IsNew, IsPermitted, Mark, None, Notes, Option, Site, Some, Submit, Submitted, T, TmNo, U, [], arith, base_of, contains, each_local, home, is_new_mark, local_of, made, or_right, refl, setting_of, submits, subst, true, was_marked, with_made, ℕ, ◌∷◌, ◌≡◌}
use Rattle.sdd_invariants.proofs.Queues.{queue_is}
use Rattle.sdd_invariants.proofs.AreSteps.{t_step, u_step}
use Rattle.sdd_invariants.proofs.Bools.{if_way, only_right, true_or_false}
use Rattle.sdd_invariants.proofs.Made.{local_step, maker}
use Rattle.sdd_log.specs.All.{Log}
use Rattle.sdd_log.specs.Entries.{Entry}
use Rattle.sdd_log.specs.site_module.SiteLog as site

-- a Submitted comes right after its mark
abbrev IsAfterMark : ℕ → Log → Type 0
IsAfterMark n (Mark (Submit k) ∷ log) = k.0 ≡ n
IsAfterMark n _ = ⊥

abbrev pub IsMarkEntry : Log → Entry → Type 0
IsMarkEntry log (Submitted to n) = IsAfterMark n log
IsMarkEntry log (Mark e) = is_new_mark e log ≡ true
IsMarkEntry log _ = Unit {0}

-- what a mark makes due is a Submitted or a note
abbrev AreOfMark : Input → Log → Option Entry → Type 0
AreOfMark g log None = Unit {0}
AreOfMark g log (Some (Submitted to n)) = IsAfterMark n log
AreOfMark g log (Some Notes) = Unit {0}
AreOfMark g log (Some _) = ⊥

pub allowed_mark : (g : Input) (log : Log) (e : Entry) → IsAllowed g log e → IsMarkEntry log e
allowed_mark g log e h4 = grind (arith, AreOfMark)

pub tail_marked : (n : ℕ) (e : Entry) (log : Log) → was_marked n log ≡ true → was_marked n (e ∷ log) ≡ true
tail_marked n e log h = grind (arith, or_right)

-- what was given to the site was marked before
seen_of : (g : Input) (at : Site) (n : ℕ) (e : Entry) (log : Log) (o : Option site.Entry) → made g at log e ≡ o
    → IsAllowed g log e → (contains (submits (local_of g at log)) n ≡ true → was_marked n log ≡ true)
    → contains (submits (with_made o (local_of g at log))) n ≡ true → was_marked n log ≡ true
seen_of g at n e log o m a f h = grind (arith, maker, true_or_false, only_right, IsMarkEntry, allowed_mark)

seen_marked : (g : Input) (at : Site) (n : ℕ) (log : Log) → IsPermitted g log → contains (submits (local_of g at log)) n ≡ true → was_marked n log ≡ true
seen_marked g U n [] h p = p
seen_marked g at n (e ∷ log) h p =
    tail_marked n e log (seen_of g at n e log (made g at log e) refl h.0 (seen_marked g at n log h.1) (subst (λ l. contains (submits l) n ≡ true) (local_step g at e log) p))
seen_marked g _ n [] h p = p

pub all_new : (g : Input) (at : Site) (log : Log) → IsPermitted g log → Each IsNew (local_of g at log)
all_new g at = grind (arith, each_local, true_or_false, seen_marked, allowed_mark)

pub d_fair : (g : Input) (d : DmNo) (log : Log) → IsPermitted g log → Each (IsDueEach (setting_of g (D d))) (local_of g (D d) log)
d_fair g d = grind (arith, each_local)

pub t_fair : (g : Input) (t : TmNo) (log : Log) → IsPermitted g log → Each (IsFair (setting_of g (T t))) (local_of g (T t) log)
t_fair g t = each_local g (T t) (IsFair (setting_of g (T t))) (record {
  handed = λ log p from n m a i. tt;
  ticked = λ log p n i. tt;
  submits = λ log p n k a e i. tt;
  redeclared = λ l k u i. tt;
  did = λ log act p due i. t_step (setting_of g (T t)) t (base_of g log) (local_of g (T t) log) act refl due;
})

-- U's steps rest on its queue, so on that no number is submitted twice
abbrev IsFairIfNew : Input → site.Log → site.Entry → Type 0
IsFairIfNew g l e = Each IsNew l → IsFair (setting_of g U) l e

all_fair : (g : Input) (l : site.Log) → Each (IsFairIfNew g) l → Each IsNew l → Each (IsFair (setting_of g U)) l
all_fair g [] h n = tt
all_fair g (e ∷ l) h n = (h.0 n.1, all_fair g l h.1 n.1)

u_if_new : (g : Input) (log : Log) → IsPermitted g log → Each (IsFairIfNew g) (local_of g U log)
u_if_new g = each_local g U (IsFairIfNew g) (record {
  handed = λ log p from n m a i x. tt;
  ticked = λ log p n i x. tt;
  submits = λ log p n k a e i x. tt;
  redeclared = λ l k t i x. tt;
  did = λ log act p due i x. u_step (setting_of g U) (base_of g log) (local_of g U log) act refl
      (queue_is (setting_of g U) 0 (local_of g U log) (all_fair g (local_of g U log) i x) x).served due;
})

pub u_fair : (g : Input) (log : Log) → IsPermitted g log → Each (IsFair (setting_of g U)) (local_of g U log)
u_fair g log h = all_fair g (local_of g U log) (u_if_new g log h) (all_new g U log h)

-- of the site that runs a class
pub home_fair : (g : Input) (c : ℕ) (log : Log) → IsPermitted g log → Each (IsFair (setting_of g (home g.catalogue c))) (local_of g (home g.catalogue c) log)
home_fair g c log h = grind (arith, if_way, u_fair, t_fair)
