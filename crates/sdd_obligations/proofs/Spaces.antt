-- What the modules keep for an attempt, as the log of everything goes on.
use Rattle.sdd_obligations.proofs.All.{Catalogue, CopyRows, D, Did, Does, Entry, Frozen, Hand, Handed, Input, Log, None, Option, Setting, Site, Some, Space, T, U, active, ap, arith, class_at, contents, dated, dm_no, false, home, if_way, kept, local_of, local_step, made, refl, same_site, setting_of, subst, sym, tm_no, with_made, ℕ, ◌==◌, ◌∙◌, ◌∷◌, ◌≡◌}
use Rattle.sdd_obligations.proofs.Places.{IsAnswerAt}
use Rattle.sdd_obligations.proofs.Snapped.{answer_more}
use Rattle.sdd_obligations.proofs.Kept.{kept_same}
use Rattle.sdd_invariants.specs.site_module.SiteLog as site

-- entries of a site's log that leave its attempts and its rows

abbrev pub IsStill : Option site.Entry → Type 0
IsStill (Some (Handed from m)) = ⊥
IsStill (Some (Did act)) = ⊥
IsStill _ = Unit {0}

pub still_kept : (s : Setting) (c ts : ℕ) (o : Option site.Entry) (l : site.Log) → IsStill o → kept s c ts (with_made o l) ≡ kept s c ts l
still_kept s c ts o l h = grind (arith, kept_same)

pub still_active : (s : Setting) (c : ℕ) (o : Option site.Entry) (l : site.Log) → IsStill o → active s c (with_made o l) ≡ active s c l
still_active s c o l h = grind arith

-- of the log of everything only hands and acts do more
abbrev pub IsStillEntry : Entry → Type 0
IsStillEntry (Hand from to n m) = ⊥
IsStillEntry (Does by act) = ⊥
IsStillEntry _ = Unit {0}

pub made_still : (g : Input) (at : Site) (log : Log) (e : Entry) → IsStillEntry e → IsStill (made g at log e)
made_still g at log e h = grind (arith, if_way, IsStill)

-- the spaces of modules

abbrev pub own : Input → ℕ → Log → site.Log
own g d log = local_of g (D (dm_no d)) log

abbrev pub set : Input → ℕ → Setting
set g d = setting_of g (D (dm_no d))

abbrev pub kept_at : Input → ℕ → ℕ → ℕ → Log → Option Frozen
kept_at g c ts d log = kept (set g d) c ts (own g d log)

abbrev pub or_first : Option Frozen → Frozen → Frozen
or_first None f = f
or_first (Some r) f = r

-- what module d keeps, or what it is to freeze first
abbrev pub space_at : Input → ℕ → ℕ → Space → Log → Space
space_at g c ts first log d = or_first (kept_at g c ts d log) (first d)

-- the copies are those at the Answers that there are
abbrev pub Agrees : Input → ℕ → (ℕ → CopyRows) → Log → Type 0
Agrees g ts copies log = (d : ℕ) (x : IsAnswerAt ts (own g d log)) → copies d ≡ (λ f. contents f (dated (set g d) x.before))

abbrev AnswerWith : ℕ → site.Log → site.Log → Type 0
AnswerWith ts before l = (y : IsAnswerAt ts l) × (y.before ≡ before)

answer_made : (ts : ℕ) (o : Option site.Entry) (l : site.Log) (x : IsAnswerAt ts l) → AnswerWith ts x.before (with_made o l)
answer_made ts None l x = (x, refl)
answer_made ts (Some e) l x = (answer_more ts e l x, refl)

pub agrees_before : (g : Input) (ts : ℕ) (copies : ℕ → CopyRows) (e : Entry) (log : Log) → Agrees g ts copies (e ∷ log) → Agrees g ts copies log
agrees_before g ts copies e log h d x =
    let y = subst (AnswerWith ts x.before) (sym (local_step g (D (dm_no d)) e log)) (answer_made ts (made g (D (dm_no d)) log e) (own g d log) x) in
    h d y.0 ∙ ap (λ l. λ f. contents f (dated (set g d) l)) y.1

pub space_same : (g : Input) (c ts : ℕ) (first : Space) (e : Entry) (log : Log) → ((d : ℕ) → kept_at g c ts d (e ∷ log) ≡ kept_at g c ts d log)
    → space_at g c ts first (e ∷ log) ≡ space_at g c ts first log
space_same g c ts first e log k = λ i d. or_first (k d i) (first d)

-- an entry that makes nothing of a module's log leaves what it keeps
pub kept_apart : (g : Input) (c ts d : ℕ) (e : Entry) (log : Log) → made g (D (dm_no d)) log e ≡ None → kept_at g c ts d (e ∷ log) ≡ kept_at g c ts d log
kept_apart g c ts d e log m = ap (kept (set g d) c ts) (local_step g (D (dm_no d)) e log ∙ ap (λ o. with_made o (own g d log)) m)

pub kept_still : (g : Input) (c ts d : ℕ) (e : Entry) (log : Log) → IsStillEntry e → kept_at g c ts d (e ∷ log) ≡ kept_at g c ts d log
kept_still g c ts d e log h = grind (arith, set, local_step, still_kept, own, made_still)

-- the site of a class is no data module
pub home_apart : (cat : Catalogue) (c d : ℕ) → same_site (D (dm_no d)) (home cat c) ≡ false
home_apart cat c d = if_way (λ x. same_site (D (dm_no d)) x ≡ false) (c == 0) U (T (tm_no (class_at cat c).tm.0)) refl refl
