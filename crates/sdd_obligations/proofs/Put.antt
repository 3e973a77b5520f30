-- The WRITEs that are put on links have changes of items, and the databases of snapshots are databases: each of these
-- follows from the other one, a step of the log earlier.
use Rattle.sdd_obligations.proofs.All.{Act, AreWritten, Attempt, Bases, Change, D, DmNo, Does, Each, Entry, FitsInput, FitsText, Input, IsAllowed, IsBased, IsDatabase, IsEntry, IsFair, IsNew, IsPermitted, IsPutBy, IsPutByD, IsSoundCatalogue, IsStep, IsWrite, List, Log, Msg, Option, Setting, Site, Some, T, U, Write, [], all_new, allowed_act, allowed_hand, ap, arith, base_of, changes_at, commit_act, commit_put_is, dm_no, flat_map, local_of, local_step, made, maker, message_at, numbers_to, own_act, place_of_act, put_by_d, refl, sends_of_act, sent_is, setting_of, slice_get, snapshots_at, subst, sym, t_commit, t_fair, to_site, u_commit, u_fair, was_put, with_made, ℕ, ◌++◌, ◌-◌, ◌∙◌, ◌∷◌, ◌≡◌}
use Rattle.sdd_obligations.proofs.Changes.{effect_written}
use Rattle.sdd_obligations.proofs.Entries.{all_gathered, entries_make_one}
use Rattle.sdd_obligations.proofs.EffectsHeld.{FitsMsg, HandFits, snapshot_entries}
use Rattle.sdd_obligations.proofs.Texts.{SubmitHas, active_so, submitted_fit}
use Rattle.sdd_invariants.proofs.ReadsPut.{put_by}
use Rattle.sdd_invariants.specs.site_module.SiteLog as site

-- each database of snapshots is a database of the catalogue
abbrev pub AreDatabases : Input → Log → Type 0
AreDatabases g log = (ts : ℕ) → IsDatabase g.catalogue (base_of g log ts)

-- what an act puts on links to data modules fits there
abbrev pub ActFits : Input → Act → Type 0
ActFits g act = (d : DmNo) (k : ℕ) (m : Msg) → slice_get (to_site (D d) (sends_of_act act)) k ≡ Some m → FitsMsg g.catalogue d.0 m

abbrev pub ActsFit : Input → Log → Type 0
ActsFit g [] = Unit {0}
ActsFit g (Does at act ∷ log) = ActFits g act × ActsFit g log
ActsFit g (_ ∷ log) = ActsFit g log

-- a data module puts no WRITE
not_by_d : (s : Setting) (log : site.Log) (b : Site) (act : Act) (d : ℕ) (m : Msg) → IsPutByD s log b act m → FitsMsg s.catalogue d m
not_by_d s log b act d m h = grind arith

-- a Commit's WRITEs have the changes of its effect
abbrev written : Msg → List Change
written (Write ts class txn changes) = changes
written _ = []

module _ (s : Setting) (sound : IsSoundCatalogue s.catalogue) (bases : Bases) (are : (ts : ℕ)
    → IsDatabase s.catalogue (bases ts)) (log : site.Log) (fair : Each (IsFair s) log)
    (new : Each IsNew log) (fit : (c : ℕ) → Each (SubmitHas (FitsText s.catalogue) s c) log) where
  write_fits : (c : ℕ) (others : Bases) (a : Attempt) (d : DmNo) (k : ℕ) (m : Msg) → IsBased s bases log (commit_act s.catalogue others c a)
      → slice_get (to_site (D d) (sends_of_act (commit_act s.catalogue others c a))) k ≡ Some m → AreWritten s.catalogue d.0 (written m)
  write_fits c others a d k m based e =
      let b : Attempt = based.0 in
      subst (AreWritten s.catalogue d.0) (ap (changes_at s.catalogue d.0) (sym based.3) ∙ ap written (sym (commit_put_is s c others a d k m e).0))
      (effect_written s.catalogue sound b.text (active_so (FitsText s.catalogue) s c log b fair new (fit c) based.1) (bases b.ts) (are b.ts) d.0)

  put_fits : (act : Act) (d : DmNo) (k : ℕ) (m : Msg) → IsBased s bases log act → IsPutBy s log act m
      → slice_get (to_site (D d) (sends_of_act act)) k ≡ Some m → FitsMsg s.catalogue d.0 m
  put_fits act d k (Write ts class txn changes) based by e =
      let w : IsWrite s log act class.0 ts.0 txn.0 = by in
      write_fits class.0 w.bases w.attempt d k (Write ts class txn changes) (subst (IsBased s bases log) w.act_is based)
      (subst (λ x. slice_get (to_site (D d) (sends_of_act x)) k ≡ Some (Write ts class txn changes)) w.act_is e)
  put_fits act d k _ based by e = tt

  step_fits : (act : Act) → IsStep s log act → IsBased s bases log act → (d : DmNo) (k : ℕ) (m : Msg)
      → slice_get (to_site (D d) (sends_of_act act)) k ≡ Some m → FitsMsg s.catalogue d.0 m
  step_fits act step based d k m e = put_fits act d k m based (put_by s (D d) log act k m step e) e

act_fits : (g : Input) → FitsInput g → (log : Log) (at : Site) (act : Act) → IsPermitted g (Does at act ∷ log) → AreDatabases g log → ActFits g act
act_fits g good log U act h are =
    let step = (subst (λ l. Each (IsFair (setting_of g U)) l) (own_act g U act log) (u_fair g (Does U act ∷ log) h)).0 in
    step_fits (setting_of g U) good.sound (base_of g log) are (local_of g U log) (u_fair g log h.1)
    (all_new g U log h.1) (λ c. submitted_fit g good U c log h.1) act step (u_commit g log act h)
act_fits g good log (T t) act h are =
    let step = (subst (λ l. Each (IsFair (setting_of g (T t))) l) (own_act g (T t) act log) (t_fair g t (Does (T t) act ∷ log) h)).0 in
    step_fits (setting_of g (T t)) good.sound (base_of g log) are (local_of g (T t) log)
    (t_fair g t log h.1) (all_new g (T t) log h.1) (λ c. submitted_fit g good (T t) c log h.1) act step (t_commit g t log act h)
act_fits g good log (D b) act h are = λ d k m e.
    not_by_d (setting_of g (D b)) (local_of g (D b) log) (D d) act d.0 m
    (put_by_d (setting_of g (D b)) (local_of g (D b) log) act (allowed_act g log (Does (D b) act) h.0) (D d) k m e)

-- what is handed over was put

acts_before : (g : Input) (e : Entry) (log : Log) → ActsFit g (e ∷ log) → ActsFit g log
acts_before g e log h = grind arith

act_at : (g : Input) (later rest : Log) (at : Site) (act : Act) → ActsFit g (later ++ Does at act ∷ rest) → ActFits g act
act_at g [] rest at act h = h.0
act_at g (e ∷ later) rest at act h = act_at g later rest at act (acts_before g e (later ++ Does at act ∷ rest) h)

pub message_fits : (g : Input) (log : Log) → ActsFit g log → (from : Site) (d : DmNo) (n : ℕ) (m : Msg)
    → message_at from (D d) n log ≡ Some m → FitsMsg g.catalogue d.0 m
message_fits g log fit from d n m e =
    let p = was_put (D d) (local_of g from log) (n - 1) m (subst (λ xs. slice_get xs (n - 1) ≡ Some m) (sent_is g from (D d) log) e) in
    let l = place_of_act g from log p.later p.act p.before p.is in
    act_at g l.later l.rest from p.act (subst (ActsFit g) l.is fit) d p.place m p.there

made_fits : (g : Input) (d : DmNo) (e : Entry) (log : Log) (o : Option site.Entry) → ActsFit g log → IsAllowed g log e → made g (D d) log e ≡ o
    → Each (HandFits g.catalogue d.0) (local_of g (D d) log) → Each (HandFits g.catalogue d.0) (with_made o (local_of g (D d) log))
made_fits g d e log o fit a m all = grind (arith, maker, allowed_hand, message_fits)

pub hands_fit : (g : Input) (d : DmNo) (log : Log) → IsPermitted g log → ActsFit g log → Each (HandFits g.catalogue d.0) (local_of g (D d) log)
hands_fit g d [] h fit = tt
hands_fit g d (e ∷ log) h fit =
    let before = acts_before g e log fit in
    subst (Each (HandFits g.catalogue d.0)) (sym (local_step g (D d) e log))
    (made_fits g d e log (made g (D d) log e) before h.0 refl (hands_fit g d log h.1 before))

-- so the databases of snapshots are databases
are_databases : (g : Input) → FitsInput g → (log : Log) → IsPermitted g log → ActsFit g log → AreDatabases g log
are_databases g good log h fit ts =
    entries_make_one g.catalogue (flat_map (snapshots_at g log ts) (numbers_to g.catalogue.dms))
    (all_gathered (IsEntry g.catalogue) (snapshots_at g log ts) (numbers_to g.catalogue.dms)
    (λ d. snapshot_entries (setting_of g (D (dm_no d))) good.sound (good.rows (dm_no d)) d ts (local_of g (D (dm_no d)) log) (hands_fit g (dm_no d) log h fit)))

pub acts_fit : (g : Input) → FitsInput g → (log : Log) → IsPermitted g log → ActsFit g log
acts_fit g good [] h = tt
acts_fit g good (Does at act ∷ log) h =
    let before = acts_fit g good log h.1 in
    (act_fits g good log at act h (are_databases g good log h.1 before), before)
acts_fit g good (_ ∷ log) h = acts_fit g good log h.1

pub databases : (g : Input) → FitsInput g → (log : Log) → IsPermitted g log → AreDatabases g log
databases g good log h = are_databases g good log h (acts_fit g good log h)
