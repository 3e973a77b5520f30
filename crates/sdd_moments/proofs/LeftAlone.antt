-- A site to which an event hands nothing and gives nothing, and at which nothing is due after its mark, does nothing in it: its
-- log stays as the mark of the event leaves it. At a transaction module that comes up something may be due then.
use Rattle.sdd_moments.proofs.All.{Act, Did, Does, Entry, Hand, Input, IsBetween, IsGood, IsLawful, IsMark, IsPermitted, IsSiteOf, IsThere, Log, Mark, None, Redeclares, Site, Some, Submitted, Tick, U, [], all_links, allowed_hand, ap, arith, base_of, does_at, does_none, false, handed, if◌then◌else◌, is_down, lawful_permitted, local_of, mark_due, marks, next_at, no_redeclare, none_any_base, none_at, none_more, none_same, not, nth_era, of_next, redeclares, refl, same_site, site_due, site_is, site_self, site_there, sites, subst, suc, sym, takes_at, ticked_none, true, txn_at, with_submit, ℕ, ◌++◌, ◌||◌, ◌∙◌, ◌∷◌, ◌≡◌}
use Rattle.sdd_progress.specs.obligations.All.{Handed}
use Rattle.sdd_moments.proofs.Between.{handed_rises}

-- what a mark gives to a site comes right after it
not_given : (g : Input) (x at : Site) (n : ℕ) (more log : Log) → marks more ≡ 0 → x ≡ at → ((k : ℕ) → mark_due g log ≡ Some (Submitted x k) → ⊥)
    → mark_due g (more ++ log) ≡ Some (Submitted at n) → ⊥
not_given g x at n [] log z here given due = given n (due ∙ ap (λ y. Some (Submitted y n)) (sym here))
not_given g x at n (Mark e ∷ more) log z here given due = omega (arith, z)
not_given g x at n (_ ∷ more) log z here given due = absurd (let no : None ≡ Some (Submitted at n) = due in cc)

-- whether a site takes part an event alone turns

downs_on : (at : Site) (more log : Log) → marks more ≡ 0 → is_down at (more ++ log) ≡ is_down at log
downs_on at [] log z = refl
downs_on at (Mark e ∷ more) log z = absurd (omega (arith, z))
downs_on at (Redeclares t ∷ more) log z = absurd (omega (arith, z))
downs_on at (_ ∷ more) log z = downs_on at more log z

pub takes_more : (x : Site) (more log : Log) → marks more ≡ 0 → takes_at x (more ++ log) ≡ takes_at x log
takes_more x more log z = ap (λ down. same_site x U || not down) (downs_on x more log z)

-- nothing is due at a site whose log stays
still_none : (g : Input) (x at : Site) (act : Act) (log more : Log) → takes_at x more ≡ takes_at x log → local_of g x more ≡ local_of g x log
    → next_at g log x ≡ None → x ≡ at → next_at g more at ≡ Some act → ⊥
still_none g x at act log more part same none here due =
    let n : next_at g more x ≡ None = none_same g log more x (λ takes. sym part ∙ takes) same none in
    let d : next_at g more x ≡ Some act = ap (next_at g more) here ∙ due in
    let no : None ≡ Some act = sym n ∙ d in cc

module _ (g : Input) (x : Site) (log : Log) (good : IsGood g) (none : next_at g log x ≡ None)
    (given : (k : ℕ) → mark_due g log ≡ Some (Submitted x k) → ⊥) where
  pub log_stays : (more : Log) → IsLawful g (more ++ log) → marks more ≡ 0
      → ((a : Site) → IsThere (all_links g) (a, x) → handed a x (more ++ log) ≡ handed a x log) → local_of g x (more ++ log) ≡ local_of g x log
  log_stays [] l z same = refl
  log_stays (Mark e ∷ more) l z same = absurd (omega (arith, z))
  log_stays (Redeclares t ∷ more) l z same = absurd (omega (arith, z))
  log_stays (Does at act ∷ more) l z same =
      let i = log_stays more l.1 z same in
      elim (same_site x at) as (λ c. same_site x at ≡ c → (if c then Did act ∷ local_of g x (more ++ log) else local_of g x (more ++ log)) ≡ local_of g x log) [
        | true ↦ λ e. (
            let due = (of_next g (more ++ log) (Does at act) good.few_ticks l.1 l.0).1 in
            absurd (still_none g x at act log (more ++ log) (takes_more x more log z) i none (site_is x at e) due))
        | false ↦ λ e. i
      ] refl
  log_stays (Submitted at n ∷ more) l z same =
      let i = log_stays more l.1 z same in
      elim (same_site x at) as
      (λ c. same_site x at ≡ c
      → (if c then with_submit n (txn_at g n) (local_of g x (more ++ log)) else local_of g x (more ++ log)) ≡ local_of g x log) [
        | true ↦ λ e. absurd (not_given g x at n more log z (site_is x at e) given (of_next g (more ++ log) (Submitted at n) good.few_ticks l.1 l.0))
        | false ↦ λ e. i
      ] refl
  log_stays (Hand a b n m ∷ more) l z same =
      let p : IsPermitted g (Hand a b n m ∷ (more ++ log)) = lawful_permitted g (Hand a b n m ∷ (more ++ log)) good.once l in
      elim (same_site x b) as
      (λ c. same_site x b ≡ c → (if c then Handed a m ∷ local_of g x (more ++ log) else local_of g x (more ++ log)) ≡ local_of g x log) [
        | true ↦ λ e. absurd (
            let here : x ≡ b = site_is x b e in
            let there : IsThere (all_links g) (a, b) = of_next g (more ++ log) (Hand a b n m) good.few_ticks l.1 l.0 in
            let whole : handed a x (Hand a b n m ∷ (more ++ log)) ≡ n = rw (site_self a, e) refl in
            let stays = same a (subst (λ y. IsThere (all_links g) (a, y)) (sym here) there) in
            let next : n ≡ suc (handed a b (more ++ log)) = (allowed_hand g (more ++ log) (Hand a b n m) p.0).next in
            let at : handed a x (more ++ log) ≡ handed a b (more ++ log) = ap (λ y. handed a y (more ++ log)) here in
            let low = handed_rises g more log a x p.1 in
            omega (arith, whole, stays, next, at, low))
        | false ↦ λ e. log_stays more l.1 z (λ c there.
            let low = handed_rises g more log c x p.1 in
            let high = handed_rises g (Hand a b n m ∷ []) (more ++ log) c x p in
            let stays = same c there in
            omega (arith, low, high, stays))
      ] refl
  log_stays (_ ∷ more) l z same = log_stays more l.1 z same

-- where nothing is due, nothing is due after a mark that doesn't bring the site up

due_nowhere : (g : Input) (log : Log) (x : Site) → IsSiteOf g x → site_due g log ≡ None → next_at g log x ≡ None
due_nowhere g log x here none =
    let p = site_there g.catalogue.tms g.catalogue.dms x here in
    does_none x (next_at g log x) (none_at (λ at. does_at at (next_at g log at)) (sites g.catalogue.tms g.catalogue.dms) p.0 x none p.1)

pub due_after_mark : (g : Input) (old : Log) (mark : Entry) (x : Site) → IsMark mark → IsSiteOf g x → site_due g old ≡ None
    → (takes_at x (mark ∷ old) ≡ true → takes_at x old ≡ true) → next_at g (mark ∷ old) x ≡ None
due_after_mark g old (Mark (Tick t n)) x h here none took = due_nowhere g (Mark (Tick t n) ∷ old) x here (ticked_none g old t n none)
due_after_mark g old (Mark e) x h here none took = none_same g old (Mark e ∷ old) x took refl (due_nowhere g old x here none)
due_after_mark g old (Redeclares t) x h here none took =
    none_more g old (Redeclares t ∷ old) x took
    (λ before. no_redeclare g x (base_of g (Redeclares t ∷ old)) (nth_era g (suc (redeclares old))) t (local_of g x old)
    (none_any_base g x (base_of g old) (base_of g (Redeclares t ∷ old)) (local_of g x old) before))
    (due_nowhere g old x here none)
due_after_mark g old _ x h here none took = absurd h

-- a mark hands nothing over
pub unhanded : (a x : Site) (mark : Entry) (old : Log) → IsMark mark → handed a x (mark ∷ old) ≡ handed a x old
unhanded a x (Mark e) old h = refl
unhanded a x (Redeclares t) old h = refl
unhanded a x _ old h = absurd h

-- the same between two logs
pub left_alone : (g : Input) (old new : Log) (x : Site) → IsGood g → (b : IsBetween g old new) → next_at g (b.mark ∷ old) x ≡ None
    → ((k : ℕ) → mark_due g (b.mark ∷ old) ≡ Some (Submitted x k) → ⊥)
    → ((a : Site) → IsThere (all_links g) (a, x) → handed a x new ≡ handed a x old)
    → local_of g x new ≡ local_of g x (b.mark ∷ old)
left_alone g old new x good b none given same =
    let lawful : IsLawful g (b.more ++ b.mark ∷ old) = subst (IsLawful g) b.parts b.after.lawful in
    ap (local_of g x) b.parts
    ∙ log_stays g x (b.mark ∷ old) good none given b.more lawful b.no_marks
    (λ a there. ap (handed a x) (sym b.parts) ∙ same a there ∙ sym (unhanded a x b.mark old b.is_mark))
