-- What is listed as pending was submitted, isn't committed, and waits for what is said of it.
use Rattle.sdd_run.proofs.All.{Contains, Contains-from_filter_map, D, FitsInput, Input, IsLawful, IsPermitted, IsTruePending, IsTrueReason, IsUnderway, List, Log, None, Option, Pending, Rec, Some, Standing, Submit, TellsPending, TxnNo, Waiting, WasFirst, Why, [], any_commit, ap, arith, commits, cons_option, dm_no, false, filter_map, history, if◌then◌else◌, list_any, not_both, option_map, pending_as, pending_in, pending_of, refl, same_number, site_due, slice_get, slice_get-get_or, status_at, submitted_at, subst, suc, sym, true, under_way, wait_at, waits_of, why_of, why_pending, zero, ℕ, ◌+◌, ◌<◌, ◌∙◌, ◌∷◌, ◌≡◌}
use Rattle.sdd_progress.specs.obligations.All.{Attempt}
use Rattle.sdd_progress.specs.obligations.site_rules.declared.standing.Standing.TheVariants as standings
use Rattle.sdd_report.specs.declared.pending.Why.TheVariants as reasons
use Rattle.sdd_run.proofs.Lowest.{best_is_first, least_wait, none_waits}
use Rattle.sdd_run.proofs.ReadsThatWait.{at_own_module, its_wait, waits_not}
use Rattle.sdd_run.proofs.Standings.{IsTrueStanding, LacksAnswer, each_is_true}

-- what is made of the items of a list stands in their order

record IsMadeAt {A B : Type 0} (f : A → Option B) (xs : List A) (y : B) : Type 0 where
  place : ℕ
  item : A
  there : slice_get xs place ≡ Some item
  is : f item ≡ Some y

record AreMadeAt {A B : Type 0} (f : A → Option B) (xs : List A) (y z : B) : Type 0 where
  first : IsMadeAt f xs y
  second : IsMadeAt f xs z
  before : first.place < second.place

abbrev later : {A B : Type 0} (f : A → Option B) (x : A) (xs : List A) (y : B) → IsMadeAt f xs y → IsMadeAt f (x ∷ xs) y
later f x xs y r = record { place = suc r.place; item = r.item; there = r.there; is = r.is }

both_later : {A B : Type 0} (f : A → Option B) (x : A) (xs : List A) (y z : B) → AreMadeAt f xs y z → AreMadeAt f (x ∷ xs) y z
both_later f x xs y z r = let l = r.before in record { first = later f x xs y r.first; second = later f x xs z r.second; before = omega (arith, l) }

one_of : {A B : Type 0} (f : A → Option B) (x : A) (xs : List A) (w y : B) (i : ℕ) → f x ≡ Some w
    → ((k : ℕ) → slice_get (filter_map f xs) k ≡ Some y → IsMadeAt f xs y) → slice_get (w ∷ filter_map f xs) i ≡ Some y → IsMadeAt f (x ∷ xs) y
one_of f x xs w y zero p h e = record { place = 0; item = x; there = refl; is = p ∙ e }
one_of f x xs w y (suc i) p h e = later f x xs y (h i e)

made_at : {A B : Type 0} (f : A → Option B) (xs : List A) (i : ℕ) (y : B) → slice_get (filter_map f xs) i ≡ Some y → IsMadeAt f xs y
made_at f [] i y e = cc
made_at f (x ∷ xs) i y e =
    elim (f x) as (λ o. f x ≡ o → slice_get (cons_option o (filter_map f xs)) i ≡ Some y → IsMadeAt f (x ∷ xs) y) [
      | None ↦ λ p q. later f x xs y (made_at f xs i y q)
      | Some w ↦ λ p q. one_of f x xs w y i p (λ k r. made_at f xs k y r) q
    ] refl e

two_of : {A B : Type 0} (f : A → Option B) (x : A) (xs : List A) (w y z : B) (i j : ℕ) → f x ≡ Some w → i < j
    → ((k m : ℕ) → k < m → slice_get (filter_map f xs) k ≡ Some y → slice_get (filter_map f xs) m ≡ Some z → AreMadeAt f xs y z)
    → slice_get (w ∷ filter_map f xs) i ≡ Some y → slice_get (w ∷ filter_map f xs) j ≡ Some z → AreMadeAt f (x ∷ xs) y z
two_of f x xs w y z i zero p l h e g = absurd (omega (arith, l))
two_of f x xs w y z zero (suc j) p l h e g =
    record { first = record { place = 0; item = x; there = refl; is = p ∙ e }; second = later f x xs z (made_at f xs j z g); before = omega arith }
two_of f x xs w y z (suc i) (suc j) p l h e g = both_later f x xs y z (h i j (omega (arith, l)) e g)

made_both : {A B : Type 0} (f : A → Option B) (xs : List A) (i j : ℕ) (y z : B) → i < j → slice_get (filter_map f xs) i ≡ Some y
    → slice_get (filter_map f xs) j ≡ Some z → AreMadeAt f xs y z
made_both f [] i j y z l e g = cc
made_both f (x ∷ xs) i j y z l e g =
    elim (f x) as (λ o. f x ≡ o → slice_get (cons_option o (filter_map f xs)) i ≡ Some y → slice_get (cons_option o (filter_map f xs)) j ≡ Some z
    → AreMadeAt f (x ∷ xs) y z) [
      | None ↦ λ p q r. both_later f x xs y z (made_both f xs i j y z l q r)
      | Some w ↦ λ p q r. two_of f x xs w y z i j p l (λ k m n s t. made_both f xs k m y z n s t) q r
    ] refl e g

module _ (g : Input) (log : Log) (permitted : IsPermitted g log) (good : FitsInput g) (lawful : IsLawful g log)
    (idle : site_due g log ≡ None) where
  -- an attempt that is under way waits where its READ waits at the lowest module, or else lacks the answer of the lowest
  underway_true : (n c d : ℕ) (a : Attempt) → IsUnderway g log n c a → LacksAnswer g log c a d
      → IsTrueReason g log n (under_way (D (dm_no d)) (waits_of g log c a.ts))
  underway_true n c d a u lacks =
      let f : ℕ → Option Waiting = wait_at g log c a.ts in
      elim (waits_of g log c a.ts) as (λ ws. waits_of g log c a.ts ≡ ws → IsTrueReason g log n (under_way (D (dm_no d)) ws)) [
        | [] ↦ λ e. (
          c,
          a,
          u,
          record {
            module_is = lacks.module_is;
            missing = lacks.missing;
            lowest = lacks.none_lower;
            no_read_waits = λ k conds l m r.
                let to : k < 1 + g.catalogue.dms = omega (arith, m) in
                waits_not g log permitted c a u.active_is k conds u.class_is (l, omega (arith, m)) lawful idle (none_waits f 1 g.catalogue.dms e k l to) r;
          },
        )
        | w ∷ ws ↦ λ e.
            let i = least_wait f 1 g.catalogue.dms w ws (at_own_module g log c a.ts) e in
            let own = its_wait g log permitted c a u.active_is w.dm.0 w i.is in
            let low = i.from in
            let high = i.to in
            let is = own.is in
            subst (λ x. IsTrueReason g log n (reasons.Waits x)) (sym (best_is_first w ws i.others)) (
              c,
              a,
              u,
              record {
                module_is = (low, omega (arith, high));
                conds = own.conds;
                read = own.read;
                cond = own.cond;
                first = own.first;
                class_is = ap (λ (x : Waiting). x.class) (sym is);
                time_is = ap (λ (x : Waiting). x.time) (sym is);
                lowest = λ k conds l m r.
                    waits_not g log permitted c a u.active_is k conds u.class_is (l, omega (arith, m, high)) lawful idle (i.none_lower k l m) r;
              },
            )
      ] refl

  true_reason : (n : ℕ) (s : Standing) (w : Why) → IsTrueStanding g log n s → why_of g log s ≡ Some w → IsTrueReason g log n w
  true_reason n standings.Absent w h e = cc
  true_reason n (standings.Queued class place) w h e =
      let same : reasons.Queued class place ≡ w = cc in
      subst (IsTrueReason g log n) same h
  true_reason n (standings.Underway class None at) w h e =
      let same : reasons.Underway at ≡ w = cc in
      subst (IsTrueReason g log n) (ap reasons.Underway (sym h.1) ∙ same) h.2
  true_reason n (standings.Underway class (Some ts) at) w h e =
      let same : under_way at (waits_of g log class.0 ts.0) ≡ w = cc in
      let site_is = h.2 in
      let time_is = h.4 in
      subst (IsTrueReason g log n) ((λ i. under_way (sym site_is i) (waits_of g log class.0 (sym time_is i))) ∙ same)
      (underway_true n class.0 h.1 h.0 h.3 h.5)

  -- what is listed is of a submission

  record IsListedFor (x : ℕ × Rec) (one : Pending) : Type 0 where
    submission : x.1 ≡ Submit one.txn
    uncommitted : list_any (commits one.txn.0) (history log) ≡ false
    reason : why_pending g log one.txn.0 ≡ Some one.why

  listed_with : (event : ℕ) (n : TxnNo) (one : Pending) (o : Option Why) → why_pending g log n.0 ≡ o
      → list_any (commits n.0) (history log) ≡ false → pending_as n o ≡ Some one → IsListedFor (event, Submit n) one
  listed_with event n one None r u e = cc
  listed_with event n one (Some why) r u e =
      let same : record { txn = n; why = why } ≡ one = cc in
      subst (IsListedFor (event, Submit n)) same (record { submission = refl; uncommitted = u; reason = r })

  listed_for : (x : ℕ × Rec) (one : Pending)
      → pending_in g log x ≡ Some one → IsListedFor x one
  listed_for (event, Submit n) one e =
      let why = why_pending g log n.0 in
      elim (list_any (commits n.0) (history log)) as (λ b. list_any (commits n.0) (history log) ≡ b → (if b then None else pending_as n why) ≡ Some one
      → IsListedFor (event, Submit n) one) [ true ↦ λ p q. cc | false ↦ λ p q. listed_with event n one why refl p q ] refl e
  listed_for (event, _) one e = cc

  pending_are_true : (one : Pending) → Contains (pending_of g log) one → IsTruePending g log one
  pending_are_true one there =
      let x = Contains-from_filter_map (pending_in g log) (history log) one there in
      let f = listed_for x.0 one x.2 in
      let place = x.1 in
      let n : ℕ = one.txn.0 in
      record {
        place = place.0;
        submitted = ap (option_map (λ (y : ℕ × Rec). y.1)) (slice_get-get_or (history log) place.0 x.0 place.1 ∙ ap Some place.2) ∙ ap Some f.submission;
        uncommitted = λ w. not_both (list_any (commits n) (history log))
            (any_commit (history log) (commits n) n (λ event attempt reply changes values rows. same_number n) w) f.uncommitted;
        reason = true_reason n (status_at g log (submitted_at log n) n) one.why
            (each_is_true g log permitted good lawful idle (submitted_at log n) n) f.reason;
      }

  in_order : (i j : ℕ) (one two : Pending) → i < j → slice_get (pending_of g log) i ≡ Some one
      → slice_get (pending_of g log) j ≡ Some two → WasFirst (history log) one.txn.0 two.txn.0
  in_order i j one two l e g2 =
      let m = made_both (pending_in g log) (history log) i j one two l e g2 in
      let x = listed_for m.first.item one m.first.is in
      let y = listed_for m.second.item two m.second.is in
      record {
        first_place = m.first.place;
        second_place = m.second.place;
        first = ap (option_map (λ (r : ℕ × Rec). r.1)) m.first.there ∙ ap Some x.submission;
        second = ap (option_map (λ (r : ℕ × Rec). r.1)) m.second.there ∙ ap Some y.submission;
        before = m.before;
      }

  pub tells_pending : TellsPending g log (pending_of g log)
  tells_pending = record { each = pending_are_true; in_order = in_order }
