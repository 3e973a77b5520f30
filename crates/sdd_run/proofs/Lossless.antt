-- Each transaction that was submitted stands in the order once, or is listed as pending once.
use Rattle.sdd_run.proofs.All.{Catalogue, History, Input, IsListed, IsSerial, IsSubmitted, List, Log, None, Option, Pending, Rec, Some, Submit, TxnNo, WasCommitted, [], any_commit, ap, arith, commits, cond, cons_option, eq-eqb, false, filter_map, history, inl, inr, list_any, map, ne_eqb, not_both, option_map, pending_in, pending_of, refl, same_number, slice_get, submitted_at, subst, suc, sym, times_in, times_pending, true, txn_no, zero, ℕ, ◌+◌, ◌∙◌, ◌∷◌, ◌≡◌, ◌≢◌, ◌⊎◌}
use Rattle.sdd_run.proofs.Once.{none_there, times_more}

-- how often what is chosen of a history names a transaction

abbrev named_in : List Pending → List TxnNo
named_in ps = map (λ (p : Pending). p.txn) ps

count_none : (f : ℕ × Rec → Option Pending) (h : History) (n : ℕ) → ((k : ℕ) (e : ℕ × Rec) (p : Pending) → slice_get h k ≡ Some e → f e ≡ Some p → p.txn.0 ≢ n)
    → times_pending n (filter_map f h) ≡ 0
count_none f [] n other = refl
count_none f (e ∷ h) n other =
    let rest = count_none f h n (λ k x p. other (suc k) x p) in
    elim (f e) as (λ o. f e ≡ o → times_pending n (cons_option o (filter_map f h)) ≡ 0) [
      | None ↦ λ q. rest
      | Some p ↦ λ q.
          times_more p.txn (named_in (filter_map f h)) n ∙ ap (λ b. cond b 1 0 + times_pending n (filter_map f h)) (ne_eqb p.txn.0 n (other 0 e p refl q))
          ∙ (omega (arith, rest))
    ] refl

count_one : (f : ℕ × Rec → Option Pending) (h : History) (n k : ℕ) (e : ℕ × Rec) (p : Pending) → slice_get h k ≡ Some e → f e ≡ Some p → p.txn.0 ≡ n
    → ((j : ℕ) (x : ℕ × Rec) (q : Pending) → slice_get h j ≡ Some x → f x ≡ Some q → q.txn.0 ≡ n → j ≡ k) → times_pending n (filter_map f h) ≡ 1
count_one f [] n k e p there gives named one = cc
count_one f (x ∷ h) n zero e p there gives named one =
    let here : f x ≡ Some p = subst (λ z. f z ≡ Some p) (sym cc) gives in
    let rest = count_none f h n (λ j y r at is same. (let s = one (suc j) y r at is same in omega (arith, s))) in
    subst (λ o. times_pending n (cons_option o (filter_map f h)) ≡ 1) (sym here)
    (times_more p.txn (named_in (filter_map f h)) n
    ∙ ap (λ b. cond b 1 0 + times_pending n (filter_map f h)) (eq-eqb p.txn.0 n named) ∙ (omega (arith, rest)))
count_one f (x ∷ h) n (suc k) e p there gives named one =
    let rest = count_one f h n k e p there gives named (λ j y r at is same. (let s = one (suc j) y r at is same in omega (arith, s))) in
    elim (f x) as (λ o. f x ≡ o → times_pending n (cons_option o (filter_map f h)) ≡ 1) [
      | None ↦ λ q. rest
      | Some r ↦ λ q.
          times_more r.txn (named_in (filter_map f h)) n
          ∙ ap (λ b. cond b 1 0 + times_pending n (filter_map f h)) (ne_eqb r.txn.0 n (λ same. (let s = one 0 x r refl q same in omega (arith, s))))
          ∙ (omega (arith, rest))
    ] refl

record IsChosen (f : ℕ × Rec → Option Pending) (h : History) (p : Pending) : Type 0 where
  pub place : ℕ
  pub entry : ℕ × Rec
  pub there : slice_get h place ≡ Some entry
  pub gives : f entry ≡ Some p

later_chosen : (f : ℕ × Rec → Option Pending) (e : ℕ × Rec) (h : History) (p : Pending) → IsChosen f h p → IsChosen f (e ∷ h) p
later_chosen f e h p x = record { place = suc x.place; entry = x.entry; there = x.there; gives = x.gives }

chosen_here : (f : ℕ × Rec → Option Pending) (x : ℕ × Rec) (h : History) (j : ℕ) (y p : Pending) → f x ≡ Some y
    → ((i : ℕ) → slice_get (filter_map f h) i ≡ Some p → IsChosen f h p) → slice_get (y ∷ filter_map f h) j ≡ Some p → IsChosen f (x ∷ h) p
chosen_here f x h j y p q rest e = grind (arith, later_chosen)

chosen_from : (f : ℕ × Rec → Option Pending) (h : History) (j : ℕ) (p : Pending) → slice_get (filter_map f h) j ≡ Some p → IsChosen f h p
chosen_from f [] j p e = cc
chosen_from f (x ∷ h) j p e =
    elim (f x) as (λ o. f x ≡ o → slice_get (cons_option o (filter_map f h)) j ≡ Some p → IsChosen f (x ∷ h) p) [
      | None ↦ λ q r. later_chosen f x h p (chosen_from f h j p r)
      | Some y ↦ λ q r. chosen_here f x h j y p q (λ i. chosen_from f h i p) r
    ] refl e

-- what is listed was submitted, and no record commits it

of_submit : (g : Input) (log : Log) (e : ℕ × Rec) (p : Pending) → pending_in g log e ≡ Some p
    → (e.1 ≡ Submit p.txn) × (list_any (commits p.txn.0) (history log) ≡ false)
of_submit g log e p h8 = grind (arith, list_any)

pub commits_it : (all : History) (n : ℕ) → WasCommitted all n → list_any (commits n) all ≡ true
commits_it all n w = any_commit all (commits n) n (λ e attempt reply changes values rows. same_number n) w

-- what is listed was submitted
pub listed_submits : (g : Input) (log : Log) (j : ℕ) (p : Pending) → slice_get (pending_of g log) j ≡ Some p
    → (k : ℕ) × IsSubmitted (history log) p.txn.0 k
listed_submits g log j p e =
    let x = chosen_from (pending_in g log) (history log) j p e in
    (x.place, (ap (option_map (λ (x : ℕ × Rec). x.1)) x.there ∙ ap (λ x. Some x) ((of_submit g log x.entry p x.gives).0)))

module _ (g : Input) (log : Log) where
  -- one that is committed isn't listed
  not_listed : (n : ℕ) → WasCommitted (history log) n → times_pending n (pending_of g log) ≡ 0
  not_listed n w =
      count_none (pending_in g log) (history log) n (grind (arith, not_both, list_any, commits, history, commits_it, of_submit, submitted_at))

  -- one that is listed is listed once, and isn't committed
  listed_once : ((n j k : ℕ) → IsSubmitted (history log) n j → IsSubmitted (history log) n k → j ≡ k)
      → (n : ℕ) → IsListed (pending_of g log) n → (times_pending n (pending_of g log) ≡ 1) × (list_any (commits n) (history log) ≡ false)
  listed_once one n x =
      let c = chosen_from (pending_in g log) (history log) x.place x.one x.there in
      let at : (j : ℕ) (e : ℕ × Rec) (q : Pending) → slice_get (history log) j ≡ Some e
      → pending_in g log e ≡ Some q → q.txn.0 ≡ n → IsSubmitted (history log) n j =
      λ j e q there gives same.
      (ap (option_map (λ (x : ℕ × Rec). x.1)) there
      ∙ ap (λ x. Some x) ((of_submit g log e q gives).0
      ∙ ap (λ m. Submit (txn_no m)) same)) in (
        count_one (pending_in g log) (history log) n c.place c.entry x.one c.there c.gives x.txn_is
            (λ j e q there gives same. one n j c.place (at j e q there gives same) (at c.place c.entry x.one c.there c.gives x.txn_is)),
        subst (λ m. list_any (commits m) (history log) ≡ false) x.txn_is (of_submit g log c.entry x.one c.gives).1,
      )

  -- so each transaction that was submitted stands in the order or in the list, and in one of them once
  pub in_one : (cat : Catalogue) (order : List TxnNo) → IsSerial cat (history log) order → ((n : ℕ) → WasCommitted (history log) n → times_in n order ≡ 1)
      → ((n j k : ℕ) → IsSubmitted (history log) n j → IsSubmitted (history log) n k → j ≡ k)
      → (n : ℕ) → WasCommitted (history log) n ⊎ IsListed (pending_of g log) n → times_in n order + times_pending n (pending_of g log) ≡ 1
  in_one cat order serial in_order one n (inl w) = let a = in_order n w in let b = not_listed n w in omega (arith, a, b)
  in_one cat order serial in_order one n (inr x) =
      let l = listed_once one n x in
      let a : times_in n order ≡ 0 =
      none_there order n (λ m there same.
      (let t = serial.committed m there in
      not_both (list_any (commits n) (history log)) (commits_it (history log) n (grind arith)) l.1)) in
      omega (arith, a, l.0)
