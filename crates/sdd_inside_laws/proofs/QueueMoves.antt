-- How the entries of a site's log move the queue of a class: a submission adds a new transaction at the end, and a Commit takes
-- the first one away.
use Rattle.std.proofs.Common.{ap, append-nil, append_assoc, arith, eq-eqb, eqb-true, inl, inr, ne_eqb, subst, sym, ◌∙◌}
use Rattle.std.proofs.lemmas.Bool.{false≢true}
use Rattle.std.proofs.lemmas.List.{drop-append-le, drop-drop, length-append, map-append}
use Rattle.std.specs.Prelude.{ℕ, zero, suc, ◌+◌, ◌==◌, ◌||◌, ◌≡◌, ◌≢◌, ◌≤◌, ◌⊎◌, true, false, cond, not, List, [], ◌∷◌, ◌++◌, drop, filter, length, map, Some, refl}
use Rattle.sdd_app_inside.proofs.watch.obligations.invariants.Active.{step_way}
use Rattle.sdd_app_inside.proofs.watch.obligations.invariants.Queues.{queue_is}
use Rattle.sdd_app_inside.specs.watch.obligations.All.{Attempt, Did, Each, Setting, Submits, TxnNo, active, contains, current_era, queue, txn_no}
use Rattle.sdd_app_inside.specs.watch.obligations.attempt.Queues.{Queued, is_for, queue_after, tried}
use Rattle.sdd_app_inside.specs.watch.obligations.invariants.Steps.{IsFair, IsNew, IsServed}
use Rattle.sdd_app_inside.specs.watch.obligations.site_module.SiteLog as site
use Rattle.sdd_app_inside.specs.watch.obligations.site_module.SiteLog.{submits}
use Rattle.sdd_inside_laws.proofs.QueueNumbers.{AllApart, AllDiffer, AllNew}

abbrev pub numbers : List Queued → List TxnNo
numbers qs = map (λ (q : Queued). txn_no q.number) qs

-- The numbers stay; one comes that wasn't submitted before; or the first one goes.
abbrev Moves : site.Log → site.Entry → List TxnNo → List TxnNo → Type 0
Moves log e before after =
    (after ≡ before)
    ⊎ (((n : ℕ) × (contains (submits log) n ≡ false) × (contains (submits (e ∷ log)) n ≡ true) × (after ≡ before ++ txn_no n ∷ []))
    ⊎ ((n : TxnNo) × (before ≡ n ∷ after)))

tried_number : (n : ℕ) (q : Queued) → txn_no (tried n q).number ≡ txn_no q.number
tried_number n q = elim (q.number == n) as (λ b. txn_no (cond b (record q { tries = suc q.tries }) q).number ≡ txn_no q.number) [ true ↦ refl | false ↦ refl ]

tried_same : (n : ℕ) (qs : List Queued) → numbers (map (tried n) qs) ≡ numbers qs
tried_same n [] = refl
tried_same n (q ∷ qs) = λ i. tried_number n q i ∷ tried_same n qs i

others_stay : (n : ℕ) (qs : List Queued) → AllApart (txn_no n) (numbers qs) → filter (λ (q : Queued). not (q.number == n)) qs ≡ qs
others_stay n [] h = refl
others_stay n (q ∷ qs) h = rw (ne_eqb q.number n (λ e. h.0 (sym e))) (ap (λ rest. q ∷ rest) (others_stay n qs h.1))

first_goes : (a : Attempt) (qs : List Queued) → IsServed (Some a) qs → AllDiffer (numbers qs)
    → (n : TxnNo) × (numbers qs ≡ n ∷ numbers (filter (λ (q : Queued). not (q.number == a.txn)) qs))
first_goes a [] h d = absurd h
first_goes a (q ∷ qs) h d =
    let apart : AllApart (txn_no a.txn) (numbers qs) = subst (λ n. AllApart (txn_no n) (numbers qs)) h.0 d.0 in
    (txn_no q.number, rw (eq-eqb q.number a.txn h.0) (ap (λ rest. txn_no q.number ∷ numbers rest) (sym (others_stay a.txn qs apart))))

same_or_other : (k c : ℕ) → ((k == c) ≡ true) ⊎ ((k == c) ≡ false)
same_or_other k c = elim (k == c) as (λ b. (b ≡ true) ⊎ (b ≡ false)) [ true ↦ inl refl | false ↦ inr refl ]

moves : (s : Setting) (c : ℕ) (log : site.Log) (e : site.Entry) → IsFair s log e → IsNew log e → IsServed (active s c log) (queue s c log)
    → AllDiffer (numbers (queue s c log)) → Moves log e (numbers (queue s c log)) (numbers (queue s c (e ∷ log)))
moves s c log (Submits n txn) f new served d =
    elim (is_for c (current_era s log).catalogue txn) as (λ b. Moves log (Submits n txn) (numbers (queue s c log))
    (numbers (cond b (queue s c log ++ record { number = n; text = txn; tries = 0 } ∷ []) (queue s c log)))) [
      | true ↦ inr (inl (n, new, rw (eq-eqb n n refl) refl, map-append (λ (q : Queued). txn_no q.number) (queue s c log) (record { number = n; text = txn; tries = 0 } ∷ [])))
      | false ↦ inl refl
    ]
moves s c log (Did act) f new served d =
    step_way s log act (λ x. Moves log (Did x) (numbers (queue s c log)) (numbers (queue_after c x (queue s c log))))
    (λ k q at i j. elim (same_or_other k c) [
      | inl e ↦ rw e (inl (tried_same q.number (queue s c log)))
      | inr e ↦ rw e (inl refl)
    ])
    (λ k bases a at i. elim (same_or_other k c) [
      | inl e ↦
          let same : k ≡ c = eqb-true k c e in
          let here : active s c log ≡ Some a = ap (λ j. active s j log) (sym same) ∙ i in
          rw e (inr (inr (first_goes a (queue s c log) (subst (λ o. IsServed o (queue s c log)) here served) d)))
      | inr e ↦ rw e (inl refl)
    ])
    (λ to m hand i. inl refl) f
moves s c log _ f new served d = inl refl

-- all were submitted

abbrev AllGiven : site.Log → List TxnNo → Type 0
AllGiven log [] = Unit {0}
AllGiven log (n ∷ ns) = (contains (submits log) n.0 ≡ true) × AllGiven log ns

still_given : (e : site.Entry) (log : site.Log) (m : ℕ) → contains (submits log) m ≡ true → contains (submits (e ∷ log)) m ≡ true
still_given (Submits k txn) log m h = elim (k == m) as (λ b. (b || contains (submits log) m) ≡ true) [ true ↦ refl | false ↦ h ]
still_given _ log m h = h

all_still : (e : site.Entry) (log : site.Log) (ns : List TxnNo) → AllGiven log ns → AllGiven (e ∷ log) ns
all_still e log [] h = tt
all_still e log (n ∷ ns) h = (still_given e log n.0 h.0, all_still e log ns h.1)

given_push : (log : site.Log) (ns : List TxnNo) (n : TxnNo) → AllGiven log ns → contains (submits log) n.0 ≡ true → AllGiven log (ns ++ n ∷ [])
given_push log [] n h e = (e, tt)
given_push log (m ∷ ns) n h e = (h.0, given_push log ns n h.1 e)

apart_from_given : (n : ℕ) (log : site.Log) (ns : List TxnNo) → contains (submits log) n ≡ false → AllGiven log ns → AllApart (txn_no n) ns
apart_from_given n log [] fresh h = tt
apart_from_given n log (m ∷ ns) fresh h =
    (λ e. false≢true (sym fresh ∙ ap (contains (submits log)) e ∙ h.0), apart_from_given n log ns fresh h.1)

apart_turned : (n : TxnNo) (ns : List TxnNo) → AllApart n ns → (m : TxnNo) → n.0 ≢ m.0 → AllApart n (ns ++ m ∷ [])
apart_turned n [] h m e = (e, tt)
apart_turned n (k ∷ ns) h m e = (h.0, apart_turned n ns h.1 m e)

differ_push : (ns : List TxnNo) (n : TxnNo) → AllDiffer ns → AllApart n ns → AllDiffer (ns ++ n ∷ [])
differ_push [] n d h = (tt, tt)
differ_push (m ∷ ns) n d h = (apart_turned m ns d.0 n (λ e. h.0 (sym e)), differ_push ns n d.1 h.1)

-- the transactions of a queue are different ones that were submitted

record IsHeld (log : site.Log) (ns : List TxnNo) : Type 0 where
  pub differ : AllDiffer ns
  pub given : AllGiven log ns

held_next : (log : site.Log) (e : site.Entry) (before after : List TxnNo) → Moves log e before after → IsHeld log before → IsHeld (e ∷ log) after
held_next log e before after (inl same) h = subst (IsHeld (e ∷ log)) (sym same) (record { differ = h.differ; given = all_still e log before h.given })
held_next log e before after (inr (inl x)) h =
    subst (IsHeld (e ∷ log)) (sym x.3) (record {
      differ = differ_push before (txn_no x.0) h.differ (apart_from_given x.0 log before x.1 h.given);
      given = given_push (e ∷ log) before (txn_no x.0) (all_still e log before h.given) x.2;
    })
held_next log e before after (inr (inr x)) h =
    let d = subst AllDiffer x.1 h.differ in
    let g = subst (AllGiven log) x.1 h.given in
    record { differ = d.1; given = all_still e log after g.1 }

held : (s : Setting) (c : ℕ) (log : site.Log) → Each (IsFair s) log → Each IsNew log → IsHeld log (numbers (queue s c log))
held s c [] f n = record { differ = tt; given = tt }
held s c (e ∷ log) f n =
    let h = held s c log f.1 n.1 in
    held_next log e (numbers (queue s c log)) (numbers (queue s c (e ∷ log)))
    (moves s c log e f.0 n.0 (queue_is s c log f.1 n.1).served h.differ) h

-- so many are gone of those that were there and those that came

pub record IsMoved (before after : List TxnNo) : Type 0 where
  pub gone : ℕ
  pub more : List TxnNo
  pub new : AllNew more before
  pub is : after ≡ drop gone (before ++ more)
  pub few : gone ≤ length (before ++ more)

new_push : (ns : List TxnNo) (n : TxnNo) (others : List TxnNo) → AllNew ns others → AllApart n others → AllNew (ns ++ n ∷ []) others
new_push [] n others h a = (a, tt)
new_push (m ∷ ns) n others h a = (h.0, new_push ns n others h.1 a)

some_left : (k : ℕ) (xs : List TxnNo) (y : TxnNo) (ys : List TxnNo) → drop k xs ≡ y ∷ ys → k + 1 ≤ length xs
some_left zero [] y ys e = cc
some_left (suc k) [] y ys e = cc
some_left zero (x ∷ xs) y ys e = omega arith
some_left (suc k) (x ∷ xs) y ys e = omega (arith, some_left k xs y ys e)

moved_next : (log : site.Log) (e : site.Entry) (first before after : List TxnNo) → AllGiven log first → Moves log e before after
    → IsMoved first before → IsMoved first after
moved_next log e first before after g (inl same) m = subst (IsMoved first) (sym same) m
moved_next log e first before after g (inr (inl x)) m =
    let apart = apart_from_given x.0 log first x.1 g in
    let long = length-append (first ++ m.more) (txn_no x.0 ∷ []) in
    let joined : (first ++ m.more) ++ txn_no x.0 ∷ [] ≡ first ++ (m.more ++ txn_no x.0 ∷ []) = append_assoc first m.more (txn_no x.0 ∷ []) in
    record {
      gone = m.gone;
      more = m.more ++ txn_no x.0 ∷ [];
      new = new_push m.more (txn_no x.0) first m.new apart;
      is = x.3 ∙ ap (λ ns. ns ++ txn_no x.0 ∷ []) m.is ∙ sym (drop-append-le m.gone (first ++ m.more) (txn_no x.0 ∷ []) m.few) ∙ ap (drop m.gone) joined;
      few = omega (arith, m.few, long, ap length joined);
    }
moved_next log e first before after g (inr (inr x)) m =
    let left = sym m.is ∙ x.1 in
    record {
      gone = m.gone + 1;
      more = m.more;
      new = m.new;
      is = ap (drop 1) (sym left) ∙ drop-drop 1 m.gone (first ++ m.more);
      few = some_left m.gone (first ++ m.more) x.0 after left;
    }

given_along : (x log : site.Log) (ns : List TxnNo) → AllGiven log ns → AllGiven (x ++ log) ns
given_along [] log ns h = h
given_along (e ∷ x) log ns h = all_still e (x ++ log) ns (given_along x log ns h)

each_part : (P : site.Log → site.Entry → Type 0) (x log : site.Log) → Each P (x ++ log) → Each P log
each_part P [] log h = h
each_part P (e ∷ x) log h = each_part P x log h.1

pub queue_moved : (s : Setting) (c : ℕ) (x log : site.Log) → Each (IsFair s) (x ++ log) → Each IsNew (x ++ log)
    → IsMoved (numbers (queue s c log)) (numbers (queue s c (x ++ log)))
queue_moved s c [] log f n = record { gone = 0; more = []; new = tt; is = sym (append-nil (numbers (queue s c log))); few = omega arith }
queue_moved s c (e ∷ x) log f n =
    let first = held s c log (each_part (IsFair s) x log f.1) (each_part IsNew x log n.1) in
    let h = held s c (x ++ log) f.1 n.1 in
    moved_next (x ++ log) e (numbers (queue s c log)) (numbers (queue s c (x ++ log))) (numbers (queue s c (e ∷ (x ++ log))))
    (given_along x log (numbers (queue s c log)) first.given)
    (moves s c (x ++ log) e f.0 n.0 (queue_is s c (x ++ log) f.1 n.1).served h.differ) (queue_moved s c x log f.1 n.1)

pub all_differ : (s : Setting) (c : ℕ) (log : site.Log) → Each (IsFair s) log → Each IsNew log → AllDiffer (numbers (queue s c log))
all_differ s c log f n = (held s c log f n).differ
