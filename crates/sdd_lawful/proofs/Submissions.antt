-- Submissions: a transaction is given to a site right after the mark that submits it, and once.
use Rattle.sdd_lawful.proofs.All.{Entry, Input, IsPermitted, IsSubmitted, Log, Mark, Site, Some, Submit as Submission, Submitted, TxnNo, [], allowed_mark, ap, arith, compare, history, inl, inr, length, mark_due, nth_era, or_left, permitted_before, record_of, redeclares, same_number, subst, sym, tail_marked, true, txn_at, txn_no, was_marked, ℕ, ◌++◌, ◌∙◌, ◌∷◌, ◌≡◌}
use Rattle.sdd_lawful.proofs.Makers.{is_own, none_own}
use Rattle.sdd_lawful.proofs.Places.{made_at}
use Rattle.sdd_invariants.specs.All.{Submit}
use Rattle.sdd_invariants.specs.logs.Due.{home_of}

-- the mark that made it due

abbrev IsMarked : Input → Log → Entry → Type 0
IsMarked g log (Submitted at n) = mark_due g log ≡ Some (Submitted at n)
IsMarked g log _ = Unit {0}

-- transaction n is given to a site, after the mark that submits it
pub record IsGivenAt (g : Input) (log : Log) (at : Site) (n : ℕ) : Type 0 where
  pub earlier : Log
  pub number : TxnNo
  pub is : log ≡ Mark (Submit number) ∷ earlier
  pub number_is : number.0 ≡ n
  pub at_is : at ≡ home_of (nth_era g (redeclares earlier)).catalogue (txn_at g n)

given_by : (g : Input) (log : Log) (at : Site) (n : ℕ) → mark_due g log ≡ Some (Submitted at n) → IsGivenAt g log at n
given_by g log at n p = grind (arith)

pub given_at : (g : Input) (log : Log) (at : Site) (n : ℕ) → IsPermitted g (Submitted at n ∷ log) → IsGivenAt g log at n
given_at g log at n h = given_by g log at n (grind (arith))

-- no transaction is given twice

marked_stays : (n : ℕ) (later log : Log) → was_marked n log ≡ true → was_marked n (later ++ log) ≡ true
marked_stays n [] log h = h
marked_stays n (e ∷ later) log h = tail_marked n e (later ++ log) (marked_stays n later log h)

again_in : {A : Type 0} (g : Input) (n : ℕ) (b : Site) (between before earlier : Log) (k : TxnNo)
    → IsPermitted g (Mark (Submit k) ∷ earlier) → k.0 ≡ n → was_marked n before ≡ true → between ++ Submitted b n ∷ before ≡ Mark (Submit k) ∷ earlier → A
again_in g n b [] before earlier k h e m p = let q : Submitted b n ≡ Mark (Submit k) = cc in cc
again_in g n b (x ∷ between) before earlier k h e m p = grind (arith, allowed_mark, marked_stays)

submitted_twice : {A : Type 0} (g : Input) (n : ℕ) (a b : Site) (later between before : Log)
    → IsPermitted g (later ++ Submitted a n ∷ (between ++ Submitted b n ∷ before)) → A
submitted_twice g n a b later between before h =
    let w : Log = between ++ Submitted b n ∷ before in
    let now : IsPermitted g (Submitted a n ∷ w) = permitted_before g later (Submitted a n ∷ w) h in
    let x = given_at g w a n now in
    let y = given_at g before b n (permitted_before g between (Submitted b n ∷ before) now.1) in
    again_in g n b between before x.earlier x.number (subst (IsPermitted g) x.is now.1) x.number_is (grind (arith, same_number, or_left)) x.is

-- the entry of a Submit

pub record IsSubmitIn (g : Input) (log : Log) (n k : ℕ) : Type 0 where
  pub later : Log
  pub at : Site
  pub rest : Log
  pub is : log ≡ later ++ Submitted at n ∷ rest
  pub place_is : length (history rest) ≡ k

submit_entry : (g : Input) (e : Entry) (log : Log) (n : ℕ) → IsPermitted g (e ∷ log) → record_of e ≡ Some (Submission (txn_no n))
    → (at : Site) × (e ≡ Submitted at n)
submit_entry g e log n h p = grind (arith, is_own, none_own)

pub submit_in : (g : Input) (log : Log) (n k : ℕ) → IsPermitted g log → IsSubmitted (history log) n k → IsSubmitIn g log n k
submit_in g log n k h s =
    let m = made_at log k (Submission (txn_no n)) s in
    let p = submit_entry g m.entry m.before n (permitted_before g m.later (m.entry ∷ m.before) (subst (IsPermitted g) m.is h)) m.makes in
    record { later = m.later; at = p.0; rest = m.before; is = m.is ∙ ap (λ e. m.later ++ e ∷ m.before) p.1; place_is = m.place_is }

-- there is one
pub same_submission : (g : Input) (n : ℕ) (log later1 later2 rest1 rest2 : Log) (a b : Site) → IsPermitted g log
    → log ≡ later1 ++ Submitted a n ∷ rest1 → log ≡ later2 ++ Submitted b n ∷ rest2 → (rest1 ≡ rest2) × (a ≡ b)
same_submission g n log later1 later2 rest1 rest2 a b h p q =
    elim (compare later1 later2 (Submitted a n) (Submitted b n) rest1 rest2 (sym p ∙ q)) [
      | inl s ↦ (s.0, (let e : Submitted a n ≡ Submitted b n = s.1 in let f : a ≡ b = cc in f))
      | inr s ↦ elim s [
        | inl t ↦ submitted_twice g n b a later2 t.between rest1 (subst (IsPermitted g) (q ∙ ap (λ r. later2 ++ Submitted b n ∷ r) t.is) h)
        | inr t ↦ submitted_twice g n a b later1 t.between rest2 (subst (IsPermitted g) (p ∙ ap (λ r. later1 ++ Submitted a n ∷ r) t.is) h)
      ]
    ]

pub one_submit : (g : Input) (log : Log) (n j k : ℕ) → IsPermitted g log → IsSubmitted (history log) n j → IsSubmitted (history log) n k → j ≡ k
one_submit g log n j k h s t =
    let x = submit_in g log n j h s in
    let y = submit_in g log n k h t in
    sym x.place_is ∙ ap (λ r. length (history r)) (same_submission g n log x.later y.later x.rest y.rest x.at y.at h x.is y.is).0 ∙ y.place_is
