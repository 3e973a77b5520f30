-- A transaction that is pending when a run ends was submitted under the class list that is in force then: all that
-- was submitted under an earlier one is committed. So it is looked for at the site of its class by that list.
use Rattle.sdd_run.proofs.All.{AreAtLastHomes, Bool, Does, Hand, Input, IsPermitted, IsSubmitted, Known, List, Log, Mark, None, Notes, Option, Rec, Redeclares, Round, Site, Some, Submit, Submitted, TxnNo, [], all_at_last, ap, append_assoc, arith, commit_there, commits, cons_option, eqb-true, false, filter_map, given_at, history, history_le, home_of, if◌then◌else◌, inl, inr, last_home, length, length-append, list_any, not_both, nth_era, one_submit, option_map, pending_as, pending_at_last, pending_in, pending_of, permitted_before, recorded_front, recorded_there, redeclare_between, redeclares, refl, rest, same_number, slice_get, submit_in, submitted_at, subst, suc, sym, true, txn_at, txn_no, why_at, ℕ, ◌++◌, ◌+◌, ◌==◌, ◌∙◌, ◌∷◌, ◌≡◌}
use Rattle.sdd_run.proofs.Lossless.{commits_it}

-- the site that a log tells is that of the one place where it submits the transaction

at_submit : (later rest : Log) (at : Site) (n : ℕ) → ((front after : Log) (other : Site) → later ≡ front ++ Submitted other n ∷ after → ⊥)
    → submitted_at (later ++ Submitted at n ∷ rest) n ≡ at
at_submit [] rest at n none = rw (same_number n) refl
at_submit (Submitted b m ∷ later) rest at n none =
    elim (m == n) as (λ c. (m == n) ≡ c → (if c then b else submitted_at (later ++ Submitted at n ∷ rest) n) ≡ at) [
      | true ↦ λ e. absurd (none [] later b (ap (λ k. Submitted b k ∷ later) (eqb-true m n e)))
      | false ↦ λ e. at_submit later rest at n (λ front after other is. none (Submitted b m ∷ front) after other (ap (λ l. Submitted b m ∷ l) is))
    ] refl
at_submit (Mark e ∷ later) rest at n none = at_submit later rest at n (λ front after other is. none (Mark e ∷ front) after other (ap (λ l. Mark e ∷ l) is))
at_submit (Round es ∷ later) rest at n none =
    at_submit later rest at n (λ front after other is. none (Round es ∷ front) after other (ap (λ l. Round es ∷ l) is))
at_submit (Redeclares t ∷ later) rest at n none =
    at_submit later rest at n (λ front after other is. none (Redeclares t ∷ front) after other (ap (λ l. Redeclares t ∷ l) is))
at_submit (Hand a b k m ∷ later) rest at n none =
    at_submit later rest at n (λ front after other is. none (Hand a b k m ∷ front) after other (ap (λ l. Hand a b k m ∷ l) is))
at_submit (Notes ∷ later) rest at n none = at_submit later rest at n (λ front after other is. none (Notes ∷ front) after other (ap (λ l. Notes ∷ l) is))
at_submit (Does by act ∷ later) rest at n none =
    at_submit later rest at n (λ front after other is. none (Does by act ∷ front) after other (ap (λ l. Does by act ∷ l) is))

pub submitted_there : (g : Input) (log later rest : Log) (at : Site) (n : ℕ) → IsPermitted g log → log ≡ later ++ Submitted at n ∷ rest
    → submitted_at log n ≡ at
submitted_there g log later rest at n h is =
    let here : IsSubmitted (history log) n (length (history rest)) =
    subst (λ l. IsSubmitted (history l) n (length (history rest))) (sym is) (recorded_there later (Submitted at n) rest (Submit (txn_no n)) refl) in
    ap (λ l. submitted_at l n) is
    ∙ at_submit later rest at n (λ front after other e.
    (let between : Log = after ++ Submitted at n ∷ rest in
    let whole : log ≡ front ++ Submitted other n ∷ between =
    is ∙ ap (λ l. l ++ Submitted at n ∷ rest) e ∙ append_assoc front (Submitted other n ∷ after) (Submitted at n ∷ rest) in
    let there : IsSubmitted (history log) n (length (history between)) =
    subst (λ l. IsSubmitted (history l) n (length (history between))) (sym whole) (recorded_there front (Submitted other n) between (Submit (txn_no n)) refl) in
    let up = history_le after (Submitted at n ∷ rest) in
    let more : length (history (Submitted at n ∷ rest)) ≡ length (history rest) + 1 = length-append (history rest) _ in
    absurd (omega (arith, (one_submit g log n (length (history between)) (length (history rest)) h there here), up, more))))

-- what is submitted and not committed was submitted under the last list
last_home_is : (g : Input) (log : Log) → Known g log → (n k : ℕ) → IsSubmitted (history log) n k
    → list_any (commits n) (history log) ≡ false → submitted_at log n ≡ last_home g log n
last_home_is g log w n k submitted unmade =
    let s = submit_in g log n k w.permitted submitted in
    let now : IsPermitted g (Submitted s.at n ∷ s.rest) = permitted_before g s.later (Submitted s.at n ∷ s.rest) (subst (IsPermitted g) s.is w.permitted) in
    let x = given_at g s.rest s.at n now in
    elim (redeclare_between (Submitted s.at n) s.rest log s.later s.is) [
      | inl same ↦
          grind (arith, submitted_there, home_of, nth_era, txn_at, redeclares)
      | inr b ↦ (let r = rest g log w b.after b.mid b.time b.upper_is in
          let inside = history_le b.between (Submitted s.at n ∷ s.rest) in
          let mid_long : length (history b.mid) ≡ length (history (b.between ++ Submitted s.at n ∷ s.rest)) = ap (λ l. length (history l)) b.mid_is in
          let one : length (history (Submitted s.at n ∷ s.rest)) ≡ length (history s.rest) + 1 = length-append (history s.rest) _ in
          let place = s.place_is in
          let before : IsSubmitted (history b.mid) n k =
          recorded_front (history b.mid) r.more k (Submit (txn_no n)) (omega (arith, inside, mid_long, one, place))
          (subst (λ h. IsSubmitted h n k) r.history_is submitted) in
          let c = commit_there g log w b.mid r n k before in
          absurd (not_both (list_any (commits n) (history log)) (commits_it (history log) n (record { place = c.1; number = c.0; commit = c.3 })) unmade))
    ]

pub at_last_homes : (g : Input) (log : Log) → Known g log → AreAtLastHomes g log
at_last_homes g log w = record { same = last_home_is g log w }

-- so looking there comes to the same

chosen_alike : {A B : Type 0} (f g : A → Option B) (xs : List A) → ((k : ℕ) (x : A) → slice_get xs k ≡ Some x → f x ≡ g x) → filter_map f xs ≡ filter_map g xs
chosen_alike f g [] h = refl
chosen_alike f g (x ∷ xs) h = ap (λ o. cons_option o (filter_map f xs)) (h 0 x refl) ∙ ap (cons_option (g x)) (chosen_alike f g xs (λ k y e. h (suc k) y e))

same_if : (g : Input) (log : Log) (one other : Site) (n : TxnNo) (b : Bool) → (b ≡ false → one ≡ other)
    → (if b then None else pending_as n (why_at g log one n.0)) ≡ (if b then None else pending_as n (why_at g log other n.0))
same_if g log one other n b h = grind arith

same_one : (g : Input) (log : Log) → AreAtLastHomes g log → (k : ℕ) (e : ℕ × Rec) → slice_get (history log) k ≡ Some e
    → pending_at_last g log (history log) e ≡ pending_in g log e
same_one g log h k (event, Submit n) e =
    same_if g log (last_home g log n.0) (submitted_at log n.0) n (list_any (commits n.0) (history log))
    (λ unmade. sym (h.same n.0 k (ap (option_map (λ (x : ℕ × Rec). x.1)) e) unmade))
same_one g log h k (event, _) e = refl

pub pending_alike : (g : Input) (log : Log) → AreAtLastHomes g log → all_at_last g log ≡ pending_of g log
pending_alike g log h = chosen_alike (pending_at_last g log (history log)) (pending_in g log) (history log) (same_one g log h)
