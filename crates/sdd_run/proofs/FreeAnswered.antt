-- A READ of a free class is answered in the event in which it is handed over.
use Rattle.sdd_run.proofs.All.{Answer, AreSubmittedOnce, ClassNo, Cond, D, DmNo, Does, EndsAnEvent, Hand, Input, IsAnsweredIn, IsAnsweredWithin, IsEventOver, IsFreeClass, IsLawful, IsPermitted, IsRecordAt, IsSoundCatalogue, IsTheLog, List, Log, Msg, Read, Rec, Records, Site, Ts, TxnNo, Use, [], act_kind, answered_by_end, ap, append_assoc, arith, begins_event, event_at, event_there, false, history, inl, inr, lawful_end, lawful_permitted, length, marks, marks_later, over_at_end, over_before, permitted_before, recorded_there, refl, subst, sym, true, ℕ, ◌++◌, ◌∙◌, ◌∷◌, ◌≡◌, ◌≤◌, ◌⊎◌}
use Rattle.sdd_progress.specs.obligations.All.{Entry}

-- the entries after a place, till the event there is over

record IsTillOver (g : Input) (after rest : Log) : Type 0 where
  pub front : Log
  pub within : Log
  pub is : after ≡ front ++ within
  pub over : IsEventOver g (within ++ rest)
  pub same : marks (within ++ rest) ≡ marks rest

till : (g : Input) (after rest : Log) → IsLawful g (after ++ rest) → (marks (after ++ rest) ≡ marks rest) ⊎ IsTillOver g after rest
till g [] rest h = inl refl
till g (e ∷ after) rest h =
    elim (till g after rest h.1) [
      | inl same ↦
          (elim (begins_event e)
          as (λ b. begins_event e ≡ b → (marks (e ∷ (after ++ rest)) ≡ marks rest) ⊎ IsTillOver g (e ∷ after) rest) [
            | true ↦ λ b. inr (record { front = e ∷ []; within = after; is = refl; over = over_before g e (after ++ rest) h b; same = same })
            | false ↦ λ b. inl ((grind arith) ∙ same)
          ] refl)
      | inr x ↦ inr (record { front = e ∷ x.front; within = x.within; is = ap (λ l. e ∷ l) x.is; over = x.over; same = x.same })
    ]

till_over : (g : Input) (after rest : Log) → IsLawful g (after ++ rest) → IsEventOver g (after ++ rest) → IsTillOver g after rest
till_over g after rest h over = grind (arith, till)

-- where an Answer stands between a hand and the end of its event, it has the number of that event
answered_there : (g : Input) (log front later before entry_log rest : Log) (c : ℕ) (d dm : DmNo) (txn : TxnNo) (attempt : ℕ) (sends : List (Site × Msg))
    → log ≡ front ++ (entry_log ++ rest) → entry_log ≡ later ++ Does (D d) (Records c (Answer txn attempt dm) sends) ∷ before
    → marks (entry_log ++ rest) ≡ marks rest → IsPermitted g log → IsAnsweredWithin (history log) d txn attempt (marks rest)
answered_there g log front later before entry_log rest c d dm txn attempt sends whole is same h =
    let rec : Rec = Answer txn attempt dm in
    let entry : Entry = Does (D d) (Records c rec sends) in
    let all : entry_log ++ rest ≡ later ++ entry ∷ (before ++ rest) = ap (λ l. l ++ rest) is ∙ append_assoc later (entry ∷ before) rest in
    let there : log ≡ (front ++ later) ++ entry ∷ (before ++ rest) =
    whole ∙ ap (λ l. front ++ l) all ∙ sym (append_assoc front later (entry ∷ (before ++ rest))) in
    let now : IsPermitted g (entry ∷ (before ++ rest)) = permitted_before g (front ++ later) (entry ∷ (before ++ rest)) (subst (IsPermitted g) there h) in
    let named : dm ≡ d = (act_kind g (D d) (Records c (Answer txn attempt dm) sends) (before ++ rest) now) in
    let high = marks_later (later ++ entry ∷ []) (before ++ rest) in
    let joined : marks ((later ++ entry ∷ []) ++ (before ++ rest)) ≡ marks rest =
    ap marks (append_assoc later (entry ∷ []) (before ++ rest)) ∙ ap marks (sym all) ∙ same in
    let event : marks (before ++ rest) ≡ marks rest = omega (arith, (marks_later before rest), high, joined) in
    record {
      place = length (history (before ++ rest));
      answered = subst (λ l. IsRecordAt (history l) (length (history (before ++ rest))) (Answer txn attempt d)) (sym there)
          (subst (λ m. IsRecordAt (history ((front ++ later) ++ entry ∷ (before ++ rest))) (length (history (before ++ rest))) (Answer txn attempt m)) named
          (recorded_there (front ++ later) entry (before ++ rest) rec refl));
      event_is = ap (λ l. event_at (history l) (length (history (before ++ rest)))) there
          ∙ event_there (front ++ later) entry (before ++ rest) rec refl ∙ event;
    }

pub free_answered : (g : Input) (log : Log) → IsSoundCatalogue g.catalogue → AreSubmittedOnce g.events → IsTheLog g log
    → (after before : Log) (from : Site) (number : ℕ) (d : DmNo) (ts : Ts) (class : ClassNo) (txn : TxnNo) (attempt : ℕ) (conds : List Cond) (uses : List Use)
    → log ≡ after ++ Hand from (D d) number (Read ts class txn attempt conds uses) ∷ before → 1 ≤ d.0 → d.0 ≤ g.catalogue.dms
    → IsFreeClass g class.0 → IsAnsweredWithin (history log) d txn attempt (marks before)
free_answered g log sound once the_log after before from number d ts class txn attempt conds uses is lo hi free =
    let rest : Log = Hand from (D d) number (Read ts class txn attempt conds uses) ∷ before in
    let lawful : IsLawful g (after ++ rest) = subst (IsLawful g) is the_log.lawful in
    let over : IsEventOver g (after ++ rest) = subst (IsEventOver g) is (over_at_end g log the_log) in
    let t = till_over g after rest lawful over in
    let whole : log ≡ t.front ++ (t.within ++ rest) = is ∙ ap (λ l. l ++ rest) t.is ∙ append_assoc t.front t.within rest in
    let ends : EndsAnEvent g (t.within ++ rest) =
    record { sound = sound; once = once; lawful = lawful_end g t.front (t.within ++ rest) (subst (IsLawful g) whole the_log.lawful); over = t.over } in
    let a : IsAnsweredIn d class.0 txn attempt t.within =
    answered_by_end g class.0 d from number t.within before ts class txn attempt conds uses free lo hi refl ends in
    answered_there g log t.front a.later a.before t.within rest class.0 d a.dm txn attempt a.sends whole a.is t.same
    (lawful_permitted g log once the_log.lawful)
