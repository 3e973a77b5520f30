-- A READ that waits is of an attempt that started since the last class list was put in force, where all was idle then.
use Rattle.sdd_progress.proofs.All.{ClassNo, Cond, D, Did, Does, Entry, Input, IsClass, IsIdle, IsIdleAtRedeclares, IsModule, IsPermitted, IsPutAt, IsQuiet, IsSoundCatalogue, List, Log, Msg, Read, Redeclares, Site, Some, Ts, TxnNo, Use, [], ap, append-nil, append_assoc, arith, at_module, class_number, class_puts, dm_no, head, head_place, home, home_small, in_class, in_pipe_later, inl, inr, is_put, length, local_at, local_grows, local_of, one_of_key, own_made, pipe, place_within, processed_grows, processed_stays, puts_to, read_at, reads_strict, redeclares, refl, same_number, slice_get, subst, sym, true, ℕ, ◌++◌, ◌==◌, ◌∙◌, ◌∷◌, ◌≡◌, ◌≤◌, ◌⊎◌}
use Rattle.sdd_progress.proofs.Applied.{pipe_has_all}
use Rattle.sdd_progress.proofs.Still.{module_up, still_of}

-- a longer log puts no fewer lists in force

pub redeclares_up : (e : Entry) (log : Log) → redeclares log ≤ redeclares (e ∷ log)
redeclares_up e log = grind arith

pub redeclares_back : (later before : Log) → redeclares before ≤ redeclares (later ++ before)
redeclares_back [] before = omega arith
redeclares_back (e ∷ later) before = let i = redeclares_back later before in let j = redeclares_up e (later ++ before) in omega (arith, i, j)

-- among later entries a list was put in force, or none was

pub record HasRedeclare (later : Log) : Type 0 where
  pub after : Log
  pub time : ℕ
  pub rest : Log
  pub is : later ≡ after ++ Redeclares time ∷ rest

further : (e : Entry) (later before : Log) → redeclares (e ∷ (later ++ before)) ≡ redeclares (later ++ before)
    → (redeclares (later ++ before) ≡ redeclares before) ⊎ HasRedeclare later
    → (redeclares (e ∷ (later ++ before)) ≡ redeclares before) ⊎ HasRedeclare (e ∷ later)
further e later before same (inl p) = inl (same ∙ p)
further e later before same (inr m) = inr (record { after = e ∷ m.after; time = m.time; rest = m.rest; is = ap (λ l. e ∷ l) m.is })

pub redeclare_in : (later before : Log) → (redeclares (later ++ before) ≡ redeclares before) ⊎ HasRedeclare later
redeclare_in [] before = inl refl
redeclare_in (Redeclares t ∷ later) before = inr (record { after = []; time = t; rest = later; is = refl })
redeclare_in (x ∷ later) before = further x later before refl (redeclare_in later before)

-- the READ at the head of a pipe wasn't put before nothing went on and all was idle
not_put_by : (g : Input) (log later mid between : Log) (c d : ℕ) (ts : Ts) (of : ClassNo) (txn : TxnNo) (attempt : ℕ) (conds : List Cond) (uses : List Use)
    → IsPermitted g log → IsSoundCatalogue g.catalogue → IsClass g.catalogue c → IsModule g.catalogue d
    → head (pipe c (at_module g d log)) ≡ Some (Read ts of txn attempt conds uses) → (p : IsPutAt g log c (dm_no d) (Read ts of txn attempt conds uses))
    → log ≡ later ++ mid → IsQuiet g mid → IsIdle g mid → mid ≡ between ++ Does (home g.catalogue c) p.act ∷ p.before → ⊥
not_put_by g log later mid between c d ts of txn attempt conds uses h sound l m e p is quiet idle at =
    let here : Site = home g.catalogue c in
    let x : Msg = Read ts of txn attempt conds uses in
    let s = local_at g here between p.before (Does here p.act) (Did p.act) (own_made here p.act) in
    let q = is_put (D (dm_no d)) s.0 p.act (local_of g here p.before) p.place x p.there in
    let there : slice_get (puts_to (D (dm_no d)) (local_of g here mid)) q.0 ≡ Some x =
    subst (λ z. slice_get (puts_to (D (dm_no d)) z) q.0 ≡ Some x) (sym (ap (local_of g here) at ∙ s.1)) q.1 in
    let i = in_class c (puts_to (D (dm_no d)) (local_of g here mid)) q.0 x there p.of_class in
    let pm = pipe c (at_module g d mid) in
    let all : class_puts g c (dm_no d) mid ≡ pm.processed =
    sym (pipe_has_all g mid c d (still_of g mid quiet) sound l m (module_up g mid d quiet m)) ∙ ap (λ ms. pm.processed ++ ms) (idle.processed c d l m) ∙ append-nil pm.processed in
    let done : slice_get pm.processed i.0 ≡ Some x = subst (λ ms. slice_get ms i.0 ≡ Some x) all i.1 in
    let grown = in_pipe_later g c (dm_no d) later mid quiet.permitted in
    let at1 : slice_get (class_puts g c (dm_no d) log) i.0 ≡ Some x =
    subst (λ ms. slice_get ms i.0 ≡ Some x) (sym (ap (class_puts g c (dm_no d)) is ∙ grown.1)) (processed_stays pm grown.0 i.0 x done) in
    let pl = pipe c (at_module g d log) in
    let key : read_at c x ≡ Some ts.0 = (let q : (of.0 == c) ≡ true = ap (λ y. y == c) (class_number of.0 c ts.0 p.of_class) ∙ same_number c in rw q refl) in
    let one : i.0 ≡ length pl.processed =
    one_of_key (read_at c) (class_puts g c (dm_no d) log) i.0 (length pl.processed) x x ts.0
    (reads_strict g c (dm_no d) log h (omega (arith, home_small g.catalogue sound c))) at1 (head_place g c (dm_no d) [] log x h e) key key in
    let lg = local_grows g (D (dm_no d)) later mid in
    let same : length pl.processed ≡ length (pipe c (lg.0 ++ at_module g d mid)).processed =
    ap (λ z. length (pipe c z).processed) (ap (at_module g d) is ∙ lg.1) in
    absurd (omega (arith, place_within pm.processed i.0 x done, one, processed_grows c lg.0 (at_module g d mid), same))

-- so it was put since the last list was put in force
pub since_redeclare : (g : Input) (log : Log) (c d : ℕ) (ts : Ts) (of : ClassNo) (txn : TxnNo) (attempt : ℕ) (conds : List Cond) (uses : List Use)
    → IsPermitted g log → IsSoundCatalogue g.catalogue → IsClass g.catalogue c → IsModule g.catalogue d → IsIdleAtRedeclares g log
    → head (pipe c (at_module g d log)) ≡ Some (Read ts of txn attempt conds uses)
    → (p : IsPutAt g log c (dm_no d) (Read ts of txn attempt conds uses)) → redeclares p.before ≡ redeclares log
since_redeclare g log c d ts of txn attempt conds uses h sound l m marks e p =
    let act : Entry = Does (home g.catalogue c) p.act in
    elim (redeclare_in p.later (act ∷ p.before)) [
      | inl same ↦ sym (ap redeclares p.is ∙ same)
      | inr k ↦ (let mid : Log = k.rest ++ act ∷ p.before in
          let is : log ≡ k.after ++ Redeclares k.time ∷ mid =
          p.is ∙ ap (λ z. z ++ act ∷ p.before) k.is ∙ append_assoc k.after (Redeclares k.time ∷ k.rest) (act ∷ p.before) in
          let x = marks k.after mid k.time is in
          let parts : log ≡ (k.after ++ Redeclares k.time ∷ []) ++ mid = is ∙ sym (append_assoc k.after (Redeclares k.time ∷ []) mid) in
          absurd (not_put_by g log (k.after ++ Redeclares k.time ∷ []) mid k.rest c d ts of txn attempt conds uses h sound l m e p parts x.0 x.1 refl))
    ]
