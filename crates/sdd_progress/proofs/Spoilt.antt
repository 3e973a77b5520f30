-- A condition that is spoilt, and was not before, was spoilt by an Apply in between.
use Rattle.sdd_progress.proofs.AllWaits.{Act, Apply, Bool, Change, ClassNo, Cond, D, Did, DmNo, Does, Entry, Input, IsClassHere, IsPermitted, IsReadStep, IsSpoiltIn, List, Log, May, Msg, Pipe, Rec, Records, Setting, Site, Some, Ts, TxnNo, Write, [], ap, arith, class_not_in_view, d_step, dec_le, false, head, inl, inr, is_processing, le_is, list_any, neither_left, neither_right, not_both, not_own, only_one, only_right, own_record, passing, pipe, processed_handed, processed_in_is, processed_more, read_step_way, same_or_not, setting_of, spoiling, spoils, spoils_is, subst, sym, touches, true, true_or_false, view_of, waits, ℕ, ◌++◌, ◌∙◌, ◌∷◌, ◌≡◌, ◌≤◌}
use Rattle.sdd_progress.proofs.AtModule.{IsEntryAt, acting, aside, at_module, entry_at, handing}
use Rattle.sdd_obligations.specs.site_module.SiteLog as site

-- what is processed of its class decides

spoils_same : (s : Setting) (l k : site.Log) (q : Cond) → (pipe q.class.0 k).processed ≡ (pipe q.class.0 l).processed
    → spoils (view_of s k) q ≡ spoils (view_of s l) q
spoils_same s l k q e = grind (arith, dec_le, spoils_is, list_any, processed_in_is, class_not_in_view)

-- the last of some messages is the first that spoils

any_last : {A : Type 0} (f : A → Bool) (xs : List A) (x : A) → list_any f xs ≡ false → list_any f (xs ++ x ∷ []) ≡ true → f x ≡ true
any_last f [] x e h = only_one (f x) h
any_last f (y ∷ xs) x e h = grind (arith, neither_right, list_any, only_right, neither_left, (any_last f xs x (neither_right (f y) (list_any f xs) e) (only_right (f y) (list_any f (xs ++ x ∷ [])) (neither_left (f y) (list_any f xs) e) h)))

-- it was applied

abbrev IsSpoiledBy : Setting → site.Log → Cond → Act → Type 0
IsSpoiledBy s l q act =
    (txn : TxnNo) × (of : ClassNo) × (dm : DmNo) × (ts : Ts) × (sends : List (Site × Msg)) × (changes : List Change) ×
    (act ≡ Records q.class.0 (Apply txn of dm ts) sends)
    × (head (pipe q.class.0 l) ≡ Some (Write ts of txn changes)) × (q.time.0 ≤ ts.0) × (touches q.frags changes ≡ true)

applied_by : (s : Setting) (l : site.Log) (q : Cond) (w : Bool) (m : Msg) (r : Rec) (sends : List (Site × Msg))
    → head (pipe q.class.0 l) ≡ Some m → May (view_of s l) q.class.0 w m r → spoiling q m ≡ true → IsSpoiledBy s l q (Records q.class.0 r sends)
applied_by s l q w m r sends h k e = grind (arith, le_is)

spoiled_by : (s : Setting) (l : site.Log) (q : Cond) (m : Msg) (r : Rec) (sends : List (Site × Msg)) → IsClassHere s q.class.0
    → is_processing r ≡ true → head (pipe q.class.0 l) ≡ Some m → May (view_of s l) q.class.0 (waits q.class.0 l) m r
    → spoils (view_of s l) q ≡ false → spoils (view_of s (Did (Records q.class.0 r sends) ∷ l)) q ≡ true → IsSpoiledBy s l q (Records q.class.0 r sends)
spoiled_by s l q m r sends here p h may before after =
    let c : ℕ = q.class.0 in
    let k : site.Log = Did (Records c r sends) ∷ l in
    let was : list_any (spoiling q) (pipe c l).processed ≡ false = ap (list_any (spoiling q)) (sym (processed_in_is s l c here)) ∙ sym (spoils_is s l q)
    ∙ before in
    let grew : (pipe c k).processed ≡ (pipe c l).processed ++ m ∷ [] = ap (λ (x : Pipe). x.processed) (own_record c r sends l p).0
    ∙ processed_more (pipe c l) m h in
    let is : list_any (spoiling q) ((pipe c l).processed ++ m ∷ []) ≡ true = ap (list_any (spoiling q)) (sym (processed_in_is s k c here ∙ grew))
    ∙ sym (spoils_is s k q) ∙ after in
    applied_by s l q (waits c l) m r sends h may (any_last (spoiling q) (pipe c l).processed m was is)

spoiled_as : (s : Setting) (l : site.Log) (q : Cond) (k : ℕ) (m : Msg) (r : Rec) (sends : List (Site × Msg)) → k ≡ q.class.0
    → IsClassHere s k → is_processing r ≡ true → head (pipe k l) ≡ Some m → May (view_of s l) k (waits k l) m r
    → spoils (view_of s l) q ≡ false → spoils (view_of s (Did (Records k r sends) ∷ l)) q ≡ true → IsSpoiledBy s l q (Records k r sends)
spoiled_as s l q k m r sends e here p h may before after =
    let c : ℕ = q.class.0 in
    subst (λ z. IsSpoiledBy s l q (Records z r sends)) (sym e)
    (spoiled_by s l q m r sends (subst (IsClassHere s) e here) p (subst (λ z. head (pipe z l) ≡ Some m) e h)
    (subst (λ z. May (view_of s l) z (waits z l) m r) e may) before
    (subst (λ z. spoils (view_of s (Did (Records z r sends) ∷ l)) q ≡ true) e after))

act_spoils : (s : Setting) (l : site.Log) (q : Cond) (act : Act) → IsReadStep s l act → spoils (view_of s l) q ≡ false
    → spoils (view_of s (Did act ∷ l)) q ≡ true → IsSpoiledBy s l q act
act_spoils s l q act i before after =
    let none : (a : Act) → (pipe q.class.0 (Did a ∷ l)).processed ≡ (pipe q.class.0 l).processed → spoils
    (view_of s (Did a ∷ l)) q ≡ true → ⊥ = λ a e t. not_both _ t (spoils_same s l (Did a ∷ l) q e ∙ before) in
    read_step_way s l act (λ a. spoils (view_of s (Did a ∷ l)) q ≡ true → IsSpoiledBy s l q a)
    (λ e t. absurd (none act (ap (λ (x : Pipe). x.processed) (passing q.class.0 act l e).0.pipe_same) t))
    (λ k ds r sends here p x y z t. absurd (none (Records k r sends) (ap (λ (x : Pipe). x.processed) (not_own q.class.0 k r sends l (inr p)).pipe_same) t))
    (λ k m r sends here p h may t. elim (same_or_not k q.class.0) [
      | inl e ↦ spoiled_as s l q k m r sends e here p h may before t
      | inr e ↦ absurd (none (Records k r sends) (ap (λ (x : Pipe). x.processed) (not_own q.class.0 k r sends l (inl e)).pipe_same) t)
    ]) i after

spoilt_more : (g : Input) (d : DmNo) (q : Cond) (e : Entry) (entries log : Log) → IsSpoiltIn g log d q entries → IsSpoiltIn g log d q (e ∷ entries)
spoilt_more g d q e entries log i = record {
  later = e ∷ i.later;
  before = i.before;
  txn = i.txn;
  of = i.of;
  dm = i.dm;
  ts = i.ts;
  sends = i.sends;
  is = ap (λ l. e ∷ l) i.is;
  changes = i.changes;
  head_is = i.head_is;
  late = i.late;
  touching = i.touching;
}

spoilt_now : (g : Input) (d : DmNo) (q : Cond) (e : Entry) (entries log : Log) → IsEntryAt g d (entries ++ log) e
    → spoils (view_of (setting_of g (D d)) (at_module g d (entries ++ log))) q ≡ false
    → spoils (view_of (setting_of g (D d)) (at_module g d (e ∷ (entries ++ log)))) q ≡ true → IsSpoiltIn g log d q (e ∷ entries)
spoilt_now g d q e entries log (aside f) before after =
    absurd (not_both _ after
    (spoils_same (setting_of g (D d)) (at_module g d (entries ++ log)) (at_module g d (e ∷ (entries ++ log))) q
    (ap (λ (x : Pipe). x.processed) (f q.class.0).pipe_same) ∙ before))
spoilt_now g d q e entries log (handing from m s) before after =
    let l : site.Log = at_module g d (entries ++ log) in
    let same : (pipe q.class.0 (at_module g d (e ∷ (entries ++ log)))).processed ≡ (pipe q.class.0 l).processed = ap (λ k. (pipe q.class.0 k).processed) s
    ∙ processed_handed q.class.0 from m l in
    absurd (not_both _ after (spoils_same (setting_of g (D d)) l (at_module g d (e ∷ (entries ++ log))) q same ∙ before))
spoilt_now g d q e entries log (acting act is s due) before after =
    let set : Setting = setting_of g (D d) in
    let l : site.Log = at_module g d (entries ++ log) in
    let x = act_spoils set l q act (d_step set l act due) before (subst (λ k. spoils (view_of set k) q ≡ true) s after) in
    record {
      later = [];
      before = entries;
      txn = x.0;
      of = x.1;
      dm = x.2;
      ts = x.3;
      sends = x.4;
      is = ap (λ y. y ∷ entries) (is ∙ ap (λ a. Does (D d) a) x.6);
      changes = x.5;
      head_is = x.7;
      late = x.8;
      touching = x.9;
    }

pub spoilt_in : (g : Input) (d : DmNo) (q : Cond) (entries log : Log) → IsPermitted g (entries ++ log)
    → spoils (view_of (setting_of g (D d)) (at_module g d log)) q ≡ false
    → spoils (view_of (setting_of g (D d)) (at_module g d (entries ++ log))) q ≡ true → IsSpoiltIn g log d q entries
spoilt_in g d q [] log h before after = absurd (not_both _ after before)
spoilt_in g d q (e ∷ entries) log h before after =
    elim (true_or_false (spoils (view_of (setting_of g (D d)) (at_module g d (entries ++ log))) q)) [
      | inl t ↦ spoilt_more g d q e entries log (spoilt_in g d q entries log h.1 before t)
      | inr f ↦ spoilt_now g d q e entries log (entry_at g d (entries ++ log) e h) f after
    ]
