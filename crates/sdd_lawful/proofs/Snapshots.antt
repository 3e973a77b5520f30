-- What an attempt reads at a module is what the log of the module gives at its Answer.
use Rattle.sdd_lawful.proofs.All.{Act, Answer, AreErasOf, Attempt, Bool, ClassNo, Cond, D, Did, DmNo, Does, Eras, Input, IsAnswered, IsAttempt, IsMadeAt, IsPermitted, IsRecordAt, IsSoundCatalogue, List, Log, Msg, Option, Read, Rec, Records, Setting, Site, SiteLog, Some, Ts, TxnNo, Use, [], allowed_act, ap, append_assoc, class_no, d_step, dated, dm_no, eqb-true, false, flat_map, frags_asked, head, history, inl, inr, is_at, items_of, length, local_of, not_both, permitted_before, pipe, place_of_act, refl, same_start, setting_of, snapshots, subst, sym, time_at, true, true_or_false, txn_no, ℕ, ◌++◌, ◌∙◌, ◌∷◌, ◌≡◌, ◌⊎◌}
use Rattle.sdd_lawful.proofs.Answered.{IsAnswerIn, answer_head, answer_made, answer_rec, read_msg, read_of_some}
use Rattle.sdd_lawful.proofs.Makers.{act_kind}
use Rattle.sdd_lawful.proofs.Places.{one_entry, recorded_there}
use Rattle.sdd_lawful.proofs.Starts.{one_time}
use Rattle.sdd_invariants.specs.site_module.SiteLog as site

-- the newest Answer to a READ with a timestamp, in the log of a module

pub record HasSnapshot (s : Setting) (ts : ℕ) (l : SiteLog) : Type 0 where
  pub later : SiteLog
  pub class : ℕ
  pub txn : TxnNo
  pub attempt : ℕ
  pub dm : DmNo
  pub sends : List (Site × Msg)
  pub before : SiteLog
  pub is : l ≡ later ++ Did (Records class (Answer txn attempt dm) sends) ∷ before
  pub at_time : is_at ts (head (pipe class before)) ≡ true
  pub are : snapshots s ts l ≡ flat_map (items_of s.catalogue (dated s before)) (frags_asked (head (pipe class before)))

abbrev NoAnswerAt : ℕ → SiteLog → Type 0
NoAnswerAt ts l =
    (later : SiteLog) (class : ℕ) (txn : TxnNo) (attempt : ℕ) (dm : DmNo) (sends : List (Site × Msg)) (before : SiteLog)
    → l ≡ later ++ Did (Records class (Answer txn attempt dm) sends) ∷ before → is_at ts (head (pipe class before)) ≡ true → ⊥

pub record HasNoSnapshot (s : Setting) (ts : ℕ) (l : SiteLog) : Type 0 where
  pub are : snapshots s ts l ≡ []
  pub none : NoAnswerAt ts l

snapshot_past : (s : Setting) (ts : ℕ) (e : site.Entry) (l : SiteLog) → snapshots s ts (e ∷ l) ≡ snapshots s ts l → HasSnapshot s ts l
    → HasSnapshot s ts (e ∷ l)
snapshot_past s ts e l p i =
    record { later = e ∷ i.later; class = i.class; txn = i.txn; attempt = i.attempt; dm = i.dm; sends = i.sends; before = i.before; is = ap (λ k. e ∷ k) i.is; at_time = i.at_time; are = p ∙ i.are }

-- the entry in front isn't such an Answer
abbrev IsNoAnswerAt : ℕ → site.Entry → SiteLog → Type 0
IsNoAnswerAt ts e l =
    (class : ℕ) (txn : TxnNo) (attempt : ℕ) (dm : DmNo) (sends : List (Site × Msg)) → e ≡ Did (Records class (Answer txn attempt dm) sends)
    → is_at ts (head (pipe class l)) ≡ true → ⊥

none_split : (ts : ℕ) (e : site.Entry) (l : SiteLog) → IsNoAnswerAt ts e l → NoAnswerAt ts l → NoAnswerAt ts (e ∷ l)
none_split ts e l f n [] class txn attempt dm sends before is at =
    let p : e ≡ Did (Records class (Answer txn attempt dm) sends) = cc in
    let q : l ≡ before = cc in
    f class txn attempt dm sends p (subst (λ k. is_at ts (head (pipe class k)) ≡ true) (sym q) at)
none_split ts e l f n (y ∷ later) class txn attempt dm sends before is at =
    let q : l ≡ later ++ Did (Records class (Answer txn attempt dm) sends) ∷ before = cc in
    n later class txn attempt dm sends before q at

none_empty : (ts : ℕ) → NoAnswerAt ts []
none_empty ts [] class txn attempt dm sends before is at = cc
none_empty ts (y ∷ later) class txn attempt dm sends before is at = cc

abbrev Snapshot : Setting → ℕ → SiteLog → Type 0
Snapshot s ts l = HasSnapshot s ts l ⊎ HasNoSnapshot s ts l

snapshot_more : (s : Setting) (ts : ℕ) (e : site.Entry) (l : SiteLog) → snapshots s ts (e ∷ l) ≡ snapshots s ts l → IsNoAnswerAt ts e l → Snapshot s ts l
    → Snapshot s ts (e ∷ l)
snapshot_more s ts e l p f i = elim i [
  | inl j ↦ inl (snapshot_past s ts e l p j)
  | inr j ↦ inr (record { are = p ∙ j.are; none = none_split ts e l f j.none })
]

abbrev is_answer : Rec → Bool
is_answer (Answer txn attempt dm) = true
is_answer r = false

abbrev is_record : site.Entry → Bool
is_record (Did (Records k r sends)) = true
is_record e = false

pub snapshot_or : (s : Setting) (ts : ℕ) (l : SiteLog) → Snapshot s ts l
snapshot_or s ts [] = inr (record { are = refl; none = none_empty ts })
snapshot_or s ts (Did (Records k (Answer n i d) ss) ∷ l) = elim (true_or_false (is_at ts (head (pipe k l)))) [
  | inl p ↦ inl (record { later = []; class = k; txn = n; attempt = i; dm = d; sends = ss; before = l; is = refl; at_time = p; are = rw p refl })
  | inr p ↦ snapshot_more s ts (Did (Records k (Answer n i d) ss)) l (rw p refl)
      (λ class txn attempt dm sends e h. not_both (is_at ts (head (pipe k l))) (let p : k ≡ class = cc in subst (λ c. is_at ts (head (pipe c l)) ≡ true) (sym p) h) p)
      (snapshot_or s ts l)
]
snapshot_or s ts (Did (Records k r ss) ∷ l) =
    snapshot_more s ts (Did (Records k r ss)) l refl
    (λ class txn attempt dm sends e h. let q : r ≡ Answer txn attempt dm = cc in let t : false ≡ true = ap is_answer q in cc) (snapshot_or s ts l)
snapshot_or s ts (x ∷ l) =
    snapshot_more s ts x l refl (λ class txn attempt dm sends e h. let t : false ≡ true = ap is_record e in cc) (snapshot_or s ts l)

-- an Answer at a data module to a READ with an attempt's timestamp is that attempt's

pub record IsTheAnswer (g : Input) (log : Log) (a : Attempt) (d k : ℕ) (l : SiteLog) : Type 0 where
  pub place : ℕ
  pub answered : IsAnswered (history log) a d place
  pub class_is : k ≡ a.class
  pub local_is : (w : IsAnswerIn g log a d place) → local_of g (D (dm_no d)) w.before ≡ l

same_time : (o : Option Msg) (t u : Ts) (of of2 : ClassNo) (txn txn2 : TxnNo) (i i2 : ℕ) (ds ds2 : List Cond) (us us2 : List Use)
    → o ≡ Some (Read t of txn i ds us) → o ≡ Some (Read u of2 txn2 i2 ds2 us2) → t.0 ≡ u.0
same_time o t u of of2 txn txn2 i i2 ds ds2 us us2 e f =
    let p : Some (Read t of txn i ds us) ≡ Some (Read u of2 txn2 i2 ds2 us2) = sym e ∙ f in
    let q : t ≡ u = cc in ap (λ (x : Ts). x.0) q

pub the_answer : (g : Input) (log front part : Log) (eras : Eras) (a : Attempt) (d : ℕ) (later : SiteLog) (k : ℕ) (n : TxnNo) (i : ℕ) (dm : DmNo) (ss : List (Site × Msg)) (l : SiteLog)
    → IsSoundCatalogue g.catalogue → IsPermitted g log → AreErasOf g log eras → IsAttempt (history log) a → log ≡ front ++ part
    → local_of g (D (dm_no d)) part ≡ later ++ Did (Records k (Answer n i dm) ss) ∷ l → is_at a.ts (head (pipe k l)) ≡ true → IsTheAnswer g log a d k l
the_answer g log front part eras a d later k n i dm ss l sound h are s is split at =
    let act : Act = Records k (Answer n i dm) ss in
    let site_d : Site = D (dm_no d) in
    let p = place_of_act g site_d part later act l split in
    let whole : log ≡ (front ++ p.later) ++ Does site_d act ∷ p.rest = is ∙ ap (λ y. front ++ y) p.is
    ∙ sym (append_assoc front p.later (Does site_d act ∷ p.rest)) in
    let now : IsPermitted g (Does site_d act ∷ p.rest) = permitted_before g (front ++ p.later) (Does site_d act ∷ p.rest) (subst (IsPermitted g) whole h) in
    let st : Setting = setting_of g site_d in
    let top = answer_head st (local_of g site_d p.rest) k n i dm ss (d_step st (local_of g site_d p.rest) act (allowed_act g p.rest (Does site_d act) now.0)) in
    let r = read_of_some g log (front ++ p.later) p.rest (Does site_d act) k n.0 i d top.ts top.class top.conds top.uses now.1 whole top.is in
    let at_rest : is_at a.ts (head (pipe k (local_of g site_d p.rest))) ≡ true = subst (λ y. is_at a.ts (head (pipe k y)) ≡ true) (sym p.local_is) at in
    let t1 : top.ts.0 ≡ a.ts = (eqb-true top.ts.0 a.ts (subst (λ p. is_at a.ts p ≡ true) top.is at_rest)) in
    let b : Attempt = r.attempt in
    let read_b : head (pipe k (local_of g site_d p.rest)) ≡ Some (read_msg b r.read.conds r.read.uses) = subst
    (λ c. head (pipe c (local_of g site_d p.rest)) ≡ Some (read_msg b r.read.conds r.read.uses)) r.class_is r.read.head_is in
    let t2 : b.ts ≡ top.ts.0 = same_time (head (pipe k (local_of g site_d p.rest))) (time_at b.ts) top.ts (class_no b.class) top.class
    (txn_no b.txn) n b.number i r.read.conds top.conds r.read.uses top.uses read_b top.is in
    let place = one_time g log eras sound h are b a r.started s (t2 ∙ t1) in
    let same = same_start (history log) b a r.started s place in
    let module_is : dm ≡ dm_no d = act_kind g site_d act p.rest now in
    let rec_is : Answer n i dm ≡ answer_rec a d = (λ j. Answer (txn_no ((sym r.txn_is ∙ same.txn) j)) ((sym r.number_is ∙ same.number) j) (module_is j)) in
    let there : IsRecordAt (history log) (length (history p.rest)) (Answer n i dm) = subst (λ y. IsRecordAt (history y) (length (history p.rest)) (Answer n i dm))
    (sym whole) (recorded_there (front ++ p.later) (Does site_d act) p.rest (Answer n i dm) refl) in
    let made : IsMadeAt log (length (history p.rest))
    (Answer n i dm) = record { later = front ++ p.later; entry = Does site_d act; before = p.rest; is = whole; makes = refl; place_is = refl } in
    record {
      place = length (history p.rest);
      answered = subst (IsRecordAt (history log) (length (history p.rest))) rec_is there;
      class_is = sym r.class_is ∙ same.class;
      local_is = λ w. ap (local_of g site_d)
          (one_entry log (length (history p.rest)) (answer_rec a d) (Answer n i dm) (answer_made g log a d (length (history p.rest)) w) made).0 ∙ p.local_is;
    }
