-- The Commits of a history, as acts of the sites that run their classes, each with the Start of its attempt.
use Rattle.sdd_lawful.proofs.All.{Act, Attempt, Change, Commit, Did, Does, HasCommit, Input, IsAttempt, IsCommitRecord, IsMadeAt, IsPermitted, IsRecordAt, IsSoundCatalogue, List, Log, Msg, Queued, Rec, Records, Reply, Site, Some, Txn, all_new, ap, arith, bound, compare, head_left, head_of, history, home, home_fair, inl, inr, is_committed, length, next_stamp, p2_of, permitted_before, place_of_act, place_of_submit, queue, refl, says_at, start_at, subst, suc, sym, true, txn_at, txn_no, uses_of, was_submitted, ℕ, ◌++◌, ◌<◌, ◌∙◌, ◌∷◌, ◌≡◌}
use Rattle.sdd_lawful.proofs.Classes.{at_home, further_back, home_setting}
use Rattle.sdd_lawful.proofs.Homes.{home_small}
use Rattle.sdd_lawful.proofs.Locals.{committed_here, committed_later}
use Rattle.sdd_lawful.proofs.Places.{place_rises, recorded_there}
use Rattle.sdd_lawful.proofs.Started.{act_local, one_start_class, run_in, start_in, start_of}
use Rattle.sdd_invariants.specs.site_module.SiteLog as site

-- what a Commit tells
pub record CommitContent : Type 0 where
  pub reply : Reply
  pub changes : List Change
  pub values : ℕ
  pub rows : ℕ

abbrev pub commit_rec : ℕ → ℕ → CommitContent → Rec
commit_rec n number t = Commit (txn_no n) number t.reply t.changes t.values t.rows

pub record IsCommitIn (g : Input) (log : Log) (n number k : ℕ) (content : CommitContent) : Type 0 where
  pub class : ℕ
  pub later : Log
  pub sends : List (Site × Msg)
  pub before : Log
  pub is : log ≡ later ++ Does (home g.catalogue class) (Records class (commit_rec n number content) sends) ∷ before
  pub place_is : length (history before) ≡ k
  pub permitted : IsPermitted g (Does (home g.catalogue class) (Records class (commit_rec n number content) sends) ∷ before)
  pub says : IsCommitRecord (home_setting g class) (at_home g class before) class (txn_no n) number content.changes

pub commit_in : (g : Input) (log : Log) (n number k : ℕ) (content : CommitContent) → IsSoundCatalogue g.catalogue → IsPermitted g log
    → IsRecordAt (history log) k (commit_rec n number content) → IsCommitIn g log n number k content
commit_in g log n number k content sound h s =
    let m = run_in g log k (commit_rec n number content) h refl refl s in
    record {
      class = m.class;
      later = m.later;
      sends = m.sends;
      before = m.before;
      is = m.is;
      place_is = m.place_is;
      permitted = m.permitted;
      says = says_at g m.class m.before (Records m.class (commit_rec n number content) m.sends) m.permitted
          (omega (arith, home_small g.catalogue sound m.class));
    }

-- the head of a queue has the text that was submitted
pub text_of_head : (g : Input) (c : ℕ) (log : Log) (q : Queued) → IsPermitted g log → head_of (queue (home_setting g c) c (at_home g c log)) ≡ Some q
    → txn_at g q.number ≡ Some q.text
text_of_head g c log q h e =
    let l = head_left (home_setting g c) c (at_home g c log) q (home_fair g c log h) (all_new g (home g.catalogue c) log h) e in
    let w = was_submitted (home_setting g c) c (at_home g c log) l.place l.number l.text l.there in
    ap (txn_at g) l.number_is ∙ (place_of_submit g (home g.catalogue c) log w.later l.number l.text w.before w.is).text_is ∙ ap (λ t. Some t) (sym l.text_is)

-- the Start of its attempt stands before it
pub record IsBegun (g : Input) (log : Log) (n number k class ts : ℕ) (text : Txn) : Type 0 where
  pub attempt : Attempt
  pub started : IsAttempt (history log) attempt
  pub txn_is : attempt.txn ≡ n
  pub number_is : attempt.number ≡ number
  pub class_is : attempt.class ≡ class
  pub ts_is : attempt.ts ≡ ts
  pub text_is : txn_at g n ≡ Some text
  pub uses_are : attempt.uses ≡ uses_of g.catalogue text
  pub before : attempt.place < k

-- as the site's log has it
abbrev pub begun_as : Input → ℕ → site.Log → Queued → ℕ → Attempt
begun_as g c l q place = record {
  txn = q.number;
  number = suc q.tries;
  class = c;
  ts = next_stamp (home_setting g c) l;
  p2 = p2_of c (bound (home_setting g c) l);
  uses = uses_of g.catalogue q.text;
  place = place;
}

pub begun : (g : Input) (log : Log) (n number k : ℕ) (content : CommitContent) (x : IsCommitIn g log n number k content)
    → IsBegun g log n number k x.class x.says.now.ts x.says.now.text
begun g log n number k content x =
    let at : Site = home g.catalogue x.class in
    let s = x.says.start in
    let act : Act = start_at (home_setting g x.class) x.class s.before s.queued in
    let p = place_of_act g at x.before s.later act s.before s.is in
    let a : Attempt = begun_as g x.class s.before s.queued (length (history p.rest)) in
    let w = further_back log x.later x.before (Does at (Records x.class (commit_rec n number content) x.sends)) (Does at act) p.later p.rest x.is p.is in
    let front : length (history x.before) ≡ length (history (p.later ++ Does at act ∷ p.rest)) = ap (λ l. length (history l)) p.is in
    record {
      attempt = a;
      started = subst (λ l. IsAttempt (history l) a) (sym w.1) (recorded_there w.0 (Does at act) p.rest (start_of a) refl);
      txn_is = sym s.number_is;
      number_is = sym s.try_is;
      class_is = refl;
      ts_is = sym s.ts_is;
      text_is = ap (txn_at g) s.number_is ∙ text_of_head g x.class p.rest s.queued
          (permitted_before g p.later (Does at act ∷ p.rest) (subst (IsPermitted g) p.is x.permitted.1)).1
          (subst (λ l. head_of (queue (home_setting g x.class) x.class l) ≡ Some s.queued) (sym p.local_is) s.head) ∙ ap (λ t. Some t) (sym s.text_is);
      uses_are = ap (uses_of g.catalogue) (sym s.text_is);
      before = omega (arith, place_rises p.later (Does at act) p.rest (start_of a) refl, x.place_is);
    }

abbrev pub commit_made : (g : Input) (log : Log) (n number k : ℕ) (content : CommitContent) (x : IsCommitIn g log n number k content)
    → IsMadeAt log k (commit_rec n number content)
commit_made g log n number k content x =
    record {
      later = x.later;
      entry = Does (home g.catalogue x.class) (Records x.class (commit_rec n number content) x.sends);
      before = x.before;
      is = x.is;
      makes = refl;
      place_is = x.place_is;
    }

-- a transaction's Commit has the class of its Starts
pub commit_class : (g : Input) (log : Log) (n number k : ℕ) (content : CommitContent) (x : IsCommitIn g log n number k content) (a : Attempt)
    → IsSoundCatalogue g.catalogue → IsPermitted g log → IsAttempt (history log) a → a.txn ≡ n → a.class ≡ x.class
commit_class g log n number k content x a sound h s e =
    let b = begun g log n number k content x in
    one_start_class g log a b.attempt h (start_in g log a sound h s) (start_in g log b.attempt sound h b.started) (e ∙ sym b.txn_is) ∙ b.class_is

-- at the site of its class it is seen from then on
pub commit_seen : (g : Input) (c n number : ℕ) (content : CommitContent) (sends : List (Site × Msg)) (later before : Log)
    → is_committed c n (at_home g c (later ++ Does (home g.catalogue c) (Records c (commit_rec n number content) sends) ∷ before)) ≡ true
commit_seen g c n number content sends later before =
    let act : Act = Records c (commit_rec n number content) sends in
    let m = act_local g (home g.catalogue c) act later before in
    subst (λ l. is_committed c n l ≡ true) (sym m.1)
    (committed_later c n m.0 (Did act ∷ at_home g c before)
    (committed_here c (at_home g c before) (txn_no n) number content.reply content.changes content.values content.rows sends))

not_after : {A : Type 0} (g : Input) (log : Log) (n i j k l : ℕ) (t u : CommitContent) (x : IsCommitIn g log n i k t) (y : IsCommitIn g log n j l u)
    → x.class ≡ y.class → (between : Log) → y.before ≡ between ++ Does (home g.catalogue x.class) (Records x.class (commit_rec n i t) x.sends) ∷ x.before → A
not_after g log n i j k l t u x y e between p = grind (arith, at_home, commit_seen)

-- a transaction has one Commit
pub one_commit : (g : Input) (log : Log) → IsSoundCatalogue g.catalogue → IsPermitted g log → (n i j k l : ℕ) → HasCommit (history log) n i k
    → HasCommit (history log) n j l → k ≡ l
one_commit g log sound h n i j k l p q =
    let t : CommitContent = record { reply = p.reply; changes = p.changes; values = p.values; rows = p.rows } in
    let u : CommitContent = record { reply = q.reply; changes = q.changes; values = q.values; rows = q.rows } in
    let x = commit_in g log n i k t sound h p.is_recorded in
    let y = commit_in g log n j l u sound h q.is_recorded in
    let b = begun g log n i k t x in
    let e : x.class ≡ y.class = sym b.class_is ∙ commit_class g log n j l u y b.attempt sound h b.started b.txn_is in
    let px = x.place_is in let py = y.place_is in
    elim (compare x.later y.later (Does (home g.catalogue x.class) (Records x.class (commit_rec n i t) x.sends))
    (Does (home g.catalogue y.class) (Records y.class (commit_rec n j u) y.sends)) x.before y.before (sym x.is ∙ y.is)) [
      | inl s ↦ sym px ∙ ap (λ b. length (history b)) s.0 ∙ py
      | inr s ↦ elim s [
        | inl v ↦ not_after g log n i j k l t u x y e v.between v.is
        | inr v ↦ not_after g log n j i l k u t y x (sym e) v.between v.is
      ]
    ]
