-- The place of an Answer to a READ with a timestamp in the log of a data module: there is at most one.
use Rattle.sdd_obligations.proofs.All.{Act, Answer, Bool, ClassNo, Cond, D, Did, DmNo, Does, Each, Input, IsClassHere, IsDueEach, IsPermitted, IsReadOf, IsReadStep, IsSoundCatalogue, List, Log, Msg, Option, Read, Records, Sends, Setting, Site, Some, Ts, TxnNo, Use, [], answered_there, ap, append_assoc, arith, compare, d_fair, d_step, each_at, eqb-true, false, head, inl, inr, is_at, is_processing, length, local_of, permitted_before, pipe, pipe_at, place_of_act, read_of, refl, setting_of, subst, sym, true, ℕ, ◌++◌, ◌∙◌, ◌∷◌, ◌≡◌, ◌≤◌}
use Rattle.sdd_obligations.proofs.Starts.{one_start, read_later, small_home, start_here}
use Rattle.sdd_invariants.specs.site_module.SiteLog as site

-- a READ with this timestamp
pub record IsReadAt (ts : ℕ) (o : Option Msg) : Type 0 where
  pub t : Ts
  pub of : ClassNo
  pub txn : TxnNo
  pub attempt : ℕ
  pub conds : List Cond
  pub uses : List Use
  pub is : o ≡ Some (Read t of txn attempt conds uses)
  pub ts_is : t.0 ≡ ts

pub read_at_head : (ts : ℕ) (o : Option Msg) → is_at ts o ≡ true → IsReadAt ts o
read_at_head ts o e = grind (arith, eqb-true)

-- an Answer to it in a data module's log
pub record IsAnswerAt (ts : ℕ) (log : site.Log) : Type 0 where
  pub later : site.Log
  pub class : ℕ
  pub txn : TxnNo
  pub attempt : ℕ
  pub dm : DmNo
  pub sends : List (Site × Msg)
  pub before : site.Log
  pub is : log ≡ later ++ Did (Records class (Answer txn attempt dm) sends) ∷ before
  pub at : is_at ts (head (pipe class before)) ≡ true

-- the class of an Answer is one of the catalogue's

abbrev class_of : Act → ℕ
class_of (Records k r sends) = k
class_of (Sends to m hand) = 0

abbrev class_in : site.Entry → ℕ
class_in (Did act) = class_of act
class_in _ = 0

abbrev processes : Act → Bool
processes (Records k r sends) = is_processing r
processes (Sends to m hand) = false

answer_class : (s : Setting) (log : site.Log) (k : ℕ) (txn : TxnNo) (attempt : ℕ) (dm : DmNo)
    (sends : List (Site × Msg)) (act : Act) → act ≡ Records k (Answer txn attempt dm) sends
    → IsReadStep s log act → IsClassHere s k
answer_class s log k txn attempt dm sends act e h10 = grind (arith, processes, class_of)

pub class_here : (g : Input) (d : DmNo) (log : Log) (later before : site.Log) (k : ℕ) (txn : TxnNo)
    (attempt : ℕ) (dm : DmNo) (sends : List (Site × Msg)) → IsPermitted g log
    → local_of g (D d) log ≡ later ++ Did (Records k (Answer txn attempt dm) sends) ∷ before → k ≤ length g.catalogue.classes
class_here g d log later before k txn attempt dm sends h e =
    let s : Setting = setting_of g (D d) in
    let act : Act = Records k (Answer txn attempt dm) sends in
    let due = each_at (IsDueEach s) later (Did act) before (subst (Each (IsDueEach s)) e (d_fair g d log h)) in
    omega (arith, answer_class s before k txn attempt dm sends act refl (d_step s before act due.0))

-- an Answer isn't repeated: no Answer stands after one to the same READ
twice : (g : Input) → IsSoundCatalogue g.catalogue → (d : DmNo) (log : Log) (ts : ℕ) → IsPermitted g log
    → (y : IsAnswerAt ts (local_of g (D d) log)) (z b : site.Log) (k : ℕ) (txn : TxnNo) (attempt : ℕ)
    (dm : DmNo) (sends : List (Site × Msg))
    → y.before ≡ z ++ Did (Records k (Answer txn attempt dm) sends) ∷ b → is_at ts (head (pipe k b)) ≡ true → ⊥
twice g sound d log ts h y z b k txn attempt dm sends e at =
    let second : Act = Records y.class (Answer y.txn y.attempt y.dm) y.sends in
    let first : Act = Records k (Answer txn attempt dm) sends in
    let py = place_of_act g (D d) log y.later second y.before y.is in
    let hy : IsPermitted g py.rest = (permitted_before g py.later (Does (D d) second ∷ py.rest) (subst (IsPermitted g) py.is h)).1 in
    let px = place_of_act g (D d) py.rest z first b (py.local_is ∙ e) in
    let front : Log = px.later ++ Does (D d) first ∷ [] in
    let whole : Log = px.later ++ Does (D d) first ∷ px.rest in
    let hw : IsPermitted g whole = subst (IsPermitted g) px.is hy in
    let x = read_at_head ts (head (pipe k b)) at in
    let r = read_at_head ts (head (pipe y.class y.before)) y.at in
    let hd1 : head (pipe_at g k d px.rest) ≡ Some (Read x.t x.of x.txn x.attempt x.conds x.uses) = ap (λ l. head (pipe k l)) px.local_is ∙ x.is in
    let hd2 : head (pipe_at g y.class d whole) ≡ Some (Read r.t r.of r.txn r.attempt r.conds r.uses) =
    ap (λ l. head (pipe_at g y.class d l)) (sym px.is) ∙ ap (λ l. head (pipe y.class l)) py.local_is ∙ r.is in
    let o1 = (read_of g k d px.rest x.t x.of x.txn x.attempt x.conds x.uses ((permitted_before g px.later (Does (D d) first ∷ px.rest) hw).1) hd1).1 in
    let o2 = (read_of g y.class d whole r.t r.of r.txn r.attempt r.conds r.uses hw hd2).1 in
    let n1 : k ≤ length g.catalogue.classes = class_here g d py.rest z b k txn attempt dm sends hy (py.local_is ∙ e) in
    let n2 : y.class ≤ length g.catalogue.classes = class_here g d log y.later y.before y.class y.txn y.attempt y.dm y.sends h y.is in
    let whole_is : front ++ px.rest ≡ whole = append_assoc px.later (Does (D d) first ∷ []) px.rest in
    let s1 : IsReadOf g whole k x.txn.0 x.attempt ts =
    subst (λ t. IsReadOf g whole k x.txn.0 x.attempt t) x.ts_is
    (subst (λ l. IsReadOf g l k x.txn.0 x.attempt x.t.0) whole_is (read_later g k front px.rest x.txn.0 x.attempt x.t.0 o1)) in
    let s2 : IsReadOf g whole y.class r.txn.0 r.attempt ts = subst (λ t. IsReadOf g whole y.class r.txn.0 r.attempt t) r.ts_is o2 in
    let same : k ≡ y.class = (one_start g sound k y.class whole ts s1.queued s2.queued n1 n2
    (start_here g k whole x.txn.0 x.attempt ts s1) (start_here g y.class whole r.txn.0 r.attempt ts s2)).0
    in
    let hd3 : head (pipe_at g k d whole) ≡ Some (Read r.t r.of r.txn r.attempt r.conds r.uses) = ap (λ j. head (pipe_at g j d whole)) same ∙ hd2 in
    answered_there g k d px.later px.rest dm sends x.t r.t x.of r.of txn x.txn r.txn attempt x.attempt
    r.attempt x.conds r.conds x.uses r.uses hw (small_home g.catalogue sound k n1) hd1 hd3 (x.ts_is ∙ sym r.ts_is)

pub one_answer : (g : Input) → IsSoundCatalogue g.catalogue → (d : DmNo) (log : Log) (ts : ℕ) → IsPermitted g log
    → (x y : IsAnswerAt ts (local_of g (D d) log)) → (x.before ≡ y.before) × (x.class ≡ y.class)
one_answer g sound d log ts h x y =
    let second : Act = Records y.class (Answer y.txn y.attempt y.dm) y.sends in
    elim (compare x.later y.later (Did (Records x.class (Answer x.txn x.attempt x.dm) x.sends)) (Did second) x.before y.before (sym x.is ∙ y.is)) [
      | inl r ↦ (r.0, ap class_in r.1)
      | inr r ↦ elim r [
        | inl u ↦ absurd (twice g sound d log ts h y u.between x.before x.class x.txn x.attempt x.dm x.sends u.is x.at)
        | inr u ↦ absurd (twice g sound d log ts h x u.between y.before y.class y.txn y.attempt y.dm y.sends u.is y.at)
      ]
    ]
