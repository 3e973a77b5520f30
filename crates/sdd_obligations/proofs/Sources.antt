-- Questions of a class are put by the site that runs it, which is the one to which a data module answers; and what is sent
-- first on permitted logs.
use Rattle.sdd_obligations.proofs.All.{Act, Catalogue, Class, ClassNo, D, Did, DmNo, Each, Hand, Handed, Input, IsClassHere, IsDueEach, IsFair, IsFetch, IsPermitted, IsPutByD, IsReduce, IsShip, IsStep, List, Log, Msg, Read, Ready, Reduced, Reject, Rows, Setting, Site, Some, T, TmNo, Ts, U, Values, WasAsked, [], and_right, ap, append_assoc, arith, asks_rows, asks_whose, base_of, class_at, commit_puts, d_fair, dm_no, each_at, each_local, eqb-true, false, hand_was_put, handed, home, home_fair, home_of, if_way, in_none, in_one, is_answer, is_question, length, local_of, map, never, permitted_before, place_of_hand, put_by_d, puts_to, refl, same_site, sends_of_act, setting_of, slice_get, slice_index_or, source_of, start_puts, step_way, subst, suc, sym, t_fair, the_one, tm_no, to_site, true, u_fair, was_put, zero, ℕ, ◌&&◌, ◌++◌, ◌-◌, ◌<◌, ◌==◌, ◌∙◌, ◌∷◌, ◌≡◌, ◌≤◌}
use Rattle.sdd_obligations.proofs.FirstSends.{IsFirstEach, IsFirstSend, t_first, u_first}
use Rattle.sdd_obligations.proofs.QuestionsComeInTurn.{send_is_question}
use Rattle.sdd_obligations.proofs.AnswersComeInTurn.{head_through}
use Rattle.sdd_invariants.specs.site_module.SiteLog as site

-- the site that runs a class, as a data module has it

class_there : (ks : List Class) (n : ℕ) (k : Class) → n < length ks
    → slice_index_or (map (λ (k : Class). T k.tm) ks) n U ≡ T (tm_no (slice_index_or ks n k).tm.0)
class_there [] n k l = absurd (omega (arith, l))
class_there (x ∷ ks) zero k l = refl
class_there (x ∷ ks) (suc n) k l = class_there ks n k (omega (arith, l))

pub source_is_home : (s : Setting) (c : ℕ) → IsClassHere s c → source_of (home_of s) c ≡ home s.catalogue c
source_is_home s c l = grind (arith, class_at, class_there)

pub home_apart : (cat : Catalogue) (c d : ℕ) → same_site (home cat c) (D (dm_no d)) ≡ false
home_apart cat c d = if_way (λ x. same_site x (D (dm_no d)) ≡ false) (c == 0) U (T (tm_no (class_at cat c).tm.0)) refl refl

-- a site sends first what is first

abbrev FirstAt : Input → Site → Type 0
FirstAt g at = (log : Log) → IsPermitted g log → Each (IsFirstEach (setting_of g at)) (local_of g at log)

u_firsts : (g : Input) → FirstAt g U
u_firsts g = each_local g U (IsFirstEach (setting_of g U)) (record {
  handed = λ log p from n m a i. tt;
  ticked = λ log p n i. tt;
  submits = λ log p n t a e i. tt;
  redeclared = λ l k t i. tt;
  did = λ log act p due i. u_first (setting_of g U) (base_of g log) (local_of g U log) act due;
})

t_firsts : (g : Input) (t : TmNo) → FirstAt g (T t)
t_firsts g t = each_local g (T t) (IsFirstEach (setting_of g (T t))) (record {
  handed = λ log p from n m a i. tt;
  ticked = λ log p n i. tt;
  submits = λ log p n k a e i. tt;
  redeclared = λ l k u i. tt;
  did = λ log act p due i. t_first (setting_of g (T t)) (base_of g log) (local_of g (T t) log) act due;
})

pub home_first : (g : Input) (c : ℕ) (log : Log) → IsPermitted g log
    → Each (IsFirstEach (setting_of g (home g.catalogue c))) (local_of g (home g.catalogue c) log)
home_first g c = if_way (FirstAt g) (c == 0) U (T (tm_no (class_at g.catalogue c).tm.0)) (u_firsts g) (t_firsts g _)

-- who puts a question

step_question : (s : Setting) (b : Site) (log : site.Log) (act : Act) (place : ℕ) (m : Msg) (ts c : ℕ) → IsStep s log act
    → slice_get (to_site b (sends_of_act act)) place ≡ Some m → is_question ts c m ≡ true → home s.catalogue c ≡ s.site
step_question s b log act place m ts c i = grind (arith, step_way, slice_get, start_puts, in_none, in_one, eqb-true, and_right, commit_puts, never, the_one, home, asks_whose, asks_rows, send_is_question)

data_question : {A : Type 0} (s : Setting) (log : site.Log) (b : Site) (act : Act) (m : Msg) (ts c : ℕ) → IsPutByD s log b act m → is_question ts c m ≡ true → A
data_question s log b act m ts c h e = grind arith

asked_at_home : (s : Setting) (b : Site) (log : site.Log) (place : ℕ) (m : Msg) (ts c : ℕ) → Each (IsFair s) log
    → slice_get (puts_to b log) place ≡ Some m → is_question ts c m ≡ true → home s.catalogue c ≡ s.site
asked_at_home s b log place m ts c h e f =
    let p = was_put b log place m e in
    step_question s b p.before p.act p.place m ts c (each_at (IsFair s) p.later (Did p.act) p.before (subst (Each (IsFair s)) p.is h)).0 p.there f

data_asks_none : {A : Type 0} (s : Setting) (b : Site) (log : site.Log) (place : ℕ) (m : Msg) (ts c : ℕ) → Each (IsDueEach s) log
    → slice_get (puts_to b log) place ≡ Some m → is_question ts c m ≡ true → A
data_asks_none s b log place m ts c h e f =
    let p = was_put b log place m e in
    let q = each_at (IsDueEach s) p.later (Did p.act) p.before (subst (Each (IsDueEach s)) p.is h) in
    data_question s p.before b p.act m ts c (put_by_d s p.before p.act q.0 b p.place m p.there) f

pub question_home : (g : Input) (from b : Site) (log : Log) (place : ℕ) (m : Msg) (ts c : ℕ) → IsPermitted g log
    → slice_get (puts_to b (local_of g from log)) place ≡ Some m → is_question ts c m ≡ true → home g.catalogue c ≡ from
question_home g U b log place m ts c h e f = asked_at_home (setting_of g U) b (local_of g U log) place m ts c (u_fair g log h) e f
question_home g (T t) b log place m ts c h e f = asked_at_home (setting_of g (T t)) b (local_of g (T t) log) place m ts c (t_fair g t log h) e f
question_home g (D d) b log place m ts c h e f = data_asks_none (setting_of g (D d)) b (local_of g (D d) log) place m ts c (d_fair g d log h) e f

-- a FETCH, REDUCE or SHIP is of a class of the catalogue

abbrev AsksHere : Setting → site.Log → Act → Type 0
AsksHere s log act =
    IsFirstSend s log act → (b : Site) (place ts c : ℕ) (m : Msg)
    → slice_get (to_site b (sends_of_act act)) place ≡ Some m → asks_rows ts c m ≡ true → c ≤ length s.catalogue.classes

act_here : (s : Setting) (log : site.Log) (act : Act) → IsStep s log act → AsksHere s log act
act_here s log act i = grind (arith, step_way, start_puts, in_none, never, in_one, commit_puts, the_one)

pub asked_here : (g : Input) (c : ℕ) (b : Site) (log : Log) (place : ℕ) (m : Msg) (ts : ℕ) → IsPermitted g log
    → slice_get (puts_to b (local_of g (home g.catalogue c) log)) place ≡ Some m → asks_rows ts c m ≡ true → c ≤ length g.catalogue.classes
asked_here g c b log place m ts h e f =
    let s : Setting = setting_of g (home g.catalogue c) in
    let p = was_put b (local_of g (home g.catalogue c) log) place m e in
    let q = each_at (IsFair s) p.later (Did p.act) p.before (subst (Each (IsFair s)) p.is (home_fair g c log h)) in
    let r = each_at (IsFirstEach s) p.later (Did p.act) p.before (subst (Each (IsFirstEach s)) p.is (home_first g c log h)) in
    act_here s p.before p.act q.0 r.0 b p.place ts c m p.there f

-- who puts an answer, and to whom

step_no_answer : (s : Setting) (b : Site) (log : site.Log) (act : Act) (place : ℕ) (m : Msg) (ts c : ℕ) → IsStep s log act
    → slice_get (to_site b (sends_of_act act)) place ≡ Some m → is_answer ts c m ≡ false
step_no_answer s b log act place m ts c i = grind (arith, step_way, slice_get, start_puts, in_none, in_one, commit_puts, the_one)

hands_no_answer : (s : Setting) (b : Site) (log : site.Log) (place : ℕ) (m : Msg) (ts c : ℕ) → Each (IsFair s) log
    → slice_get (puts_to b log) place ≡ Some m → is_answer ts c m ≡ false
hands_no_answer s b log place m ts c h e =
    let p = was_put b log place m e in
    step_no_answer s b p.before p.act p.place m ts c (each_at (IsFair s) p.later (Did p.act) p.before (subst (Each (IsFair s)) p.is h)).0 p.there

-- a message that was asked came from the site that runs its class
asked_from : (g : Input) (d : DmNo) (log : Log) (b : Site) (later : site.Log) (act : Act) (before : site.Log) (ts c : ℕ) (P : Msg → Type 0)
    → IsPermitted g log → local_of g (D d) log ≡ later ++ Did act ∷ before → WasAsked before b P → ((m : Msg) → P m → is_question ts c m ≡ true)
    → home g.catalogue c ≡ b
asked_from g d log b later act before ts c P h e w f =
    let all : local_of g (D d) log ≡ (later ++ Did act ∷ w.later) ++ Handed b w.asked ∷ w.before =
    e ∙ ap (λ l. later ++ Did act ∷ l) w.is ∙ sym (append_assoc later (Did act ∷ w.later) (Handed b w.asked ∷ w.before)) in
    let i = place_of_hand g (D d) log (later ++ Did act ∷ w.later) b w.asked w.before all in
    let p : IsPermitted g (Hand b (D d) i.number w.asked ∷ i.rest) =
    permitted_before g i.later (Hand b (D d) i.number w.asked ∷ i.rest) (subst (IsPermitted g) i.is h) in
    question_home g b (D d) i.rest (handed b (D d) i.rest) w.asked ts c p.1 (hand_was_put g i.rest b (D d) i.number w.asked p.0).1 (f w.asked w.fits)

answered_home : (s : Setting) (n c : ℕ) (k : ClassNo) (ts : ℕ) (t : Ts) (b : Site) → IsClassHere s n → k.0 ≡ n → b ≡ source_of (home_of s) n
    → ((t.0 == ts) && (k.0 == c)) ≡ true → home s.catalogue c ≡ b
answered_home s n c k ts t b l e f g = grind (arith, eqb-true, and_right, source_is_home)

data_answer : (g : Input) (d : DmNo) (log : Log) (b : Site) (later : site.Log) (act : Act) (before : site.Log) (m : Msg) (ts c : ℕ)
    → IsPermitted g log → local_of g (D d) log ≡ later ++ Did act ∷ before → IsPutByD (setting_of g (D d)) before b act m
    → is_answer ts c m ≡ true → home g.catalogue c ≡ b
data_answer g d log b later act before (Ready t k counts) ts c h e p f =
    answered_home (setting_of g (D d)) p.class c k ts t b p.here (eqb-true k.0 p.class (head_through p.class before (Read t k p.txn p.attempt p.conds p.uses) p.head_is)) p.to_is f
data_answer g d log b later act before (Reject t k by w) ts c h e p f =
    answered_home (setting_of g (D d)) p.class c k ts t b p.here (eqb-true k.0 p.class (head_through p.class before (Read t k p.txn p.attempt p.conds p.uses) p.head_is)) p.to_is f
data_answer g d log b later act before (Values t k u vs) ts c h e p f =
    asked_from g d log b later act before ts c (IsFetch t k u) h e p (λ m q. ap (is_question ts c) q.1 ∙ f)
data_answer g d log b later act before (Reduced t k u n) ts c h e p f =
    asked_from g d log b later act before ts c (IsReduce t k u) h e p (λ m q. ap (is_question ts c) q.2 ∙ f)
data_answer g d log b later act before (Rows t k rows) ts c h e p f =
    asked_from g d log b later act before ts c (IsShip t k) h e p (λ m q. ap (is_question ts c) q ∙ f)
data_answer g d log b later act before m ts c h e p f = cc

-- an answer comes from a data module, and goes to the site that runs its class
pub answer_source : (g : Input) (a b : Site) (log : Log) (place : ℕ) (m : Msg) (ts c : ℕ) → IsPermitted g log
    → slice_get (puts_to b (local_of g a log)) place ≡ Some m → is_answer ts c m ≡ true → (d : DmNo) × (a ≡ D d) × (home g.catalogue c ≡ b)
answer_source g U b log place m ts c h e f = never (is_answer ts c m) f (hands_no_answer (setting_of g U) b (local_of g U log) place m ts c (u_fair g log h) e)
answer_source g (T t) b log place m ts c h e f = grind (arith, never, hands_no_answer, t_fair)
answer_source g (D d) b log place m ts c h e f =
    let p = was_put b (local_of g (D d) log) place m e in
    let q = each_at (IsDueEach (setting_of g (D d))) p.later (Did p.act) p.before (subst (Each (IsDueEach (setting_of g (D d)))) p.is (d_fair g d log h)) in
    (d, refl, data_answer g d log b p.later p.act p.before m ts c h p.is (put_by_d (setting_of g (D d)) p.before p.act q.0 b p.place m p.there) f)
