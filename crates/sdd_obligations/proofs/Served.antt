-- With the last ROWS the rows that came serve the database of the attempt's snapshots.
use Rattle.sdd_obligations.proofs.All.{Attempt, Catalogue, ClassNo, CopyRows, D, DmNo, Exchange, FitsInput, FitsText, Hand, Handed, Has-flat_map, Has-flat_map_from, HasCopies, HasEras, Input, IsPermitted, List, Log, Msg, None, Over, Row, Rows, Serves, ServesIfLast, Setting, Shipping, Site, Some, Space, Ts, [], active, active_handed, after_hand, all_new, all_rows, answered, ap, base_of, before_answer, both, contains, contents, copies_read, dated, dm_no, exchange_serves, frozen_space, home, home_fair, if◌then◌else◌, is_over, is_shipped, length, local_of, local_step, modules_asked, on_answer, phase_ends, refl, same_number, serves_by_members, setting_of, site_self, stage_of, subst, with_made, without, ℕ, ◌++◌, ◌+◌, ◌==◌, ◌∙◌, ◌∷◌, ◌≡◌, ◌≤◌}
use Rattle.sdd_obligations.proofs.HandedAnswersKeepTurns.{is_awaited}
use Rattle.sdd_obligations.proofs.Texts.{active_so, submitted_fit}
use Rattle.sdd_obligations.proofs.Copied.{copies_are}
use Rattle.sdd_obligations.proofs.Covered.{attempt_covered, class_within}
use Rattle.sdd_obligations.proofs.Places.{one_answer}
use Rattle.sdd_obligations.proofs.Snapped.{snapped}
use Rattle.sdd_obligations.proofs.Starts.{small_home}
use Rattle.sdd_obligations.proofs.Exchanging.{rows_kind, shipping_is}
use Rattle.sdd_obligations.proofs.Simulated.{AllServed, served_all}
use Rattle.sdd_obligations.proofs.Spaces.{Agrees, own, set, space_at}
use Rattle.sdd_obligations.proofs.Stepping.{in_step}
use Rattle.sdd_serving.specs.Reducing.{all_held}
use Rattle.sdd_invariants.specs.site_module.SiteLog as site

-- the copies that were read are those at the Answers
copies_agree : (g : Input) → FitsInput g → (ts : ℕ) (log : Log) → IsPermitted g log → Agrees g ts (copies_read g log ts) log
copies_agree g good ts log h d x =
    let sn = snapped (set g d) ts (own g d log) x in
    let same : before_answer ts (own g d log) ≡ x.before = sn.before_is ∙ (one_answer g good.sound (dm_no d) log ts h sn.answer x).0 in
    ap (λ l. λ f. contents f (dated (set g d) l)) same

-- the exchange once the last ROWS came
last_rows : (ts c n : ℕ) (x : Exchange) (t : Ts) (k : ClassNo) (rows : List (ℕ × Row)) → t.0 ≡ ts → k.0 ≡ c → x.phase ≡ Shipping → without x.lacks n ≡ []
    → after_hand ts c n (Rows t k rows) x ≡ record x { found = x.found ++ rows; rows = x.rows + length rows; lacks = []; phase = Over }
last_rows ts c n x t k rows own of p e =
    let y : Exchange = record x { found = x.found ++ rows; rows = x.rows + length rows } in
    ap (λ b. if b then answered ts c n y else x) (both (t.0 == ts) (k.0 == c) (ap (λ z. z == ts) own ∙ same_number ts) (ap (λ z. z == c) of ∙ same_number c))
    ∙ ap (on_answer ts c y) e ∙ ap (phase_ends ts c (record y { lacks = [] })) p

module _ (g : Input) (good : FitsInput g) (eras : HasEras g) (c : ℕ) where
  abbrev cat : Catalogue
  cat = g.catalogue

  abbrev at : Site
  at = home g.catalogue c

  abbrev s : Setting
  s = setting_of g (home g.catalogue c)

  abbrev mine : Log → site.Log
  mine log = local_of g (home g.catalogue c) log

  within : (log : Log) (a : Attempt) → IsPermitted g log → active s c (mine log) ≡ Some a → c ≤ length cat.classes
  within log a h e = class_within cat c a.text (attempt_covered g eras c log a h e)

  -- an exchange that is over has rows that serve
  over_serves : (log : Log) (a : Attempt) → IsPermitted g log → active s c (mine log) ≡ Some a
      → a.exchange.phase ≡ Over → a.exchange.lacks ≡ [] → Serves cat a.text a.exchange.found
      (base_of g log a.ts)
  over_serves log a h e p l =
      let dms : List ℕ = modules_asked s c a.text in
      let copies : ℕ → CopyRows = copies_read g log a.ts in
      let first : Space = frozen_space cat c a.text a.ts copies in
      let space : Space = space_at g c a.ts first log in
      let small = small_home cat good.sound c (within log a h e) in
      let r = subst (AllServed g good eras c (in_step g c small) log) e
      (served_all g good eras c (in_step g c small) log h) copies (copies_agree g good a.ts log h) in
      let ok : HasCopies cat c a.text dms copies (base_of g log a.ts) = copies_are g good eras c log a h e (ap is_over p) in
      let all : Serves cat a.text (all_held dms space) (base_of g log a.ts) =
      exchange_serves cat good.sound c a.text
      (active_so (FitsText cat) s c (mine log) a (home_fair g c log h) (all_new g at log h) (submitted_fit g good at c log h) e).fits a.ts dms copies
      (base_of g log a.ts) ok space (stage_of a.exchange) r.follows.runs in
      serves_by_members cat a.text (base_of g log a.ts) (all_held dms space) a.exchange.found
      (λ x k. let m = Has-flat_map_from (λ d. all_rows (space d)) dms x k in r.all (ap is_shipped p) m.0 m.1 (ap (λ z. contains z m.0) l) x m.2)
      (λ x k. let m = r.of x k in Has-flat_map (λ d. all_rows (space d)) dms m.0 x m.1 m.2) all

  last_serves : (log : Log) (a : Attempt) (d : DmNo) (n : ℕ) (t : Ts) (k : ClassNo) (rows : List (ℕ × Row))
      → IsPermitted g (Hand (D d) at n (Rows t k rows) ∷ log) → active s c (mine log) ≡ Some a → t.0 ≡ a.ts → k.0 ≡ c → without a.exchange.lacks d.0 ≡ []
      → Serves cat a.text (a.exchange.found ++ rows) (base_of g (Hand (D d) at n (Rows t k rows) ∷ log) a.ts)
  last_serves log a d n t k rows h e own_ts of none =
      let m : Msg = Rows t k rows in
      let small = small_home cat good.sound c (within log a h.1 e) in
      let step = in_step g c small log h.1 a e in
      let r = step.answer d n m h (both (t.0 == a.ts) (k.0 == c) (ap (λ z. z == a.ts) own_ts ∙ same_number a.ts) (ap (λ z. z == c) of ∙ same_number c)) in
      let w = is_awaited d.0 a.exchange _ r.uses r.question (step.at_turn d.0) r.is in
      let ships : a.exchange.phase ≡ Shipping = shipping_is a.exchange.phase r.question w.phase (rows_kind r.uses r.question t k rows r.replies).0 in
      let over : Exchange = record a.exchange { found = a.exchange.found ++ rows; rows = a.exchange.rows + length rows; lacks = []; phase = Over } in
      let b : Attempt = record a { exchange = over } in
      let after : after_hand a.ts c d.0 m a.exchange ≡ over = last_rows a.ts c d.0 a.exchange t k rows own_ts of ships none in
      let here : mine (Hand (D d) at n m ∷ log) ≡ Handed (D d) m ∷ mine log =
      local_step g at (Hand (D d) at n m) log ∙ ap (λ x. with_made (if x then Some (Handed (D d) m) else None) (mine log)) (site_self at) in
      let now : active s c (mine (Hand (D d) at n m ∷ log)) ≡ Some b =
      ap (active s c) here ∙ ap (λ o. active_handed c (D d) m o) e ∙ ap (λ x. Some (record a { exchange = x })) after in
      over_serves (Hand (D d) at n m ∷ log) b h now refl refl

  -- as the site asks it of ROWS
  serves_if : (log : Log) (a : Attempt) (d : DmNo) (n : ℕ) (t : Ts) (k : ClassNo) (rows : List (ℕ × Row))
      → IsPermitted g (Hand (D d) at n (Rows t k rows) ∷ log) → active s c (mine log) ≡ Some a → t.0 ≡ a.ts
      → k.0 ≡ c → (left : List ℕ) → without a.exchange.lacks d.0 ≡ left → ServesIfLast s (base_of g (Hand (D d) at n (Rows t k rows) ∷ log)) a rows left
  serves_if log a d n t k rows h e own_ts of [] none = last_serves log a d n t k rows h e own_ts of none
  serves_if log a d n t k rows h e own_ts of (l ∷ left) some = tt

  pub rows_serve : (log : Log) (a : Attempt) (d : DmNo) (n : ℕ) (t : Ts) (k : ClassNo)
      (rows : List (ℕ × Row)) → IsPermitted g (Hand (D d) at n (Rows t k rows) ∷ log)
      → active s c (mine log) ≡ Some a → t.0 ≡ a.ts → k.0 ≡ c
      → ServesIfLast s (base_of g (Hand (D d) at n (Rows t k rows) ∷ log)) a rows (without a.exchange.lacks d.0)
  rows_serve log a d n t k rows h e own_ts of = serves_if log a d n t k rows h e own_ts of (without a.exchange.lacks d.0) refl
