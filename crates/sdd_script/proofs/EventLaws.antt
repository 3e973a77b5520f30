-- Events: what is read is spelled and is there, and what is spelled and is there is read.
use Rattle.sdd_script.proofs.All.{BadEvent, Bool, Catalogue, D, DmNo, Down, Event, HasNoNewline, HasNoSpace, IsAscii-cons, IsAscii-nil, IsFrom1To, IsLink, IsModule, IsPlain, IsSite, IsUtf8, IsUtf8-append, IsUtf8-from_ascii, List, MAX_PLACE, MAX_TICKS, None, Ok, Option, Plain, Quoted, Redeclare, Resend, Settle, Site, Some, T, Tick, TmNo, U, Up, Word, [], any_module_of, ap, are_linked, arith, bind_ok, both_hold, cond, count_of, count_word, data_module_of, decimal, dm_of, down_of, eqb-true, flight_place, from_one, is_free, length, link_of, lt-ltb, module_of, nat_le, nat_lt, negsuc, number_again, number_of, number_takes, numbered, ok_is, pos, redeclare_of, refl, require_ok, resend_of, settle_of, site_in, site_of, site_word, subst, tick_of, tm_of, true, turning_of, up_of, ℕ, ℤ, ◌&&◌, ◌<◌, ◌==◌, ◌^◌, ◌∙◌, ◌∷◌, ◌≡◌, ◌≢◌}
use Rattle.sdd_script.proofs.StepLaws.{must_then, of_le}
use Rattle.sdd_script.proofs.WordLooks.{IsFine, count_fine, count_free}
use Rattle.sdd_script.proofs.UseLaws.{IsKnown}

-- ---- numbers from 1

one_if : (most n k : ℕ) (b : Bool) → (nat_lt 0 n && nat_le n most) ≡ b → cond b (Some n) None ≡ Some k → (n ≡ k) × IsFrom1To most n
one_if most n k b t e = grind arith

one_takes : (most : ℕ) (bytes : List ℕ) (n : ℕ) (o : Option ℤ) → number_of bytes ≡ o → from_one most o ≡ Some n
    → (bytes ≡ decimal n) × IsFrom1To most n
one_takes most bytes n None p e = absurd cc
one_takes most bytes n (Some (negsuc k)) p e = absurd cc
one_takes most bytes n (Some (pos k)) p e =
    let h = one_if most k n (nat_lt 0 k && nat_le k most) refl e in
    ((number_takes bytes (pos k) p).0 ∙ ap decimal h.0, subst (λ (x : ℕ). IsFrom1To most x) h.0 h.1)

pub numbered_takes : (most : ℕ) (bytes : List ℕ) (n : ℕ) → numbered most bytes ≡ Some n → (bytes ≡ decimal n) × IsFrom1To most n
numbered_takes most bytes n e = one_takes most bytes n (number_of bytes) refl e

pub numbered_again : (most n : ℕ) → most < 2 ^ 63 → IsFrom1To most n → numbered most (decimal n) ≡ Some n
numbered_again most n small h = rw (number_again (pos n) (omega (arith, h.1)), lt-ltb 0 n (omega (arith, h.0)), of_le n most h.1) refl

-- ---- sites

pub record IsSiteWord (cat : Catalogue) (w : Word) (site : Site) : Type 0 where
  pub spelled : w ≡ site_word site
  pub there : IsSite cat site

abbrev dm_no : ℕ → DmNo
dm_no n = record { 0 = n }

empty_if : (ds : List ℕ) → (length ds == 0) ≡ true → ds ≡ []
empty_if [] e = refl
empty_if (c ∷ ds) e = let n : length (c ∷ ds) ≡ 0 = eqb-true (length (c ∷ ds)) 0 e in absurd (omega (arith, n))

site_bytes : (cat : Catalogue) (bytes : List ℕ) (site : Site) → site_in cat bytes ≡ Some site → IsSiteWord cat (Plain bytes) site
site_bytes cat [] site e = absurd cc
site_bytes cat (c ∷ ds) site e = (grind (arith, both_hold, eqb-true, empty_if, IsSiteWord, numbered_takes, dm_no))

pub site_takes : (cat : Catalogue) (w : Word) (site : Site) → site_of cat w ≡ Ok site → IsSiteWord cat w site
site_takes cat (Plain bytes) site e = site_bytes cat bytes site (require_ok BadEvent (site_in cat bytes) site e)
site_takes cat (Quoted text) site e = absurd cc

pub site_again : (cat : Catalogue) → IsKnown cat → (site : Site) → IsSite cat site → site_of cat (site_word site) ≡ Ok site
site_again cat k site h = grind (arith, numbered_again)

module_takes : (cat : Catalogue) (w : Word) (tm : TmNo) (site : Site) → IsSiteWord cat w site
    → module_of site ≡ Ok tm → (w ≡ site_word (T tm)) × IsFrom1To cat.tms tm.0
module_takes cat w tm site h e = grind (arith, ok_is)

pub tm_takes : (cat : Catalogue) (w : Word) (tm : TmNo) → tm_of cat w ≡ Ok tm → (w ≡ site_word (T tm)) × IsFrom1To cat.tms tm.0
tm_takes cat w tm e =
    let a = bind_ok (site_of cat w) _ tm e in
    module_takes cat w tm a.0 (site_takes cat w a.0 a.1) a.2

pub tm_again : (cat : Catalogue) → IsKnown cat → (tm : TmNo) → IsFrom1To cat.tms tm.0 → tm_of cat (site_word (T tm)) ≡ Ok tm
tm_again cat k tm h = let e = site_again cat k (T tm) h in rw e refl

data_module_takes : (cat : Catalogue) (w : Word) (dm : DmNo) (site : Site) → IsSiteWord cat w site
    → data_module_of site ≡ Ok dm → (w ≡ site_word (D dm)) × IsFrom1To cat.dms dm.0
data_module_takes cat w dm site h e = grind (arith, ok_is)

pub dm_takes : (cat : Catalogue) (w : Word) (dm : DmNo) → dm_of cat w ≡ Ok dm → (w ≡ site_word (D dm)) × IsFrom1To cat.dms dm.0
dm_takes cat w dm e =
    let a = bind_ok (site_of cat w) _ dm e in
    data_module_takes cat w dm a.0 (site_takes cat w a.0 a.1) a.2

pub dm_again : (cat : Catalogue) → IsKnown cat → (dm : DmNo) → IsFrom1To cat.dms dm.0 → dm_of cat (site_word (D dm)) ≡ Ok dm
dm_again cat k dm h = let e = site_again cat k (D dm) h in rw e refl

pub record IsLinkWords (cat : Catalogue) (from to : Word) (link : Site × Site) : Type 0 where
  pub from_is : from ≡ site_word link.0
  pub to_is : to ≡ site_word link.1
  pub linked : IsLink cat link.0 link.1

abbrev link : Site → Site → Site × Site
link a b = (a, b)

pub link_takes : (cat : Catalogue) (from to : Word) (l : Site × Site) → link_of cat from to ≡ Ok l → IsLinkWords cat from to l
link_takes cat from to l e =
    let a = bind_ok (site_of cat from) _ l e in
    let b = bind_ok (site_of cat to) _ l a.2 in
    let c = must_then _ (are_linked a.0 b.0) _ l b.2 in
    let f = site_takes cat from a.0 a.1 in
    let t = site_takes cat to b.0 b.1 in
    rw (← ok_is (link a.0 b.0) l c.1) (record { from_is = f.spelled; to_is = t.spelled; linked = (f.there, t.there, c.0) })

pub link_again : (cat : Catalogue) → IsKnown cat → (from to : Site) → IsLink cat from to → link_of cat (site_word from) (site_word to) ≡ Ok (from, to)
link_again cat k from to h = grind (arith, site_again)

pub count_takes : (most : ℕ) (w : Word) (n : ℕ) → count_of most w ≡ Ok n → (w ≡ count_word n) × IsFrom1To most n
count_takes most w n e = grind (arith, numbered_takes)

pub count_again : (most n : ℕ) → most < 2 ^ 63 → IsFrom1To most n → count_of most (count_word n) ≡ Ok n
count_again most n small h = let e = numbered_again most n small h in rw e refl

-- ---- what the words look like

lettered : (c : ℕ) (bytes : List ℕ) → c < 128 → c ≢ 10 → c ≢ 32 → c ≢ 34 → HasNoSpace bytes → HasNoNewline bytes → IsUtf8 bytes
    → IsFine (Plain (c ∷ bytes))
lettered c bytes lt newline space quote s l u = record {
  word = (quote, space, s);
  utf8 = IsUtf8-append (c ∷ []) bytes (IsUtf8-from_ascii (c ∷ []) (IsAscii-cons c [] lt IsAscii-nil)) u;
  sound = refl;
  line = (newline, l);
}

pub plain_space : (bytes : List ℕ) → IsPlain bytes → HasNoSpace bytes
plain_space bytes h = grind arith

numbered_fine : (c n : ℕ) → c < 128 → c ≢ 10 → c ≢ 32 → c ≢ 34 → n < 2 ^ 63 → IsFine (Plain (c ∷ decimal n))
numbered_fine c n lt newline space quote small = let f =
    count_fine n small in lettered c (decimal n) lt newline space quote (plain_space (decimal n) f.word)
    f.line f.utf8

pub site_fine : (cat : Catalogue) → IsKnown cat → (site : Site) → IsSite cat site → IsFine (site_word site)
site_fine cat k U h = lettered 85 [] (omega arith) (λ e. omega arith) (λ e. omega arith) (λ e. omega arith) tt tt (IsUtf8-from_ascii [] IsAscii-nil)
site_fine cat k (T tm) h = numbered_fine 84 tm.0 (omega arith) (λ e. omega arith) (λ e. omega arith) (λ e. omega arith) (omega (arith, h.1, k.few_tms))
site_fine cat k (D dm) h = numbered_fine 68 dm.0 (omega arith) (λ e. omega arith) (λ e. omega arith) (λ e. omega arith) (omega (arith, h.1, k.few_dms))

pub site_free : (site : Site) → is_free (site_word site) ≡ true
site_free site = grind arith

pub place_free : (n : ℕ) → IsFrom1To MAX_PLACE n → is_free (count_word n) ≡ true
place_free n h = count_free n (omega (arith, h.1))

pub place_fine : (n : ℕ) → IsFrom1To MAX_PLACE n → IsFine (count_word n)
place_fine n h = count_fine n (omega (arith, h.1))

-- ---- events

pub record IsPlaced (cat : Catalogue) (words : List Word) (p : Site × Site × ℕ) : Type 0 where
  pub linked : IsLink cat p.0 p.1
  pub placed : IsFrom1To MAX_PLACE p.2
  pub spelled : words ≡ site_word p.0 ∷ site_word p.1 ∷ count_word p.2 ∷ []

abbrev flight : Site → Site → ℕ → Site × Site × ℕ
flight from to place = (from, to, place)

pub place_takes : (cat : Catalogue) (words : List Word) (p : Site × Site × ℕ) → flight_place cat words ≡ Ok p → IsPlaced cat words p
place_takes cat (from ∷ to ∷ place ∷ []) p h =
    let a = must_then _ (is_free from && is_free to && is_free place) _ p h in
    let b = bind_ok (link_of cat from to) _ p a.1 in
    let c = bind_ok (count_of MAX_PLACE place) _ p b.2 in
    let l = link_takes cat from to b.0 b.1 in
    let n = count_takes MAX_PLACE place c.0 c.1 in
    rw (← ok_is (flight b.0.0 b.0.1 c.0) p c.2) (record { linked = l.linked; placed = n.1; spelled = cc })
place_takes cat _ p h = absurd cc

pub place_again : (cat : Catalogue) → IsKnown cat → (from to : Site) (place : ℕ) → IsLink cat from to
    → IsFrom1To MAX_PLACE place → flight_place cat
    (site_word from ∷ site_word to ∷ count_word place ∷ []) ≡ Ok (flight from to place)
place_again cat k from to place h n = grind (arith, place_free, link_again, count_again)

pub record IsResent (cat : Catalogue) (words : List Word) (e : Event) : Type 0 where
  pub from : Site
  pub to : Site
  pub linked : IsLink cat from to
  pub spelled : words ≡ site_word from ∷ site_word to ∷ []
  pub is : Resend from to ≡ e

pub resend_takes : (cat : Catalogue) (words : List Word) (e : Event) → resend_of cat words ≡ Ok e → IsResent cat words e
resend_takes cat (from ∷ to ∷ []) e h =
    let a = must_then _ (is_free from && is_free to) _ e h in
    let b = bind_ok (link_of cat from to) _ e a.1 in
    let l = link_takes cat from to b.0 b.1 in
    record { from = b.0.0; to = b.0.1; linked = l.linked; spelled = cc; is = ok_is (Resend b.0.0 b.0.1) e b.2 }
resend_takes cat _ e h = absurd cc

pub resend_again : (cat : Catalogue) → IsKnown cat → (from to : Site) → IsLink cat from to
    → resend_of cat (site_word from ∷ site_word to ∷ []) ≡ Ok (Resend from to)
resend_again cat k from to h = grind (arith, link_again)

pub record IsTick (cat : Catalogue) (words : List Word) (e : Event) : Type 0 where
  pub tm : TmNo
  pub n : ℕ
  pub there : IsFrom1To cat.tms tm.0
  pub counted : IsFrom1To MAX_TICKS n
  pub spelled : words ≡ site_word (T tm) ∷ count_word n ∷ []
  pub is : Tick tm n ≡ e

pub tick_takes : (cat : Catalogue) (words : List Word) (e : Event) → tick_of cat words ≡ Ok e → IsTick cat words e
tick_takes cat (tm ∷ n ∷ []) e h =
    let a = must_then _ (is_free tm && is_free n) _ e h in
    let b = bind_ok (tm_of cat tm) _ e a.1 in
    let c = bind_ok (count_of MAX_TICKS n) _ e b.2 in
    let t = tm_takes cat tm b.0 b.1 in
    let m = count_takes MAX_TICKS n c.0 c.1 in
    record { tm = b.0; n = c.0; there = t.1; counted = m.1; spelled = cc; is = ok_is (Tick b.0 c.0) e c.2 }
tick_takes cat _ e h = absurd cc

pub tick_again : (cat : Catalogue) → IsKnown cat → (tm : TmNo) (n : ℕ) → IsFrom1To cat.tms tm.0
    → IsFrom1To MAX_TICKS n → tick_of cat (site_word (T tm) ∷ count_word n ∷ []) ≡ Ok (Tick tm n)
tick_again cat k tm n h m = grind (arith, tm_again, place_free, count_again)

pub settle_takes : (words : List Word) (e : Event) → settle_of words ≡ Ok e → (words ≡ []) × (Settle ≡ e)
settle_takes words e h = grind arith

pub redeclare_takes : (words : List Word) (e : Event) → redeclare_of words ≡ Ok e → (words ≡ []) × (Redeclare ≡ e)
redeclare_takes words e h = grind arith

-- a module that may go down, by a word
any_module_takes : (cat : Catalogue) (w : Word) (at site : Site) → IsSiteWord cat w site → any_module_of site ≡ Ok at
    → (w ≡ site_word at) × IsModule cat at
any_module_takes cat w at U h e = cc
any_module_takes cat w at (T tm) h e =
    subst (λ z. (w ≡ site_word z) × IsModule cat z) (ok_is (T tm) at e) (h.spelled, h.there)
any_module_takes cat w at (D dm) h e =
    subst (λ z. (w ≡ site_word z) × IsModule cat z) (ok_is (D dm) at e) (h.spelled, h.there)

turning_takes : (cat : Catalogue) (w : Word) (at : Site) → turning_of cat w ≡ Ok at → (w ≡ site_word at) × IsModule cat at
turning_takes cat w at h =
    let a = bind_ok (site_of cat w) _ at h in
    any_module_takes cat w at a.0 (site_takes cat w a.0 a.1) a.2

turning_again : (cat : Catalogue) → IsKnown cat → (at : Site) → IsModule cat at → turning_of cat (site_word at) ≡ Ok at
turning_again cat k (T tm) h = let e = site_again cat k (T tm) h in rw e refl
turning_again cat k (D dm) h = let e = site_again cat k (D dm) h in rw e refl
turning_again cat k U h = absurd h

-- a module goes down or comes up
pub record IsTurn (turn : Site → Event) (cat : Catalogue) (words : List Word) (e : Event) : Type 0 where
  pub at : Site
  pub there : IsModule cat at
  pub spelled : words ≡ site_word at ∷ []
  pub is : turn at ≡ e

pub down_takes : (cat : Catalogue) (words : List Word) (e : Event) → down_of cat words ≡ Ok e → IsTurn Down cat words e
down_takes cat (named ∷ []) e h =
    let a = must_then _ (is_free named) _ e h in
    let b = bind_ok (turning_of cat named) _ e a.1 in
    let t = turning_takes cat named b.0 b.1 in
    record { at = b.0; there = t.1; spelled = ap (λ w. w ∷ []) t.0; is = ok_is (Down b.0) e b.2 }
down_takes cat _ e h = absurd cc

pub down_again : (cat : Catalogue) → IsKnown cat → (at : Site) → IsModule cat at → down_of cat (site_word at ∷ []) ≡ Ok (Down at)
down_again cat k at h = grind (arith, turning_again, is_free)

pub up_takes : (cat : Catalogue) (words : List Word) (e : Event) → up_of cat words ≡ Ok e → IsTurn Up cat words e
up_takes cat (named ∷ []) e h =
    let a = must_then _ (is_free named) _ e h in
    let b = bind_ok (turning_of cat named) _ e a.1 in
    let t = turning_takes cat named b.0 b.1 in
    record { at = b.0; there = t.1; spelled = ap (λ w. w ∷ []) t.0; is = ok_is (Up b.0) e b.2 }
up_takes cat _ e h = absurd cc

pub up_again : (cat : Catalogue) → IsKnown cat → (at : Site) → IsModule cat at → up_of cat (site_word at ∷ []) ≡ Ok (Up at)
up_again cat k at h = grind (arith, turning_again, is_free)
