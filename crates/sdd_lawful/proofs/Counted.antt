-- How many Starts of a transaction a history has is how often the site that runs its class started it.
use Rattle.sdd_lawful.proofs.All.{Attempt, Bool, Did, Does, Entry, Era, History, Input, IsAttempt, IsPermitted, IsSoundCatalogue, List, Log, Msg, None, Option, Rec, Records, Site, SiteLog, Some, Start, Txn, [], ap, append_assoc, arith, cond, eqb-true, filter, filter-append, history, home, if_way, if◌then◌else◌, is_start_of, length, length-append, marks, record_of, same_number, same_or_not, same_site, site_self, starts_before, starts_of, subst, suc, sym, take, true, with_era, ℕ, ◌++◌, ◌+◌, ◌∙◌, ◌∷◌, ◌≡◌}
use Rattle.sdd_lawful.proofs.Classes.{IsGivenTo, at_home, one_class}
use Rattle.sdd_lawful.proofs.Places.{history_before, history_step, recorded}
use Rattle.sdd_lawful.proofs.Started.{attempt_from, given_of_attempt, start_act_of, start_at_entry, start_in}
use Rattle.sdd_invariants.specs.site_module.SiteLog as site

-- how many Starts of transaction n

abbrev starts_in : ℕ → History → ℕ
starts_in n h = length (filter (λ e. is_start_of n e.1) h)

abbrev one_of : Bool → ℕ
one_of b = cond b 1 0

abbrev one_by : ℕ → Option Rec → ℕ
one_by n None = 0
one_by n (Some r) = one_of (is_start_of n r)

abbrev made : ℕ → Rec → ℕ × Rec
made k r = (k, r)

-- what the log of a site counts

abbrev HasCount : ℕ → ℕ → ℕ → SiteLog → Type 0
HasCount c n x l = starts_of c n l ≡ x

count_era : (c n x : ℕ) (at : Site) (era : Era) (t : ℕ) (l : SiteLog) → starts_of c n l ≡ x → starts_of c n (with_era at era t l) ≡ x
count_era c n x at era t l e = grind arith

-- a Start of the transaction, which is of the class; of another transaction it counts for neither
abbrev IsOwnStart : Input → ℕ → ℕ → Site → ℕ → Rec → Type 0
IsOwnStart g c n at k r = is_start_of n r ≡ true → (at ≡ home g.catalogue c) × (k ≡ c)

count_act : (g : Input) (c n x : ℕ) (at : Site) (k : ℕ) (r : Rec) (sends : List (Site × Msg)) (l : SiteLog) → IsOwnStart g c n at k r → starts_of c n l ≡ x
    → starts_of c n (if same_site (home g.catalogue c) at then Did (Records k r sends) ∷ l else l) ≡ x + one_of (is_start_of n r)
count_act g c n x at k r sends l own e = grind (arith, same_or_not, same_number, site_self, if_way, HasCount)

abbrev IsOwnEntry : Input → ℕ → ℕ → Entry → Type 0
IsOwnEntry g c n (Does at (Records k r sends)) = IsOwnStart g c n at k r
IsOwnEntry g c n _ = Unit {0}

count_entry : (g : Input) (c n x : ℕ) (e : Entry) (log : Log) → IsOwnEntry g c n e → starts_of c n (at_home g c log) ≡ x
    → starts_of c n (at_home g c (e ∷ log)) ≡ x + one_by n (record_of e)
count_entry g c n x e log own h = grind (arith, HasCount, at_home, count_era, if_way, count_act)

abbrev AllOwn : Input → ℕ → ℕ → Log → Type 0
AllOwn g c n [] = Unit {0}
AllOwn g c n (e ∷ log) = IsOwnEntry g c n e × AllOwn g c n log

pub counted : (g : Input) (c n : ℕ) (log : Log) → AllOwn g c n log → starts_in n (history log) ≡ starts_of c n (at_home g c log)
counted g c n [] own = sym (grind arith)
counted g c n (e ∷ log) own = grind (arith, history_step, filter-append, recorded, marks, length-append, is_start_of, made, one_of, count_entry, starts_in, (counted g c n log own.1))

-- every Start of a transaction in the log is of its class

own_record : (g : Input) (full : Log) (c n : ℕ) (text : Txn) (later : Log) (at : Site) (k : ℕ) (r : Rec) (sends : List (Site × Msg)) (before : Log)
    → IsSoundCatalogue g.catalogue → IsPermitted g full → IsGivenTo g full n c text → full ≡ later ++ Does at (Records k r sends) ∷ before → IsOwnStart g c n at k r
own_record g full c n text later at k (Start txn attempt class ts p2 uses) sends before sound h given is q =
    let s = start_at_entry g full later at k txn attempt class ts p2 uses sends before sound h is in
    let e : txn.0 ≡ n = eqb-true txn.0 n q in
    let w = given_of_attempt g full (attempt_from txn attempt class ts p2 uses (length (history before))) s.0 in
    let same : class.0 ≡ c = one_class g full n class.0 c s.0.says.text text h (subst (λ j. IsGivenTo g full j class.0 s.0.says.text) e w) given in
    (s.2 ∙ ap (home g.catalogue) (s.1 ∙ same), s.1 ∙ same)
own_record g full c n text later at k r sends before sound h given is q = cc

own_entry : (g : Input) (full : Log) (c n : ℕ) (text : Txn) (later : Log) (e : Entry) (before : Log) → IsSoundCatalogue g.catalogue
    → IsPermitted g full → IsGivenTo g full n c text → full ≡ later ++ e ∷ before → IsOwnEntry g c n e
own_entry g full c n text later (Does at (Records k r sends)) before sound h given is = own_record g full c n text later at k r sends before sound h given is
own_entry g full c n text later _ before sound h given is = tt

all_own : (g : Input) (full : Log) (c n : ℕ) (text : Txn) (later log : Log) → IsSoundCatalogue g.catalogue → IsPermitted g full
    → IsGivenTo g full n c text → full ≡ later ++ log → AllOwn g c n log
all_own g full c n text later [] sound h given is = tt
all_own g full c n text later (e ∷ log) sound h given is =
    (own_entry g full c n text later e log sound h given is, all_own g full c n text (later ++ e ∷ []) log sound h given (is ∙ sym (append_assoc later (e ∷ []) log)))

-- an attempt's number counts the Starts of its transaction before it
pub numbered : (g : Input) (log : Log) → IsSoundCatalogue g.catalogue → IsPermitted g log → (a : Attempt) → IsAttempt (history log) a
    → a.number ≡ suc (starts_before (history log) a.txn a.place)
numbered g log sound h a s =
    let x = start_in g log a sound h s in
    let act : Entry = Does (home g.catalogue a.class) (start_act_of a x.sends) in
    let own = all_own g log a.class a.txn x.says.text (x.later ++ act ∷ []) x.before sound h (given_of_attempt g log a x)
    (x.is ∙ sym (append_assoc x.later (act ∷ []) x.before)) in
    let before = history_before log (x.later ++ act ∷ []) x.before (x.is ∙ sym (append_assoc x.later (act ∷ []) x.before)) in
    let up_to : take a.place (history log) ≡ history x.before = subst (λ k. take k (history log) ≡ history x.before) x.place_is before in
    x.says.attempt_is ∙ ap suc (sym (counted g a.class a.txn x.before own)) ∙ ap (λ p. suc (starts_in a.txn p)) (sym up_to)
