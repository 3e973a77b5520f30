-- What an entry of the log of everything makes of the log of a site: one entry more, or nothing.
use Rattle.std.specs.Prelude.{ℕ, ◌++◌, ◌∷◌, ◌≡◌, List, None, Option, Some, [], if◌then◌else◌, suc}
use Rattle.sdd_log.specs.All.{Act, D, Did, Does, Era, Event, Hand, Handed, Input, Log, Mark, Msg, Redeclared, Redeclares, Site, Submits, Submitted, T, Tick, Ticked, Txn, U, local_of, nth_era, redeclares, same_site, sends_of_act, txn_at}
use Rattle.sdd_log.specs.Entries.{Entry}
use Rattle.sdd_invariants.specs.Traffic.{to_site}
use Rattle.sdd_log.specs.site_module.SiteLog as site

abbrev pub redeclared_entry : Site → Era → ℕ → Option site.Entry
redeclared_entry U era t = None
redeclared_entry (T n) era t = Some (Redeclared era t)
redeclared_entry (D d) era t = None

abbrev pub given_to : ℕ → Option Txn → Option site.Entry
given_to n None = None
given_to n (Some txn) = Some (Submits n txn)

abbrev pub made_by_mark : Site → Event → Option site.Entry
made_by_mark at (Tick t n) = if same_site at (T t) then Some (Ticked n) else None
made_by_mark at _ = None

abbrev pub made : Input → Site → Log → Entry → Option site.Entry
made g at log (Mark e) = made_by_mark at e
made g at log (Redeclares t) = redeclared_entry at (nth_era g (suc (redeclares log))) t
made g at log (Hand from to n m) = if same_site at to then Some (Handed from m) else None
made g at log (Submitted to n) = if same_site at to then given_to n (txn_at g n) else None
made g at log (Does by act) = if same_site at by then Some (Did act) else None
made g at log _ = None

abbrev pub with_made : Option site.Entry → site.Log → site.Log
with_made None l = l
with_made (Some e) l = e ∷ l

-- what an entry of a site's log puts on its link to a site
abbrev pub put_by : Site → Option site.Entry → List Msg
put_by b None = []
put_by b (Some (Did act)) = to_site b (sends_of_act act)
put_by b (Some _) = []

-- what an entry of a site's log hands over from a site
abbrev pub handed_by : Site → Option site.Entry → List Msg
handed_by a None = []
handed_by a (Some (Handed from m)) = if same_site a from then m ∷ [] else []
handed_by a (Some _) = []

-- the place in the log of everything of an entry of a site's log
pub record IsAt (g : Input) (at : Site) (log : Log) (x : site.Entry) (before : site.Log) : Type 0 where
  pub later : Log
  pub entry : Entry
  pub rest : Log
  pub is : log ≡ later ++ entry ∷ rest
  pub local_is : local_of g at rest ≡ before
  pub makes : made g at rest entry ≡ Some x

-- of an act
pub record IsActAt (g : Input) (at : Site) (log : Log) (act : Act) (before : site.Log) : Type 0 where
  pub later : Log
  pub rest : Log
  pub is : log ≡ later ++ Does at act ∷ rest
  pub local_is : local_of g at rest ≡ before

-- of a hand
pub record IsHandAt (g : Input) (at : Site) (log : Log) (from : Site) (m : Msg) (before : site.Log) : Type 0 where
  pub later : Log
  pub rest : Log
  pub number : ℕ
  pub is : log ≡ later ++ Hand from at number m ∷ rest
  pub local_is : local_of g at rest ≡ before

-- of a transaction that is given to the site
pub record IsSubmitAt (g : Input) (at : Site) (log : Log) (n : ℕ) (text : Txn) (before : site.Log) : Type 0 where
  pub later : Log
  pub rest : Log
  pub is : log ≡ later ++ Submitted at n ∷ rest
  pub local_is : local_of g at rest ≡ before
  pub text_is : txn_at g n ≡ Some text
