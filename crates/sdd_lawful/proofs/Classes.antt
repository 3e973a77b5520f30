-- The class of a transaction: that of the class list in force when it was given, at the site that runs the class.
use Rattle.sdd_lawful.proofs.All.{Does, Entry, Hand, Input, IsPermitted, Log, Mark, Option, Redeclares, Setting, Site, Some, Submits, Submitted, T, Tick, TmNo, Txn, U, [], ap, append_assoc, arith, class_for, current_era, eqb-true, given_to, home, if_way, if◌then◌else◌, is_for, local_at, local_of, nth_era, only_right, redeclares, refl, same_or_not, setting_of, site_self, sym, true, txn_at, ℕ, ◌++◌, ◌==◌, ◌∙◌, ◌∷◌, ◌≡◌}
use Rattle.sdd_lawful.proofs.Submissions.{given_at, same_submission}
use Rattle.sdd_invariants.specs.site_module.SiteLog as site

-- the classes in force at a transaction module are those that were put in force last

pub era_there : (g : Input) (t : TmNo) (log : Log) → current_era (setting_of g (T t)) (local_of g (T t) log) ≡ nth_era g (redeclares log)
era_there g t [] = refl
era_there g t (Mark (Tick u n) ∷ log) = grind (arith, if_way, (era_there g t log))
era_there g t (Redeclares u ∷ log) = refl
era_there g t (Hand from to n m ∷ log) = grind (arith, if_way, (era_there g t log))
era_there g t (Submitted to n ∷ log) = grind (arith, if_way, (era_there g t log))
era_there g t (Does by act ∷ log) = grind (arith, if_way, (era_there g t log))
era_there g t (_ ∷ log) = era_there g t log

-- the log of the site that runs a class
abbrev pub at_home : Input → ℕ → Log → site.Log
at_home g c log = local_of g (home g.catalogue c) log

abbrev pub home_setting : Input → ℕ → Setting
home_setting g c = setting_of g (home g.catalogue c)

-- at the site that runs a class, a transaction given now is one of the class
abbrev pub IsForClass : Input → ℕ → Log → Txn → Type 0
IsForClass g c rest text = is_for c (current_era (home_setting g c) (at_home g c rest)).catalogue text ≡ true

-- a transaction with this text was given to the site that runs a class, as one of the class
pub record IsGivenTo (g : Input) (log : Log) (n c : ℕ) (text : Txn) : Type 0 where
  pub later : Log
  pub rest : Log
  pub is : log ≡ later ++ Submitted (home g.catalogue c) n ∷ rest
  pub text_is : txn_at g n ≡ Some text
  pub class_is : c ≡ class_for (nth_era g (redeclares rest)).catalogue text
  pub of_class : IsForClass g c rest text

abbrev pub home_by : ℕ → Txn → Site
home_by c txn = if c == 0 then U else T txn.tm

-- at that site it is of the class that covers it
pub class_given : (g : Input) (c n : ℕ) (text : Txn) (rest : Log) → IsPermitted g (Submitted (home g.catalogue c) n ∷ rest)
    → txn_at g n ≡ Some text → IsForClass g c rest text → c ≡ class_for (nth_era g (redeclares rest)).catalogue text
class_given g c n text rest h t f = grind (arith, given_at, home_by, same_or_not, only_right, eqb-true, era_there)

pub text_one : (o : Option Txn) (x y : Txn) → o ≡ Some x → o ≡ Some y → x ≡ y
text_one o x y e f = let p : Some x ≡ Some y = sym e ∙ f in cc

-- so a transaction has one class
pub one_class : (g : Input) (log : Log) (n c d : ℕ) (t u : Txn) → IsPermitted g log → IsGivenTo g log n c t → IsGivenTo g log n d u → c ≡ d
one_class g log n c d t u h x y = grind (arith, same_submission, text_one)

-- of two entries of a log, one after the other, the one further back
pub further_back : (log later before : Log) (e f : Entry) (later2 rest : Log) → log ≡ later ++ e ∷ before → before ≡ later2 ++ f ∷ rest
    → (all : Log) × (log ≡ all ++ f ∷ rest)
further_back log later before e f later2 rest p q = (later ++ e ∷ later2, p ∙ ap (λ l. later ++ e ∷ l) q ∙ sym (append_assoc later (e ∷ later2) (f ∷ rest)))

pub given_in : (g : Input) (log later before : Log) (e : Entry) (n c : ℕ) (text : Txn) → log ≡ later ++ e ∷ before
    → IsGivenTo g before n c text → IsGivenTo g log n c text
given_in g log later before e n c text is x =
    let s = further_back log later before e (Submitted (home g.catalogue c) n) x.later x.rest is x.is in
    record { later = s.0; rest = x.rest; is = s.1; text_is = x.text_is; class_is = x.class_is; of_class = x.of_class }

-- what is given to the site that runs a class stands in the site's log
pub submit_local : (g : Input) (c n : ℕ) (text : Txn) (later rest : Log) → txn_at g n ≡ Some text
    → (more : site.Log) × (at_home g c (later ++ Submitted (home g.catalogue c) n ∷ rest) ≡ more ++ Submits n text ∷ at_home g c rest)
submit_local g c n text later rest t = grind (arith, local_at, site_self, given_to)
