-- What lines of a trace tell of commits.
use Rattle.std.proofs.Common.{All, List, None, Option, Some, [], ap, arith, bytes_eq, codes, cond, false, nat_eq as eqb, ne_eqb, refl, rules, suc, take, true, zero, ℕ, ◌%◌, ◌++◌, ◌+◌, ◌-◌, ◌/◌, ◌==◌, ◌∙◌, ◌∷◌, ◌≡◌}
use Rattle.std.proofs.lemmas.List.Elements.{All-cons, All-head, All-nil, All-tail}
use Rattle.std.proofs.lemmas.List.Splits.{slice_split_at, slice_split_none}
use Rattle.std.specs.Fmt.{decimal, digit_glyph, digits, digits_onto}
use Rattle.sdd_certify.specs.Told.{commit_on, name_in, named_behind}
use Rattle.sdd_certify.specs.verifying.Orders.{words_of}
use Rattle.sdd_verified.specs.run.progress.obligations.All.{Catalogue, Rec, Txn}
use Rattle.sdd_verified.specs.run.progress.obligations.history.declared.record.Rec.TheVariants as records
use Rattle.sdd_verified.specs.report.Names.{attempt_word, class_time, class_word, module_word, spaced, txn_name}
use Rattle.sdd_verified.specs.report.Trace.{cond_words, record_words, time_word}
use Rattle.sdd_verified.specs.script.All.{HasNoSpace, IsName}
use Rattle.sdd_verified.proofs.script.words.Points.{place_on}
use Rattle.sdd_verified.proofs.ReportLines.{glyph_apart}
use Rattle.sdd_certified.proofs.NamedBytes.{IsNot, bytes_apart, txn_bytes}

-- numbers hold no space

digits_spaceless : (k n : ℕ) (acc : List ℕ) → HasNoSpace acc → HasNoSpace (digits_onto (suc k) 10 false n acc)
digits_spaceless zero n acc h = grind arith
digits_spaceless (suc k) n acc h =
    let g : ℕ = digit_glyph false (n % 10) in
    let here : HasNoSpace (g ∷ acc) = (glyph_apart n, h) in
    elim (n / 10 == 0) as (λ b. HasNoSpace (cond b (g ∷ acc) (digits_onto (suc k) 10 false (n / 10) (g ∷ acc)))) [
      | true ↦ here
      | false ↦ digits_spaceless k (n / 10) (g ∷ acc) here
    ]

decimal_spaceless : (n : ℕ) → HasNoSpace (decimal n)
unfolding digits
decimal_spaceless n = digits_spaceless 63 n [] tt

spaceless : (bytes : List ℕ) → HasNoSpace bytes → All (IsNot 32) bytes
spaceless [] h = All-nil (IsNot 32)
spaceless (c ∷ bytes) h = All-cons (IsNot 32) c bytes (ne_eqb c 32 h.0) (spaceless bytes h.1)

both_spaceless : (front rest : List ℕ) → All (IsNot 32) front → All (IsNot 32) rest → All (IsNot 32) (front ++ rest)
both_spaceless [] rest f r = r
both_spaceless (c ∷ front) rest f r =
    All-cons (IsNot 32) c (front ++ rest) (All-head (IsNot 32) c front f) (both_spaceless front rest (All-tail (IsNot 32) c front f) r)

-- the first word, and then the others
first_word : (word rest : List ℕ) → HasNoSpace word → words_of (word ++ 32 ∷ rest) ≡ word ∷ words_of rest
first_word word rest h = slice_split_at (λ c. eqb c 32) word 32 rest (spaceless word h) refl

-- a line with another verb tells no commit

other_by : (event verb : List ℕ) (words : List (List ℕ)) → bytes_eq verb (codes "commit") ≡ false → named_behind (codes "commit") (event ∷ verb ∷ words) ≡ None
other_by event verb [] e = refl
other_by event verb (third ∷ more) e = rw e refl

abbrev TellsNone : List ℕ → Type 0
TellsNone line = (event : List ℕ) → named_behind (codes "commit") (event ∷ words_of line) ≡ None

other_verb : (verb rest : List ℕ) → HasNoSpace verb → bytes_eq verb (codes "commit") ≡ false → TellsNone (verb ++ 32 ∷ rest)
other_verb verb rest h e event = rw (first_word verb rest h) (other_by event verb (words_of rest) e)

-- a commit names its transaction

up_to_attempt : (name rest : List ℕ) → All (IsNot 35) name → name_in (name ++ 35 ∷ rest) ≡ name
up_to_attempt [] rest h = refl
up_to_attempt (c ∷ name) rest h =
    ap (λ (n : ℕ). take n (c ∷ (name ++ 35 ∷ rest))) (place_on (λ c. eqb c 35) c (name ++ 35 ∷ rest) (All-head (IsNot 35) c name h))
    ∙ ap (λ (l : List ℕ). c ∷ l) (up_to_attempt name rest (All-tail (IsNot 35) c name h))

module _ (cat : Catalogue) (txns : List Txn) (named : All (λ (t : Txn). IsName t.name) txns) where
  abbrev Words : Rec → List ℕ
  Words r = record_words cat txns r

  attempt_is : (n attempt : ℕ) → words_of (attempt_word txns n attempt) ≡ attempt_word txns n attempt ∷ []
  attempt_is n attempt =
      slice_split_none (λ c. eqb c 32) (attempt_word txns n attempt)
      (both_spaceless (txn_name txns n) (35 ∷ decimal attempt) (bytes_apart 32 (txn_name txns n) refl (txn_bytes txns n named))
      (All-cons (IsNot 32) 35 (decimal attempt) refl (spaceless (decimal attempt) (decimal_spaceless attempt))))

  commit_names : (n attempt : ℕ) (event : List ℕ)
      → named_behind (codes "commit") (event ∷ words_of (codes "commit" ++ 32 ∷ attempt_word txns n attempt)) ≡ Some (txn_name txns n)
  commit_names n attempt event =
      rw (first_word (codes "commit") (attempt_word txns n attempt) (search rules), attempt_is n attempt)
      (ap (λ (l : List ℕ). Some l) (up_to_attempt (txn_name txns n) (decimal attempt) (bytes_apart 35 (txn_name txns n) refl (txn_bytes txns n named))))

  -- the transaction that a record commits
  abbrev pub committed_by : Rec → Option (List ℕ)
  committed_by (records.Commit txn attempt reply changes values rows) = Some (txn_name txns txn.0)
  committed_by r = None

  told_by : (r : Rec) (event : List ℕ) → named_behind (codes "commit") (event ∷ words_of (record_words cat txns r)) ≡ committed_by r
  told_by (records.Submit txn) event = other_verb (codes "submit") (txn_name txns txn.0) (search rules) refl event
  told_by (records.Start txn attempt class ts p2 uses) event =
      other_verb (codes "start") (attempt_word txns txn.0 attempt ++ (class_time cat class.0 ts.0 ++ spaced (time_word p2))) (search rules) refl event
  told_by (records.Arrive txn attempt dm) event =
      other_verb (codes "arrive") (attempt_word txns txn.0 attempt ++ spaced (module_word dm.0)) (search rules) refl event
  told_by (records.Wait txn attempt dm conds) event =
      other_verb (codes "wait") ((attempt_word txns txn.0 attempt ++ spaced (module_word dm.0)) ++ cond_words cat conds) (search rules) refl event
  told_by (records.Answer txn attempt dm) event =
      other_verb (codes "answer") (attempt_word txns txn.0 attempt ++ spaced (module_word dm.0)) (search rules) refl event
  told_by (records.Reject txn attempt dm class ts) event =
      other_verb (codes "reject") ((attempt_word txns txn.0 attempt ++ spaced (module_word dm.0)) ++ class_time cat class.0 ts.0) (search rules) refl event
  told_by (records.Commit txn attempt reply changes values rows) event = commit_names txn.0 attempt event
  told_by (records.Apply txn class dm ts) event = other_verb (codes "apply") (txn_name txns txn.0 ++ spaced (module_word dm.0)) (search rules) refl event
  told_by (records.Pass class dm time) event =
      other_verb (codes "pass") (class_word cat class.0 ++ (spaced (module_word dm.0) ++ spaced (decimal time.0))) (search rules) refl event
  told_by records.Nothing event = refl

  -- of the line of a record
  pub line_tells : (number : ℕ) (r : Rec) → commit_on (decimal number ++ spaced (record_words cat txns r)) ≡ committed_by r
  line_tells number r = rw (first_word (decimal number) (record_words cat txns r) (decimal_spaceless number)) (told_by r (decimal number))
