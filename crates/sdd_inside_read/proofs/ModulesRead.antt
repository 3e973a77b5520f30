-- Queues and pipes are read back from their JSON.
use Rattle.std.proofs.Common.{ap, sym, ◌∙◌}
use Rattle.std.specs.Fmt.{decimal}
use Rattle.std.specs.Prelude.{ℕ, ◌≡◌, List, [], ◌∷◌, ◌++◌, codes, map, refl}
use Rattle.std.specs.List.{AllByRecursion}
use Rattle.std.specs.Option.{option_map_or}
use Rattle.sdd_inside.specs.Json.{also, member, unless_empty, unless_zero}
use Rattle.sdd_inside.specs.Lines.{pipe_json, pipe_moves, queue_json}
use Rattle.sdd_inside.specs.Words.{class_json, dm_json, number_json, txn_json}
use Rattle.sdd_inside.specs.declared.delta.PipeDelta.{PipeDelta}
use Rattle.sdd_inside.specs.declared.delta.QueueDelta.{QueueDelta}
use Rattle.sdd_inside_read.proofs.DigitsPass.{number_again, some_digit, whole_number}
use Rattle.sdd_inside_read.proofs.Ends.{AllWhole, all_whole_more, joined, joined_more}
use Rattle.sdd_inside_read.proofs.JsonPass.{inner_also, inner_number, inner_unless_empty, inner_unless_zero, whole_member, whole_object}
use Rattle.sdd_inside_read.proofs.MembersRead.{after_silent, before_silent, both_silent, counted, counted_joined, counted_silent, counted_whole, each_again, found, listed, listed_joined, listed_silent, listed_whole, object_items, one, one_joined, one_silent, one_whole, own_list, own_number}
use Rattle.sdd_inside_read.proofs.NamesPass.{whole_class, whole_module, whole_txn}
use Rattle.sdd_inside_read.proofs.Passing.{IsWhole, inner_join}
use Rattle.sdd_inside_read.proofs.PutsRead.{module_again, quote_begins}
use Rattle.sdd_inside_read.proofs.StringsPass.{string_again}
use Rattle.sdd_inside_read.specs.LineReader.{pipe_in, queue_in}
use Rattle.sdd_inside_read.specs.Pieces.{items_of}
use Rattle.sdd_inside_read.specs.Small.{IsSmall, IsSmallPipe, IsSmallQueue}
use Rattle.sdd_inside_read.specs.Told.{name_of, told_pipe, told_queue}
use Rattle.sdd_inside_read.specs.Values.{list_in, number_in, number_of, string_of}
use Rattle.sdd_report.specs.Names.{class_word, txn_name}
use Rattle.sdd_script.specs.All.{Catalogue, Txn}

abbrev Any : {A : Type 0} → A → Type 0
Any x = Unit {0}

each_any : {A : Type 0} (xs : List A) → AllByRecursion Any xs
each_any [] = tt
each_any (x ∷ xs) = (tt, each_any xs)

-- queues

module _ (cat : Catalogue) (txns : List Txn) (q : QueueDelta) where
  abbrev queue_in_parts : List (List ℕ)
  queue_in_parts = listed (codes "in") (txn_json cat txns) q.came

  abbrev queue_out : List (List ℕ)
  queue_out = counted (codes "out") q.gone

  abbrev queue_members : List (List ℕ)
  queue_members = queue_in_parts ++ queue_out

  abbrev queue_class : List ℕ
  queue_class = class_json cat txns q.class

  queue_items : items_of (queue_json cat txns q) ≡ member (codes "class") queue_class ∷ queue_members
  queue_items =
      object_items (codes "class") queue_class (unless_empty (codes "in") (txn_json cat txns) q.came ++ unless_zero (codes "out") q.gone) queue_members
      ((λ i. listed_joined (codes "in") (txn_json cat txns) q.came i ++ counted_joined (codes "out") q.gone i) ∙ sym (joined_more queue_in_parts queue_out))
      (whole_member (codes "class") queue_class refl (whole_class cat txns q.class))
      (all_whole_more queue_in_parts queue_out (listed_whole (codes "in") (txn_json cat txns) q.came refl (whole_txn cat txns)) (counted_whole (codes "out") q.gone refl))

  came_again : map string_of (list_in (codes "in") (member (codes "class") queue_class ∷ queue_members)) ≡ map (name_of txns) q.came
  came_again =
      ap (map string_of) (own_list Any (codes "in") (txn_json cat txns) q.came (member (codes "class") queue_class ∷ queue_members) (each_any q.came)
      (λ n t. quote_begins (txn_name txns n.0)) (whole_txn cat txns)
      (before_silent (codes "in") queue_in_parts queue_out (counted_silent (codes "in") (codes "out") q.gone (λ v. refl))))
      ∙ each_again Any (txn_json cat txns) string_of (name_of txns) q.came (λ n t. string_again (txn_name txns n.0)) (each_any q.came)

  gone_again : IsSmall q.gone → number_in (codes "out") (member (codes "class") queue_class ∷ queue_members) ≡ q.gone
  gone_again small =
      own_number (codes "out") q.gone (member (codes "class") queue_class ∷ queue_members) small
      (after_silent (codes "out") queue_in_parts queue_out (listed_silent (codes "out") (codes "in") (txn_json cat txns) q.came (λ v. refl)))

  pub queue_again : IsSmallQueue q → queue_in (items_of (queue_json cat txns q)) ≡ told_queue cat txns q
  queue_again small =
      let class = string_again (class_word cat q.class.0) in
      let came = came_again in
      let gone = gone_again small in
      ap queue_in queue_items ∙ (λ i. record { class = class i; came = came i; gone = gone i })

  pub whole_queue : IsWhole (queue_json cat txns q)
  whole_queue =
      whole_object (member (codes "class") queue_class) (unless_empty (codes "in") (txn_json cat txns) q.came ++ unless_zero (codes "out") q.gone)
      (whole_member (codes "class") queue_class refl (whole_class cat txns q.class))
      (inner_join (unless_empty (codes "in") (txn_json cat txns) q.came) (unless_zero (codes "out") q.gone)
      (inner_unless_empty (codes "in") (txn_json cat txns) q.came refl (whole_txn cat txns)) (inner_unless_zero (codes "out") q.gone refl))

-- pipes

module _ (cat : Catalogue) (txns : List Txn) (p : PipeDelta) where
  abbrev pipe_class : List (List ℕ)
  pipe_class = one (codes "class") (class_json cat txns p.class)

  abbrev pipe_in_parts : List (List ℕ)
  pipe_in_parts = listed (codes "in") (number_json cat txns) p.came

  abbrev pipe_out : List (List ℕ)
  pipe_out = counted (codes "out") p.processed

  abbrev pipe_passed : List (List ℕ)
  pipe_passed = one (codes "passed") (decimal p.passed.0)

  abbrev pipe_members : List (List ℕ)
  pipe_members = pipe_class ++ (pipe_in_parts ++ (pipe_out ++ pipe_passed))

  abbrev pipe_at : List ℕ
  pipe_at = dm_json cat txns p.dm

  abbrev pipe_text : List ℕ
  pipe_text = also (codes "class") (class_json cat txns p.class) ++ pipe_moves cat txns p

  joined_moves : pipe_moves cat txns p ≡ joined (pipe_in_parts ++ (pipe_out ++ pipe_passed))
  joined_moves =
      (λ i. listed_joined (codes "in") (number_json cat txns) p.came i ++ (counted_joined (codes "out") p.processed i ++ one_joined (codes "passed") (decimal p.passed.0) i))
      ∙ ap (λ t. joined pipe_in_parts ++ t) (sym (joined_more pipe_out pipe_passed)) ∙ sym (joined_more pipe_in_parts (pipe_out ++ pipe_passed))

  joined_text : pipe_text ≡ joined pipe_members
  joined_text =
      (λ i. one_joined (codes "class") (class_json cat txns p.class) i ++ joined_moves i)
      ∙ sym (joined_more pipe_class (pipe_in_parts ++ (pipe_out ++ pipe_passed)))

  whole_members : AllWhole pipe_members
  whole_members =
      all_whole_more pipe_class (pipe_in_parts ++ (pipe_out ++ pipe_passed)) (one_whole (codes "class") (class_json cat txns p.class) refl (whole_class cat txns p.class))
      (all_whole_more pipe_in_parts (pipe_out ++ pipe_passed) (listed_whole (codes "in") (number_json cat txns) p.came refl (λ n. whole_number n))
      (all_whole_more pipe_out pipe_passed (counted_whole (codes "out") p.processed refl)
      (one_whole (codes "passed") (decimal p.passed.0) refl (whole_number p.passed.0))))

  pipe_items : items_of (pipe_json cat txns p) ≡ member (codes "at") pipe_at ∷ pipe_members
  pipe_items =
      object_items (codes "at") pipe_at pipe_text pipe_members joined_text (whole_member (codes "at") pipe_at refl (whole_module cat txns p.dm)) whole_members

  abbrev pipe_all : List (List ℕ)
  pipe_all = member (codes "at") pipe_at ∷ pipe_members

  in_again : AllByRecursion IsSmall p.came → map number_of (list_in (codes "in") pipe_all) ≡ p.came
  in_again small =
      ap (map number_of) (own_list IsSmall (codes "in") (number_json cat txns) p.came pipe_all small some_digit (λ n. whole_number n)
      (before_silent (codes "in") pipe_in_parts (pipe_out ++ pipe_passed)
      (both_silent (codes "in") pipe_out pipe_passed (counted_silent (codes "in") (codes "out") p.processed (λ v. refl))
      (one_silent (codes "in") (codes "passed") (decimal p.passed.0) (λ v. refl)))))
      ∙ each_again IsSmall (number_json cat txns) number_of (λ n. n) p.came number_again small ∙ map_same p.came
    where
      map_same : (ns : List ℕ) → map (λ (n : ℕ). n) ns ≡ ns
      map_same [] = refl
      map_same (n ∷ ns) = ap (λ xs. n ∷ xs) (map_same ns)

  processed_again : IsSmall p.processed → number_in (codes "out") pipe_all ≡ p.processed
  processed_again small =
      own_number (codes "out") p.processed pipe_all small
      (after_silent (codes "out") pipe_in_parts (pipe_out ++ pipe_passed) (listed_silent (codes "out") (codes "in") (number_json cat txns) p.came (λ v. refl))
      ∙ before_silent (codes "out") pipe_out pipe_passed (one_silent (codes "out") (codes "passed") (decimal p.passed.0) (λ v. refl)))

  passed_again : IsSmall p.passed.0 → number_in (codes "passed") pipe_all ≡ p.passed.0
  passed_again small =
      ap (λ o. option_map_or number_of o 0)
      (after_silent (codes "passed") pipe_in_parts (pipe_out ++ pipe_passed) (listed_silent (codes "passed") (codes "in") (number_json cat txns) p.came (λ v. refl))
      ∙ after_silent (codes "passed") pipe_out pipe_passed (counted_silent (codes "passed") (codes "out") p.processed (λ v. refl))
      ∙ found (codes "passed") (decimal p.passed.0) [])
      ∙ number_again p.passed.0 small

  pub pipe_again : IsSmallPipe p → pipe_in (items_of (pipe_json cat txns p)) ≡ told_pipe cat p
  pipe_again small =
      let dm = module_again cat txns p.dm small.0 in
      let class = string_again (class_word cat p.class.0) in
      let came = in_again small.1 in
      let processed = processed_again small.2 in
      let passed = passed_again small.3 in
      ap pipe_in pipe_items ∙ (λ i. record { dm = dm i; class = class i; came = came i; processed = processed i; passed = passed i })

  pub whole_pipe : IsWhole (pipe_json cat txns p)
  whole_pipe =
      whole_object (member (codes "at") pipe_at) pipe_text (whole_member (codes "at") pipe_at refl (whole_module cat txns p.dm))
      (inner_join (also (codes "class") (class_json cat txns p.class)) (pipe_moves cat txns p)
      (inner_also (codes "class") (class_json cat txns p.class) refl (whole_class cat txns p.class))
      (inner_join (unless_empty (codes "in") (number_json cat txns) p.came) (unless_zero (codes "out") p.processed ++ also (codes "passed") (decimal p.passed.0))
      (inner_unless_empty (codes "in") (number_json cat txns) p.came refl (λ n. whole_number n))
      (inner_join (unless_zero (codes "out") p.processed) (also (codes "passed") (decimal p.passed.0)) (inner_unless_zero (codes "out") p.processed refl)
      (inner_number (codes "passed") p.passed.0 refl))))
