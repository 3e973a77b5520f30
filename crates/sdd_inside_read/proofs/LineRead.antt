-- What is read of a line is what its change tells.
use Rattle.std.proofs.Common.{ap, sym, ◌∙◌}
use Rattle.std.specs.Fmt.{decimal}
use Rattle.std.specs.List.{AllByRecursion}
use Rattle.std.specs.Option.{option_map_or}
use Rattle.std.specs.Prelude.{ℕ, ◌≡◌, true, false, if◌then◌else◌, List, [], ◌∷◌, ◌++◌, codes, is_some, map, Option, None, refl}
use Rattle.sdd_inside.specs.Differences.{takes_one}
use Rattle.sdd_inside.specs.Json.{also, member, object}
use Rattle.sdd_inside.specs.Lines.{changes_of, event_members, handed_json, line, link_members, module_members, pipe_json, place_members, put_json, queue_json, round_member, row_delta_json, site_members}
use Rattle.sdd_inside.specs.Standings.{site_state_json}
use Rattle.sdd_inside.specs.Words.{event_json}
use Rattle.sdd_inside.specs.declared.delta.Delta.{Delta}
use Rattle.sdd_inside.specs.declared.delta.Handed.{Handed}
use Rattle.sdd_inside_read.proofs.DigitsPass.{whole_number}
use Rattle.sdd_inside_read.proofs.Ends.{AllWhole, all_whole_more, alone, before_cut, joined, joined_more}
use Rattle.sdd_inside_read.proofs.EventRead.{taking_again}
use Rattle.sdd_inside_read.proofs.FoundRead.{IsApart, found_joined, found_parts, found_silent, found_whole, round_joined, round_parts, round_silent, round_whole, took_is, whole_row_delta}
use Rattle.sdd_inside_read.proofs.JsonPass.{whole_member, whole_object}
use Rattle.sdd_inside_read.proofs.MembersRead.{IsOther, IsSilent, after_silent, before_silent, both_silent, each_again, inner_joined, listed, listed_joined, listed_silent, listed_whole, object_items, one, one_joined, one_silent, one_whole, own_list}
use Rattle.sdd_inside_read.proofs.ModulesRead.{pipe_again, queue_again, whole_pipe, whole_queue}
use Rattle.sdd_inside_read.proofs.NamesPass.{whole_event}
use Rattle.sdd_inside_read.proofs.Passing.{IsWhole}
use Rattle.sdd_inside_read.proofs.PutsRead.{handed_again, put_again, whole_handed, whole_put}
use Rattle.sdd_inside_read.proofs.StandingsPass.{whole_standing}
use Rattle.sdd_inside_read.proofs.StringsPass.{string_again}
use Rattle.sdd_inside_read.specs.LineReader.{handed_in, lines_of, pipe_in, put_in, queue_in, read_line, taking_in, taking_of, told_in}
use Rattle.sdd_inside_read.specs.Pieces.{Newline, first_piece, items_of}
use Rattle.sdd_inside_read.specs.Small.{HasSmallNumbers, IsSmallHanded, IsSmallPipe, IsSmallPut, IsSmallQueue}
use Rattle.sdd_inside_read.specs.Told.{taken_by, taking, told, told_pipe, told_put, told_queue}
use Rattle.sdd_inside_read.specs.Values.{list_in, string_of, value_in, value_of, words_of}
use Rattle.sdd_script.specs.All.{Catalogue, Txn}
use Rattle.sdd_script.specs.Spelling.{event_words}
use Rattle.sdd_script.specs.words.Words.{line_bytes}

-- two members, or lists of such, one behind the other
both_joined : (v w : List ℕ) (ms ns : List (List ℕ)) → v ≡ joined ms → w ≡ joined ns → v ++ w ≡ joined (ms ++ ns)
both_joined v w ms ns h k = (λ i. h i ++ k i) ∙ sym (joined_more ms ns)

-- a name of none of the members of the place in the schedule and of the sites, nor of what was found
record IsOfChanges (name : List ℕ) : Type 0 where
  of : IsOther name (codes "of")
  round : IsOther name (codes "round")
  event : IsOther name (codes "do")
  found : IsApart name
  rows : IsOther name (codes "rows")
  sites : IsOther name (codes "sites")

module _ (cat : Catalogue) (txns : List Txn) (d : Delta) where
  abbrev places : List (List ℕ)
  places = one (codes "of") (decimal d.scheduled) ++ round_parts d.round

  abbrev events : List (List ℕ)
  events = one (codes "do") (event_json txns d.event) ++ found_parts d.found

  abbrev hands : List (List ℕ)
  hands = listed (codes "handed") (handed_json cat txns) d.handed

  abbrev puts : List (List ℕ)
  puts = listed (codes "put") (put_json cat txns) d.put

  abbrev queues : List (List ℕ)
  queues = listed (codes "queues") (queue_json cat txns) d.queues

  abbrev pipes : List (List ℕ)
  pipes = listed (codes "pipes") (pipe_json cat txns) d.pipes

  abbrev sites : List (List ℕ)
  sites = listed (codes "rows") (row_delta_json cat txns) d.rows ++ listed (codes "sites") (site_state_json cat txns) d.sites

  abbrev changed : List (List ℕ)
  changed = (hands ++ puts) ++ ((queues ++ pipes) ++ sites)

  abbrev members : List (List ℕ)
  members = places ++ (events ++ changed)

  abbrev first : List ℕ
  first = member (codes "event") (decimal d.number)

  abbrev text : List ℕ
  text = place_members d ++ (event_members txns d ++ changes_of cat txns d)

  members_joined : text ≡ joined members
  members_joined =
      both_joined (place_members d) (event_members txns d ++ changes_of cat txns d) places (events ++ changed)
      (both_joined (also (codes "of") (decimal d.scheduled)) (round_member d.round) (one (codes "of") (decimal d.scheduled)) (round_parts d.round)
      (one_joined (codes "of") (decimal d.scheduled)) (round_joined d.round))
      (both_joined (event_members txns d) (changes_of cat txns d) events changed
      (both_joined (also (codes "do") (event_json txns d.event)) _ (one (codes "do") (event_json txns d.event)) (found_parts d.found)
      (one_joined (codes "do") (event_json txns d.event)) (found_joined d.found))
      (both_joined (link_members cat txns d) (module_members cat txns d ++ site_members cat txns d) (hands ++ puts) ((queues ++ pipes) ++ sites)
      (both_joined _ _ hands puts (listed_joined (codes "handed") (handed_json cat txns) d.handed) (listed_joined (codes "put") (put_json cat txns) d.put))
      (both_joined (module_members cat txns d) (site_members cat txns d) (queues ++ pipes) sites
      (both_joined _ _ queues pipes (listed_joined (codes "queues") (queue_json cat txns) d.queues) (listed_joined (codes "pipes") (pipe_json cat txns) d.pipes))
      (both_joined _ _ (listed (codes "rows") (row_delta_json cat txns) d.rows) (listed (codes "sites") (site_state_json cat txns) d.sites)
      (listed_joined (codes "rows") (row_delta_json cat txns) d.rows) (listed_joined (codes "sites") (site_state_json cat txns) d.sites)))))

  changed_whole : AllWhole changed
  changed_whole =
      all_whole_more (hands ++ puts) ((queues ++ pipes) ++ sites)
      (all_whole_more hands puts (listed_whole (codes "handed") (handed_json cat txns) d.handed refl (whole_handed cat txns))
      (listed_whole (codes "put") (put_json cat txns) d.put refl (whole_put cat txns)))
      (all_whole_more (queues ++ pipes) sites
      (all_whole_more queues pipes (listed_whole (codes "queues") (queue_json cat txns) d.queues refl (whole_queue cat txns))
      (listed_whole (codes "pipes") (pipe_json cat txns) d.pipes refl (whole_pipe cat txns)))
      (all_whole_more (listed (codes "rows") (row_delta_json cat txns) d.rows) (listed (codes "sites") (site_state_json cat txns) d.sites)
      (listed_whole (codes "rows") (row_delta_json cat txns) d.rows refl (whole_row_delta cat txns))
      (listed_whole (codes "sites") (site_state_json cat txns) d.sites refl (whole_standing cat txns))))

  members_whole : AllWhole members
  members_whole =
      all_whole_more places (events ++ changed)
      (all_whole_more (one (codes "of") (decimal d.scheduled)) (round_parts d.round)
      (one_whole (codes "of") (decimal d.scheduled) refl (whole_number d.scheduled)) (round_whole d.round))
      (all_whole_more events changed
      (all_whole_more (one (codes "do") (event_json txns d.event)) (found_parts d.found)
      (one_whole (codes "do") (event_json txns d.event) refl (whole_event txns d.event)) (found_whole d.found)) changed_whole)

  first_whole : IsWhole first
  first_whole = whole_member (codes "event") (decimal d.number) refl (whole_number d.number)

  -- the members of the line
  line_items : items_of (object first text) ≡ first ∷ members
  line_items = object_items (codes "event") (decimal d.number) text members members_joined first_whole members_whole

  -- the line without its newline
  abbrev pub shown : List ℕ
  shown = object first text

  pub line_whole : IsWhole (object first text)
  line_whole = whole_object first text first_whole (inner_joined text members members_joined members_whole)

  pub line_members : items_of (first_piece (lines_of (line cat txns d))) ≡ first ∷ members
  line_members = ap (λ ps. items_of (first_piece ps)) (before_cut Newline (object first text) [] line_whole) ∙ line_items

  -- which packet was taken

  sites_silent : (name : List ℕ) → IsOther name (codes "rows") → IsOther name (codes "sites") → IsSilent name sites
  sites_silent name h k =
      both_silent name (listed (codes "rows") (row_delta_json cat txns) d.rows) (listed (codes "sites") (site_state_json cat txns) d.sites)
      (listed_silent name (codes "rows") (row_delta_json cat txns) d.rows h) (listed_silent name (codes "sites") (site_state_json cat txns) d.sites k)

  took_in_line : value_of (codes "took") (first ∷ members) ≡ value_of (codes "took") (found_parts d.found)
  took_in_line =
      let name : List ℕ = codes "took" in
      after_silent name places (events ++ changed)
      (both_silent name (one (codes "of") (decimal d.scheduled)) (round_parts d.round) refl (round_silent name d.round (λ v. refl)))
      ∙ before_silent name events changed
      (both_silent name (hands ++ puts) ((queues ++ pipes) ++ sites)
      (both_silent name hands puts (listed_silent name (codes "handed") (handed_json cat txns) d.handed (λ v. refl))
      (listed_silent name (codes "put") (put_json cat txns) d.put (λ v. refl)))
      (both_silent name (queues ++ pipes) sites
      (both_silent name queues pipes (listed_silent name (codes "queues") (queue_json cat txns) d.queues (λ v. refl))
      (listed_silent name (codes "pipes") (pipe_json cat txns) d.pipes (λ v. refl)))
      (sites_silent name (λ v. refl) (λ v. refl))))

  do_in_line : value_in (codes "do") (first ∷ members) ≡ event_json txns d.event
  do_in_line =
      let name : List ℕ = codes "do" in
      ap (λ (o : Option (List ℕ)). option_map_or (λ (v : List ℕ). v) o [])
      (after_silent name places (events ++ changed)
      (both_silent name (one (codes "of") (decimal d.scheduled)) (round_parts d.round) refl (round_silent name d.round (λ v. refl))))

  taking_read : HasSmallNumbers d → taking_of (first ∷ members) ≡ taking d
  taking_read small =
      (λ i. if is_some (took_in_line i) then taking_in (words_of (string_of (do_in_line i))) else None)
      ∙ ap (λ b. if b then taking_in (words_of (string_of (event_json txns d.event))) else None) (took_is d.found)
      ∙ elim (takes_one d.found) as (λ b. takes_one d.found ≡ b
      → (if b then taking_in (words_of (string_of (event_json txns d.event))) else None) ≡ (if b then taken_by d.event else None)) [
        | true ↦ λ e. ap (λ w. taking_in (words_of w)) (string_again (line_bytes (event_words txns d.event)))
            ∙ taking_again txns d.event (λ t h. small.taken t (ap (λ b. if b then taken_by d.event else None) e ∙ h))
        | false ↦ λ e. refl
      ] refl

  -- what changed

  front_silent : (name : List ℕ) → IsOfChanges name → value_of name members ≡ value_of name changed
  front_silent name h =
      after_silent name places (events ++ changed)
      (both_silent name (one (codes "of") (decimal d.scheduled)) (round_parts d.round) (one_silent name (codes "of") (decimal d.scheduled) h.of)
      (round_silent name d.round h.round))
      ∙ after_silent name events changed
      (both_silent name (one (codes "do") (event_json txns d.event)) (found_parts d.found) (one_silent name (codes "do") (event_json txns d.event) h.event)
      (found_silent name d.found h.found))

  modules_silent : (name : List ℕ) → IsOther name (codes "queues") → IsOther name (codes "pipes") → IsOther name (codes "rows") → IsOther name (codes "sites")
      → IsSilent name ((queues ++ pipes) ++ sites)
  modules_silent name h k l m =
      both_silent name (queues ++ pipes) sites
      (both_silent name queues pipes (listed_silent name (codes "queues") (queue_json cat txns) d.queues h)
      (listed_silent name (codes "pipes") (pipe_json cat txns) d.pipes k))
      (sites_silent name l m)

  links_silent : (name : List ℕ) → IsOther name (codes "handed") → IsOther name (codes "put") → IsSilent name (hands ++ puts)
  links_silent name h k =
      both_silent name hands puts (listed_silent name (codes "handed") (handed_json cat txns) d.handed h)
      (listed_silent name (codes "put") (put_json cat txns) d.put k)

  handed_in_line : value_of (codes "handed") (first ∷ members) ≡ value_of (codes "handed") hands
  handed_in_line =
      let name : List ℕ = codes "handed" in
      front_silent name (record { of = λ v. refl; round = λ v. refl; event = λ v. refl; found = record { nothing = λ v. refl; took = λ v. refl; delivered = λ v. refl; acked = λ v. refl }; rows = λ v. refl; sites = λ v. refl })
      ∙ before_silent name (hands ++ puts) ((queues ++ pipes) ++ sites) (modules_silent name (λ v. refl) (λ v. refl) (λ v. refl) (λ v. refl))
      ∙ before_silent name hands puts (listed_silent name (codes "put") (put_json cat txns) d.put (λ v. refl))

  put_in_line : value_of (codes "put") (first ∷ members) ≡ value_of (codes "put") puts
  put_in_line =
      let name : List ℕ = codes "put" in
      front_silent name (record { of = λ v. refl; round = λ v. refl; event = λ v. refl; found = record { nothing = λ v. refl; took = λ v. refl; delivered = λ v. refl; acked = λ v. refl }; rows = λ v. refl; sites = λ v. refl })
      ∙ before_silent name (hands ++ puts) ((queues ++ pipes) ++ sites) (modules_silent name (λ v. refl) (λ v. refl) (λ v. refl) (λ v. refl))
      ∙ after_silent name hands puts (listed_silent name (codes "handed") (handed_json cat txns) d.handed (λ v. refl))

  queues_in_line : value_of (codes "queues") (first ∷ members) ≡ value_of (codes "queues") queues
  queues_in_line =
      let name : List ℕ = codes "queues" in
      front_silent name (record { of = λ v. refl; round = λ v. refl; event = λ v. refl; found = record { nothing = λ v. refl; took = λ v. refl; delivered = λ v. refl; acked = λ v. refl }; rows = λ v. refl; sites = λ v. refl })
      ∙ after_silent name (hands ++ puts) ((queues ++ pipes) ++ sites) (links_silent name (λ v. refl) (λ v. refl))
      ∙ before_silent name (queues ++ pipes) sites (sites_silent name (λ v. refl) (λ v. refl))
      ∙ before_silent name queues pipes (listed_silent name (codes "pipes") (pipe_json cat txns) d.pipes (λ v. refl))

  pipes_in_line : value_of (codes "pipes") (first ∷ members) ≡ value_of (codes "pipes") pipes
  pipes_in_line =
      let name : List ℕ = codes "pipes" in
      front_silent name (record { of = λ v. refl; round = λ v. refl; event = λ v. refl; found = record { nothing = λ v. refl; took = λ v. refl; delivered = λ v. refl; acked = λ v. refl }; rows = λ v. refl; sites = λ v. refl })
      ∙ after_silent name (hands ++ puts) ((queues ++ pipes) ++ sites) (links_silent name (λ v. refl) (λ v. refl))
      ∙ before_silent name (queues ++ pipes) sites (sites_silent name (λ v. refl) (λ v. refl))
      ∙ after_silent name queues pipes (listed_silent name (codes "queues") (queue_json cat txns) d.queues (λ v. refl))

  handed_read : AllByRecursion IsSmallHanded d.handed → map (λ (h : List ℕ). handed_in (items_of h)) (list_in (codes "handed") (first ∷ members)) ≡ d.handed
  handed_read small =
      ap (map (λ (h : List ℕ). handed_in (items_of h)))
      (own_list IsSmallHanded (codes "handed") (handed_json cat txns) d.handed (first ∷ members) small (λ h s. (91, _, refl)) (whole_handed cat txns) handed_in_line)
      ∙ each_again IsSmallHanded (handed_json cat txns) (λ (h : List ℕ). handed_in (items_of h)) (λ h. h) d.handed (handed_again cat txns) small ∙ map_same d.handed
    where
      map_same : (hs : List Handed) → map (λ (h : Handed). h) hs ≡ hs
      map_same [] = refl
      map_same (h ∷ hs) = ap (λ xs. h ∷ xs) (map_same hs)

  put_read : AllByRecursion IsSmallPut d.put → map (λ (p : List ℕ). put_in (items_of p)) (list_in (codes "put") (first ∷ members)) ≡ map (told_put cat txns) d.put
  put_read small =
      ap (map (λ (p : List ℕ). put_in (items_of p)))
      (own_list IsSmallPut (codes "put") (put_json cat txns) d.put (first ∷ members) small (λ p s. (91, _, refl)) (whole_put cat txns) put_in_line)
      ∙ each_again IsSmallPut (put_json cat txns) (λ (p : List ℕ). put_in (items_of p)) (told_put cat txns) d.put (put_again cat txns) small

  queues_read : AllByRecursion IsSmallQueue d.queues
      → map (λ (q : List ℕ). queue_in (items_of q)) (list_in (codes "queues") (first ∷ members)) ≡ map (told_queue cat txns) d.queues
  queues_read small =
      ap (map (λ (q : List ℕ). queue_in (items_of q)))
      (own_list IsSmallQueue (codes "queues") (queue_json cat txns) d.queues (first ∷ members) small (λ q s. (123, _, refl)) (whole_queue cat txns) queues_in_line)
      ∙ each_again IsSmallQueue (queue_json cat txns) (λ (q : List ℕ). queue_in (items_of q)) (told_queue cat txns) d.queues (queue_again cat txns) small

  pipes_read : AllByRecursion IsSmallPipe d.pipes
      → map (λ (p : List ℕ). pipe_in (items_of p)) (list_in (codes "pipes") (first ∷ members)) ≡ map (told_pipe cat) d.pipes
  pipes_read small =
      ap (map (λ (p : List ℕ). pipe_in (items_of p)))
      (own_list IsSmallPipe (codes "pipes") (pipe_json cat txns) d.pipes (first ∷ members) small (λ p s. (123, _, refl)) (whole_pipe cat txns) pipes_in_line)
      ∙ each_again IsSmallPipe (pipe_json cat txns) (λ (p : List ℕ). pipe_in (items_of p)) (told_pipe cat) d.pipes (pipe_again cat txns) small

  pub told_again : HasSmallNumbers d → told_in (first ∷ members) ≡ told cat txns d
  told_again small =
      let taken = taking_read small in
      let handed = handed_read small.handed in
      let put = put_read small.put in
      let queued = queues_read small.queues in
      let piped = pipes_read small.pipes in
      λ i. record { taking = taken i; handed = handed i; put = put i; queues = queued i; pipes = piped i }

  pub shown_again : HasSmallNumbers d → read_line shown ≡ told cat txns d
  shown_again small =
      ap (λ ps. told_in (items_of (first_piece ps))) (alone Newline shown line_whole) ∙ ap told_in line_items ∙ told_again small

  pub line_again : HasSmallNumbers d → read_line (line cat txns d) ≡ told cat txns d
  line_again small = ap told_in line_members ∙ told_again small
