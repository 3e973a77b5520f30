-- What the tables say is what the log says.
use Rattle.sdd_control.proofs.All.{Act, Adds, Bool, Deliver, FitsAct, List, Log, Message, None, Note, NoteFits, Nothing, Option, Some, State, Stop, TakesAct, Tracks, Val, all_answered, answered, answered_in, ap, arith, arrival, arrival_in, cases_Bool, cases_lt, cond, every_from, false, finished, first_from, greatest_of, has_stopped, heir, heir_in, inl, inr, is_from_above, is_ok, is_tell, is_write, knows, knows_in, last, last_number, leads, lt-ltb, may_send, messages_in, nat_lt, nat_tests, next_number_in, next_send, next_send_in, next_untold_site, not, note_in, note_of, noted, number_after, refl, send, suc, sym, taken_in, true, untold, untold_in, unwritten, value, value_by, value_in, zero, ℕ, ◌&&◌, ◌+◌, ◌-◌, ◌<◌, ◌==◌, ◌||◌, ◌∙◌, ◌∷◌, ◌≡◌, ◌≤◌}
use Rattle.sdd_control.proofs.Above.{above_is_last}
use Rattle.sdd_control.proofs.Kept.{Kept}
use Rattle.sdd_control.proofs.Lists.{first_at}
use Rattle.sdd_control.proofs.Numbers.{Numbered}

pub every_same : (p q : ℕ → Bool) (k n : ℕ) → ((j : ℕ) → k ≤ j → j < k + n → p j ≡ q j) → every_from p k n ≡ every_from q k n
every_same p q k zero same = refl
every_same p q k (suc n) same = grind (arith, (every_same p q (k + 1) n (λ j l m. same j (omega arith) (omega arith))))

pub first_same : (p q : ℕ → Bool) (k n : ℕ) → ((j : ℕ) → k ≤ j → j < k + n → p j ≡ q j) → first_from p k n ≡ first_from q k n
first_same p q k zero same = refl
first_same p q k (suc n) same = grind (arith, (first_same p q (k + 1) n (λ j l m. same j (omega arith) (omega arith))))

-- the first number that passes is c + 1
first_after : (p : ℕ → Bool) (c k n : ℕ) → ((j : ℕ) → k ≤ j → j ≤ c → p j ≡ false) → p (c + 1) ≡ true → k ≤ c + 1
    → first_from p k n ≡ cond (nat_lt (c + 1) (k + n)) (Some (c + 1)) None
first_after p c k zero below here l =
    let f : nat_lt (c + 1) (k + 0) ≡ false = grind (arith, nat_tests) in
    sym (ap (λ t. cond {A = Option ℕ} t (Some (c + 1)) None) f)
first_after p c k (suc n) below here l =
    elim (cases_lt c k) [
      | inl above ↦ grind (arith, nat_tests, nat_lt, lt-ltb, first_from)
      | inr m ↦ grind (arith, nat_tests, first_from, nat_lt, (first_after p c (k + 1) n (λ j u v. below j (omega arith) v) here (omega arith)))
    ]

above_one : (c writes : ℕ) → nat_lt (c + 1) (1 + writes) ≡ nat_lt c writes
above_one c writes = grind (arith, nat_tests)

-- the least number that i hasn't written is the one after its last
number_after_last : (writes : ℕ) (log : Log) → Numbered writes log → (i : ℕ) → unwritten writes log i ≡ number_after writes (last_number log i)
number_after_last writes log h i =
    first_after test (last_number log i) 1 writes below here (omega arith) ∙ ap (λ z. cond {A = Option ℕ} z (Some (last_number log i + 1)) None)
    (above_one (last_number log i) writes)
  where
    test : ℕ → Bool
    test k = not (noted (is_write i k) log)

    below : (j : ℕ) → 1 ≤ j → j ≤ last_number log i → test j ≡ false
    below j l m = ap not (h.wrote i j l m)

    here : test (last_number log i + 1) ≡ true
    here =
        elim (cases_Bool (noted (is_write i (last_number log i + 1)) log)) [
          | inl e ↦ let g = h.within i (last_number log i + 1) e in let u = g.1 in absurd (omega arith)
          | inr e ↦ ap not e
        ]

send_same : (i : ℕ) {may may' : Bool} {to to' : Option ℕ} {all all' : Bool} {val val' : Val} {left left' : Option ℕ}
    → may ≡ may' → to ≡ to' → all ≡ all' → val ≡ val' → left ≡ left' → send i may to all val left ≡ send i may' to' all' val' left'
send_same i a b c d e = cc

module _ (st : State) (log : Log) (t : Tracks st log) where
  heir_same : (i : ℕ) → i ≤ st.backups → heir_in st i ≡ heir log i
  heir_same i l = every_same (knows_in st i) (λ z. knows log i z) 0 i (λ j m u. t.known i j l (omega arith))

  pub value_same : (i : ℕ) → i ≤ st.backups → value_in st i ≡ value log i
  value_same i l = ap (λ z. value_by z (i == 0) (heir_in st i)) (t.values i l) ∙ ap (value_by (last log i) (i == 0)) (heir_same i l)

  untold_same : (i j : ℕ) → i ≤ st.backups → j ≤ st.backups → untold_in st i j ≡ untold log i j
  untold_same i j l m = ap (λ z. not z && not (knows_in st i j)) (t.told i j l m) ∙ ap (λ z. not (noted (is_tell i j) log) && not z) (t.known i j l m)

  answered_same : (i j : ℕ) → i ≤ st.backups → j ≤ st.backups → answered_in st i j ≡ answered log i j
  answered_same i j l m = ap (λ z. z || knows_in st i j) (t.heard i j l m) ∙ ap (λ z. noted (is_ok i j) log || z) (t.known i j l m)

  next_untold_same : (i : ℕ) → i ≤ st.backups → first_from (untold_in st i) (i + 1) (st.backups - i) ≡ next_untold_site st.backups log i
  next_untold_same i l = first_same (untold_in st i) (untold log i) (i + 1) (st.backups - i) (λ j m u. untold_same i j l (omega arith))

  all_answered_same : (i : ℕ) → i ≤ st.backups → every_from (answered_in st i) (i + 1) (st.backups - i) ≡ all_answered st.backups log i
  all_answered_same i l = every_same (answered_in st i) (answered log i) (i + 1) (st.backups - i) (λ j m u. answered_same i j l (omega arith))

  may_send_same : (i : ℕ) → i ≤ st.backups → may_send st i ≡ (leads log i && not (finished log i))
  may_send_same i l = rw (t.stopped i l, heir_same i l, t.finished i l) refl

  next_number_same : Numbered st.writes log → (i : ℕ) → i ≤ st.backups → next_number_in st i ≡ unwritten st.writes log i
  next_number_same h i l = ap (number_after st.writes) (t.numbers i l) ∙ sym (number_after_last st.writes log h i)

  next_send_same : Numbered st.writes log → (i : ℕ) → i ≤ st.backups → next_send_in st i ≡ next_send st.backups st.writes log i
  next_send_same h i l = send_same i (may_send_same i l) (next_untold_same i l) (all_answered_same i l) (value_same i l) (next_number_same h i l)

  arrival_same : Kept st.backups st.writes log → (i j : ℕ) → i ≤ st.backups → j ≤ st.backups
      → arrival_in st i j ≡ note_of st.backups st.writes log (Deliver i j)
  arrival_same k i j l m = rw (t.stopped j m, t.links i j l m, t.values j m, above_is_last st.backups st.writes log k i j) refl

  pub note_same : Kept st.backups st.writes log → Numbered st.writes log → (act : Act)
      → FitsAct st.backups act → note_in st act ≡ note_of st.backups st.writes log act
  note_same k h act l = grind (arith, nat_tests, next_send_same, arrival_same)

-- the sites of a note exist
send_fits : (backups i : ℕ) (may : Bool) (to : Option ℕ) (all : Bool) (val : Val) (left : Option ℕ)
    → i ≤ backups → ((j : ℕ) → to ≡ Some j → j ≤ backups) → NoteFits backups (send i may to all val left)
send_fits backups i may to all val left l m = grind (arith, nat_tests)

arrival_fits : (backups : ℕ) (halted : Bool) (messages : List Message) (above : Bool) (i j : ℕ)
    → i ≤ backups → j ≤ backups → NoteFits backups (arrival halted messages above i j)
arrival_fits backups halted messages above i j l m = grind (arith, nat_tests)

halt_fits : (backups i : ℕ) (halted : Bool) → i ≤ backups → NoteFits backups (cond halted Nothing (Stop i))
halt_fits backups i halted l = grind (arith, nat_tests)

pub note_fits : (st : State) (act : Act) → FitsAct st.backups act → NoteFits st.backups (note_in st act)
note_fits st act l = grind (
  arith,
  nat_tests,
  send_fits,
  may_send,
  first_from,
  untold_in,
  every_from,
  answered_in,
  value_in,
  next_number_in,
  first_at,
  arrival_fits,
  has_stopped,
  messages_in,
  is_from_above,
  taken_in,
  halt_fits,
)

-- the tables follow the log with one event more
pub tracks_on : (old mid new : State) (log : Log) (act : Act) (note : Note)
    → Tracks old log → TakesAct old mid act → Adds mid new note → Tracks new (record { act = act; note = note } ∷ log)
tracks_on old mid new log act note t taking adding = record {
  stopped = λ i l. rw (adding.stopped i (up i l), taking.others, t.stopped i (back i l)) refl;
  finished = λ i l. rw (adding.finished i (up i l), taking.others, t.finished i (back i l)) refl;
  values = λ i l. rw (adding.values i (up i l), taking.others, t.values i (back i l)) refl;
  numbers = λ i l. rw (adding.numbers i (up i l), taking.others, t.numbers i (back i l)) refl;
  known = λ i j l m. rw (adding.known i j (up i l) (up j m), taking.others, t.known i j (back i l) (back j m)) refl;
  told = λ i j l m. rw (adding.told i j (up i l) (up j m), taking.others, t.told i j (back i l) (back j m)) refl;
  heard = λ i j l m. rw (adding.heard i j (up i l) (up j m), taking.others, t.heard i j (back i l) (back j m)) refl;
  links = λ i j l m. rw (
    adding.links i j (up i l) (up j m),
    taking.links i j (back i l) (back j m),
    t.links i j (back i l)
        (back j m),
  ) refl;
  most = adding.most ∙ ap (λ (z : State). greatest_of note z.most) taking.others ∙ ap (greatest_of note) t.most;
}
  where
    same_backups : mid.backups ≡ old.backups
    same_backups = ap (λ (z : State). z.backups) taking.others

    up : (i : ℕ) → i ≤ new.backups → i ≤ mid.backups
    up i l = let e = adding.backups in omega arith

    back : (i : ℕ) → i ≤ new.backups → i ≤ old.backups
    back i l = let e = adding.backups in let f = same_backups in omega arith
