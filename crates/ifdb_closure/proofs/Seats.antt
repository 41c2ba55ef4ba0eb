-- The script's seats: what a room says of them, who has a principal, and how they go on by a line and by OPEN.
use Rattle.std.proofs.Common.{◌≡◌, ◌≢◌, ℕ, zero, suc, ◌+◌, ◌-◌, ◌<◌, ◌≤◌, Bool, true, false, List, [], ◌∷◌, ◌++◌, length, map, get_or, set, refl, sym, ap, subst, ◌∙◌, arith, cond, ◌&&◌, ltb, Some, None, Option, inl, inr, Ok, Err, Result}
use Rattle.std.specs.Prelude.{is_some, ◌==◌}
use Rattle.std.proofs.lemmas.Bool.{false≢true, ltb-true, lt-ltb, cases_lt}
use Rattle.std.proofs.lemmas.Bool.Decides.{nat_tests}
use Rattle.std.proofs.lemmas.List.{append-nil, map-append, length-append, length-map, get_or_append_left, get_or-append_right, get_or-set_same, get_or-set_other}
use Rattle.ifdb_label.specs.Tags.{are_made}
use Rattle.ifdb_syntax.specs.declared.request.Request.{Request}
use Rattle.ifdb_syntax.specs.declared.request.Request.TheVariants as request
use Rattle.ifdb_wire.specs.declared.fault.Fault.{Fault}
use Rattle.ifdb_wire.specs.declared.fault.Fault.TheVariants as fault
use Rattle.ifdb_wire.specs.declared.reply.Reply.{Reply}
use Rattle.ifdb_wire.specs.declared.reply.Reply.TheVariants as reply
use Rattle.ifdb_wire.specs.Text.{reply_text}
use Rattle.ifdb_catalog.specs.Public.{Public, KnownTag, tag_names, tags_of, principal_named, is_key}
use Rattle.ifdb_model.specs.Log.{Entry, public_of}
use Rattle.ifdb_model.specs.Session.{Session, new_session, no_session}
use Rattle.ifdb_model.specs.Step.{Outcome, tells, refuses, form_of, greeted as greets_by, welcomed, ask_new, ask_by, ask_read, ask}
use Rattle.ifdb_model.specs.Run.{State, opening, session_of, opens, asks, with_outcome, next, outcome_of, run, tell}
use Rattle.ifdb_model.specs.Output.{texts}
use Rattle.ifdb_model.proofs.Runs.{run-append}
use Rattle.ifdb_laws.proofs.Shapes.{Shape, stayed, greeted_as, relabelled_to, begun, ended, published, joined, wrote, done, shape}
use Rattle.ifdb_laws.proofs.two_worlds.Sound.{opening_sound, run_sound, session_sound}
use Rattle.ifdb_db.specs.Client.{session_at}
use Rattle.ifdb_db.specs.Reading.{read_line}
use Rattle.ifdb_db.specs.Room.{Hall, StandsFor, client_in}
use Rattle.ifdb_db.specs.RoomSteps.{GoesBy}
use Rattle.ifdb_db.proofs.RoomLaws.{same_session, as_many}
use Rattle.ifdb_closure.specs.declared.stage.Seat.{Seat}
use Rattle.ifdb_closure.specs.Numbers.{are_numbers, number_at, thin}
use Rattle.ifdb_closure.specs.Closures.{Greeting, Closure, Greeted, greeting_in, World, seated, hello_of, is_done, greeted, asks_plain, turn, after_turn}
use Rattle.ifdb_closure.specs.Speaking.{speech}
use Rattle.ifdb_closure.specs.Standing.{no_seat, seat_at, IsGreeted, Stands}
use Rattle.ifdb_closure.proofs.Thinning.{get_map, thin_session, open_place, numbers_push, one_other, one_itself, open_old, open_same, same_asks, number_within}
use Rattle.ifdb_closure.proofs.Twins.{asks_count}
use Rattle.ifdb_closure.proofs.Worlds.{greet_other}

-- ---- what a room says of a seat

pub one_text : (n : ℕ) (r : Reply) → reply_text (Some n) r ≡ texts (tell n r)
one_text n r = sym (append-nil (reply_text (Some n) r))

number_of_seats : (seats : List Seat) (n : ℕ) → number_at (map (λ (s : Seat). s.session) seats) n ≡ (seat_at seats n).session
number_of_seats seats n = by (ltb 0 n) where
  by : (b : Bool) → cond b (get_or (map (λ (s : Seat). s.session) seats) (n - 1) 0) 0 ≡ (cond b (get_or seats (n - 1) no_seat) no_seat).session
  by true = get_map (λ (s : Seat). s.session) seats (n - 1) no_seat 0 refl
  by false = refl

module _ (hall : Hall) (seats : List Seat) (closures : List Closure) (w : World) (s : Stands hall seats closures w) where
  pub number_is : (n : ℕ) → number_at w.seats n ≡ (seat_at seats n).session
  number_is n = ap (λ l. number_at l n) (sym s.seats_are) ∙ number_of_seats seats n

  pub session_is : (n : ℕ) → seated w n ≡ session_at (client_in hall (seat_at seats n).session)
  session_is n = ap (session_of w.state) (number_is n) ∙ same_session hall w.state s.room (seat_at seats n).session

  pub public_is : hall.desk.seen.public ≡ public_of w.state.log
  public_is = λ i. (s.room.desk.seen i).public

  -- as many seats as numbers
  pub seats_count : length w.seats ≡ length seats
  seats_count = ap length (sym s.seats_are) ∙ length-map seats (λ (x : Seat). x.session)

  -- the tags of a session's label are made
  pub label_made : (n : ℕ) → are_made (length (tag_names hall.desk.seen.public)) (client_in hall (seat_at seats n).session).label ≡ true
  label_made n =
      let sound = run_sound read_line opening s.past opening_sound in
      let made = (session_sound (run read_line opening s.past) sound (number_at w.seats n)).label_made in
      let here : are_made (length (tags_of (public_of w.state.log))) (seated w n).label ≡ true =
      (λ i. are_made (length (tags_of (public_of (s.ran i).log))) (session_of (s.ran i) (number_at w.seats n)).label) ∙ made in
      let names : length (tag_names hall.desk.seen.public) ≡ length (tags_of hall.desk.seen.public) =
      length-map hall.desk.seen.public.tags (λ (t : KnownTag). t.name) ∙ sym (length-map hall.desk.seen.public.tags (λ (t : KnownTag). t.made)) in
      (λ i. are_made (names i) (client_in hall (seat_at seats n).session).label)
      ∙ (λ i. are_made (length (tags_of (public_is i))) (sym (session_is n) i).label) ∙ here

-- ---- who has a principal

pub greeted_same : (v w : World) (n : ℕ) (o : Option Greeting) → (seated w n).principal ≡ (seated v n).principal → greeting_in w.greetings n ≡ greeting_in v.greetings n
    → IsGreeted v n o → IsGreeted w n o
greeted_same v w n None p g h = ap is_some p ∙ h
greeted_same v w n (Some x) p g h = (ap is_some p ∙ h.0, g ∙ h.1)

-- what holds of the last and of what stands nowhere holds from there on
from_last : {X Y : Type 0} (f : X → Y) (xs : List X) (x d : X) (i : ℕ) (y : Y) → f x ≡ y → f d ≡ y → length xs ≤ i → f (get_or (xs ++ x ∷ []) i d) ≡ y
from_last f xs x d i y h k le =
    ap f (get_or-append_right xs (x ∷ []) (length xs) i d refl le) ∙ by (i - length xs) where
      by : (j : ℕ) → f (get_or (x ∷ []) j d) ≡ y
      by zero = h
      by (suc j) = k

-- HELLO alone gives a principal, where it is accepted; nothing takes it away
named_so : (p : Public) (s : Session) (name key : List ℕ) (o : Option ℕ) → is_some s.principal ≡ false
    → is_some (greets_by p s key o).session.principal ≡ is_done (greets_by p s key o).reply
named_so p s name key None h = h
named_so p s name key (Some k) h = by (is_key p k key) where
  by : (b : Bool) → let o = cond b (tells (welcomed p s k) reply.Done) (refuses s fault.BadKey) in is_some o.session.principal ≡ is_done o.reply
  by true = refl
  by false = h

new_so : (log : List Entry) (s : Session) (r : Request) → is_some s.principal ≡ false
    → is_some (ask_new log s (form_of r)).session.principal ≡ (is_some (hello_of (Ok r)) && is_done (ask_new log s (form_of r)).reply)
new_so log s (request.Hello name key) h = named_so (public_of log) s name key (principal_named (public_of log) name) h
new_so log s (request.CreatePrincipal name key clearance) h = h
new_so log s (request.CreateTag name compound parents) h = h
new_so log s (request.CreateTable name columns key foreign) h = h
new_so log s (request.CreateView name select tags) h = h
new_so log s (request.Grant tag to) h = h
new_so log s (request.Revoke tag from) h = h
new_so log s (request.SetLabel tags) h = h
new_so log s request.ShowLabel h = h
new_so log s request.Begin h = h
new_so log s request.Commit h = h
new_so log s request.Rollback h = h
new_so log s request.Bye h = h
new_so log s (request.Select select) h = h
new_so log s (request.Insert table columns rows tags) h = h
new_so log s (request.Update table assignments cond tags) h = h
new_so log s (request.Delete table cond) h = h

-- of a session without one
pub stranger_so : (log : List Entry) (s : Session) (line : Result Request Fault) → is_some s.principal ≡ false
    → is_some (ask_read log s line).session.principal ≡ (is_some (hello_of line) && is_done (ask_read log s line).reply)
stranger_so log s (Err f) h = h
stranger_so log s (Ok r) h = by s.principal refl h where
  by : (o : Option ℕ) → s.principal ≡ o → is_some o ≡ false → is_some (ask_by log s o r).session.principal ≡ (is_some (hello_of (Ok r)) && is_done (ask_by log s o r).reply)
  by None e k = new_so log s r h
  by (Some asker) e k = absurd (false≢true (sym k))

-- of one that has one
shape_so : (log : List Entry) (s : Session) (line : Result Request Fault) (o : Outcome) → Shape log s line o → is_some s.principal ≡ true → is_some o.session.principal ≡ true
shape_so log s line o (stayed r) h = h
shape_so log s line o (greeted_as n g lt) h = refl
shape_so log s line o (relabelled_to asker r label p x y) h = h
shape_so log s line o (begun t) h = h
shape_so log s line o (ended b r why) h = h
shape_so log s line o (published asker r c l t e f g) h = h
shape_so log s line o (joined asker r b x w i t k) h = h
shape_so log s line o (wrote asker r b w i t k d) h = h
shape_so log s line o (done x t j) h = h

-- and is never greeted again
again_so : (log : List Entry) (s : Session) (n : ℕ) (line : Result Request Fault) → is_some s.principal ≡ true → greeted n (hello_of line) (is_done (ask_read log s line).reply) ≡ []
again_so log s n (Err f) h = refl
again_so log s n (Ok (request.Hello name key)) h = by s.principal h where
  by : (o : Option ℕ) → is_some o ≡ true → greeted n (hello_of (Ok (request.Hello name key))) (is_done (ask_by log s o (request.Hello name key)).reply) ≡ []
  by None k = absurd (false≢true k)
  by (Some asker) k = refl
again_so log s n (Ok _) h = refl

-- nor is one that isn't open
pub greeted_open : (st : State) (k n : ℕ) (line : List ℕ) → ((session_of st k).is_open ≡ true → greeted n (hello_of (read_line line)) (is_done (ask read_line st.log (session_of st k) line).reply) ≡ [])
    → greeted n (hello_of (read_line line)) (is_done (outcome_of read_line st k line).reply) ≡ []
greeted_open st k n line h = by (session_of st k).is_open refl where
  none : (o : Option Greeting) → greeted n o false ≡ []
  none None = refl
  none (Some g) = refl

  by : (b : Bool) → (session_of st k).is_open ≡ b
      → greeted n (hello_of (read_line line)) (is_done (cond b (ask read_line st.log (session_of st k) line) (refuses (session_of st k) fault.NoSession)).reply) ≡ []
  by true e = h e
  by false e = none (hello_of (read_line line))

-- ---- a line of the server's own

module _ (st : State) (ks : List ℕ) (rise : are_numbers 0 (length st.sessions) ks ≡ true) (n : ℕ) (line : List ℕ) where
  abbrev k : ℕ
  k = number_at ks n

  -- the others are as they were
  pub other_seat : (m : ℕ) → (n == m) ≡ false → session_of (next read_line st (asks k line)) (number_at ks m) ≡ session_of st (number_at ks m)
  other_seat m e = sym (thin_session (next read_line st (asks k line)) ks m) ∙ ap (λ (u : State). session_of u m) (same_asks read_line st ks rise n line)
      ∙ by (session_of (thin st ks) n).is_open refl ∙ thin_session st ks m where
        apart : n ≢ m
        apart q = let no : true ≡ false = grind (arith, nat_tests) in false≢true (sym no)

        by : (b : Bool) → (session_of (thin st ks) n).is_open ≡ b
            → session_of (cond b (with_outcome (thin st ks) n (ask read_line st.log (session_of (thin st ks) n) line)) (thin st ks)) m ≡ session_of (thin st ks) m
        by true o =
            let p = open_place st ks n (ap (λ (s : Session). s.is_open) (sym (thin_session st ks n)) ∙ o) in
            one_other (thin st ks) m n (ask read_line st.log (session_of (thin st ks) n) line).session p.some apart
        by false o = refl

  -- the one that asked is what it was answered, if it was open
  pub own_seat : (session_of st k).is_open ≡ true → session_of (next read_line st (asks k line)) k ≡ (ask read_line st.log (session_of st k) line).session
  own_seat o =
      let place = open_place st ks n o in
      let within = number_within (length st.sessions) ks n rise place in
      ap (λ b. session_of (cond b (with_outcome st k (ask read_line st.log (session_of st k) line)) st) k) o
      ∙ one_itself st k (ask read_line st.log (session_of st k) line).session within.0 within.1

  -- it has a principal behind the line where it had one, or was greeted
  pub own_principal : is_some (session_of st k).principal ≡ false
      → is_some (session_of (next read_line st (asks k line)) k).principal
      ≡ (is_some (hello_of (read_line line)) && is_done (outcome_of read_line st k line).reply)
  own_principal h = by (session_of st k).is_open refl where
    none : (b : Bool) → false ≡ (b && false)
    none true = refl
    none false = refl

    by : (b : Bool) → (session_of st k).is_open ≡ b → is_some (session_of (next read_line st (asks k line)) k).principal
        ≡ (is_some (hello_of (read_line line)) && is_done (cond b (ask read_line st.log (session_of st k) line) (refuses (session_of st k) fault.NoSession)).reply)
    by true o = ap (λ (s : Session). is_some s.principal) (own_seat o) ∙ stranger_so st.log (session_of st k) (read_line line) h
    by false o =
        ap (λ b. is_some (session_of (cond b (with_outcome st k (ask read_line st.log (session_of st k) line)) st) k).principal) o ∙ h
        ∙ none (is_some (hello_of (read_line line)))

  pub kept_principal : is_some (session_of st k).principal ≡ true → is_some (session_of (next read_line st (asks k line)) k).principal ≡ true
  kept_principal h = by (session_of st k).is_open refl where
    by : (b : Bool) → (session_of st k).is_open ≡ b → is_some (session_of (next read_line st (asks k line)) k).principal ≡ true
    by true o =
        ap (λ (s : Session). is_some s.principal) (own_seat o)
        ∙ shape_so st.log (session_of st k) (read_line line) (ask read_line st.log (session_of st k) line) (shape read_line st.log (session_of st k) line) h
    by false o = ap (λ b. is_some (session_of (cond b (with_outcome st k (ask read_line st.log (session_of st k) line)) st) k).principal) o ∙ h

  pub kept_ungreeted : is_some (session_of st k).principal ≡ true → greeted n (hello_of (read_line line)) (is_done (outcome_of read_line st k line).reply) ≡ []
  kept_ungreeted h = greeted_open st k n line (λ o. again_so st.log (session_of st k) n (read_line line) h)

-- an accepted HELLO was that of an open session
greets_open : (st : State) (k : ℕ) (line : List ℕ) (b : Bool) → (b && is_done (outcome_of read_line st k line).reply) ≡ true → (session_of st k).is_open ≡ true
greets_open st k line b h = by (session_of st k).is_open refl where
  never : (c : Bool) → (c && false) ≡ true → ⊥
  never true e = false≢true e
  never false e = false≢true e

  by : (c : Bool) → (session_of st k).is_open ≡ c → c ≡ true
  by true e = refl
  by false e =
      let o = ap (λ d. (cond d (ask read_line st.log (session_of st k) line) (refuses (session_of st k) fault.NoSession)).reply) e in
      absurd (never b (ap (λ r. b && is_done r) (sym o) ∙ h))

-- the greeting of one who was greeted now
greeted_now : (w : World) (n : ℕ) (o : Option Greeting) (b : Bool) (gs : List Greeted) → w.greetings ≡ greeted n o b ++ gs → is_some (seated w n).principal ≡ true
    → (is_some o && b) ≡ true → IsGreeted w n o
greeted_now w n None b gs e p h = absurd (false≢true h)
greeted_now w n (Some g) false gs e p h = absurd (false≢true h)
greeted_now w n (Some g) true gs e p h =
    let itself : (n == n) ≡ true = grind (arith, nat_tests) in
    (p, ap (λ l. greeting_in l n) e ∙ ap (λ c. cond c g (greeting_in gs n)) itself)

module _ (old new : Hall) (seats : List Seat) (closures : List Closure) (w : World) (s : Stands old seats closures w) (n : ℕ) (line : List ℕ)
    (goes : GoesBy old new (asks (seat_at seats n).session line)) where
  abbrev number : ℕ
  number = number_at w.seats n

  abbrev after : World
  after = after_turn speech w (asks_plain speech w n line)

  abbrev hello : Option Greeting
  hello = hello_of (read_line line)

  abbrev accepted : Bool
  accepted = is_done (outcome_of read_line w.state number line).reply

  room_on : StandsFor new after.state
  room_on = subst (λ j. StandsFor new (next read_line w.state (asks j line))) (sym (number_is old seats closures w s n)) (goes w.state s.room)

  -- of the one that asked the room says the same
  pub principal_says : is_some (seated after n).principal ≡ is_some (client_in new (seat_at seats n).session).principal
  principal_says =
      ap (λ (x : Session). is_some x.principal) (same_session new after.state room_on number)
      ∙ ap (λ j. is_some (client_in new j).principal) (number_is old seats closures w s n)

  asked_stands : (more : List Seat) → map (λ (x : Seat). x.session) more ≡ map (λ (x : Seat). x.session) seats
      → ((m : ℕ) → (n == m) ≡ false → (seat_at more m).greeting ≡ (seat_at seats m).greeting) → IsGreeted after n (seat_at more n).greeting
      → Stands new more closures after
  asked_stands more same others own = record {
    room = room_on;
    seats_are = same ∙ s.seats_are;
    rise = ap (λ m. are_numbers 0 m w.seats) (asks_count read_line w.state number line) ∙ s.rise;
    greeted = λ m. by m (n == m) refl;
    closures_are = s.closures_are;
    past = s.past ++ asks number line ∷ [];
    ran = ap (λ st. run read_line st (asks number line ∷ [])) s.ran ∙ sym (run-append read_line opening s.past (asks number line ∷ []));
  } where
    by : (m : ℕ) (b : Bool) → (n == m) ≡ b → IsGreeted after m (seat_at more m).greeting
    by m true e = let q : n ≡ m = grind (arith, nat_tests) in subst (λ j. IsGreeted after j (seat_at more j).greeting) q own
    by m false e =
        subst (IsGreeted after m) (sym (others m e))
        (greeted_same w after m (seat_at seats m).greeting (ap (λ (x : Session). x.principal) (other_seat w.state w.seats s.rise n line m e))
        (greet_other n m hello accepted w.greetings e) (s.greeted m))

  -- a session that has a principal
  pub known_stands : (g : Greeting) → (seat_at seats n).greeting ≡ Some g → Stands new seats closures after
  known_stands g e =
      let was : IsGreeted w n (Some g) = subst (IsGreeted w n) e (s.greeted n) in
      let now : IsGreeted after n (Some g) =
      (kept_principal w.state w.seats s.rise n line was.0, ap (λ l. greeting_in (l ++ w.greetings) n) (kept_ungreeted w.state w.seats s.rise n line was.0) ∙ was.1) in
      asked_stands seats refl (λ m d. refl) (subst (IsGreeted after n) (sym e) now)

  -- a session without one, which still has none
  pub stranger_stands : (seat_at seats n).greeting ≡ None → is_some (client_in new (seat_at seats n).session).principal ≡ false → Stands new seats closures after
  stranger_stands e p = asked_stands seats refl (λ m d. refl) (subst (IsGreeted after n) (sym e) (principal_says ∙ p))

  -- or was greeted
  greets : (seat_at seats n).greeting ≡ None → is_some (client_in new (seat_at seats n).session).principal ≡ true → (is_some hello && accepted) ≡ true
  greets e p =
      let was : is_some (session_of w.state number).principal ≡ false = subst (IsGreeted w n) e (s.greeted n) in
      sym (own_principal w.state w.seats s.rise n line was) ∙ principal_says ∙ p

  pub greeted_place : (seat_at seats n).greeting ≡ None → is_some (client_in new (seat_at seats n).session).principal ≡ true → (0 < n) × (n - 1 < length seats)
  greeted_place e p =
      let place = open_place w.state w.seats n (greets_open w.state number line (is_some hello) (greets e p)) in
      (place.some, omega (arith, place.within, seats_count old seats closures w s))

  pub greeted_stands : (seat_at seats n).greeting ≡ None → is_some (client_in new (seat_at seats n).session).principal ≡ true
      → Stands new (set seats (n - 1) (record { session = (seat_at seats n).session; greeting = hello })) closures after
  greeted_stands e p = asked_stands more sessions others own where
    x : Seat
    x = record { session = (seat_at seats n).session; greeting = hello }

    more : List Seat
    more = set seats (n - 1) x

    place : (0 < n) × (n - 1 < length seats)
    place = greeted_place e p

    here : seat_at more n ≡ x
    here = ap (λ b. cond b (get_or more (n - 1) no_seat) no_seat) (lt-ltb 0 n place.0) ∙ get_or-set_same seats (n - 1) x no_seat place.1

    at : get_or seats (n - 1) no_seat ≡ seat_at seats n
    at = ap (λ b. cond b (get_or seats (n - 1) no_seat) no_seat) (sym (lt-ltb 0 n place.0))

    sessions : map (λ (y : Seat). y.session) more ≡ map (λ (y : Seat). y.session) seats
    sessions = set_same seats (n - 1) x (ap (λ (y : Seat). y.session) at) where
      set_same : (xs : List Seat) (i : ℕ) (y : Seat) → (get_or xs i no_seat).session ≡ y.session → map (λ (z : Seat). z.session) (set xs i y) ≡ map (λ (z : Seat). z.session) xs
      set_same [] i y q = refl
      set_same (z ∷ xs) zero y q = λ j. sym q j ∷ map (λ (v : Seat). v.session) xs
      set_same (z ∷ xs) (suc i) y q = ap (λ l. z.session ∷ l) (set_same xs i y q)

    others : (m : ℕ) → (n == m) ≡ false → (seat_at more m).greeting ≡ (seat_at seats m).greeting
    others m d = by (ltb 0 m) refl where
      by : (b : Bool) → ltb 0 m ≡ b → (cond b (get_or more (m - 1) no_seat) no_seat).greeting ≡ (cond b (get_or seats (m - 1) no_seat) no_seat).greeting
      by true t =
          let apart : m - 1 ≢ n - 1 = λ q. let same : n ≡ m = omega (arith, q, place.0, ltb-true 0 m t) in let no : true ≡ false = grind (arith, nat_tests) in false≢true (sym no) in
          ap (λ (y : Seat). y.greeting) (get_or-set_other seats (n - 1) (m - 1) x no_seat apart)
      by false t = refl

    own : IsGreeted after n (seat_at more n).greeting
    own = subst (λ (y : Seat). IsGreeted after n y.greeting) (sym here)
        (greeted_now after n hello accepted w.greetings refl (principal_says ∙ p) (greets e p))

-- ---- OPEN

pub opened_stands : (old new : Hall) (seats : List Seat) (closures : List Closure) (w : World) (s : Stands old seats closures w) → GoesBy old new opens
    → Stands new (seats ++ record { session = length old.clients + 1; greeting = None } ∷ []) closures (after_turn speech w (turn speech w opens))
opened_stands old new seats closures w s goes = record {
  room = goes w.state s.room;
  seats_are =
      map-append (λ (y : Seat). y.session) seats (x ∷ [])
      ∙ (λ i. s.seats_are i ++ (as_many old w.state s.room i + 1) ∷ []);
  rise = ap (λ m. are_numbers 0 m (w.seats ++ (length w.state.sessions + 1) ∷ [])) (length-append w.state.sessions (new_session ∷ []))
      ∙ numbers_push 0 (length w.state.sessions) (length w.state.sessions + 1) w.seats s.rise (omega arith);
  greeted = λ n. at n;
  closures_are = s.closures_are;
  past = s.past ++ opens ∷ [];
  ran = ap (λ st. run read_line st (opens ∷ [])) s.ran ∙ sym (run-append read_line opening s.past (opens ∷ []));
} where
  x : Seat
  x = record { session = length old.clients + 1; greeting = None }

  later : World
  later = after_turn speech w (turn speech w opens)

  thin_opened : State
  thin_opened = next read_line (thin w.state w.seats) opens

  thin_is : (n : ℕ) → seated later n ≡ session_of thin_opened n
  thin_is n =
      sym (thin_session later.state later.seats n) ∙ ap (λ (u : State). session_of u n) (open_same read_line w.state w.seats s.rise)

  count : length (thin w.state w.seats).sessions ≡ length seats
  count = length-map w.seats (session_of w.state) ∙ seats_count old seats closures w s

  at : (n : ℕ) → IsGreeted later n (seat_at (seats ++ x ∷ []) n).greeting
  at n = elim (cases_lt (n - 1) (length seats)) [
    | inl lt ↦
        let seat_same : seat_at (seats ++ x ∷ []) n ≡ seat_at seats n = here lt in
        let person : (seated later n).principal ≡ (seated w n).principal =
        ap (λ (y : Session). y.principal) (thin_is n ∙ old_one lt ∙ thin_session w.state w.seats n) in
        subst (λ (y : Seat). IsGreeted later n y.greeting) (sym seat_same) (greeted_same w later n (seat_at seats n).greeting person refl (s.greeted n))
    | inr le ↦
        let none : (seat_at (seats ++ x ∷ []) n).greeting ≡ None = seat_none le in
        let nobody_there : is_some (seated later n).principal ≡ false = ap (λ (y : Session). is_some y.principal) (thin_is n) ∙ person_none le in
        subst (IsGreeted later n) (sym none) nobody_there
  ] where
    here : n - 1 < length seats → seat_at (seats ++ x ∷ []) n ≡ seat_at seats n
    here lt = ap (λ y. cond (ltb 0 n) y no_seat) (get_or_append_left seats (x ∷ []) no_seat (n - 1) lt)

    old_one : n - 1 < length seats → session_of thin_opened n ≡ session_of (thin w.state w.seats) n
    old_one lt = open_old (thin w.state w.seats) n (omega (arith, lt, count))

    seat_none : length seats ≤ n - 1 → (seat_at (seats ++ x ∷ []) n).greeting ≡ None
    seat_none le = by (ltb 0 n) where
      by : (b : Bool) → (cond b (get_or (seats ++ x ∷ []) (n - 1) no_seat) no_seat).greeting ≡ None
      by true = from_last (λ (y : Seat). y.greeting) seats x no_seat (n - 1) None refl refl le
      by false = refl

    person_none : length seats ≤ n - 1 → is_some (session_of thin_opened n).principal ≡ false
    person_none le = by (ltb 0 n) where
      by : (b : Bool) → is_some (cond b (get_or thin_opened.sessions (n - 1) no_session) no_session).principal ≡ false
      by true = from_last (λ (y : Session). is_some y.principal) (thin w.state w.seats).sessions new_session no_session (n - 1) false refl refl (omega (arith, le, count))
      by false = refl
