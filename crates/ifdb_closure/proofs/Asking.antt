-- How far the session of a call gets, line by line.
use Rattle.std.proofs.Common.{◌≡◌, ◌≢◌, ℕ, suc, ◌+◌, ◌<◌, ◌≤◌, Bool, true, false, List, [], ◌∷◌, ◌++◌, length, map, take, drop, get_or, refl, sym, ap, subst, ◌∙◌, arith, cond, ◌&&◌, Some, None, Option, inl, inr, Ok, Err, Result}
use Rattle.std.specs.Prelude.{not, nat_lt, nat_le, OnOk, IfErr}
use Rattle.std.proofs.lemmas.Bool.{false≢true, ltb-true, lt-ltb, leb-true, le-leb}
use Rattle.std.proofs.lemmas.Bool.Decides.{nat_tests}
use Rattle.std.proofs.lemmas.List.{append_assoc, append-nil, map-append, length-append, take-append-drop, map_more}
use Rattle.ifdb_label.specs.Label.{flows}
use Rattle.ifdb_wire.specs.declared.fault.Fault.{Fault}
use Rattle.ifdb_wire.specs.declared.fault.Fault.TheVariants as fault
use Rattle.ifdb_wire.specs.declared.reply.Reply.{Reply}
use Rattle.ifdb_wire.specs.declared.reply.Reply.TheVariants as reply
use Rattle.ifdb_wire.specs.Text.{reply_text}
use Rattle.ifdb_catalog.specs.Public.{tags_of}
use Rattle.ifdb_model.specs.Session.{Session, new_session}
use Rattle.ifdb_model.specs.Step.{ask}
use Rattle.ifdb_model.specs.Run.{State, session_of, opens, asks, refused, leaves, with_outcome, next, run}
use Rattle.ifdb_model.proofs.Runs.{run-append}
use Rattle.ifdb_db.specs.Reading.{read_line}
use Rattle.ifdb_db.specs.Room.{Hall, StandsFor, was_opened, client_in}
use Rattle.ifdb_db.specs.RoomSteps.{GoesBy}
use Rattle.ifdb_db.proofs.RoomLaws.{same_session, as_many}
use Rattle.ifdb_closure.specs.Closures.{commit_line, is_refusal, memory_fault, is_within, call_goes, call_on, Called}
use Rattle.ifdb_closure.specs.Lacking.{enough, lacks_at, lacks_only}
use Rattle.ifdb_closure.specs.Speaking.{speech}
use Rattle.ifdb_closure.specs.Asking.{reply_at, after_line, after_lines, label_of, all_pass, Passed, Stop, lacked, was_refused, outside, Stopped, called_on, Says, IsLackTold, AskedAll, IsUncommitted, CallRan, IsCall}
use Rattle.ifdb_closure.proofs.Thinning.{one_other, open_old}
use Rattle.ifdb_closure.proofs.Twins.{asks_count}

-- ---- some lines and then others

pub after_append : (h : ℕ) (st : State) (xs ys : List (List ℕ)) → after_lines h st (xs ++ ys) ≡ after_lines h (after_lines h st xs) ys
after_append h st xs ys = ap (run read_line st) (map-append (asks h) xs ys) ∙ run-append read_line st (map (asks h) xs) (map (asks h) ys)

-- a line that isn't refused, and leaves the label within, and what follows
passes_so : (a b c : Bool) → (not a && (b && c)) ≡ true → (a ≡ false) × (b ≡ true) × (c ≡ true)
passes_so false true true h = (refl, refl, refl)
passes_so false true false h = absurd (false≢true h)
passes_so false false c h = absurd (false≢true h)
passes_so true b c h = absurd (false≢true h)

passes_back : (a b c : Bool) → a ≡ false → b ≡ true → c ≡ true → (not a && (b && c)) ≡ true
passes_back a b c d e f = λ i. not (d i) && (e i && f i)

pub pass_append : (label : List ℕ) (h : ℕ) (st : State) (xs ys : List (List ℕ)) → all_pass label h st xs ≡ true → all_pass label h (after_lines h st xs) ys ≡ true
    → all_pass label h st (xs ++ ys) ≡ true
pass_append label h st [] ys p q = q
pass_append label h st (x ∷ xs) ys p q =
    let more = after_line h st x in
    let parts = passes_so (is_refusal (reply_at h st x)) (is_within label h more) (all_pass label h more xs) p in
    passes_back (is_refusal (reply_at h st x)) (is_within label h more) (all_pass label h more (xs ++ ys)) parts.0 parts.1 (pass_append label h more xs ys parts.2 q)

pub passed_append : (new : Hall) (label : List ℕ) (h : ℕ) (st : State) (xs ys : List (List ℕ)) → all_pass label h st xs ≡ true
    → Passed new label h (after_lines h st xs) ys → Passed new label h st (xs ++ ys)
passed_append new label h st xs ys p q = record {
  pass = pass_append label h st xs ys p q.pass;
  stands = subst (StandsFor new) (sym (after_append h st xs ys)) q.stands;
}

-- the reply to the last of some lines
abbrev last_told : ℕ → State → Reply → List (List ℕ) → Reply
last_told h st last [] = last
last_told h st last (line ∷ lines) = last_told h (after_line h st line) (reply_at h st line) lines

last_append : (h : ℕ) (st : State) (last : Reply) (xs : List (List ℕ)) (line : List ℕ) → last_told h st last (xs ++ line ∷ []) ≡ reply_at h (after_lines h st xs) line
last_append h st last [] line = refl
last_append h st last (x ∷ xs) line = last_append h (after_line h st x) (reply_at h st x) xs line

-- ---- lines that pass

module _ (label : List ℕ) (h : ℕ) where
  -- are asked, and what follows them goes on
  on_front : (st : State) (last : Reply) (front more : List (List ℕ)) → all_pass label h st front ≡ true
      → let a = call_on speech label h (after_lines h st front) (last_told h st last front) [] more in
      call_on speech label h st last [] (front ++ more) ≡ record { asked = front ++ a.asked; lacked = a.lacked; told = a.told }
  on_front st last [] more p = refl
  on_front st last (x ∷ front) more p =
      let later = after_line h st x in
      let r = reply_at h st x in
      let parts = passes_so (is_refusal r) (is_within label h later) (all_pass label h later front) p in
      let rest = on_front later r front more parts.2 in
      λ i. call_goes speech (parts.0 i) (parts.1 i) x r (rest i)

  -- and where the line behind them has no memory, that is all
  cut_front : (st : State) (last : Reply) (front more : List (List ℕ)) → all_pass label h st front ≡ true
      → call_on speech label h st last (lacks_only (length front)) (front ++ more) ≡ record { asked = front; lacked = true; told = memory_fault }
  cut_front st last [] [] p = refl
  cut_front st last [] (line ∷ more) p = refl
  cut_front st last (x ∷ front) more p =
      let later = after_line h st x in
      let r = reply_at h st x in
      let parts = passes_so (is_refusal r) (is_within label h later) (all_pass label h later front) p in
      let rest = cut_front later r front more parts.2 in
      λ i. call_goes speech (parts.0 i) (parts.1 i) x r (rest i)

  -- a line that is refused, or that leaves the label outside, ends it
  on_refused : (st : State) (last : Reply) (line : List ℕ) (rest : List (List ℕ)) (f : Fault) → reply_at h st line ≡ reply.Refused f
      → call_on speech label h st last [] (line ∷ rest) ≡ record { asked = line ∷ []; lacked = false; told = reply.Refused f }
  on_refused st last line rest f e =
      let later = after_line h st line in
      λ i. call_goes speech (is_refusal (e i)) (is_within label h later) line (e i) (call_on speech label h later (reply_at h st line) [] rest)

  on_outside : (st : State) (last : Reply) (line : List ℕ) (rest : List (List ℕ)) → is_refusal (reply_at h st line) ≡ false
      → is_within label h (after_line h st line) ≡ false
      → call_on speech label h st last [] (line ∷ rest) ≡ record { asked = line ∷ []; lacked = false; told = reply.Refused fault.ClosureLabel }
  on_outside st last line rest n o =
      let later = after_line h st line in
      λ i. call_goes speech (n i) (o i) line (reply_at h st line) (call_on speech label h later (reply_at h st line) [] rest)

-- ---- how asking all ends

module _ {T : Type 0} (new : Hall) (label : List ℕ) (h : ℕ) (st : State) (shown : ℕ) (text : List ℕ) where
  -- none has memory behind a front that passed
  ended_lacking : (lines front more : List (List ℕ)) → lines ≡ front ++ more → all_pass label h st front ≡ true → StandsFor new (after_lines h st front)
      → AskedAll {T = T} new label h st lines shown text (Err fault.OutOfMemory)
  ended_lacking lines front more all p stands =
      let cut = ap (call_on speech label h st reply.Opened (lacks_only (length front))) all ∙ cut_front label h st reply.Opened front more p in
      record {
        lack = Some (length front);
        stands = subst (λ (c : Called). StandsFor new (after_lines h st c.asked)) (sym cut) stands;
        says = ap (λ (c : Called). c.told) cut;
        exact = ap (λ (c : Called). c.told) cut;
      }

  -- a line ended it behind a front that passed
  ended_by : (lines front : List (List ℕ)) (line : List ℕ) (rest : List (List ℕ)) (f : Fault) → lines ≡ front ++ line ∷ rest → all_pass label h st front ≡ true
      → StandsFor new (after_line h (after_lines h st front) line)
      → call_on speech label h (after_lines h st front) (last_told h st reply.Opened front) [] (line ∷ rest) ≡ record { asked = line ∷ []; lacked = false; told = reply.Refused f }
      → AskedAll {T = T} new label h st lines shown text (Err f)
  ended_by lines front line rest f all p stands e =
      let whole : call_on speech label h st reply.Opened [] lines ≡ record { asked = front ++ line ∷ []; lacked = false; told = reply.Refused f } =
      ap (call_on speech label h st reply.Opened []) all ∙ on_front label h st reply.Opened front (line ∷ rest) p
      ∙ ap (λ (a : Called). record { asked = front ++ a.asked; lacked = a.lacked; told = a.told }) e in
      record {
        lack = None;
        stands = subst (λ (a : Called). StandsFor new (after_lines h st a.asked)) (sym whole) (subst (StandsFor new) (sym (after_append h st front (line ∷ []))) stands);
        says = ap (λ (a : Called). a.told) whole;
        exact = tt;
      }

  ended_stop : (lines front : List (List ℕ)) (line : List ℕ) (rest : List (List ℕ)) (f : Fault) → lines ≡ front ++ line ∷ rest → all_pass label h st front ≡ true
      → Stop new label h (after_lines h st front) line f → AskedAll {T = T} new label h st lines shown text (Err f)
  ended_stop lines front line rest f all p (lacked stands) =
      ended_lacking lines front (line ∷ rest) all p stands
  ended_stop lines front line rest f all p (was_refused g stands e) =
      ended_by lines front line rest f all p stands (on_refused label h (after_lines h st front) (last_told h st reply.Opened front) line rest f e)
  ended_stop lines front line rest f all p (outside stands n o) =
      ended_by lines front line rest f all p stands (on_outside label h (after_lines h st front) (last_told h st reply.Opened front) line rest n o)

  -- one of the first lines did
  pub ended_stopped : (lines more : List (List ℕ)) (f : Fault) → Stopped new label h st lines f → AskedAll {T = T} new label h st (lines ++ more) shown text (Err f)
  ended_stopped lines more f s =
      ended_stop (lines ++ more) s.front s.line (s.rest ++ more) f (ap (λ l. l ++ more) s.all ∙ append_assoc s.front (s.line ∷ s.rest) more) s.pass s.stop

  -- the last line did
  pub ended_last : (front : List (List ℕ)) (line : List ℕ) (f : Fault) → all_pass label h st front ≡ true → Stop new label h (after_lines h st front) line f
      → AskedAll {T = T} new label h st (front ++ line ∷ []) shown text (Err f)
  ended_last front line f p stop = ended_stop (front ++ line ∷ []) front line [] f refl p stop

  -- the COMMIT did
  pub ended_commit : (lines : List (List ℕ)) (f : Fault) → all_pass label h st lines ≡ true → IsUncommitted new h (after_lines h st lines) f
      → AskedAll {T = T} new label h st lines shown text (Err f)
  ended_commit lines f p (inl (stands, memory)) =
      subst (λ g. AskedAll {T = T} new label h st lines shown text (Err g)) (sym memory) (ended_lacking lines lines [] (sym (append-nil lines)) p stands)
  ended_commit lines f p (inr (stands, e)) =
      let last = last_told h st reply.Opened lines in
      let whole : call_on speech label h st reply.Opened [] lines ≡ record { asked = lines ++ commit_line ∷ []; lacked = false; told = reply.Refused f } =
      ap (call_on speech label h st reply.Opened []) (sym (append-nil lines)) ∙ on_front label h st reply.Opened lines [] p
      ∙ (λ i. record { asked = lines ++ commit_line ∷ []; lacked = false; told = cond (is_refusal (e i)) (e i) last }) in
      record {
        lack = None;
        stands = subst (λ (a : Called). StandsFor new (after_lines h st a.asked)) (sym whole) (subst (StandsFor new) (sym (after_append h st lines (commit_line ∷ []))) stands);
        says = ap (λ (a : Called). a.told) whole;
        exact = tt;
      }

  -- nothing did
  pub ended_well : (end : T) (front : List (List ℕ)) (line : List ℕ) → all_pass label h st (front ++ line ∷ []) ≡ true
      → text ≡ reply_text (Some shown) (reply_at h (after_lines h st front) line)
      → StandsFor new (after_line h (after_lines h st (front ++ line ∷ [])) commit_line) → is_refusal (reply_at h (after_lines h st (front ++ line ∷ [])) commit_line) ≡ false
      → AskedAll new label h st (front ++ line ∷ []) shown text (Ok end)
  ended_well end front line p told stands good =
      let lines = front ++ line ∷ [] in
      let last = last_told h st reply.Opened lines in
      let whole : call_on speech label h st reply.Opened [] lines ≡ record { asked = lines ++ commit_line ∷ []; lacked = false; told = reply_at h (after_lines h st front) line } =
      ap (call_on speech label h st reply.Opened []) (sym (append-nil lines)) ∙ on_front label h st reply.Opened lines [] p
      ∙ (λ i. record { asked = lines ++ commit_line ∷ []; lacked = false; told = cond (good i) (reply_at h (after_lines h st lines) commit_line) last })
      ∙ (λ i. record { asked = lines ++ commit_line ∷ []; lacked = false; told = last_append h st reply.Opened front line i }) in
      record {
        lack = None;
        stands = subst (λ (a : Called). StandsFor new (after_lines h st a.asked)) (sym whole) (subst (StandsFor new) (sym (after_append h st lines (commit_line ∷ []))) stands);
        says = told ∙ ap (λ (a : Called). reply_text (Some shown) a.told) (sym whole);
        exact = tt;
      }

-- ---- in a room

-- a line of one session leaves the others
other_stays : (st : State) (h k : ℕ) (line : List ℕ) → 0 < h → k ≢ h → session_of (after_line h st line) k ≡ session_of st k
other_stays st h k line p ne = by (session_of st h).is_open where
  by : (b : Bool) → session_of (cond b (with_outcome st h (ask read_line st.log (session_of st h) line)) st) k ≡ session_of st k
  by true = one_other st k h (ask read_line st.log (session_of st h) line).session p (λ e. ne (sym e))
  by false = refl

pub others_stay : (st : State) (h k : ℕ) (lines : List (List ℕ)) → 0 < h → k ≢ h → session_of (after_lines h st lines) k ≡ session_of st k
others_stay st h k [] p ne = refl
others_stay st h k (line ∷ lines) p ne = others_stay (after_line h st line) h k lines p ne ∙ other_stays st h k line p ne

pub opened_number : (hall : Hall) (n : ℕ) → was_opened hall n ≡ true → (0 < n) × (n ≤ length hall.clients)
opened_number hall n o =
    let parts : (nat_lt 0 n ≡ true) × (nat_le n (length hall.clients) ≡ true) = grind (arith, nat_tests) in
    (ltb-true 0 n parts.0, leb-true n (length hall.clients) parts.1)

pub is_opened : (hall : Hall) (n : ℕ) → 0 < n → n ≤ length hall.clients → was_opened hall n ≡ true
is_opened hall n p le =
    let a = lt-ltb 0 n p in
    let b = le-leb n (length hall.clients) le in
    grind (arith, nat_tests)

-- as many clients before a line of a session and behind it
pub as_many_on : (old new : Hall) (h : ℕ) (line : List ℕ) (st : State) → StandsFor old st → GoesBy old new (asks h line) → length new.clients ≡ length old.clients
as_many_on old new h line st w goes = as_many new (after_line h st line) (goes st w) ∙ asks_count read_line st h line ∙ sym (as_many old st w)

pub call_goes_on : (old new : Hall) (h caller : ℕ) (line : List ℕ) → IsCall old h caller → GoesBy old new (asks h line) → IsCall new h caller
call_goes_on old new h caller line c goes =
    let many = as_many_on old new h line c.state c.stands goes in
    let one = opened_number old h c.session_there in
    let two = opened_number old caller c.caller_there in
    record {
      state = after_line h c.state line;
      stands = goes c.state c.stands;
      session_there = is_opened new h one.0 (omega (arith, one.1, many));
      caller_there = is_opened new caller two.0 (omega (arith, two.1, many));
      apart = c.apart;
    }

-- what a room says of the labels of two sessions is so of the state
pub flows_so : (hall : Hall) (st : State) (h k : ℕ) → StandsFor hall st
    → flows (tags_of hall.desk.seen.public) (client_in hall h).label (client_in hall k).label ≡ is_within (label_of st k) h st
flows_so hall st h k w =
    λ i. flows (tags_of (w.desk.seen i).public) (sym (same_session hall st w h) i).label (sym (same_session hall st w k) i).label

-- ---- the whole call

-- it leaves, whether its last line had memory or not
pub left : (h : ℕ) (st : State) (asked : List (List ℕ)) (lacking : Bool)
    → run read_line st (map (asks h) asked ++ (cond lacking (refused h ∷ []) [] ++ leaves h ∷ [])) ≡ next read_line (after_lines h st asked) (leaves h)
left h st asked true = run-append read_line st (map (asks h) asked) (refused h ∷ leaves h ∷ [])
left h st asked false = run-append read_line st (map (asks h) asked) (leaves h ∷ [])

call_ran : {T : Type 0} (asked new : Hall) (label : List ℕ) (st : State) (lines : List (List ℕ)) (shown : ℕ) (text : List ℕ) (end : Result T Fault)
    → GoesBy asked new (leaves (length st.sessions + 1)) → AskedAll asked label (length st.sessions + 1) (next read_line st opens) lines shown text end
    → CallRan new label st lines shown text end
call_ran asked new label st lines shown text end goes a = by a.lack a.stands a.says a.exact where
  h : ℕ
  h = length st.sessions + 1

  later : State
  later = next read_line st opens

  by : (o : Option ℕ) → StandsFor asked (after_lines h later (called_on label h later lines o).asked) → Says shown text end (called_on label h later lines o).told
      → IsLackTold o (called_on label h later lines o).told → CallRan new label st lines shown text end
  by None stands says exact = record {
    memory = enough;
    stands = subst (StandsFor new) (sym (left h later (called_on label h later lines None).asked false)) (goes (after_lines h later (called_on label h later lines None).asked) stands);
    says = says;
    exact = tt;
  }
  by (Some i) stands says exact =
      let c = called_on label h later lines (Some i) in
      record {
        memory = lacks_at (suc i);
        stands = subst (StandsFor new) (sym (left h later c.asked c.lacked)) (goes (after_lines h later c.asked) stands);
        says = says;
        exact = exact;
      }

pub call_ends : {T : Type 0} (old opened asked new : Hall) (h caller : ℕ) (lines : List (List ℕ)) (shown : ℕ) (text : List ℕ) (end : Result T Fault)
    → was_opened old caller ≡ true → h ≡ length old.clients + 1 → GoesBy old opened opens
    → ((st : State) → StandsFor opened st → AskedAll asked (label_of st caller) h st lines shown text end)
    → GoesBy asked new (leaves h) → (st : State) → StandsFor old st → CallRan new (label_of st caller) st lines shown text end
call_ends old opened asked new h caller lines shown text end there number opening all leaving st w =
    let later = next read_line st opens in
    let number_is : h ≡ length st.sessions + 1 = number ∙ ap (λ k. k + 1) (as_many old st w) in
    let le : caller ≤ length st.sessions = omega (arith, (opened_number old caller there).1, as_many old st w) in
    let label_is : label_of later caller ≡ label_of st caller = ap (λ (s : Session). s.label) (open_old st caller le) in
    let a : AskedAll asked (label_of later caller) h later lines shown text end = all later (opening st w) in
    call_ran asked new (label_of st caller) st lines shown text end
    (subst (λ k. GoesBy asked new (leaves k)) number_is leaving)
    (subst (λ k. AskedAll asked (label_of st caller) k later lines shown text end) number_is (subst (λ l. AskedAll asked l h later lines shown text end) label_is a))

-- no session was opened for it
pub call_unopened : {T : Type 0} (old new : Hall) (caller : ℕ) (lines : List (List ℕ)) (shown : ℕ) (text : List ℕ) → new ≡ old → (st : State) → StandsFor old st
    → CallRan {T = T} new (label_of st caller) st lines shown text (Err fault.OutOfMemory)
call_unopened old new caller lines shown text e st w = record { memory = lacks_at 0; stands = subst (λ (room : Hall). StandsFor room st) (sym e) w; says = refl; exact = refl }

-- its session was opened
pub call_opens : (old opened : Hall) (h caller : ℕ) → (st : State) → StandsFor old st → was_opened old caller ≡ true → h ≡ length old.clients + 1 → GoesBy old opened opens
    → IsCall opened h caller
call_opens old opened h caller st w there number goes =
    let many : length opened.clients ≡ length old.clients + 1 =
    let a = as_many opened (next read_line st opens) (goes st w) in
    let b = as_many old st w in
    let c = length-append st.sessions (new_session ∷ []) in
    omega (arith, a, b, c) in
    let two = opened_number old caller there in
    record {
      state = next read_line st opens;
      stands = goes st w;
      session_there = is_opened opened h (omega (arith, number)) (omega (arith, number, many));
      caller_there = is_opened opened caller two.0 (omega (arith, two.1, many));
      apart = λ e. omega (arith, e, number, two.1);
    }

-- ---- a line, by what the room did

module _ (old new : Hall) (h caller : ℕ) (line : List ℕ) (c : IsCall old h caller) (goes : GoesBy old new (asks h line)) (st : State) (w : StandsFor old st) where
  -- the room's test of the two labels is that of the caller's label
  label_test : flows (tags_of new.desk.seen.public) (client_in new h).label (client_in new caller).label ≡ is_within (label_of st caller) h (after_line h st line)
  label_test =
      flows_so new (after_line h st line) h caller (goes st w)
      ∙ ap (λ (s : Session). is_within s.label h (after_line h st line)) (other_stays st h caller line (opened_number old h c.session_there).0 c.apart)

  pub line_passes : is_refusal (reply_at h st line) ≡ false
      → flows (tags_of new.desk.seen.public) (client_in new h).label (client_in new caller).label ≡ true → Passed new (label_of st caller) h st (line ∷ [])
  line_passes fine within = record {
    pass = passes_back (is_refusal (reply_at h st line)) (is_within (label_of st caller) h (after_line h st line)) true fine (sym label_test ∙ within) refl;
    stands = goes st w;
  }

  pub line_outside : is_refusal (reply_at h st line) ≡ false
      → flows (tags_of new.desk.seen.public) (client_in new h).label (client_in new caller).label ≡ false
      → Stop new (label_of st caller) h st line fault.ClosureLabel
  line_outside fine beyond = outside (goes st w) fine (sym label_test ∙ beyond)

-- ---- all lines, by what the parts did

-- a label of the caller's is the same behind some lines
pub label_stays : (st : State) (h caller : ℕ) (lines : List (List ℕ)) → 0 < h → caller ≢ h → label_of (after_lines h st lines) caller ≡ label_of st caller
label_stays st h caller lines p ne = ap (λ (s : Session). s.label) (others_stay st h caller lines p ne)

module _ (old mid new : Hall) (h caller : ℕ) (c : IsCall old h caller) (front : List (List ℕ))
    (first : (st : State) → StandsFor old st → Passed mid (label_of st caller) h st front) (st : State) (w : StandsFor old st) where
  -- the label that a later line was judged by
  later_label : label_of (after_lines h st front) caller ≡ label_of st caller
  later_label = label_stays st h caller front (opened_number old h c.session_there).0 c.apart

  pub front_passes : (lines : List (List ℕ)) → ((u : State) → StandsFor mid u → Passed new (label_of u caller) h u lines) → Passed new (label_of st caller) h st (front ++ lines)
  front_passes lines second =
      passed_append new (label_of st caller) h st front lines (first st w).pass
      (subst (λ l. Passed new l h (after_lines h st front) lines) later_label (second (after_lines h st front) (first st w).stands))

  pub front_stops : (line : List ℕ) (f : Fault) → ((u : State) → StandsFor mid u → Stop new (label_of u caller) h u line f) → (all_pass (label_of st caller) h st front ≡ true) × Stop new (label_of st caller) h (after_lines h st front) line f
  front_stops line f second =
      ((first st w).pass, subst (λ l. Stop new l h (after_lines h st front) line f) later_label (second (after_lines h st front) (first st w).stands))

-- a reply that is none of the refusals
pub not_refused : (r : Reply) → ((f : Fault) → r ≡ reply.Refused f → ⊥) → is_refusal r ≡ false
not_refused (reply.Refused f) h = absurd (h f refl)
not_refused reply.Done h = refl
not_refused (reply.Count n) h = refl
not_refused reply.Opened h = refl
not_refused (reply.Label names) h = refl
not_refused (reply.Rows table) h = refl

-- one of some lines ended it, behind those that passed
pub stopped_at : (old mid new : Hall) (h caller : ℕ) (c : IsCall old h caller) (lines front rest : List (List ℕ)) (line : List ℕ) (f : Fault)
    → lines ≡ front ++ line ∷ rest → ((u : State) → StandsFor old u → Passed mid (label_of u caller) h u front) → ((u : State) → StandsFor mid u → Stop new (label_of u caller) h u line f)
    → (st : State) → StandsFor old st → Stopped new (label_of st caller) h st lines f
stopped_at old mid new h caller c lines front rest line f all first second st w =
    let both = front_stops old mid new h caller c front first st w line f second in
    record { front = front; line = line; rest = rest; all = all; pass = both.0; stop = both.1 }

-- all passed, and the COMMIT was asked
pub committed_all : {T : Type 0} (old mid last new : Hall) (h caller : ℕ) (c : IsCall old h caller) (front : List (List ℕ)) (line : List ℕ) (shown : ℕ) (text : List ℕ) (end : Result T Fault)
    → ((u : State) → StandsFor old u → Passed mid (label_of u caller) h u front)
    → ((u : State) → StandsFor mid u → Passed last (label_of u caller) h u (line ∷ []))
    → ((u : State) → StandsFor mid u → text ≡ reply_text (Some shown) (reply_at h u line))
    → OnOk end ((u : State) → StandsFor last u → StandsFor new (after_line h u commit_line) × (is_refusal (reply_at h u commit_line) ≡ false))
    → IfErr end (λ f. (u : State) → StandsFor last u → IsUncommitted new h u f)
    → (st : State) → StandsFor old st → AskedAll new (label_of st caller) h st (front ++ line ∷ []) shown text end
committed_all old mid last new h caller c front line shown text (Ok x) first second told ok err st w =
    let all = front_passes old mid last h caller c front first st w (line ∷ []) second in
    let end = ok (after_lines h st (front ++ line ∷ [])) all.stands in
    ended_well new (label_of st caller) h st shown text x front line all.pass (told (after_lines h st front) (first st w).stands) end.0 end.1
committed_all old mid last new h caller c front line shown text (Err f) first second told ok err st w =
    let all = front_passes old mid last h caller c front first st w (line ∷ []) second in
    ended_commit new (label_of st caller) h st shown text (front ++ line ∷ []) f all.pass (err (after_lines h st (front ++ line ∷ [])) all.stands)

-- a list's images before an item, of the item, and behind it
pub split_map : {X Y : Type 0} (f : X → Y) (xs : List X) (i : ℕ) (d : X) → i < length xs → map f xs ≡ map f (take i xs) ++ f (get_or xs i d) ∷ map f (drop (i + 1) xs)
split_map f xs i d lt =
    ap (map f) (sym (take-append-drop (i + 1) xs)) ∙ map-append f (take (i + 1) xs) (drop (i + 1) xs)
    ∙ ap (λ l. l ++ map f (drop (i + 1) xs)) (map_more f xs i d lt)
    ∙ append_assoc (map f (take i xs)) (f (get_or xs i d) ∷ []) (map f (drop (i + 1) xs))
