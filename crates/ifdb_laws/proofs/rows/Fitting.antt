-- In every run each row fits its table.
use Rattle.std.proofs.Common.{◌≡◌, ℕ, ◌-◌, ◌≤◌, zero, suc, Bool, true, false, List, [], ◌∷◌, ◌++◌, length, take, drop, refl, sym, ap, ◌∙◌, arith, cond, ◌&&◌, ltb, subst, Some, None, Ok, Option, Result, inl, inr}
use Rattle.std.specs.Prelude.{option_to_list, All}
use Rattle.std.specs.List.{list_all}
use Rattle.std.proofs.lemmas.Bool.{cases_lt, leb-true, ltb-true, lt-ltb}
use Rattle.std.proofs.lemmas.Bool.Decides.{nat_tests}
use Rattle.std.proofs.lemmas.List.{take-append-le, take_all, take-append-drop, length-append, append-nil, get_or_append_left, map-append}
use Rattle.std.proofs.lemmas.List.Elements.{All-nil, All-set, All-push, All-weaker}
use Rattle.ifdb_value.proofs.Lists.{all_wider}
use Rattle.ifdb_label.specs.Tags.{are_made}
use Rattle.ifdb_row.specs.declared.row.Row.{Row}
use Rattle.ifdb_row.specs.declared.write.Write.{Write}
use Rattle.ifdb_row.specs.Slots.{is_same_key}
use Rattle.ifdb_row.specs.Content.{after}
use Rattle.ifdb_row.proofs.ContentLaws.{all-after}
use Rattle.ifdb_bound.specs.declared.schema.Schema.{Schema}
use Rattle.ifdb_bound.specs.declared.request.Change.{Change}
use Rattle.ifdb_bound.specs.declared.request.Change.TheVariants as change
use Rattle.ifdb_syntax.specs.declared.request.Request.{Request}
use Rattle.ifdb_wire.specs.declared.fault.Fault.{Fault}
use Rattle.ifdb_catalog.specs.Public.{Public, tags_of, table_at, no_table, changed}
use Rattle.ifdb_catalog.specs.Statements.{values_at, fills}
use Rattle.ifdb_catalog.proofs.BoundRequestsFit.{bound_is_fitting}
use Rattle.ifdb_catalog.proofs.Made as made_by_binding
use Rattle.ifdb_model.specs.Log.{Entry, changes, commits, public_from, public_of, all_tags, content_of}
use Rattle.ifdb_model.specs.Session.{Txn, Session, new_session, no_session, closed, seen_in, seen}
use Rattle.ifdb_model.specs.Writes.{binding_keys}
use Rattle.ifdb_model.specs.Step.{Reader, Outcome, ask}
use Rattle.ifdb_model.specs.Run.{State, opening, session_of, Step, opens, asks, refused, long, stray, leaves, with_outcome, with_session, next, run}
use Rattle.ifdb_model.proofs.LogLaws.{public_from-append, content_from-append}
use Rattle.ifdb_laws.specs.RowLaws.{refs_fit, row_fits, rows_fit, RowsFit}
use Rattle.ifdb_laws.proofs.Shapes.{Shape, stayed, greeted_as, relabelled_to, begun, ended, published, joined, wrote, done, shape}
use Rattle.ifdb_laws.proofs.Logs.{all_commits, txn_all, begins_within}
use Rattle.ifdb_laws.proofs.two_worlds.Outcomes.{tag_count, more_made, added_by, log_after, outcome_all, outcome_writes, PassesWrites, seen_tags}
use Rattle.ifdb_laws.proofs.two_worlds.Sound.{SoundSession, Sound, line_tidy, session_stays_sound, later_sound, no_txn_is_sound, asked_sound, left_sound, next_sound, opening_sound, more_tags}
use Rattle.ifdb_laws.proofs.rows.Runs.{session_has}
use Rattle.ifdb_laws.proofs.rows.Fits.{write_fits, statement_fits}

-- ---- what fits a public state fits each later one

abbrev fits_as : ℕ → ℕ → Schema → Row → Bool
fits_as tables tags t r =
    ltb r.slot.table tables && (fills t r.values && (is_same_key r.slot.key (values_at r.values t.key) && (refs_fit r.values (binding_keys r.values t.foreign) r.refs && are_made tags r.slot.label)))

more_tables : (ts : List Schema) (x : Schema) (tags : ℕ) (r : Row) → fits_as (length ts) tags (Rattle.std.specs.Prelude.slice_index_or ts r.slot.table no_table) r ≡ true
    → fits_as (length (ts ++ x ∷ [])) tags (Rattle.std.specs.Prelude.slice_index_or (ts ++ x ∷ []) r.slot.table no_table) r ≡ true
more_tables ts x tags r h =
    let is_there : ltb r.slot.table (length ts) ≡ true = grind (arith, nat_tests) in
    let lt = ltb-true r.slot.table (length ts) is_there in
    let same = get_or_append_left ts (x ∷ []) no_table r.slot.table lt in
    let still : ltb r.slot.table (length (ts ++ x ∷ [])) ≡ true = lt-ltb r.slot.table (length (ts ++ x ∷ [])) (simp length-append (omega arith)) in
    let moved : fits_as (length ts) tags (Rattle.std.specs.Prelude.slice_index_or (ts ++ x ∷ []) r.slot.table no_table) r ≡ true = ap (λ t. fits_as (length ts) tags t r) same ∙ h in
    grind (arith, nat_tests)

more_labels : (tables n m : ℕ) (t : Schema) (r : Row) → n ≤ m → fits_as tables n t r ≡ true → fits_as tables m t r ≡ true
more_labels tables n m t r le h =
    let made = more_made n m r.slot.label le in
    grind (arith, nat_tests)

pub fits_changed : (p : Public) (c : Change) (r : Row) → row_fits p r ≡ true → row_fits (changed p c) r ≡ true
fits_changed p (change.Principal asker name key clearance) r h = h
fits_changed p (change.Tag asker name kind parents) r h =
    more_labels (length p.tables) (length (tags_of p)) (length (tags_of (changed p (change.Tag asker name kind parents)))) (table_at p r.slot.table) r
    (simp (map-append, length-append) (omega arith)) h
fits_changed p (change.Table asker schema) r h = more_tables p.tables schema (length (tags_of p)) r h
fits_changed p (change.View view) r h = h
fits_changed p (change.Grant asker tag to) r h = h
fits_changed p (change.Revoke asker tag from) r h = h

fits_from : (p : Public) (log : List Entry) (r : Row) → row_fits p r ≡ true → row_fits (public_from p log) r ≡ true
fits_from p [] r h = h
fits_from p (changes c ∷ log) r h = fits_from (changed p c) log r (fits_changed p c r h)
fits_from p (commits ws ∷ log) r h = fits_from p log r h

fits_later : (log more : List Entry) (r : Row) → row_fits (public_of log) r ≡ true → row_fits (public_of (log ++ more)) r ≡ true
fits_later log more r h = ap (λ p. row_fits p r) (public_from-append (public_of []) log more) ∙ fits_from (public_of log) more r h

fits_all : (b : ℕ) (log : List Entry) (r : Row) → row_fits (public_of (take b log)) r ≡ true → row_fits (public_of log) r ≡ true
fits_all b log r h = sym (ap (λ l. row_fits (public_of l) r) (take-append-drop b log)) ∙ fits_later (take b log) (drop b log) r h

-- ---- what is written

abbrev pub are_fit : Public → List Write → Bool
are_fit p ws = list_all (write_fits p) ws

writes_seen_fit : (log : List Entry) (o : Option Txn) (ws : List Write) → are_fit (seen_in log o).public ws ≡ true → are_fit (public_of log) ws ≡ true
writes_seen_fit log None ws h = h
writes_seen_fit log (Some x) ws h =
    all_wider (write_fits (public_of (take x.begin log))) (write_fits (public_of log)) ws
    (λ w e. all_wider (row_fits (public_of (take x.begin log))) (row_fits (public_of log)) (option_to_list w.row) (fits_all x.begin log) e) h

-- ---- the rows

abbrev pub content_fits : List Entry → Type 0
content_fits log = rows_fit (seen_in log None) ≡ true

pub record FitFronts (log : List Entry) : Type 0 where
  fronts : (b : ℕ) → content_fits (take b log)

pub whole : (log : List Entry) → FitFronts log → content_fits log
whole log f = subst content_fits (take_all (length log) log (omega arith)) (f.fronts (length log))

content_grows : (log : List Entry) (a : Option Entry) → content_fits log → all_commits (are_fit (public_of log)) (option_to_list a) ≡ true → content_fits (log ++ option_to_list a)
content_grows log None h k = subst content_fits (sym (append-nil log)) h
content_grows log (Some (changes c)) h k =
    let rows : content_of (log ++ changes c ∷ []) ≡ content_of log = content_from-append [] log (changes c ∷ []) in
    let more = all_wider (row_fits (public_of log)) (row_fits (public_of (log ++ changes c ∷ []))) (content_of log) (fits_later log (changes c ∷ [])) h in
    ap (λ x. list_all (row_fits (public_of (log ++ changes c ∷ []))) x) rows ∙ more
content_grows log (Some (commits ws)) h k =
    let rows : content_of (log ++ commits ws ∷ []) ≡ after (content_of log) ws = content_from-append [] log (commits ws ∷ []) in
    let public : public_of (log ++ commits ws ∷ []) ≡ public_of log = public_from-append (public_of []) log (commits ws ∷ []) in
    let new : are_fit (public_of log) ws ≡ true = grind (arith, nat_tests) in
    (λ i. list_all (row_fits (public i)) (rows i)) ∙ all-after (row_fits (public_of log)) (content_of log) ws new h

one_at_most : (a : Option Entry) → length (option_to_list a) ≤ 1
one_at_most None = omega arith
one_at_most (Some e) = omega arith

fronts_grow : (log : List Entry) (a : Option Entry) → FitFronts log → content_fits (log ++ option_to_list a) → FitFronts (log ++ option_to_list a)
fronts_grow log a k l = record {
  fronts = λ b. elim (cases_lt (length log) b) [
    | inr le ↦ subst content_fits (sym (take-append-le b log (option_to_list a) le)) (k.fronts b)
    | inl lt ↦ let few = one_at_most a in
        let le : length (log ++ option_to_list a) ≤ b = simp length-append (omega arith) in
        subst content_fits (sym (take_all b (log ++ option_to_list a) le)) l
  ];
}

-- ---- a session

-- its own writes fit what it sees, and so does its label
pub record FitSeen (log : List Entry) (label : List ℕ) (o : Option Txn) : Type 0 where
  own : txn_all (are_fit (seen_in log o).public) o ≡ true
  made : are_made (length (tags_of (seen_in log o).public)) label ≡ true

abbrev pub FitSession : List Entry → Session → Type 0
FitSession log s = FitSeen log s.label s.txn

no_txn : (log : List Entry) (label : List ℕ) (o : Option Txn) → o ≡ None → are_made (tag_count log) label ≡ true → FitSeen log label o
no_txn log label None e m = record { own = refl; made = m }
no_txn log label (Some x) e m = cc

later : (log more : List Entry) (label : List ℕ) (o : Option Txn) → begins_within (length log) o ≡ true → FitSeen log label o → FitSeen (log ++ more) label o
later log more label None b k = record { own = refl; made = more_made (tag_count log) (tag_count (log ++ more)) label (more_tags log more) k.made }
later log more label (Some x) b k =
    let le = leb-true x.begin (length log) b in
    let same = take-append-le x.begin log more le in
    record {
      own = ap (λ l. are_fit (public_of l) x.own) same ∙ k.own;
      made = ap (λ l. are_made (length (all_tags l)) label) same ∙ k.made;
    }

own_of : (q : Write → Bool) (o : Option Txn) (x : Txn) → o ≡ Some x → txn_all (list_all q) o ≡ true → list_all q x.own ≡ true
own_of q o x e h = sym (ap (txn_all (list_all q)) e) ∙ h

module _ (log : List Entry) (s : Session) (line : Result Request Fault) (k : FitSession log s) (f : content_fits log) (fronts : FitFronts log) where
  seen_rows_fit : (o : Option Txn) → txn_all (are_fit (seen_in log o).public) o ≡ true → rows_fit (seen_in log o) ≡ true
  seen_rows_fit None h = f
  seen_rows_fit (Some x) h = all-after (row_fits (public_of (take x.begin log))) (content_of (take x.begin log)) x.own h (fronts.fronts x.begin)

  new_writes_fit : PassesWrites (write_fits (seen log s).public) log s line
  new_writes_fit asker r b i =
      statement_fits (seen log s).public (seen log s).rows (seen_rows_fit s.txn k.own) s.label k.made asker b (bound_is_fitting (seen log s).public asker r b i.found)

  label_later : (label : List ℕ) → are_made (length (tags_of (seen log s).public)) label ≡ true → are_made (tag_count log) label ≡ true
  label_later label m = more_made (length (tags_of (seen log s).public)) (tag_count log) label (seen_tags log s.txn) m

  module _ (o : Outcome) (h : outcome_all (write_fits (seen log s).public) o ≡ true) where
    own_part : txn_all (are_fit (seen log s).public) o.session.txn ≡ true
    own_part = grind (arith, nat_tests)

    added_part : all_commits (are_fit (seen log s).public) (option_to_list o.added) ≡ true
    added_part = grind (arith, nat_tests)

  -- the session beside the log of before
  session_fits : (o : Outcome) → Shape log s line o → outcome_all (write_fits (seen log s).public) o ≡ true → FitSession log o.session
  session_fits o (stayed r) h = k
  session_fits o (greeted_as n g lt) h = k
  session_fits o (relabelled_to asker r label v e i) h = record { own = k.own; made = made_by_binding.label_made (seen log s).public asker r label e }
  session_fits o (begun t) h = record {
    own = refl;
    made =
        let all = take_all (length log) log (omega arith) in
        ap (λ l. are_made (length (all_tags l)) s.label) all ∙ (ap (λ u. are_made (length (tags_of (seen_in log u).public)) s.label) (sym t) ∙ k.made);
  }
  session_fits o (ended b r why) h = record { own = refl; made = label_later s.label k.made }
  session_fits o (published asker r c line_is t i e p) h = k
  session_fits o (joined asker r b x w i t e) h = record {
    own = ap (λ u. are_fit (seen_in log u).public (Rattle.ifdb_row.specs.Writes.merged x.own w.writes)) (sym t) ∙ own_part o h;
    made = ap (λ u. are_made (length (tags_of (seen_in log u).public)) s.label) (sym t) ∙ k.made;
  }
  session_fits o (wrote asker r b w i t e d) h = k
  session_fits o (done x t j) h = record { own = refl; made = label_later s.label k.made }

  pub outcome_fits : (o : Outcome) → Shape log s line o → outcome_all (write_fits (seen log s).public) o ≡ true
  outcome_fits o x = outcome_writes (write_fits (seen log s).public) log s line k.own new_writes_fit o x

  pub added_fits : (o : Outcome) → outcome_all (write_fits (seen log s).public) o ≡ true → all_commits (are_fit (public_of log)) (option_to_list o.added) ≡ true
  added_fits o h = by o.added (added_part o h) where
    by : (a : Option Entry) → all_commits (are_fit (seen log s).public) (option_to_list a) ≡ true → all_commits (are_fit (public_of log)) (option_to_list a) ≡ true
    by None i = refl
    by (Some (changes c)) i = refl
    by (Some (commits ws)) i = let one = writes_seen_fit log s.txn ws (grind (arith, nat_tests)) in grind (arith, nat_tests)

-- ---- runs

-- a session is sound, and fits
pub record Both (log : List Entry) (s : Session) : Type 0 where
  pub sound : SoundSession log s
  pub fits : FitSession log s

pub record Fitting (st : State) : Type 0 where
  pub sound : Sound st
  pub fronts : FitFronts st.log
  pub sessions : All (Both st.log) st.sessions

idle : (log : List Entry) (s : Session) → are_made (tag_count log) s.label ≡ true → s.txn ≡ None → Both log s
idle log s m e = record { sound = no_txn_is_sound log s m e; fits = no_txn log s.label s.txn e m }

pub at : (st : State) → Fitting st → (n : ℕ) → Both st.log (session_of st n)
at st v n = session_has (Both st.log) st v.sessions (idle st.log no_session refl refl) n

asked_fits : (read : Reader) (st : State) → Fitting st → (n : ℕ) (line : List ℕ) → Fitting (with_outcome st n (ask read st.log (session_of st n) line))
asked_fits read st v n line =
    let s = session_of st n in
    let both = at st v n in
    let k = both.fits in
    let f = whole st.log v.fronts in
    let o = ask read st.log s line in
    let x = shape read st.log s line in
    let h = outcome_fits st.log s (read line) k f v.fronts o x in
    let more = added_by read st.log s line in
    let later_log = log_after read st.log s line in
    let tidy = line_tidy st.log s v.sound.sound_log both.sound read line in
    record {
      sound = asked_sound read st v.sound n line;
      fronts = fronts_grow st.log o.added v.fronts (content_grows st.log o.added f (added_fits st.log s (read line) k f v.fronts o h));
      sessions =
          let here : Both later_log o.session = record {
            sound = session_stays_sound st.log s v.sound.sound_log both.sound read line;
            fits = later st.log more o.session.label o.session.txn tidy.begins (session_fits st.log s (read line) k f v.fronts o x h);
          } in
          let others = All-weaker (Both st.log) (Both later_log)
          (λ u b. record { sound = later_sound st.log more u b.sound; fits = later st.log more u.label u.txn b.sound.begins b.fits }) st.sessions v.sessions in
          All-set (Both later_log) st.sessions (n - 1) o.session here others;
    }

either : (b : Bool) (st u : State) → Fitting st → Fitting u → Fitting (cond b st u)
either true st u h k = h
either false st u h k = k

left_fits : (st : State) → Fitting st → (n : ℕ) → Fitting (with_session st n (closed (session_of st n)))
left_fits st v n = record {
  sound = left_sound st v.sound n;
  fronts = v.fronts;
  sessions = All-set (Both st.log) st.sessions (n - 1) (closed (session_of st n)) (idle st.log (closed (session_of st n)) (at st v n).sound.label_made refl) v.sessions;
}

next_fits : (read : Reader) (st : State) (x : Step) → Fitting st → Fitting (next read st x)
next_fits read st opens v = record { sound = next_sound read st opens v.sound; fronts = v.fronts; sessions = All-push (Both st.log) st.sessions new_session v.sessions (idle st.log new_session refl refl) }
next_fits read st (asks n line) v = either (session_of st n).is_open (with_outcome st n (ask read st.log (session_of st n) line)) st (asked_fits read st v n line) v
next_fits read st (refused n) v = v
next_fits read st long v = v
next_fits read st stray v = v
next_fits read st (leaves n) v = either (session_of st n).is_open (with_session st n (closed (session_of st n))) st (left_fits st v n) v

pub run_fits : (read : Reader) (steps : List Step) (st : State) → Fitting st → Fitting (run read st steps)
run_fits read [] st v = v
run_fits read (x ∷ steps) st v = run_fits read steps (next read st x) (next_fits read st x v)

pub opening_fits : Fitting opening
opening_fits = record { sound = opening_sound; fronts = record { fronts = none }; sessions = All-nil (Both []) } where
  none : (b : ℕ) → content_fits (take b [])
  none zero = refl
  none (suc b) = refl

pub rows_fit_lem : RowsFit
rows_fit_lem read steps n =
    let st = run read opening steps in
    let v = run_fits read steps opening opening_fits in
    let s = session_of st n in
    let k = (at st v n).fits in
    let f = whole st.log v.fronts in
    (f, seen_rows_fit st.log s (Ok (Rattle.ifdb_syntax.specs.declared.request.Request.TheVariants.Begin)) k f v.fronts s.txn k.own)
