-- One turn of a session, once it has ended.
use Rattle.std.proofs.Common.{◌≡◌, ℕ, ◌+◌, ◌≤◌, Bool, true, false, List, [], ◌∷◌, ◌++◌, ◌∙◌, length, refl, sym, ap, subst, arith, Option, Some, None, inl, inr}
use Rattle.std.proofs.lemmas.Bool.{false≢true}
use Rattle.std.proofs.lemmas.List.{append-nil, length-append}
use mathlib.Core.List.{IsPrefix}
use Rattle.ifdb_turn.specs.declared.turnstile.Turnstile.{Turnstile}
use Rattle.ifdb_turn.specs.declared.turnstile.Pass.{Pass}
use Rattle.ifdb_turn.proofs.HistoryLemmas.{prefix_last}
use Rattle.ifdb_turn.specs.Histories.{AllRight, NoRootsFrom}
use Rattle.ifdb_turn.specs.Passes.{history, places, shares, BelongsTo, IsOrderly}
use Rattle.ifdb_turn.specs.Seats.{IsPassSeat}
use Rattle.ifdb_turn.specs.Turns.{turnstile_of, pass_of}
use Rattle.ifdb_turn.specs.declared.turn.Turn.{Turn}
use Rattle.ifdb_db.specs.Client.{Client}
use Rattle.ifdb_db.specs.Looks.{Looking, IsLookOf}
use Rattle.ifdb_db.specs.Room.{Hall, StandsFor}
use Rattle.ifdb_wire.specs.Text.{memory_text}
use Rattle.ifdb_history.specs.declared.entry.Entry.{Entry}
use Rattle.ifdb_history.specs.declared.entry.Kind.TheVariants as kind
use Rattle.ifdb_history.specs.declared.entry.Note.{Note}
use Rattle.ifdb_history.specs.History.{after, IsShut, HasRoot, IsKindOf, roots_from, IsRight, Holds, opening_entry, entry_of, IsEntryOf}
use Rattle.ifdb_history.specs.Lines.{lines_of, IsTold, IsToldWith}
use Rattle.ifdb_history.proofs.Others.{IsApart, kept_among_others}
use Rattle.ifdb_history.proofs.Flat.{roots-append, as_many_roots}
use Rattle.ifdb_history.proofs.Over.{opened_new}
use Rattle.ifdb_history.proofs.Entries.{last_entry}
use Rattle.ifdb_session.specs.Records.{texts_of}
use Rattle.ifdb_session.specs.Acknowledged.{answers, sources_of, IsSourced}
use Rattle.ifdb_session.specs.Behind.{work_in, AnswersBehind}
use Rattle.ifdb_session.specs.Closings.{HasLeft}
use Rattle.ifdb_session.specs.Ends.{EndsBare, EndsWith}
use Rattle.ifdb_session.specs.Passes.{IsLeftAlone, LeavesAll, Sees, Adds, Asks, IsNew, TakesNoTurn}
use Rattle.ifdb_session.specs.Seats.{work_of, lines_in, IsToldIn, asked_entry, left_entry, WorksIf, IsSeated, IsForRoom, Notes, IsShownAs}
use Rattle.ifdb_session.specs.declared.seat.Seat.{Seat}
use Rattle.ifdb_session.specs.Turns.{with_lent, IsLentBy, IsNextNumber, IsAnswered}
use Rattle.ifdb_session.proofs.Apart.{alone_among_others, alone_at_more}
use Rattle.ifdb_session.proofs.Passes.{prefix-trans, sees_itself, adds_none}
use Rattle.ifdb_session.proofs.MayAdd.{seat_found}
use Rattle.ifdb_session.proofs.Sources.{answered_before, sources_later, sources_more, sources_still}
use Rattle.ifdb_session.proofs.Working.{told_of_none}
use Rattle.ifdb_session.proofs.Said.{memory_is_reply, told_is_reply, shown_is_reply, asked_lines, asked_texts, asked_open, asked_bye, asked_reply, asked_over, refused_lines, refused_texts, refused_open, looked_lines, looked_texts, looked_open, left_lines, left_texts, left_over, left_leaves, noted_seat, noted_lines, noted_texts}
use Rattle.ifdb_model.specs.Log.{Entry as LogEntry}
use Rattle.ifdb_session.specs.Starts.{start_of}

-- ---- a line for the room takes a turn, or none

pub no_turn : {X : Type 0} (line : List ℕ) (lent : Option Client) (pass : Pass X Entry) → TakesNoTurn line lent pass pass
no_turn line None pass = tt
no_turn line (Some c) pass = inr refl

pub turn_for_room : {X : Type 0} (line : List ℕ) (lent : Option Client) (old new : Pass X Entry) → IsForRoom line lent → TakesNoTurn line lent old new
turn_for_room line None old new k = k
turn_for_room line (Some c) old new k = inl k

module _ (older : List LogEntry) where
  -- ---- passes

  module _ {X : Type 0} (hall : Turnstile X Entry) (old new : Pass X Entry) (log : List Entry) (e : Entry) (is : history new ≡ log ++ e ∷ []) where
    sees_one_more : BelongsTo hall new → IsOrderly (IsRight (start_of older)) new → IsPrefix (history old) log → shares new ≡ shares old → Sees older hall old new
    sees_one_more belongs orderly front same = record {
      belongs = belongs;
      orderly = orderly;
      begins = prefix-trans (history old) log (history new) front (e ∷ [], sym is);
      shares = same;
    }

    adds_one_more : (n : ℕ) → IsEntryOf n (log ++ e ∷ []) (length log) → places new ≡ places old ++ length log ∷ [] → Adds n old new
    adds_one_more n of own = record { added = length log ∷ []; own = own; of = (subst (λ l. IsEntryOf n l (length log)) (sym is) of, tt) }

  -- ---- a session that was opened

  pub is_new : {X : Type 0} (old new : Pass X Entry) (room : Hall) (log : List Entry) (n : ℕ) → AllRight (IsRight (start_of older)) log → StandsFor room (after (start_of older) log)
      → IsNextNumber room n → IsPrefix (history old) log → history new ≡ log ++ opening_entry log ∷ [] → places new ≡ places old ++ length log ∷ [] → IsNew older n old new
  is_new old new room log n right stands numbered front is own = record {
    place = length log;
    root = subst (λ l. HasRoot l n (length log)) (sym is) all.1;
    own = own;
    adds = adds_one_more_new;
    above = λ m was. let e = next in let le = was.1 in let more = as_many in omega (arith, e, le, more);
    holds = subst (λ (z : List Entry × List ℕ). Holds (start_of older) z.0 z.1 n) (λ i. (sym is i, sym own i)) all.0;
    lines = ap (lines_of n) is ∙ all.2;
    texts = subst (λ l. IsTold (start_of older) n l []) (sym is) all.3;
  } where
    next : n ≡ length (after (start_of older) log).sessions + 1
    next = numbered (after (start_of older) log) stands

    as_many : length (after (start_of older) (history old)).sessions ≤ length (after (start_of older) log).sessions
    as_many =
        let before = as_many_roots (start_of older) (history old) in
        let now = as_many_roots (start_of older) log in
        let roots = ap length (ap (roots_from 0) (sym front.1) ∙ roots-append (history old) front.0) in
        let more = length-append (roots_from 0 (history old)) (roots_from (length (history old)) front.0) in
        omega (arith, before, now, roots, more)

    all : Holds (start_of older) (log ++ opening_entry log ∷ []) (places old ++ length log ∷ []) n × HasRoot (log ++ opening_entry log ∷ []) n (length log)
        × (lines_of n (log ++ opening_entry log ∷ []) ≡ []) × IsTold (start_of older) n (log ++ opening_entry log ∷ []) []
    all = opened_new (start_of older) log (places old) n right next

    adds_one_more_new : Adds n old new
    adds_one_more_new = record {
      added = length log ∷ [];
      own = own;
      of = (subst (λ l. IsEntryOf n l (length log)) (sym is) (last_entry n log (opening_entry log) all.1), tt);
    }

  -- ---- all that a turn says, once it has ended

  module _ {X : Type 0} (hall : Turnstile X Entry) (old : Pass X Entry) (turn : Turn X Entry) (new : Pass X Entry) (e : Entry) (ended : EndsWith older turn new e)
      (at : (turnstile_of turn).table.shared.table_id ≡ hall.table.shared.table_id) (front : IsPrefix (history old) (history (pass_of turn)))
      (same : places (pass_of turn) ≡ places old) (kept_shares : shares (pass_of turn) ≡ shares old) where
    abbrev pub log_of : List Entry
    log_of = history (pass_of turn)

    own_more : places new ≡ places old ++ length log_of ∷ []
    own_more = ended.own ∙ ap (λ l. l ++ length log_of ∷ []) same

    pub ended_sees : Sees older hall old new
    ended_sees = sees_one_more hall old new log_of e ended.seen (subst (λ id. IsPassSeat id new.seat) at ended.belongs) ended.orderly front (ended.same ∙ kept_shares)

    ended_adds : (n : ℕ) → IsKindOf n (log_of ++ e ∷ []) (length log_of) e.kind → Adds n old new
    ended_adds n of = adds_one_more hall old new log_of e ended.seen n (last_entry n log_of e of) own_more

    pub ended_new : (room : Hall) (n : ℕ) → AllRight (IsRight (start_of older)) log_of → StandsFor room (after (start_of older) log_of) → IsNextNumber room n → e ≡ opening_entry log_of → IsNew older n old new
    ended_new room n right stands numbered this = is_new old new room log_of n right stands numbered front (ended.seen ∙ ap (λ x. log_of ++ x ∷ []) this) own_more

    -- a session that the entry isn't of is left alone
    pub ended_alone : AllRight (IsRight (start_of older)) log_of → NoRootsFrom (λ (x : Entry). x.root) log_of (length (history old)) (places old)
        → (m : ℕ) → IsApart m e.kind → Holds (start_of older) (history old) (places old) m → IsLeftAlone older (history old) (history new) (places new) m
    ended_alone right away m other holds =
        subst (λ (z : List Entry × List ℕ). IsLeftAlone older (history old) z.0 z.1 m) (λ i. (sym ended.seen i, sym own_more i))
        (alone_at_more older (history old) log_of (places old) m holds front right away e other)

    module _ (s : Seat) (seated : IsSeated older (history old) (places old) s) (right : AllRight (IsRight (start_of older)) log_of)
        (away : NoRootsFrom (λ (x : Entry). x.root) log_of (length (history old)) (places old)) where
      found : IsSeated older log_of (places old) s × (lines_in log_of s ≡ lines_in (history old) s) × ((text : List ℕ) → IsToldIn older (history old) s text → IsToldIn older log_of s text)
      found = seat_found older (history old) log_of (places old) s seated front right away

      sources_found : sources_of older s.number log_of ≡ sources_of older s.number (history old)
      sources_found = sources_later older s.number (history old) log_of front (kept_among_others (start_of older) (history old) log_of (places old) s.number seated.holds front right away).1

      -- it has answered the session, and counted what was recorded up to it
      pub ended_sourced : (count_of : List (List ℕ) → ℕ) (count : ℕ) → answers s.number e.kind ≡ true → count ≡ count_of (texts_of older (log_of ++ e ∷ []))
          → IsSourced older count_of s.number (history old) (history new) (Some count)
      ended_sourced count_of count so is =
          subst (λ k. IsSourced older count_of s.number (history old) k (Some count)) (sym ended.seen)
          (sources_more older s.number log_of e so ∙ ap (λ (l : List (List (List ℕ))). l ++ texts_of older (log_of ++ e ∷ []) ∷ []) sources_found, is)

      -- a turn that answers the session is taken behind all that it was told
      ended_behind : (answers s.number e.kind ≡ true → (text : List ℕ) → IsToldIn older (history old) s text → IsToldWith (start_of older) s.number log_of (work_in e.kind) text)
          → AnswersBehind older (history old) (history new) s
      ended_behind told = record {
        each = λ before x begins so. elim (prefix_last before log_of x e begins.0 (begins.1 ∙ ended.seen)) [
          | inl p ↦ inl (answered_before s.number (history old) log_of front (kept_among_others (start_of older) (history old) log_of (places old) s.number seated.holds front right away).1 before x p so)
          | inr q ↦ inr (λ text was. subst (λ (z : List Entry × Entry). IsToldWith (start_of older) s.number z.0 (work_in z.1.kind) text) (λ i. (sym q.0 i, sym q.1 i))
              (told (subst (λ (z : Entry). answers s.number z.kind ≡ true) q.1 so) text was))
        ];
      }

      pub asked_behind : (line : List ℕ) → e ≡ asked_entry log_of s.number (work_of s) line → AnswersBehind older (history old) (history new) s
      asked_behind line this = ended_behind (λ so text told. subst (λ (z : Entry). IsToldWith (start_of older) s.number log_of (work_in z.kind) text) (sym this) (found.2 text told))

      pub alone_behind : work_in e.kind ≡ [] → s.lent ≡ None → AnswersBehind older (history old) (history new) s
      alone_behind none in_room = ended_behind (λ so text told. subst (λ (work : List Note). IsToldWith (start_of older) s.number log_of work text) (sym none)
          (text, told_of_none older log_of s text (subst (WorksIf older (history old) s.number (work_of s)) in_room seated.works) (found.2 text told), sym (append-nil text)))

      pub left_behind : answers s.number e.kind ≡ false → AnswersBehind older (history old) (history new) s
      left_behind other = ended_behind (λ so. absurd (false≢true (sym other ∙ so)))

      pub ended_asked : (line text : List ℕ) (room next_room : Hall) (is_open : Bool) (now : Option Client) (t : Seat) → e ≡ asked_entry log_of s.number (work_of s) line
          → StandsFor room (after (start_of older) log_of) → IsAnswered s.number line (with_lent room s.number s.lent) next_room text is_open → (is_open ≡ true → IsLentBy next_room s.number now)
          → t.number ≡ s.number → t.lent ≡ now → work_of t ≡ [] → Asks older hall line text old new s t is_open
      ended_asked line text room next_room is_open now t this stands answered by_room number lent none =
          let is = ended.seen ∙ ap (λ x. log_of ++ x ∷ []) this in
          record {
            sees = ended_sees;
            adds = ended_adds s.number (subst (λ (x : Entry). IsKindOf s.number (log_of ++ e ∷ []) (length log_of) x.kind) (sym this) refl);
            number = number;
            seated = λ o. asked_open older log_of (places old) s found.0 line (history new) is room next_room text is_open stands answered now t number lent none o (by_room o) (places new) own_more;
            over = λ o. asked_over older log_of (places old) s found.0 line (history new) is room next_room text is_open stands answered now t number lent none o;
            bye = λ o. asked_bye older log_of (places old) s found.0 line (history new) is room next_room text is_open stands answered now t number lent none o;
            reply = asked_reply older log_of (places old) s found.0 line (history new) is room next_room text is_open stands answered now t number lent none;
            lines = asked_lines older log_of (places old) s found.0 line (history new) is room next_room text is_open stands answered now t number lent none ∙ ap (λ l. l ++ line ∷ []) found.1;
            texts = λ all b. asked_texts older log_of (places old) s found.0 line (history new) is room next_room text is_open stands answered now t number lent none all (found.2 all b);
          }

      pub ended_refused : (line text : List ℕ) (t : Seat) → e ≡ entry_of log_of s.number (kind.Refused s.number line) → text ≡ memory_text None → s.lent ≡ None
          → t.number ≡ s.number → t.lent ≡ None → work_of t ≡ work_of s → Asks older hall line text old new s t true
      ended_refused line text t this told in_room number lent work =
          let is = ended.seen ∙ ap (λ x. log_of ++ x ∷ []) this in
          record {
            sees = ended_sees;
            adds = ended_adds s.number (subst (λ (x : Entry). IsKindOf s.number (log_of ++ e ∷ []) (length log_of) x.kind) (sym this) refl);
            number = number;
            seated = λ o. refused_open older log_of (places old) s found.0 line (history new) is text told in_room t number lent work (places new) own_more;
            over = λ o. cc;
            bye = λ o. cc;
            reply = memory_is_reply text told;
            lines = refused_lines older log_of (places old) s found.0 line (history new) is text told in_room t number lent work ∙ ap (λ l. l ++ line ∷ []) found.1;
            texts = λ all b. refused_texts older log_of (places old) s found.0 line (history new) is text told in_room t number lent work all (found.2 all b);
          }

      pub ended_looked : (line text : List ℕ) (room : Hall) (x : Looking) (t : Seat) → e ≡ entry_of log_of s.number (kind.Looked s.number line) → StandsFor room (after (start_of older) log_of)
          → IsLookOf room s.number line x → IsShownAs x text → s.lent ≡ None → t.number ≡ s.number → t.lent ≡ None → work_of t ≡ work_of s → Asks older hall line text old new s t true
      ended_looked line text room x t this stands look told in_room number lent work =
          let is = ended.seen ∙ ap (λ x. log_of ++ x ∷ []) this in
          record {
            sees = ended_sees;
            adds = ended_adds s.number (subst (λ (x : Entry). IsKindOf s.number (log_of ++ e ∷ []) (length log_of) x.kind) (sym this) refl);
            number = number;
            seated = λ o. looked_open older log_of (places old) s found.0 line (history new) is room stands x look text told in_room t number lent work (places new) own_more;
            over = λ o. cc;
            bye = λ o. cc;
            reply = shown_is_reply x text told;
            lines = looked_lines older log_of (places old) s found.0 line (history new) is room stands x look text told in_room t number lent work ∙ ap (λ l. l ++ line ∷ []) found.1;
            texts = λ all b. looked_texts older log_of (places old) s found.0 line (history new) is room stands x look text told in_room t number lent work all (found.2 all b);
          }

      module _ (this : e ≡ left_entry log_of s.number (work_of s)) where
        left_is : history new ≡ log_of ++ left_entry log_of s.number (work_of s) ∷ []
        left_is = ended.seen ∙ ap (λ x. log_of ++ x ∷ []) this

        pub ended_left_adds : Adds s.number old new
        ended_left_adds = ended_adds s.number (subst (λ (x : Entry). IsKindOf s.number (log_of ++ e ∷ []) (length log_of) x.kind) (sym this) refl)

        pub ended_left_sourced : sources_of older s.number (history new) ≡ sources_of older s.number (history old)
        ended_left_sourced = ap (sources_of older s.number) left_is ∙ sources_still older s.number log_of (left_entry log_of s.number (work_of s)) refl ∙ sources_found

        pub ended_left_lines : lines_of s.number (history new) ≡ lines_in (history old) s
        ended_left_lines = left_lines older log_of (places old) s found.0 (history new) left_is ∙ found.1

        pub ended_left_texts : (all : List ℕ) → IsToldIn older (history old) s all → IsTold (start_of older) s.number (history new) all
        ended_left_texts all b = left_texts older log_of (places old) s found.0 (history new) left_is all (found.2 all b)

        pub ended_left_over : IsShut (after (start_of older) (history new)) s.number
        ended_left_over = left_over older log_of (places old) s found.0 (history new) left_is

        pub ended_left_leaves : HasLeft s.number (history new)
        ended_left_leaves = left_leaves older log_of (places old) s found.0 (history new) left_is

  -- ---- a turn that added nothing

  module _ {X : Type 0} (hall : Turnstile X Entry) (old : Pass X Entry) (turn : Turn X Entry) (new : Pass X Entry) (ended : EndsBare older turn new)
      (at : (turnstile_of turn).table.shared.table_id ≡ hall.table.shared.table_id) (front : IsPrefix (history old) (history (pass_of turn)))
      (kept : shares (pass_of turn) ≡ shares old) where
    pub bare_sees : Sees older hall old new
    bare_sees = record {
      belongs = subst (λ id. IsPassSeat id new.seat) at ended.belongs;
      orderly = ended.orderly;
      begins = subst (IsPrefix (history old)) (sym ended.seen) front;
      shares = ended.same ∙ kept;
    }

    -- each session is left alone
    pub bare_alone : AllRight (IsRight (start_of older)) (history (pass_of turn)) → NoRootsFrom (λ (x : Entry). x.root) (history (pass_of turn)) (length (history old)) (places old)
        → places (pass_of turn) ≡ places old → LeavesAll older old new
    bare_alone right away same m holds =
        let own : places new ≡ places old = ended.own ∙ same in
        subst (λ (z : List Entry × List ℕ). IsLeftAlone older (history old) z.0 z.1 m) (λ i. (sym ended.seen i, sym own i))
        (alone_among_others older (history old) (history (pass_of turn)) (places old) m holds front right away)

    pub bare_sourced : (s : Seat) → IsSeated older (history old) (places old) s → AllRight (IsRight (start_of older)) (history (pass_of turn))
        → NoRootsFrom (λ (x : Entry). x.root) (history (pass_of turn)) (length (history old)) (places old) → sources_of older s.number (history new) ≡ sources_of older s.number (history old)
    bare_sourced s seated right away =
        ap (sources_of older s.number) ended.seen
        ∙ sources_later older s.number (history old) (history (pass_of turn)) front (kept_among_others (start_of older) (history old) (history (pass_of turn)) (places old) s.number seated.holds front right away).1

    pub bare_behind : (s : Seat) → IsSeated older (history old) (places old) s → AllRight (IsRight (start_of older)) (history (pass_of turn))
        → NoRootsFrom (λ (x : Entry). x.root) (history (pass_of turn)) (length (history old)) (places old) → AnswersBehind older (history old) (history new) s
    bare_behind s seated right away = record {
      each = λ before x begins so. inl (answered_before s.number (history old) (history new) bare_sees.begins
          (ap (lines_of s.number) ended.seen ∙ (kept_among_others (start_of older) (history old) (history (pass_of turn)) (places old) s.number seated.holds front right away).1) before x begins so);
    }

    -- in which a lent session was refused a line
    pub bare_asked : (s t : Seat) (line text : List ℕ) → IsSeated older (history old) (places old) s → AllRight (IsRight (start_of older)) (history (pass_of turn))
        → NoRootsFrom (λ (x : Entry). x.root) (history (pass_of turn)) (length (history old)) (places old) → places (pass_of turn) ≡ places old
        → Notes line s t text → Asks older hall line text old new s t true
    bare_asked s t line text seated right away same m =
        let found = seat_found older (history old) (history (pass_of turn)) (places old) s seated front right away in
        let own : places new ≡ places old = ended.own ∙ same in
        record {
          sees = bare_sees;
          adds = record { added = []; own = own ∙ sym (append-nil (places old)); of = tt };
          number = m.number;
          seated = λ o. subst (λ (z : List Entry × List ℕ). IsSeated older z.0 z.1 t) (λ i. (sym ended.seen i, sym own i)) (noted_seat older (history (pass_of turn)) (places old) s found.0 line text t m);
          over = λ o. cc;
          bye = λ o. cc;
          reply = told_is_reply m.is_refused line m.before m.now text m.told;
          lines = ap (λ l. lines_in l t) ended.seen ∙ noted_lines older (history (pass_of turn)) (places old) s found.0 line text t m ∙ ap (λ l. l ++ line ∷ []) found.1;
          texts = λ all b. subst (λ l. IsToldIn older l t (all ++ text)) (sym ended.seen) (noted_texts older (history (pass_of turn)) (places old) s found.0 line text t m all (found.2 all b));
        }

  -- ---- a line that took no turn

  pub alone_asked : {X : Type 0} (hall : Turnstile X Entry) (pass : Pass X Entry) (s t : Seat) (line text : List ℕ) → BelongsTo hall pass → IsOrderly (IsRight (start_of older)) pass
      → IsSeated older (history pass) (places pass) s → Notes line s t text → Asks older hall line text pass pass s t true
  alone_asked hall pass s t line text belongs orderly seated m = record {
    sees = sees_itself older hall pass belongs orderly;
    adds = adds_none s.number pass;
    number = m.number;
    seated = λ o. noted_seat older (history pass) (places pass) s seated line text t m;
    over = λ o. cc;
    bye = λ o. cc;
    reply = told_is_reply m.is_refused line m.before m.now text m.told;
    lines = noted_lines older (history pass) (places pass) s seated line text t m;
    texts = noted_texts older (history pass) (places pass) s seated line text t m;
  }
