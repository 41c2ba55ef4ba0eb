-- What others leave of a session: turns of other passes, and those of its own pass that aren't of it.
use Rattle.std.proofs.Common.{◌≡◌, ℕ, ◌<◌, List, [], ◌∷◌, ◌++◌, ◌∙◌, length, refl, sym, ap, arith}
use Rattle.std.proofs.lemmas.List.{append-nil}
use mathlib.Core.List.{IsPrefix}
use Rattle.ifdb_turn.specs.Histories.{AllRight, NoRootsFrom}
use Rattle.ifdb_turn.specs.Places.{times}
use Rattle.ifdb_turn.proofs.PlaceLemmas.{times-snoc}
use Rattle.ifdb_model.specs.Log.{Entry as LogEntry}
use Rattle.ifdb_model.specs.Run.{State, session_of}
use Rattle.ifdb_model.specs.Session.{Session}
use Rattle.ifdb_history.specs.declared.entry.Entry.{Entry}
use Rattle.ifdb_history.specs.History.{after, IsRight, Holds}
use Rattle.ifdb_history.specs.Lines.{lines_of, lines_with, work_lines}
use Rattle.ifdb_history.proofs.Flat.{after-append, lines-append, root-append}
use Rattle.ifdb_history.proofs.Logs.{log_on}
use Rattle.ifdb_history.proofs.Others.{IsApart, AreApart, apart_lines, told_longer, apart_sessions, kept_among_others}
use Rattle.ifdb_history.proofs.Over.{shut_on}
use Rattle.ifdb_history.proofs.Sessions.{open_was}
use Rattle.ifdb_session.specs.Acknowledged.{sources_of}
use Rattle.ifdb_session.specs.Passes.{IsLeftAlone}
use Rattle.ifdb_session.specs.Seats.{work_of, lines_in, IsToldIn, IsSeated, IsGone}
use Rattle.ifdb_session.specs.Starts.{start_of}
use Rattle.ifdb_session.specs.declared.seat.Seat.{Seat}
use Rattle.ifdb_session.proofs.Sources.{sources_later}
use Rattle.ifdb_session.proofs.Working.{if_later, if_told, told_alone, told_of_none}

-- ---- a session

more_places : (place : ℕ) (own : List ℕ) (k : ℕ) → 0 < times place own → 0 < times place (own ++ k ∷ [])
more_places place own k some = let more = times-snoc place own k in omega (arith, more, some)

module _ (older : List LogEntry) where
  -- where nothing was added
  pub alone_itself : (h : List Entry) (own : List ℕ) (m : ℕ) → Holds (start_of older) h own m → IsLeftAlone older h h own m
  alone_itself h own m holds = record { holds = holds; lines = refl; texts = λ text told. told; session = refl }

  module _ (h log : List Entry) (own : List ℕ) (m : ℕ) (holds : Holds (start_of older) h own m) (front : IsPrefix h log) (right : AllRight (IsRight (start_of older)) log)
      (away : NoRootsFrom (λ (e : Entry). e.root) log (length h) own) where
    -- where others alone have added
    pub alone_among_others : IsLeftAlone older h log own m
    alone_among_others =
        let kept = kept_among_others (start_of older) h log own m holds front right away in
        record { holds = kept.0; lines = kept.1; texts = kept.2; session = kept.3 }

    -- and then its own pass, an entry that isn't of it
    pub alone_at_more : (e : Entry) → IsApart m e.kind → IsLeftAlone older h (log ++ e ∷ []) (own ++ length log ∷ []) m
    alone_at_more e other =
        let before = alone_among_others in
        let apart : AreApart m (e ∷ []) = (other, tt) in
        let same = apart_sessions (start_of older).read m (after (start_of older) log) (e ∷ []) apart (open_was (after (start_of older) log) m before.holds.0) in
        let here : session_of (after (start_of older) (log ++ e ∷ [])) m ≡ session_of (after (start_of older) log) m = ap (λ (st : State). session_of st m) (after-append (start_of older) log (e ∷ [])) ∙ same.0 in
        record {
          holds = (
            ap (λ (s : Session). s.is_open) here ∙ before.holds.0,
            (before.holds.1.0, root-append log (e ∷ []) m before.holds.1.0 before.holds.1.1, more_places before.holds.1.0 own (length log) before.holds.1.2),
          );
          lines = lines-append m log (e ∷ []) ∙ ap (λ l. lines_of m log ++ l) (apart_lines m (e ∷ []) apart) ∙ append-nil (lines_of m log) ∙ before.lines;
          texts = λ text told. told_longer (start_of older) m log (e ∷ []) apart text (before.texts text told);
          session = here ∙ before.session;
        }

-- ---- a seat

-- what its session asked and was told is the same, and so is what it was answered from
pub record Stays (older : List LogEntry) (h log : List Entry) (t : Seat) : Type 0 where
  pub lines : lines_in log t ≡ lines_in h t
  pub texts : (text : List ℕ) → IsToldIn older h t text → IsToldIn older log t text
  pub sources : sources_of older t.number log ≡ sources_of older t.number h

module _ (older : List LogEntry) (h log : List Entry) (front : IsPrefix h log) (right : AllRight (IsRight (start_of older)) log) where
  -- its session was left alone
  pub seat_alone : (own places : List ℕ) (t : Seat) → IsLeftAlone older h log places t.number → IsSeated older h own t → IsSeated older log places t × Stays older h log t
  seat_alone own places t alone seated =
      let more = log_on (start_of older) h log front in (
        record { holds = alone.holds; works = if_later older h log t.number (work_of t) alone.session more t.lent seated.works },
        record {
          lines = ap (λ l. l ++ work_lines (work_of t)) alone.lines;
          texts = λ text told. (told.0, alone.texts told.0 told.1, told.2 ∙ ap (λ l. told.0 ++ l) (sym (if_told older h log t.number (work_of t) alone.session more t.lent seated.works)));
          sources = sources_later older t.number h log front alone.lines;
        },
      )

  -- others alone have added
  pub seat_later : (own : List ℕ) → NoRootsFrom (λ (e : Entry). e.root) log (length h) own → (t : Seat) → IsSeated older h own t → IsSeated older log own t × Stays older h log t
  seat_later own away t seated = seat_alone own own t (alone_among_others older h log own t.number seated.holds front right away) seated

  -- its session is over
  pub gone_later : (t : Seat) → IsGone older h t → IsGone older log t × Stays older h log t
  gone_later t gone =
      let still = shut_on (start_of older) t.number h log gone.shut front right in
      let alone : (k : List Entry) → lines_in k t ≡ lines_of t.number k = λ k. ap (lines_with t.number k) gone.none ∙ append-nil (lines_of t.number k) in (
        record { shut = still.0; none = gone.none },
        record {
          lines = alone log ∙ still.1 ∙ sym (alone h);
          texts = λ text told. told_alone older log t t.number text refl gone.none (still.2 text (told_of_none older h t text gone.none told));
          sources = sources_later older t.number h log front still.1;
        },
      )
