-- What is said of sessions, as a desk goes on.
use Rattle.std.proofs.Common.{◌≡◌, ℕ, ◌≤◌, Bool, true, false, List, [], ◌∷◌, ◌++◌, ◌∙◌, length, refl, sym, ap, subst, arith, inl, inr, All, Option, Some, None}
use Rattle.std.specs.Prelude.{IfSome}
use Rattle.std.proofs.lemmas.List.{append_assoc, append-nil, append_cancel_right, length-append}
use Rattle.std.proofs.lemmas.List.Elements.{All-nil, All-push, All-weaker}
use mathlib.Core.List.{IsPrefix}
use Rattle.ifdb_turn.specs.Histories.{AllRight}
use Rattle.ifdb_turn.specs.Passes.{history, places, BelongsTo}
use Rattle.ifdb_history.specs.declared.entry.Entry.{Entry}
use Rattle.ifdb_history.specs.History.{after, IsRight, IsShut, WasOpened}
use Rattle.ifdb_history.specs.Lines.{lines_of, lines_with, work_lines, IsTold}
use Rattle.ifdb_history.proofs.Sessions.{open_was}
use Rattle.ifdb_loop.specs.Dialogues.{Dialogue, silence, with_answer}
use Rattle.ifdb_session.specs.declared.records.Records as recorder
use Rattle.ifdb_session.specs.declared.seat.Seat.{Seat}
use Rattle.ifdb_session.specs.declared.settles.Settles as settler
use Rattle.ifdb_session.specs.Acknowledged.{sources_of, IsSourced, KnowsKept}
use Rattle.ifdb_session.specs.Behind.{AnswersBehind}
use Rattle.ifdb_session.specs.Passes.{Asks, IsNew, Sees}
use Rattle.ifdb_session.specs.Records.{texts_of}
use Rattle.ifdb_session.specs.Closings.{AsksBye, EndsInBye, HasLeft}
use Rattle.ifdb_session.specs.Seats.{work_of, lines_in, IsToldIn, IsSeated, WorksIf}
use Rattle.ifdb_session.specs.Starts.{start_of}
use Rattle.ifdb_session.specs.Talk.{IsLeftSo}
use Rattle.ifdb_session.proofs.Apart.{Stays, gone_later}
use Rattle.ifdb_session.proofs.Passes.{left_so}
use Rattle.ifdb_session.proofs.Serving.{bye_later}
use Rattle.ifdb_session.proofs.Sources.{answered_before, none_of_none}
use Rattle.ifdb_session.proofs.Working.{told_alone, told_of_none}
use Rattle.ifdb_desk.specs.declared.desk.Desk.{Desk}
use Rattle.ifdb_desk.specs.declared.place.Place.{Place}
use Rattle.ifdb_desk.specs.Desks.{GoesOn, IsReady, Says, SeesOver}
use Rattle.ifdb_desk.specs.Kept.{IsKeptFor}
use Rattle.ifdb_desk.specs.Overs.{IsClosedSo}
use Rattle.ifdb_desk.specs.Laws.{kept_later}

-- ---- what a session rests on

module _ {Q : Type 0} (recorders : recorder.Ghosts Q) where
  abbrev Within : ℕ → List (List ℕ) → Type 0
  Within mark source = recorders.count_of source ≤ mark

  -- a line more was asked
  marked_more : (n mark more : ℕ) (h k : List Entry) (count : Option ℕ) → mark ≤ more → IfSome count (λ c. c ≤ more) → IsSourced recorders.first recorders.count_of n h k count
      → All (Within mark) (sources_of recorders.first n h) → All (Within more) (sources_of recorders.first n k)
  marked_more n mark more h k None le some sourced all =
      subst (All (Within more)) (sym sourced) (All-weaker (Within mark) (Within more) (λ source c. omega (arith, c, le)) (sources_of recorders.first n h) all)
  marked_more n mark more h k (Some count) le some sourced all =
      subst (All (Within more)) (sym sourced.0) (All-push (Within more) (sources_of recorders.first n h) (texts_of recorders.first k)
      (All-weaker (Within mark) (Within more) (λ source c. omega (arith, c, le)) (sources_of recorders.first n h) all) (subst (λ c. c ≤ more) sourced.1 some))

module _ {R Q S : Type 0} (recorders : recorder.Ghosts Q) (settlers : settler.Ghosts S Q) (stays : (s t : S) (n : ℕ) → settlers.goes_on s t → settlers.is_kept s n → settlers.is_kept t n) where
  -- ---- the desk itself, where its pass has gone on

  pub goes_by : ((s : S) → settlers.goes_on s s) → (s t : Desk R Q S) → Sees recorders.first s.hall.now s.pass t.pass → t.hall ≡ s.hall → t.keeper ≡ s.keeper
      → t.limit ≡ s.limit → GoesOn recorders settlers s t
  goes_by itself s t sees hall keeper limit = record {
    hall = hall;
    limit = limit;
    begins = sees.begins;
    right = λ _. sees.orderly.0;
    shares = sees.shares;
    keeper = subst (settlers.goes_on s.keeper) (sym keeper) (itself s.keeper);
    held = λ n has. subst (λ k. settlers.has_shares k n) (sym keeper) has;
  }

  pub ready_by : (s t : Desk R Q S) → Sees recorders.first s.hall.now s.pass t.pass → t.hall ≡ s.hall → t.keeper ≡ s.keeper → (t.is_settled ≡ true → (s.is_settled ≡ true) × (t.mark ≡ s.mark))
      → IsReady recorders settlers s → IsReady recorders settlers t
  ready_by s t sees hall keeper settled ready = record {
    belongs = subst (λ hall. BelongsTo hall.now t.pass) (sym hall) sees.belongs;
    orderly = sees.orderly;
    keeper = subst settlers.ready (sym keeper) ready.keeper;
    settled = λ is. let was = settled is in subst (λ (z : S × ℕ). settlers.is_kept z.0 z.1) (λ i. (sym keeper i, sym was.1 i)) (ready.settled was.0);
  }

  -- ---- a session that was left alone

  module _ (s t : Desk R Q S) (front : IsPrefix (history s.pass) (history t.pass)) (right : AllRight (IsRight (start_of recorders.first)) (history t.pass)) (seat : Seat)
      (open_stays : IsSeated recorders.first (history s.pass) (places s.pass) seat → IsSeated recorders.first (history t.pass) (places t.pass) seat × Stays recorders.first (history s.pass) (history t.pass) seat) where
    left_later : (is_open : Bool) → IsLeftSo recorders.first (history s.pass) (places s.pass) seat is_open
        → IsLeftSo recorders.first (history t.pass) (places t.pass) seat is_open × Stays recorders.first (history s.pass) (history t.pass) seat
    left_later true seated = open_stays seated
    left_later false left =
        let gone = gone_later recorders.first (history s.pass) (history t.pass) front right seat left.0 in
        ((gone.0, bye_later seat.number (history s.pass) (history t.pass) (lines_in (history s.pass) seat) (lines_in (history t.pass) seat) left.1 front gone.1.lines), gone.1)

  pub says_later : (s t : Desk R Q S) (place : Place) (d : Dialogue) → Says recorders settlers s place d → IsPrefix (history s.pass) (history t.pass)
      → AllRight (IsRight (start_of recorders.first)) (history t.pass) → s.mark ≤ t.mark → settlers.goes_on s.keeper t.keeper
      → (IsSeated recorders.first (history s.pass) (places s.pass) place.seat → IsSeated recorders.first (history t.pass) (places t.pass) place.seat × Stays recorders.first (history s.pass) (history t.pass) place.seat)
      → Says recorders settlers t place d
  says_later s t place d says front right more goes open_stays =
      let later = left_later s t front right place.seat open_stays d.is_open says.left in
      let same = later.1 in
      let asked : lines_of place.seat.number (history t.pass) ≡ lines_of place.seat.number (history s.pass) =
      append_cancel_right (lines_of place.seat.number (history t.pass)) (lines_of place.seat.number (history s.pass)) (work_lines (work_of place.seat)) same.lines in
      record {
        same = says.same;
        left = later.0;
        lines = same.lines ∙ says.lines;
        texts = same.texts d.texts says.texts;
        marked = subst (All (Within recorders t.mark)) (sym same.sources) (All-weaker (Within recorders s.mark) (Within recorders t.mark) (λ source k. omega (arith, k, more)) (sources_of recorders.first place.seat.number (history s.pass)) says.marked);
        front = says.front;
        kept = kept_later recorders.first (KnowsKept recorders settlers s.keeper) (KnowsKept recorders settlers t.keeper) (λ texts. stays s.keeper t.keeper (recorders.count_of texts) goes) place.seat.number (history s.pass) (history t.pass) front asked d.kept says.kept;
      }

  -- ---- a session that was opened

  module _ (s t : Desk R Q S) (place : Place) (new : IsNew recorders.first place.seat.number s.pass t.pass) where
    nothing_answered : IsKeptFor recorders.first (KnowsKept recorders settlers t.keeper) (history t.pass) place.seat.number []
    nothing_answered before e begins so =
        let early = answered_before place.seat.number [] (history t.pass) (history t.pass, refl) new.lines before e begins so in
        let none : length ((before ++ e ∷ []) ++ early.0) ≡ 0 = ap length early.1 in
        let a = length-append (before ++ e ∷ []) early.0 in
        let b = length-append before (e ∷ []) in absurd (omega (arith, none, a, b))

    pub says_new : place.is_open ≡ true → place.seat.lent ≡ None → work_of place.seat ≡ [] → Says recorders settlers t place silence
    says_new opened in_room none = record {
      same = opened;
      left = record { holds = new.holds; works = subst (λ lent. WorksIf recorders.first (history t.pass) place.seat.number (work_of place.seat) lent) (sym in_room) none };
      lines = ap (lines_with place.seat.number (history t.pass)) none ∙ append-nil (lines_of place.seat.number (history t.pass)) ∙ new.lines;
      texts = told_alone recorders.first (history t.pass) place.seat place.seat.number [] refl none new.texts;
      marked = subst (All (Within recorders t.mark)) (sym (none_of_none recorders.first place.seat.number [] (history t.pass) new.lines)) (All-nil (Within recorders t.mark));
      front = ([], refl);
      kept = nothing_answered;
    }

  -- a session of which something is said was opened
  pub was_opened : (s : Desk R Q S) (place : Place) (d : Dialogue) → Says recorders settlers s place d → WasOpened (after (start_of recorders.first) (history s.pass)) place.seat.number
  was_opened s place d says = by d.is_open says.left where
    by : (is_open : Bool) → IsLeftSo recorders.first (history s.pass) (places s.pass) place.seat is_open → WasOpened (after (start_of recorders.first) (history s.pass)) place.seat.number
    by true seated = open_was (after (start_of recorders.first) (history s.pass)) place.seat.number seated.holds.0
    by false left = left.0.shut.0

  -- ---- a session that was asked a line

  -- what is known to be kept of it, where the turns that answered it since were taken behind all that it had been told
  pub kept_behind : (s : Desk R Q S) (place : Place) (d : Dialogue) (n : ℕ) (k : List Entry) → n ≡ place.seat.number → AnswersBehind recorders.first (history s.pass) k place.seat
      → Says recorders settlers s place d → IsKeptFor recorders.first (KnowsKept recorders settlers s.keeper) k n d.kept
  kept_behind s place d n k this behind says = subst (λ m. IsKeptFor recorders.first (KnowsKept recorders settlers s.keeper) k m d.kept) (sym this) (λ before e begins so.
      elim (behind.each before e begins so) [
        | inl old ↦ says.kept before e old so
        | inr told ↦ inr (record { all = d.texts; told = told d.texts says.texts; begins = says.front })
      ])

  module _ (s t : Desk R Q S) (place now : Place) (line : List ℕ) (is_open : Bool) (count : Option ℕ) (asks : Asks recorders.first s.hall.now line t.out.text s.pass t.pass place.seat now.seat is_open)
      (sourced : IsSourced recorders.first recorders.count_of place.seat.number (history s.pass) (history t.pass) count) (behind : AnswersBehind recorders.first (history s.pass) (history t.pass) place.seat) where
    pub says_asked : now.is_open ≡ is_open → t.keeper ≡ s.keeper → s.mark ≤ t.mark → IfSome count (λ c. c ≤ t.mark) → (d : Dialogue) → Says recorders settlers s place d
        → Says recorders settlers t now (with_answer d line t.out.text is_open)
    says_asked flag keeper more counted d says = record {
      same = flag;
      left = left_so recorders.first (history t.pass) (places t.pass) now.seat is_open (lines_in (history s.pass) place.seat) line asks.seated asks.over
          (λ over. subst (λ n. AsksBye n (history t.pass) line) (sym asks.number) (asks.bye over)) asks.lines;
      lines = asks.lines ∙ ap (λ lines. lines ++ line ∷ []) says.lines;
      texts = asks.texts d.texts says.texts;
      marked = subst (λ n. All (Within recorders t.mark) (sources_of recorders.first n (history t.pass))) (sym asks.number)
          (marked_more recorders place.seat.number s.mark t.mark (history s.pass) (history t.pass) count more counted sourced says.marked);
      front = (says.front.0 ++ t.out.text, sym (append_assoc d.kept says.front.0 t.out.text) ∙ ap (λ bytes. bytes ++ t.out.text) says.front.1);
      kept = subst (λ keeper. IsKeptFor recorders.first (KnowsKept recorders settlers keeper) (history t.pass) now.seat.number d.kept) (sym keeper)
          (kept_behind s place d now.seat.number (history t.pass) asks.number behind says);
    }

  -- ---- a session that is over

  -- an open one has left
  pub over_left : (s t : Desk R Q S) (place : Place) (d : Dialogue) → Says recorders settlers s place d → place.is_open ≡ true → t.keeper ≡ s.keeper
      → AllRight (IsRight (start_of recorders.first)) (history t.pass) → IsShut (after (start_of recorders.first) (history t.pass)) place.seat.number → HasLeft place.seat.number (history t.pass)
      → lines_of place.seat.number (history t.pass) ≡ lines_in (history s.pass) place.seat
      → ((text : List ℕ) → IsToldIn recorders.first (history s.pass) place.seat text → IsTold (start_of recorders.first) place.seat.number (history t.pass) text)
      → AnswersBehind recorders.first (history s.pass) (history t.pass) place.seat → SeesOver recorders settlers t place.seat.number d
  over_left s t place d says opened keeper right shut left lines texts behind = (
    right,
    record {
      shut = shut;
      closed = subst (IsClosedSo place.seat.number (history t.pass) d.lines) (sym opened ∙ says.same) left;
      lines = lines ∙ says.lines;
      texts = texts d.texts says.texts;
      front = says.front;
      kept = subst (λ keeper. IsKeptFor recorders.first (KnowsKept recorders settlers keeper) (history t.pass) place.seat.number d.kept) (sym keeper)
          (kept_behind s place d place.seat.number (history t.pass) refl behind says);
    },
  )

  -- another was closed by its last line
  pub over_by_line : (s : Desk R Q S) (place : Place) (d : Dialogue) → AllRight (IsRight (start_of recorders.first)) (history s.pass) → Says recorders settlers s place d → place.is_open ≡ false
      → SeesOver recorders settlers s place.seat.number d
  over_by_line s place d right says closed =
      let left = subst (IsLeftSo recorders.first (history s.pass) (places s.pass) place.seat) (sym says.same ∙ closed) says.left in
      let alone : lines_in (history s.pass) place.seat ≡ lines_of place.seat.number (history s.pass) =
      ap (lines_with place.seat.number (history s.pass)) left.0.none ∙ append-nil (lines_of place.seat.number (history s.pass)) in (
        right,
        record {
          shut = left.0.shut;
          closed = subst (IsClosedSo place.seat.number (history s.pass) d.lines) (sym closed ∙ says.same) (subst (EndsInBye place.seat.number (history s.pass)) says.lines left.1);
          lines = sym alone ∙ says.lines;
          texts = told_of_none recorders.first (history s.pass) place.seat d.texts left.0.none says.texts;
          front = says.front;
          kept = says.kept;
        },
      )
