-- A connection from its session's opening to its end.
use Rattle.std.proofs.Common.{◌≡◌, ℕ, true, false, List, [], ◌∷◌, ◌++◌, ◌∙◌, sym, ap, subst, inl, inr}
use Rattle.std.proofs.lemmas.List.{append_assoc, append-nil}
use mathlib.Core.List.{IsPrefix}
use Rattle.ifdb_turn.specs.Histories.{AllRight}
use Rattle.ifdb_turn.specs.declared.turnstile.Turnstile.{Turnstile}
use Rattle.ifdb_turn.specs.declared.turnstile.Pass.{Pass}
use Rattle.ifdb_turn.specs.Passes.{history, places}
use Rattle.ifdb_history.specs.declared.entry.Entry.{Entry}
use Rattle.ifdb_history.specs.declared.entry.Kind.{Kind}
use Rattle.ifdb_history.specs.History.{after, HasRoot, IsRight, IsShut}
use Rattle.ifdb_history.specs.Lines.{lines_of, lines_with, IsTold}
use Rattle.ifdb_history.proofs.Flat.{root-append}
use Rattle.ifdb_history.proofs.Over.{shut_on}
use Rattle.ifdb_session.specs.declared.ending.Ending.{Ending}
use Rattle.ifdb_session.specs.declared.ending.Ending.TheVariants as ends
use Rattle.ifdb_session.specs.declared.link.Talked.{Talked}
use Rattle.ifdb_session.specs.declared.seat.Seat.{Seat}
use Rattle.ifdb_session.specs.Acknowledged.{sources_of, Acknowledges}
use Rattle.ifdb_session.specs.Closings.{HasTurn, EndsInBye, HasLeft, Closes, MayBeOpen}
use Rattle.ifdb_session.specs.Passes.{Sees, Adds, IsNew}
use Rattle.ifdb_session.specs.Links.{Span, Ends, IsServed, Served}
use Rattle.ifdb_session.specs.Seats.{lines_in, IsToldIn, IsGone}
use Rattle.ifdb_session.specs.Talk.{IsLeftSo, IsTalked}
use Rattle.ifdb_session.proofs.Passes.{adds_on}
use Rattle.ifdb_session.proofs.Working.{told_of_none}
use Rattle.ifdb_model.specs.Log.{Entry as LogEntry}
use Rattle.ifdb_session.specs.Starts.{start_of}

-- ---- in a longer history a session is closed as it was

pub turn_later : (h k : List Entry) (x : Kind) → HasTurn h x → IsPrefix h k → HasTurn k x
turn_later h k x t front = record {
  before = t.before;
  root = t.root;
  behind = t.behind ++ front.0;
  is = sym front.1 ∙ ap (λ l. l ++ front.0) t.is ∙ append_assoc t.before (record { root = t.root; kind = x } ∷ t.behind) front.0;
}

pub bye_later : (n : ℕ) (h k : List Entry) (lines more : List (List ℕ)) → EndsInBye n h lines → IsPrefix h k → more ≡ lines → EndsInBye n k more
bye_later n h k lines more e front same = record {
  front = e.front;
  line = e.line;
  all = same ∙ e.all;
  bye = record { work = e.bye.work; turn = turn_later h k _ e.bye.turn front; is_bye = e.bye.is_bye };
}

pub left_later : (n : ℕ) (h k : List Entry) → HasLeft n h → IsPrefix h k → HasLeft n k
left_later n h k l front = record { work = l.work; turn = turn_later h k _ l.turn front }

closes_later : (ending : Ending) (n : ℕ) (h k : List Entry) → Closes ending n h → IsPrefix h k → lines_of n k ≡ lines_of n h → Closes ending n k
closes_later ends.Bye n h k c front same = bye_later n h k _ _ c front same
closes_later ends.End n h k c front same = left_later n h k c front
closes_later ends.LinkRead n h k c front same = left_later n h k c front
closes_later ends.LinkWrite n h k (inl c) front same = inl (bye_later n h k _ _ c front same)
closes_later ends.LinkWrite n h k (inr c) front same = inr (left_later n h k c front)
closes_later ends.Unkept n h k (inl c) front same = inl (bye_later n h k _ _ c front same)
closes_later ends.Unkept n h k (inr c) front same = inr (left_later n h k c front)
closes_later ends.TooMuch n h k c front same = left_later n h k c front
closes_later ends.TooLong n h k c front same = left_later n h k c front
closes_later ends.OutOfMemory n h k c front same = c

-- by its last line, or since it left: the end says which
closes_by_line : (ending : Ending) (n : ℕ) (h : List Entry) → MayBeOpen ending false → EndsInBye n h (lines_of n h) → Closes ending n h
closes_by_line ends.Bye n h may bye = bye
closes_by_line ends.End n h may bye = cc
closes_by_line ends.LinkRead n h may bye = cc
closes_by_line ends.LinkWrite n h may bye = inl bye
closes_by_line ends.Unkept n h may bye = inl bye
closes_by_line ends.TooMuch n h may bye = cc
closes_by_line ends.TooLong n h may bye = cc
closes_by_line ends.OutOfMemory n h may bye = may

closes_by_leaving : (ending : Ending) (n : ℕ) (h : List Entry) → MayBeOpen ending true → HasLeft n h → Closes ending n h
closes_by_leaving ends.Bye n h may left = cc
closes_by_leaving ends.End n h may left = left
closes_by_leaving ends.LinkRead n h may left = left
closes_by_leaving ends.LinkWrite n h may left = inr left
closes_by_leaving ends.Unkept n h may left = inr left
closes_by_leaving ends.TooMuch n h may left = left
closes_by_leaving ends.TooLong n h may left = left
closes_by_leaving ends.OutOfMemory n h may left = may

-- the clause of a link holds in each longer history that is in order
pub served_later : (older : List LogEntry) (ending : Ending) (limit n : ℕ) (h k : List Entry) (s : Span) → IsServed older ending limit n h s → IsPrefix h k
    → AllRight (IsRight (start_of older)) k → IsServed older ending limit n k s
served_later older ending limit n h k s served front right =
    let still = shut_on (start_of older) n h k served.0 front right in
    let ended = served.2 in (
      still.0,
      closes_later ending n h k served.1 front still.1,
      (ended.0, still.2 ended.0 ended.1, subst (λ z. Ends ending limit z ended.0 s) (sym still.1) ended.2),
    )

module _ {X : Type 0} (older : List LogEntry) (IsKept : List (List ℕ) → Type 0) (hall : Turnstile X Entry) (n limit : ℕ) (s : Span) (first opened : Pass X Entry) (new : IsNew older n first opened) where
  -- the session's first turn is the first of the own places that came
  first_on : (ending : Ending) (last : Pass X Entry) → Sees older hall opened last → Adds n opened last → IsServed older ending limit n (history last) s
      → Served older ending limit n first last s
  first_on ending last sees adds served = record {
    place = new.place;
    rest = adds.added;
    first = subst (λ h. HasRoot h n new.place) sees.begins.1 (root-append (history opened) sees.begins.0 n new.place new.root);
    own = adds.own ∙ ap (λ l. l ++ adds.added) new.own ∙ append_assoc (places first) (new.place ∷ []) adds.added;
    adds = adds_on n first opened last new.adds adds sees.begins;
    served = served;
  }

  -- what a session asked, where no work is left
  nothing_left : (h : List Entry) (seat : Seat) → IsGone older h seat → lines_in h seat ≡ lines_of seat.number h
  nothing_left h seat gone = ap (λ work. lines_with seat.number h work) gone.none ∙ append-nil (lines_of seat.number h)

  pub served_over : (last : Pass X Entry) (seat : Seat) (talked : Talked) → seat.number ≡ n → Sees older hall opened last → Adds n opened last
      → IsTalked older (history last) (places last) seat limit s talked → talked.is_open ≡ false
      → Acknowledges talked.ending IsKept (sources_of older seat.number (history last))
      → (k : ℕ) × Served older talked.ending limit k first last s × Acknowledges talked.ending IsKept (sources_of older k (history last))
  served_over last seat talked this sees adds so over kept =
      let left : IsLeftSo older (history last) (places last) seat false = subst (IsLeftSo older (history last) (places last) seat) over so.1 in
      let gone : IsGone older (history last) seat = left.0 in
      let lines = nothing_left (history last) seat gone in
      let ends = subst (λ z. Ends talked.ending limit z so.0.0 s) lines so.0.2 in
      let bye = subst (EndsInBye seat.number (history last)) lines left.1 in
      let closes = closes_by_line talked.ending seat.number (history last) (subst (MayBeOpen talked.ending) over so.2) bye in
      let served : IsServed older talked.ending limit seat.number (history last) s =
      (gone.shut, closes, (so.0.0, told_of_none older (history last) seat so.0.0 gone.none so.0.1, ends)) in (
        n,
        first_on talked.ending last sees adds (subst (λ m. IsServed older talked.ending limit m (history last) s) this served),
        subst (λ m. Acknowledges talked.ending IsKept (sources_of older m (history last))) this kept,
      )

  pub served_left : (mid last : Pass X Entry) (seat : Seat) (talked : Talked) → seat.number ≡ n → IsTalked older (history mid) (places mid) seat limit s talked → talked.is_open ≡ true
      → Sees older hall opened last → Adds n opened last → IsShut (after (start_of older) (history last)) seat.number → HasLeft seat.number (history last)
      → lines_of seat.number (history last) ≡ lines_in (history mid) seat
      → ((text : List ℕ) → IsToldIn older (history mid) seat text → IsTold (start_of older) seat.number (history last) text)
      → Acknowledges talked.ending IsKept (sources_of older seat.number (history last))
      → (k : ℕ) × Served older talked.ending limit k first last s × Acknowledges talked.ending IsKept (sources_of older k (history last))
  served_left mid last seat talked this so still sees adds shut left lines texts kept =
      let ends = subst (λ z. Ends talked.ending limit z so.0.0 s) (sym lines) so.0.2 in
      let closes = closes_by_leaving talked.ending seat.number (history last) (subst (MayBeOpen talked.ending) still so.2) left in
      let served : IsServed older talked.ending limit seat.number (history last) s = (shut, closes, (so.0.0, texts so.0.0 so.0.1, ends)) in (
        n,
        first_on talked.ending last sees adds (subst (λ m. IsServed older talked.ending limit m (history last) s) this served),
        subst (λ m. Acknowledges talked.ending IsKept (sources_of older m (history last))) this kept,
      )
