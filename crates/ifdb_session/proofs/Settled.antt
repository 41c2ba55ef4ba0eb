-- What was said of a line still holds once its connection has waited: others alone may have added entries.
use Rattle.std.proofs.Common.{◌≡◌, ℕ, Bool, true, false, List, ◌∙◌, length, refl, sym, subst}
use Rattle.ifdb_turn.specs.declared.turnstile.Turnstile.{Turnstile}
use Rattle.ifdb_turn.specs.declared.turnstile.Pass.{Pass}
use Rattle.ifdb_turn.specs.Histories.{NoRootsFrom}
use Rattle.ifdb_turn.specs.Passes.{history, places}
use Rattle.ifdb_history.specs.declared.entry.Entry.{Entry}
use Rattle.ifdb_history.proofs.Entries.{entries_later}
use Rattle.ifdb_session.specs.declared.seat.Seat.{Seat}
use Rattle.ifdb_session.specs.Acknowledged.{sources_of}
use Rattle.ifdb_session.specs.Passes.{Sees, Asks}
use Rattle.ifdb_session.specs.Seats.{IsSeated, IsGone}
use Rattle.ifdb_session.proofs.Apart.{Stays, seat_later, gone_later}
use Rattle.ifdb_session.proofs.Passes.{sees_on}
use Rattle.ifdb_session.proofs.Serving.{turn_later}
use Rattle.ifdb_model.specs.Log.{Entry as LogEntry}

module _ {X : Type 0} (older : List LogEntry) (hall : Turnstile X Entry) (old mid last : Pass X Entry) (sees : Sees older hall mid last) (own : places last ≡ places mid)
    (away : NoRootsFrom (λ (e : Entry). e.root) (history last) (length (history mid)) (places mid)) where
  seated_stays : (t : Seat) → IsSeated older (history mid) (places mid) t → IsSeated older (history last) (places last) t × Stays older (history mid) (history last) t
  seated_stays t seated =
      let found = seat_later older (history mid) (history last) sees.begins sees.orderly.0 (places mid) away t seated in
      (subst (λ l. IsSeated older (history last) l t) (sym own) found.0, found.1)

  gone_stays : (t : Seat) → IsGone older (history mid) t → IsGone older (history last) t × Stays older (history mid) (history last) t
  gone_stays = gone_later older (history mid) (history last) sees.begins sees.orderly.0

  stays : (line text : List ℕ) (s t : Seat) (is_open : Bool) → Asks older hall line text old mid s t is_open → Stays older (history mid) (history last) t
  stays line text s t true a = (seated_stays t (a.seated refl)).1
  stays line text s t false a = (gone_stays t (a.over refl)).1

  pub asks_settled : (line text : List ℕ) (s t : Seat) (is_open : Bool) → Asks older hall line text old mid s t is_open → Asks older hall line text old last s t is_open
  asks_settled line text s t is_open a = record {
    sees = sees_on older hall old mid last a.sees sees;
    adds = record { added = a.adds.added; own = own ∙ a.adds.own; of = entries_later s.number (history mid) (history last) a.adds.added sees.begins a.adds.of };
    number = a.number;
    seated = λ o. (seated_stays t (a.seated o)).0;
    over = λ o. (gone_stays t (a.over o)).0;
    bye = λ o. let b = a.bye o in record { work = b.work; turn = turn_later (history mid) (history last) _ b.turn sees.begins; is_bye = b.is_bye };
    reply = a.reply;
    lines = (stays line text s t is_open a).lines ∙ a.lines;
    texts = λ before told. (stays line text s t is_open a).texts _ (a.texts before told);
  }

  pub sources_settled : (line text : List ℕ) (s t : Seat) (is_open : Bool) → Asks older hall line text old mid s t is_open → sources_of older s.number (history last) ≡ sources_of older s.number (history mid)
  sources_settled line text s t is_open a = subst (λ n. sources_of older n (history last) ≡ sources_of older n (history mid)) a.number (stays line text s t is_open a).sources
