-- Connections that were served, in longer and longer histories.
use Rattle.std.proofs.Common.{◌≡◌, ℕ, ◌<◌, Bool, true, false, cond, List, [], ◌∷◌, ◌++◌, ◌∙◌, length, refl, sym, ap, subst, arith, All, inl, inr}
use Rattle.std.proofs.lemmas.List.{append-nil, append_assoc, append_cancel_left, get_or_append_left, length-append, map-append}
use Rattle.std.proofs.lemmas.List.Elements.{All-append, All-cons}
use mathlib.Core.List.{IsPrefix}
use Rattle.ifdb_io.specs.declared.outside.Source as source
use Rattle.ifdb_io.specs.declared.outside.Sink as sink
use Rattle.ifdb_io.specs.declared.doors.Door as door
use Rattle.ifdb_pool.specs.Visits.{Visit}
use Rattle.ifdb_turn.specs.Histories.{AllRight}
use Rattle.ifdb_turn.specs.declared.turnstile.Pass.{Pass}
use Rattle.ifdb_turn.specs.Passes.{history, places}
use Rattle.ifdb_history.specs.declared.entry.Entry.{Entry}
use Rattle.ifdb_history.specs.History.{after, first_state, flat, HasRoot, AreEntriesOf, IsRight}
use Rattle.ifdb_history.proofs.Flat.{flat-append, root-append}
use Rattle.ifdb_history.proofs.Entries.{entries_later}
use Rattle.ifdb_history.proofs.Over.{shut_on}
use Rattle.ifdb_model.specs.Log.{Entry as LogEntry}
use Rattle.ifdb_redo.specs.Spelling.{text}
use Rattle.ifdb_restore.specs.Redone.{records}
use Rattle.ifdb_db.specs.Reading.{read_line}
use Rattle.ifdb_session.specs.declared.ending.Ending.{Ending}
use Rattle.ifdb_session.specs.declared.ending.Ending.TheVariants as ends
use Rattle.ifdb_session.specs.declared.host.SessionHost.{SessionHost}
use Rattle.ifdb_session.specs.declared.records.Records as recorder
use Rattle.ifdb_session.specs.declared.settles.Settles as settler
use Rattle.ifdb_session.specs.Acknowledged.{answers, Acknowledges, KnowsKept, sources_from, sources_of}
use Rattle.ifdb_session.specs.Records.{records_of, texts_of}
use Rattle.ifdb_session.specs.Texts.{texts_for}
use Rattle.ifdb_session.specs.Hosts.{Serves}
use Rattle.ifdb_session.specs.Links.{Served, Span}
use Rattle.ifdb_session.specs.Starts.{start_of}
use Rattle.ifdb_session.proofs.Recording.{records-append}
use Rattle.ifdb_session.proofs.Serving.{served_later}
use Rattle.ifdb_session.proofs.Sources.{sources_later}
use Rattle.ifdb_service.specs.Doors.{Connection, Run, AreTurnsOf, IsLinked, AllLinked, IsRunIn}

is_memory : (ending : Ending) → Dec (ending ≡ ends.OutOfMemory)
is_memory ends.Bye = no (λ e. cc)
is_memory ends.End = no (λ e. cc)
is_memory ends.LinkRead = no (λ e. cc)
is_memory ends.LinkWrite = no (λ e. cc)
is_memory ends.Unkept = no (λ e. cc)
is_memory ends.TooMuch = no (λ e. cc)
is_memory ends.TooLong = no (λ e. cc)
is_memory ends.OutOfMemory = yes refl

turns_later : (n : ℕ) (h k : List Entry) (turns : List ℕ) → AreTurnsOf n h turns → IsPrefix h k → AreTurnsOf n k turns
turns_later n h k [] t p = absurd t
turns_later n h k (place ∷ rest) t p =
    (subst (λ l. HasRoot l n place) p.1 (root-append h p.0 n place t.0), entries_later n h k (place ∷ rest) p t.1)

-- the turns that a session of a link took are what the pass has got
turns_are : {X : Type 0} (first : List LogEntry) (ending : Ending) (limit n : ℕ) (old new : Pass X Entry) (s : Span) (one : Served first ending limit n old new s)
    → AreTurnsOf n (history new) (one.place ∷ one.rest)
turns_are first ending limit n old new s one =
    (one.first, subst (AreEntriesOf n (history new)) (append_cancel_left (places old) _ _ (sym one.adds.own ∙ one.own)) one.adds.of)

-- ---- what replies were answered from are first texts of the history

pub texts_front : (first : List LogEntry) (h k : List Entry) → IsPrefix (texts_of first h) (texts_of first (h ++ k))
texts_front first h k =
    let more = records read_line (after (start_of first) h) (flat k) in
    let all : records_of first (h ++ k) ≡ records_of first h ++ more =
    ap (records read_line (first_state (start_of first))) (flat-append h k) ∙ records-append read_line (first_state (start_of first)) (flat h) (flat k) in
    (texts_for more, sym (map-append text (records_of first h) more) ∙ ap texts_for (sym all))

sources_front : (first : List LogEntry) (n : ℕ) (before h whole : List Entry) → before ++ h ≡ whole → All (λ xs. IsPrefix xs (texts_of first whole)) (sources_from first n before h)
sources_front first n before [] whole is = λ k d lt. absurd (omega (arith, lt))
sources_front first n before (e ∷ h) whole is =
    All-append IsFront (cond (answers n e.kind) (texts_of first (before ++ e ∷ []) ∷ []) []) (sources_from first n (before ++ e ∷ []) h) (one (answers n e.kind))
    (sources_front first n (before ++ e ∷ []) h whole split)
  where
    IsFront : List (List ℕ) → Type 0
    IsFront xs = IsPrefix xs (texts_of first whole)

    split : (before ++ e ∷ []) ++ h ≡ whole
    split = append_assoc before (e ∷ []) h ∙ is

    one : (b : Bool) → All IsFront (cond b (texts_of first (before ++ e ∷ []) ∷ []) [])
    one true = All-cons IsFront (texts_of first (before ++ e ∷ [])) [] (subst (λ l. IsPrefix (texts_of first (before ++ e ∷ [])) (texts_of first l)) split (texts_front first (before ++ e ∷ []) h)) (λ k d lt. absurd (omega (arith, lt)))
    one false = λ k d lt. absurd (omega (arith, lt))

-- ---- what is known to be kept is known by whoever knows more

all_with : {X : Type 0} (P R P' : X → Type 0) (xs : List X) → ((x : X) → R x → P x → P' x) → All R xs → All P xs → All P' xs
all_with P R P' xs wider fronts all = λ k d lt. wider _ (fronts k d lt) (all k d lt)

all_left : {X : Type 0} (P : X → Type 0) (xs ys : List X) → All P (xs ++ ys) → All P xs
all_left P xs ys all = λ k d lt.
    let within : k < length (xs ++ ys) = omega (arith, lt, length-append xs ys) in
    subst P (get_or_append_left xs ys d k lt) (all k d within)

acknowledges_with : (ending : Ending) (P R P' : List (List ℕ) → Type 0) (xs : List (List (List ℕ))) → ((x : List (List ℕ)) → R x → P x → P' x) → All R xs
    → Acknowledges ending P xs → Acknowledges ending P' xs
acknowledges_with ends.Unkept P R P' xs wider fronts all =
    (all.0, all.1, all.2, all_with P R P' all.0 wider (all_left R all.0 (all.1 ∷ []) (subst (All R) all.2 fronts)) all.3)
acknowledges_with ends.Bye P R P' xs wider fronts all = all_with P R P' xs wider fronts all
acknowledges_with ends.End P R P' xs wider fronts all = all_with P R P' xs wider fronts all
acknowledges_with ends.LinkRead P R P' xs wider fronts all = all_with P R P' xs wider fronts all
acknowledges_with ends.LinkWrite P R P' xs wider fronts all = all_with P R P' xs wider fronts all
acknowledges_with ends.TooMuch P R P' xs wider fronts all = all_with P R P' xs wider fronts all
acknowledges_with ends.TooLong P R P' xs wider fronts all = all_with P R P' xs wider fronts all
acknowledges_with ends.OutOfMemory P R P' xs wider fronts all = all_with P R P' xs wider fronts all

module _ {K Q S : Type 0} (sources : source.Ghosts K) (sinks : sink.Ghosts K) (recorders : recorder.Ghosts Q) (settlers : settler.Ghosts S Q) where
  -- a connection was served so, by what a keeper knows
  abbrev pub IsLinkedBy : S → ℕ → List Entry → Visit K → Connection → Type 0
  IsLinkedBy keeper = IsLinked sources sinks recorders.first (KnowsKept recorders settlers keeper) (settlers.has_failed keeper)

  abbrev pub AllLinkedBy : S → ℕ → List Entry → List (Visit K) → List Connection → Type 0
  AllLinkedBy keeper = AllLinked sources sinks recorders.first (KnowsKept recorders settlers keeper) (settlers.has_failed keeper)

  -- what a host did with one connection, by the turns that its pass has got
  pub record Linked1 {R : Type 0} (a m : SessionHost R K Q S) (v : Visit K) (ending : Ending) : Type 0 where
    pub connection : Connection
    pub same : connection.ending ≡ ending
    pub linked : IsLinkedBy m.keeper a.limit (history m.pass) v connection
    pub own : places m.pass ≡ places a.pass ++ connection.turns

  pub linked1 : {R : Type 0} (a m : SessionHost R K Q S) (v : Visit K) (s : Serves sources sinks recorders settlers a v.came m v.went)
      → Linked1 a m v s.service.ending
  linked1 {R} a m v s = by (is_memory s.service.ending) where
    by : Dec (s.service.ending ≡ ends.OutOfMemory) → Linked1 {R = R} a m v s.service.ending
    by (yes none) = record {
      connection = record { ending = s.service.ending; number = s.service.number; turns = [] };
      same = refl;
      linked = record {
        served = λ opened. absurd (opened none);
        turns = λ opened. absurd (opened none);
        acknowledged = s.acknowledged;
        unserved = s.unserved;
        unopened = λ _. refl;
        causes = s.causes;
        unkept = s.unkept;
      };
      own = s.unopened none ∙ sym (append-nil (places a.pass));
    }
    by (no opened) =
        let one = s.served opened in record {
          connection = record { ending = s.service.ending; number = s.service.number; turns = one.place ∷ one.rest };
          same = refl;
          linked = record {
            served = λ _. one.served;
            turns = λ _. turns_are recorders.first s.service.ending a.limit s.service.number a.pass m.pass _ one;
            acknowledged = s.acknowledged;
            unserved = s.unserved;
            unopened = λ none. absurd (opened none);
            causes = s.causes;
            unkept = s.unkept;
          };
          own = one.own;
        }

-- what was said of connections still holds in a longer history, and by whoever knows more
module _ {K : Type 0} (sources : source.Ghosts K) (sinks : sink.Ghosts K) (first : List LogEntry) (IsKept IsKept' : List (List ℕ) → Type 0) (HasFailed HasFailed' : Type 0)
    (h k : List Entry) (kept : (texts : List (List ℕ)) → IsPrefix texts (texts_of first k) → IsKept texts → IsKept' texts) (failed : HasFailed → HasFailed')
    (p : IsPrefix h k) (right : AllRight (IsRight (start_of first)) k) where
  acknowledged_later : (ending : Ending) (n : ℕ) → sources_of first n k ≡ sources_of first n h → Acknowledges ending IsKept (sources_of first n h)
      → Acknowledges ending IsKept' (sources_of first n k)
  acknowledged_later ending n same all =
      acknowledges_with ending IsKept (λ xs. IsPrefix xs (texts_of first k)) IsKept' (sources_of first n k) kept (sources_front first n [] k k refl)
      (subst (Acknowledges ending IsKept) (sym same) all)

  linked_later : (limit : ℕ) (v : Visit K) (c : Connection) → IsLinked sources sinks first IsKept HasFailed limit h v c → IsLinked sources sinks first IsKept' HasFailed' limit k v c
  linked_later limit v c l = record {
    served = λ opened. served_later first c.ending limit c.number h k _ (l.served opened) p right;
    turns = λ opened. turns_later c.number h k c.turns (l.turns opened) p;
    acknowledged = λ opened. acknowledged_later c.ending c.number
        (sources_later first c.number h k p (shut_on (start_of first) c.number h k (l.served opened).0 p right).1) (l.acknowledged opened);
    unserved = l.unserved;
    unopened = l.unopened;
    causes = l.causes;
    unkept = λ held. failed (l.unkept held);
  }

  pub all_later : (limit : ℕ) (vs : List (Visit K)) (cs : List Connection) → AllLinked sources sinks first IsKept HasFailed limit h vs cs
      → AllLinked sources sinks first IsKept' HasFailed' limit k vs cs
  all_later limit [] [] l = tt
  all_later limit [] (c ∷ cs) l = absurd l
  all_later limit (v ∷ vs) [] l = absurd l
  all_later limit (v ∷ vs) (c ∷ cs) l = (linked_later limit v c l.0, all_later limit vs cs l.1)

  pub run_later : {D : Type 0} (doors : door.Ghosts D K) (limit : ℕ) (r : Run D K) → IsRunIn sources sinks first IsKept HasFailed doors limit h r
      → IsRunIn sources sinks first IsKept' HasFailed' doors limit k r
  run_later doors limit r i = record {
    coming = i.coming;
    back = i.back;
    linked = all_later limit r.visits r.connections i.linked;
    all = i.all;
    cause = λ off. elim (i.cause off) [
      | inl rose ↦ inl rose
      | inr lost ↦ inr (failed lost)
    ];
  }
