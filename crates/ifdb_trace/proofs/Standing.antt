-- What a line does to where the check of a trace stands.
use Rattle.std.proofs.Common.{◌≡◌, ℕ, ◌+◌, ◌<◌, ◌≤◌, ◌^◌, Bool, true, false, List, [], ◌∷◌, ◌++◌, length, take, drop, refl, sym, ap, subst, ◌∙◌, arith, cond, Some, inl, inr}
use Rattle.std.specs.Fmt.{digits}
use Rattle.std.specs.Prelude.{bytes_eq, flat_map, decimal, ◌==◌, Result, Ok, Err, OnOk}
use Rattle.std.specs.List.{list_all, list_any}
use Rattle.std.proofs.lemmas.Bool.{false≢true}
use Rattle.std.proofs.lemmas.Bool.Decides.{nat_tests}
use Rattle.std.proofs.lemmas.List.{append-nil, length-append, take-append-drop}
use Rattle.ifdb_wire.specs.declared.fault.Fault.TheVariants as fault
use Rattle.ifdb_wire.specs.declared.reply.Reply.{Reply}
use Rattle.ifdb_wire.specs.declared.reply.Reply.TheVariants as reply
use Rattle.ifdb_wire.specs.Text.{reply_text, memory_text}
use Rattle.ifdb_model.specs.Run.{State, opens, asks, stray, outcome_of, next}
use Rattle.ifdb_model.specs.Script.{lines_of, on_first, line_steps}
use Rattle.ifdb_laws.specs.StepLaws.{MemoryIsNeverTold}
use Rattle.ifdb_db.specs.Reading.{read_line}
use Rattle.ifdb_db.specs.Room.{Hall, StandsFor}
use Rattle.ifdb_db.specs.RoomSteps.{GoesBy, IsReplyText}
use Rattle.ifdb_db.proofs.RoomLaws.{as_many}
use Rattle.ifdb_db.proofs.Spares.{read_spares}
use Rattle.ifdb_trace.specs.declared.checker.Stage.{Stage}
use Rattle.ifdb_trace.specs.declared.checker.Stage.TheVariants as stage
use Rattle.ifdb_trace.specs.declared.checker.Checker.{Checker}
use Rattle.ifdb_trace.specs.Accepted.{asked_mark, told_mark, recorded_line, recorded_lines, is_short}
use Rattle.ifdb_trace.specs.Checking.{Due, is_told, dues, can_come, behind_asked, next_told, behind_told, behind, is_over}
use Rattle.ifdb_trace.specs.Stages.{dues_at, IsNumberedStage, IsAt, GoesOn, IsWrong, IsWrongFirst, IsEnd}
use Rattle.ifdb_trace.proofs.Exact.{bytes_are}
use Rattle.ifdb_trace.proofs.Ways.{due_of, keep, both_ways, dues_asks, dues_opens, told_behind, next_is, next_not, memory_way, machine_way, memory_comes, first_text, more_text, text_is, memory_apart, opened_apart, never_told}

-- ---- sizes and marks

pub short_is : (line : List ℕ) → length line ≤ 65535 → is_short line ≡ true
short_is line h = grind (arith, nat_tests)

pub long_is : (line : List ℕ) → 65535 < length line → is_short line ≡ false
long_is line h = grind (arith, nat_tests)

asked_behind : (line : List ℕ) (all : List Due) → is_short (asked_mark ++ line) ≡ true
    → behind read_line (asked_mark ++ line) all ≡ flat_map (behind_asked read_line line) all
asked_behind line all h = rw h refl

-- a line that is too long may come nowhere
pub long_behind : (line : List ℕ) (all : List Due) → is_short line ≡ false → behind read_line line all ≡ []
long_behind line all h = rw h refl

-- nor one without a mark
module _ (line : List ℕ) (all : List Due) where
  marked_so : (mark : List ℕ) → ((text : List ℕ) → line ≡ mark ++ text → ⊥) → bytes_eq (take 2 line) mark ≡ false
  marked_so mark other = by (bytes_eq (take 2 line) mark) refl where
    by : (b : Bool) → bytes_eq (take 2 line) mark ≡ b → b ≡ false
    by true e = absurd (other (drop 2 line) (sym (take-append-drop 2 line) ∙ ap (λ m. m ++ drop 2 line) (bytes_are (take 2 line) mark e)))
    by false e = refl

  pub other_behind : ((text : List ℕ) → line ≡ asked_mark ++ text → ⊥) → ((text : List ℕ) → line ≡ told_mark ++ text → ⊥) → behind read_line line all ≡ []
  other_behind a t = by (is_short line) where
    by : (b : Bool) → cond b (cond (bytes_eq (take 2 line) asked_mark) (flat_map (behind_asked read_line (drop 2 line)) all) (cond (bytes_eq (take 2 line) told_mark) (flat_map (behind_told line) all) [])) [] ≡ []
    by true = rw (marked_so asked_mark a, marked_so told_mark t) refl
    by false = refl

-- ---- where a trace may end

some_lines : (b : ℕ) (bytes : List ℕ) → list_all (λ _. false) (recorded_lines (b ∷ bytes)) ≡ false
some_lines b bytes = by (b == 10) where
  onto : (lines : List (List ℕ)) → list_all (λ _. false) (Rattle.std.proofs.Common.map recorded_line (on_first b lines)) ≡ false
  onto [] = refl
  onto (line ∷ lines) = refl

  by : (c : Bool) → list_all (λ _. false) (Rattle.std.proofs.Common.map recorded_line (cond c ([] ∷ lines_of bytes) (on_first b (lines_of bytes)))) ≡ false
  by true = refl
  by false = onto (lines_of bytes)

untold_some : (text : List ℕ) (st : State) → 0 < length text → is_told (due_of text st) ≡ false
untold_some [] st h = absurd (omega arith)
untold_some (b ∷ text) st h = some_lines b text

pub end_telling : (text : List ℕ) (st : State) → IsEnd (length text == 0) (due_of text st ∷ [])
end_telling [] st = record { some = omega arith; over_is = refl }
end_telling (b ∷ text) st = record {
  some = omega arith;
  over_is = let no = some_lines b text in grind (arith, nat_tests);
}

reply_some : (n : ℕ) (r : Reply) → 0 < length (reply_text (Some n) r)
reply_some n r = omega (arith, ap length (text_is n r), length-append (decimal n) (32 ∷ (first_text r ++ (10 ∷ more_text n r))))

end_two : (a m : Due) → is_told a ≡ false → is_told m ≡ false → can_come m ≡ true → IsEnd false (Rattle.std.specs.Prelude.filter can_come (a ∷ m ∷ []))
end_two a m no_a no_m comes = by (can_come a) where
  by : (b : Bool) → IsEnd false (cond b (a ∷ cond (can_come m) (m ∷ []) []) (cond (can_come m) (m ∷ []) []))
  by true = rw comes (record { some = omega arith; over_is = rw (no_a, no_m) refl })
  by false = rw comes (record { some = omega arith; over_is = rw no_m refl })

end_ways : (text : List ℕ) (st old : State) (n : ℕ) → n < 2 ^ 64 → 0 < length text → IsEnd false (both_ways text st n old)
end_ways text st old n small some =
    end_two (due_of text st) (due_of (memory_text (Some n)) old) (untold_some text st some)
    (untold_some (memory_text (Some n)) old (reply_some n (reply.Refused fault.OutOfMemory))) (memory_comes n old small)

-- ---- where the check stands

module _ (c : Checker) (all : List Due) (at : IsAt c all) where
  -- what is due at a stage
  pub due_at : (s : Stage) → c.stage ≡ s → all ≡ dues_at s c.reply c.request.items at.state
  due_at s e = at.dues_are ∙ ap (λ k. dues_at k c.reply c.request.items at.state) e

  pub telling_dues : c.stage ≡ stage.Telling → all ≡ due_of c.reply at.state ∷ []
  telling_dues e = due_at stage.Telling e

  pub opening_dues : c.stage ≡ stage.Opening → all ≡ both_ways (reply_text (Some (length at.state.sessions + 1)) reply.Opened) (next read_line at.state opens) 0 at.state
  opening_dues e = due_at stage.Opening e ∙ dues_opens read_line at.state

  pub asking_dues : (n : ℕ) → c.stage ≡ stage.Asking n
      → all ≡ both_ways (reply_text (Some n) (outcome_of read_line at.state n c.request.items).reply) (next read_line at.state (asks n c.request.items)) n at.state
  asking_dues n e = due_at (stage.Asking n) e ∙ dues_asks read_line at.state n c.request.items

  pub asking_small : (n : ℕ) → c.stage ≡ stage.Asking n → n < 2 ^ 64
  asking_small n e = let k = subst IsNumberedStage e at.numbered in omega (arith, k.1)

  pub end_at_telling : c.stage ≡ stage.Telling → IsEnd (length c.reply == 0) all
  end_at_telling e = subst (IsEnd (length c.reply == 0)) (sym (telling_dues e)) (end_telling c.reply at.state)

  pub end_at_opening : c.stage ≡ stage.Opening → IsEnd false all
  end_at_opening e =
      subst (IsEnd false) (sym (opening_dues e))
      (end_ways (reply_text (Some (length at.state.sessions + 1)) reply.Opened) (next read_line at.state opens) at.state 0 (omega arith) (reply_some (length at.state.sessions + 1) reply.Opened))

  pub end_at_asking : (n : ℕ) → c.stage ≡ stage.Asking n → IsEnd false all
  end_at_asking n e =
      subst (IsEnd false) (sym (asking_dues n e))
      (end_ways (reply_text (Some n) (outcome_of read_line at.state n c.request.items).reply) (next read_line at.state (asks n c.request.items)) at.state n (asking_small n e)
      (reply_some n (outcome_of read_line at.state n c.request.items).reply))

-- something may come next
pub at_some : (c : Checker) (all : List Due) → IsAt c all → 0 < length all
at_some c all at = by c.stage refl where
  by : (s : Stage) → c.stage ≡ s → 0 < length all
  by stage.Telling e = (end_at_telling c all at e).some
  by stage.Opening e = (end_at_opening c all at e).some
  by (stage.Asking n) e = (end_at_asking c all at n e).some

-- ---- a script's line

none_asked : (line : List ℕ) (all : List Due) → is_over all ≡ false → flat_map (behind_asked read_line line) all ≡ []
none_asked line [] h = refl
none_asked line (d ∷ all) h = by (is_told d) refl (none_asked line all) where
  by : (b : Bool) → is_told d ≡ b → (is_over all ≡ false → flat_map (behind_asked read_line line) all ≡ [])
      → cond b (dues read_line d.state (line_steps line)) [] ++ flat_map (behind_asked read_line line) all ≡ []
  by true e more = absurd (false≢true (sym h ∙ rw e refl))
  by false e more = more (grind (arith, nat_tests))

pub asked_wrong : (old : Checker) (text : List ℕ) → length (asked_mark ++ text) ≤ 65535 → ((all : List Due) → IsAt old all → IsEnd false all) → IsWrong old (asked_mark ++ text)
asked_wrong old text short ends all at = asked_behind text all (short_is (asked_mark ++ text) short) ∙ none_asked text all (ends all at).over_is

pub asked_on : (old new : Checker) (text : List ℕ) → length (asked_mark ++ text) ≤ 65535 → old.stage ≡ stage.Telling → old.reply ≡ []
    → ((st : State) → StandsFor old.room st → IsAt new (dues read_line st (line_steps text))) → GoesOn old new (asked_mark ++ text)
asked_on old new text short telling told begun all at =
    let none : all ≡ due_of [] at.state ∷ [] = telling_dues old all at telling ∙ ap (λ t. due_of t at.state ∷ []) told in
    let same : behind read_line (asked_mark ++ text) all ≡ dues read_line at.state (line_steps text) =
    asked_behind text all (short_is (asked_mark ++ text) short) ∙ ap (flat_map (behind_asked read_line text)) none ∙ append-nil (dues read_line at.state (line_steps text)) in
    subst (IsAt new) (sym same) (begun at.state at.stands)

-- a line of no session
pub stray_due : (st : State) → dues read_line st (stray ∷ []) ≡ due_of (reply_text (Some 0) (reply.Refused (fault.Syntax 0))) st ∷ []
unfolding digits
stray_due st = refl

pub begun_stray : (new : Checker) (st : State) → StandsFor new.room st → new.stage ≡ stage.Telling → new.reply ≡ reply_text (Some 0) (reply.Refused (fault.Syntax 0))
    → IsAt new (dues read_line st (stray ∷ []))
begun_stray new st stands telling told = record {
  state = st;
  stands = stands;
  dues_are = stray_due st ∙ ap (λ t. due_of t st ∷ []) (sym told) ∙ ap (λ k. dues_at k new.reply new.request.items st) (sym telling);
  numbered = subst IsNumberedStage (sym telling) tt;
}

-- ---- a line of a reply

-- after an Ok both are so, and what follows of them
pub on_both : {T E : Type 0} {P Q R : Type 0} (r : Result T E) → (P → Q → R) → OnOk r P → OnOk r Q → OnOk r R
on_both (Ok x) f p q = f p q
on_both (Err e) f p q = tt

module _ (text : List ℕ) (short : length (told_mark ++ text) ≤ 65535) where
  line_short : is_short (recorded_line text) ≡ true
  line_short = short_is (told_mark ++ text) short

  -- behind the only ones that are due
  one_behind : (reply : List ℕ) (st : State) → behind read_line (recorded_line text) (due_of reply st ∷ []) ≡ next_told (recorded_line text) st (recorded_lines reply)
  one_behind reply st = told_behind read_line text (due_of reply st ∷ []) line_short ∙ append-nil (next_told (recorded_line text) st (recorded_lines reply))

  pub next_on : (old new : Checker) → old.stage ≡ stage.Telling → new.stage ≡ stage.Telling → new.room ≡ old.room
      → lines_of old.reply ≡ text ∷ lines_of new.reply → GoesOn old new (told_mark ++ text)
  next_on old new telling later room told all at =
      let same : behind read_line (told_mark ++ text) all ≡ due_of new.reply at.state ∷ [] =
      ap (behind read_line (told_mark ++ text)) (telling_dues old all at telling) ∙ one_behind old.reply at.state ∙ next_is old.reply text (lines_of new.reply) at.state told in
      record {
        state = at.state;
        stands = subst (λ h. StandsFor h at.state) (sym room) at.stands;
        dues_are = same ∙ ap (λ k. dues_at k new.reply new.request.items at.state) (sym later);
        numbered = subst IsNumberedStage (sym later) tt;
      }

  pub next_wrong : (old : Checker) → old.stage ≡ stage.Telling → ((more : List (List ℕ)) → lines_of old.reply ≡ text ∷ more → ⊥) → IsWrong old (told_mark ++ text)
  next_wrong old telling other all at =
      ap (behind read_line (told_mark ++ text)) (telling_dues old all at telling) ∙ one_behind old.reply at.state ∙ next_not old.reply text at.state other

  -- ---- the first line of it

  -- it is that of error 20, and the step wasn't done
  memory_at : (old new : Checker) (all : List Due) (at : IsAt old all) (reply : List ℕ) (st : State) (n : ℕ) → n < 2 ^ 64
      → ((more : List (List ℕ)) → lines_of reply ≡ (decimal n ++ 32 ∷ Rattle.std.specs.Prelude.codes "ERR 20 OutOfMemory") ∷ more → ⊥)
      → all ≡ both_ways reply st n at.state → new.stage ≡ stage.Telling → new.room ≡ old.room → lines_of (memory_text (Some n)) ≡ text ∷ lines_of new.reply
      → IsAt new (behind read_line (told_mark ++ text) all)
  memory_at old new all at reply st n small apart ways later room told =
      let same : behind read_line (told_mark ++ text) all ≡ due_of new.reply at.state ∷ [] =
      ap (behind read_line (told_mark ++ text)) ways ∙ told_behind read_line text (both_ways reply st n at.state) line_short
      ∙ memory_way reply st at.state n small text apart new.reply told in
      record {
        state = at.state;
        stands = subst (λ h. StandsFor h at.state) (sym room) at.stands;
        dues_are = same ∙ ap (λ k. dues_at k new.reply new.request.items at.state) (sym later);
        numbered = subst IsNumberedStage (sym later) tt;
      }

  -- it is another one, and the step was done
  module _ (old mid : Checker) (all : List Due) (at : IsAt old all) (st : State) (n : ℕ) (small : n < 2 ^ 64)
      (ways : all ≡ both_ways mid.reply st n at.state) (stands : StandsFor mid.room st) (telling : mid.stage ≡ stage.Telling)
      (other : (more : List (List ℕ)) → lines_of (memory_text (Some n)) ≡ text ∷ more → ⊥) where
    mid_at : IsAt mid (due_of mid.reply st ∷ [])
    mid_at = record {
      state = st;
      stands = stands;
      dues_are = ap (λ k. dues_at k mid.reply mid.request.items st) (sym telling);
      numbered = subst IsNumberedStage (sym telling) tt;
    }

    by_machine : behind read_line (told_mark ++ text) all ≡ keep (can_come (due_of mid.reply st)) (next_told (recorded_line text) st (recorded_lines mid.reply))
    by_machine =
        ap (behind read_line (told_mark ++ text)) ways ∙ told_behind read_line text (both_ways mid.reply st n at.state) line_short
        ∙ machine_way mid.reply st at.state n small text other

    pub first_on : (new : Checker) → GoesOn mid new (told_mark ++ text) → list_all is_short (recorded_lines mid.reply) ≡ true → IsAt new (behind read_line (told_mark ++ text) all)
    first_on new goes fits =
        let same : behind read_line (told_mark ++ text) all ≡ behind read_line (told_mark ++ text) (due_of mid.reply st ∷ []) =
        by_machine ∙ rw fits refl ∙ sym (one_behind mid.reply st) in
        subst (IsAt new) (sym same) (goes (due_of mid.reply st ∷ []) mid_at)

    pub first_wrong : IsWrongFirst mid (told_mark ++ text) → behind read_line (told_mark ++ text) all ≡ []
    first_wrong (inl long) = by_machine ∙ rw long refl
    first_wrong (inr wrong) = by_machine ∙ by (can_come (due_of mid.reply st)) where
      none : next_told (recorded_line text) st (recorded_lines mid.reply) ≡ []
      none = sym (one_behind mid.reply st) ∙ wrong (due_of mid.reply st ∷ []) mid_at

      by : (b : Bool) → keep b (next_told (recorded_line text) st (recorded_lines mid.reply)) ≡ []
      by true = none
      by false = refl

  -- ---- behind OPEN

  module _ (old : Checker) (opening : old.stage ≡ stage.Opening) (number : ℕ) (is_next : number ≡ length old.room.clients + 1) (small : number < 2 ^ 64) where
    next_number : (all : List Due) (at : IsAt old all) → number ≡ length at.state.sessions + 1
    next_number all at = is_next ∙ ap (λ k. k + 1) (as_many old.room at.state at.stands)

    pub opened_memory : (new : Checker) → new.stage ≡ stage.Telling → new.room ≡ old.room → lines_of (memory_text (Some 0)) ≡ text ∷ lines_of new.reply
        → GoesOn old new (told_mark ++ text)
    opened_memory new later room told all at =
        memory_at old new all at (reply_text (Some (length at.state.sessions + 1)) reply.Opened) (next read_line at.state opens) 0 (omega arith)
        (λ more. opened_apart (length at.state.sessions + 1) more (omega arith) (omega (arith, next_number all at, small)))
        (opening_dues old all at opening) later room told

    module _ (mid : Checker) (goes : GoesBy old.room mid.room opens) (says : mid.reply ≡ reply_text (Some number) reply.Opened) (telling : mid.stage ≡ stage.Telling)
        (other : (more : List (List ℕ)) → lines_of (memory_text (Some 0)) ≡ text ∷ more → ⊥) where
      ways : (all : List Due) (at : IsAt old all) → all ≡ both_ways mid.reply (next read_line at.state opens) 0 at.state
      ways all at =
          opening_dues old all at opening
          ∙ ap (λ t. both_ways t (next read_line at.state opens) 0 at.state) (ap (λ k. reply_text (Some k) reply.Opened) (sym (next_number all at)) ∙ sym says)

      pub opened_on : (new : Checker) → GoesOn mid new (told_mark ++ text) → list_all is_short (recorded_lines mid.reply) ≡ true → GoesOn old new (told_mark ++ text)
      opened_on new on fits all at =
          first_on old mid all at (next read_line at.state opens) 0 (omega arith) (ways all at) (goes at.state at.stands) telling other new on fits

      pub opened_wrong : IsWrongFirst mid (told_mark ++ text) → IsWrong old (told_mark ++ text)
      opened_wrong wrong all at =
          first_wrong old mid all at (next read_line at.state opens) 0 (omega arith) (ways all at) (goes at.state at.stands) telling other wrong

  -- ---- behind a request

  module _ (never : MemoryIsNeverTold) (old : Checker) (n : ℕ) (asking : old.stage ≡ stage.Asking n) where
    pub answer_memory : (new : Checker) → new.stage ≡ stage.Telling → new.room ≡ old.room → lines_of (memory_text (Some n)) ≡ text ∷ lines_of new.reply
        → GoesOn old new (told_mark ++ text)
    answer_memory new later room told all at =
        let r = (outcome_of read_line at.state n old.request.items).reply in
        memory_at old new all at (reply_text (Some n) r) (next read_line at.state (asks n old.request.items)) n (asking_small old all at n asking)
        (λ more. memory_apart n r more (never_told never read_line read_spares at.state n old.request.items))
        (asking_dues old all at n asking) later room told

    module _ (mid : Checker) (goes : GoesBy old.room mid.room (asks n old.request.items)) (says : IsReplyText old.room n old.request.items (Some n) mid.reply)
        (telling : mid.stage ≡ stage.Telling) (other : (more : List (List ℕ)) → lines_of (memory_text (Some n)) ≡ text ∷ more → ⊥) where
      answer_ways : (all : List Due) (at : IsAt old all) → all ≡ both_ways mid.reply (next read_line at.state (asks n old.request.items)) n at.state
      answer_ways all at =
          asking_dues old all at n asking
          ∙ ap (λ t. both_ways t (next read_line at.state (asks n old.request.items)) n at.state) (sym (says at.state at.stands))

      pub answer_on : (new : Checker) → GoesOn mid new (told_mark ++ text) → list_all is_short (recorded_lines mid.reply) ≡ true → GoesOn old new (told_mark ++ text)
      answer_on new on fits all at =
          first_on old mid all at (next read_line at.state (asks n old.request.items)) n (asking_small old all at n asking) (answer_ways all at) (goes at.state at.stands) telling other new on fits

      pub answer_wrong : IsWrongFirst mid (told_mark ++ text) → IsWrong old (told_mark ++ text)
      answer_wrong wrong all at =
          first_wrong old mid all at (next read_line at.state (asks n old.request.items)) n (asking_small old all at n asking) (answer_ways all at) (goes at.state at.stands) telling other wrong
