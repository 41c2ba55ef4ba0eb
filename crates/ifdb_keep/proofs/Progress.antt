-- How a kept run goes on by one line, and how it ends.
use Rattle.std.proofs.Common.{◌≡◌, ℕ, ◌+◌, ◌<◌, ◌≤◌, List, [], ◌∷◌, ◌++◌, length, take, Bool, true, false, sym, ap, subst, ◌∙◌, arith, refl, inl, inr}
use Rattle.std.specs.Prelude.{◌⊎◌, Option}
use Rattle.std.specs.Io.KnownBytes.{Appends, Consumes}
use Rattle.std.proofs.KnownBytes.{Consumes-trans, Consumes-nil, Appends-nil}
use Rattle.std.proofs.lemmas.List.{append_assoc, append-nil, length-append}
use Rattle.ifdb_io.specs.Lines.{Reading, after_newline, unskipped, Gives, IsLine, IsLong}
use Rattle.ifdb_disk.specs.Clock.{Clock}
use Rattle.ifdb_journal.specs.Reading.{AddsEach, joined}
use Rattle.ifdb_journal.specs.declared.record.Record.{Record}
use Rattle.ifdb_model.specs.Run.{Step, long}
use Rattle.ifdb_model.specs.Script.{line_steps, steps_of}
use Rattle.ifdb_model.specs.Output.{texts, refusals, refused_at}
use Rattle.ifdb_db.specs.Reading.{read_line}
use Rattle.ifdb_db.specs.Room.{Hall, StandsFor}
use Rattle.ifdb_script.specs.Run.{piece_behind, AreWholeLines}
use Rattle.ifdb_keep.specs.Numbered.{told_from}
use Rattle.ifdb_keep.specs.Resumed.{begun, base_of}
use Rattle.ifdb_keep.specs.Taken.{state_by, told_by, records_by, AreTaken}
use Rattle.ifdb_keep.specs.Kept.{AreOfLines}
use Rattle.ifdb_script.proofs.ScriptLines.{steps_front, steps_last, steps_long, piece-append, piece_line, piece_long, skip, skip_all}
use Rattle.ifdb_script.proofs.Progress.{EndsSo, Cut, cut_of, piece_before, Settled, settled}
use Rattle.ifdb_keep.proofs.Numbers.{refusals_append}
use Rattle.ifdb_keep.proofs.Flags.{Goes}

-- The steps of these lines were taken, and whatever follows them, its steps follow.
pub record Played (rs : List Record) (left_old left_new : Option (List ℕ)) (reading : Reading) (done : List Step) : Type 0 where
  pub lines : List ℕ
  pub read : Consumes left_old left_new (lines ++ reading.held)
  pub count : reading.taken ≡ length (lines ++ reading.held)
  pub ends : EndsSo reading.skipping lines
  pub on : (rest : List ℕ) (flags : List Bool)
      → refused_at (refusals (told_by rs done) ++ flags) (steps_of (lines ++ rest)) ≡ done ++ refused_at flags (steps_of (unskipped reading.skipping rest))

-- The disk's journal has their records.
pub record Stored (rs : List Record) (t : Option Clock) (at : ℕ) (disk : Option Clock) (next : ℕ) (done : List Step) : Type 0 where
  pub batches : List (List Record)
  pub entries : joined batches ≡ records_by rs done
  pub adds : AddsEach batches t at disk next

-- And what they were told was written. The room stands for the state that they lead to.
pub record Reached (rs : List Record) (t : Option Clock) (at : ℕ) (left_old left_new written_old written_new : Option (List ℕ)) (disk : Option Clock) (next : ℕ) (reading : Reading) (room : Hall) : Type 0 where
  pub done : List Step
  pub stands : StandsFor room (state_by rs done)
  pub low : base_of rs ≤ length (state_by rs done).sessions
  pub played : Played rs left_old left_new reading done
  pub wrote : Appends written_old written_new (texts (told_by rs done))
  pub stored : Stored rs t at disk next done

-- nothing was read yet
pub reached_none : (rs : List Record) (t : Option Clock) (l w : Option (List ℕ)) (at limit : ℕ) (over : Bool) (room : Hall) → StandsFor room (begun rs)
    → Reached rs t at l l w w t at (record { text = []; held = []; skipping = false; taken = 0; limit = limit; over = over }) room
reached_none rs t l w at limit over room stands = record {
  done = [];
  stands = stands;
  low = omega arith;
  played = record { lines = []; read = Consumes-nil l; count = refl; ends = refl; on = λ rest flags. refl };
  wrote = Appends-nil w;
  stored = record { batches = []; entries = refl; adds = (refl, refl) };
}

-- one line's steps, whatever follows
pub played_on : (rs : List Record) (l0 l1 l2 : Option (List ℕ)) (mid last : Reading) (new : Hall) (done first : List Step) (out line : List ℕ) (more : List Record)
    → (p : Played rs l0 l1 mid done) → (g : Gives mid last l1 l2 line) → 0 < length line → (t : Goes (base_of rs) new (state_by rs done) first out more)
    → ((rest : List ℕ) → steps_of (line ++ rest) ≡ first ++ steps_of (unskipped last.skipping rest))
    → ((lines : List ℕ) → piece_behind [] lines ≡ piece_behind [] line → EndsSo last.skipping lines)
    → Played rs l0 l2 last (done ++ t.done)
played_on rs l0 l1 l2 mid last new done first out line more p g some t same ends = record {
  lines = p.lines ++ k.front;
  read = subst (Consumes l0 l2) bytes (Consumes-trans _ _ _ _ _ p.read g.consumed);
  count =
      let sum = ap length bytes in
      let all = length-append (p.lines ++ mid.held) g.got in
      let before = p.count in
      let now = g.count in
      omega (arith, sum, all, before, now);
  ends = ends (p.lines ++ k.front) (piece-append [] p.lines k.front ∙ k.piece (piece_behind [] p.lines) (piece_before mid.skipping p.lines p.ends));
  on = λ rest flags.
      let later = steps_of (unskipped last.skipping rest) in
      let told = refusals (told_from read_line (state_by rs done) (base_of rs) t.done) in
      (λ i. refused_at (refusals_append read_line (base_of rs) (begun rs) done t.done flags i) (steps_of (append_assoc p.lines k.front rest i)))
      ∙ p.on (k.front ++ rest) (told ++ flags)
      ∙ ap (λ ss. done ++ refused_at (told ++ flags) ss) (ap steps_of (k.on rest) ∙ same rest)
      ∙ ap (λ ss. done ++ ss) (t.on later flags)
      ∙ sym (append_assoc done t.done (refused_at flags later));
} where
  k : Cut mid.skipping (mid.held ++ g.got) line last.held
  k = cut_of mid last l1 l2 line g some

  bytes : (p.lines ++ mid.held) ++ g.got ≡ (p.lines ++ k.front) ++ last.held
  bytes = append_assoc p.lines mid.held g.got ∙ ap (λ l. p.lines ++ l) k.all ∙ sym (append_assoc p.lines k.front last.held)

-- a line and its newline
pub played_line : (rs : List Record) (l0 l1 l2 : Option (List ℕ)) (mid last : Reading) (new : Hall) (done : List Step) (text out : List ℕ) (more : List Record)
    → Played rs l0 l1 mid done → Gives mid last l1 l2 (text ++ 10 ∷ []) → IsLine text → last.skipping ≡ false
    → (t : Goes (base_of rs) new (state_by rs done) (line_steps text) out more) → Played rs l0 l2 last (done ++ t.done)
played_line rs l0 l1 l2 mid last new done text out more p g line kept t =
    let size = length-append text (10 ∷ []) in
    played_on rs l0 l1 l2 mid last new done (line_steps text) out (text ++ 10 ∷ []) more p g (omega (arith, size)) t
    (λ rest.
    ap steps_of (append_assoc text (10 ∷ []) rest) ∙ steps_front text rest line
    ∙ ap (λ skips. line_steps text ++ steps_of (unskipped skips rest)) (sym kept))
    (λ lines e. subst (λ skips. EndsSo skips lines) (sym kept) (e ∙ piece_line text line))

-- the front of a line that is too long
pub played_long : (rs : List Record) (l0 l1 l2 : Option (List ℕ)) (mid last : Reading) (new : Hall) (done : List Step) (text out : List ℕ) (more : List Record)
    → Played rs l0 l1 mid done → Gives mid last l1 l2 text → IsLong text → last.skipping ≡ true
    → (t : Goes (base_of rs) new (state_by rs done) (long ∷ []) out more) → Played rs l0 l2 last (done ++ t.done)
played_long rs l0 l1 l2 mid last new done text out more p g long_text skips t =
    let size = long_text.long in
    played_on rs l0 l1 l2 mid last new done (long ∷ []) out text more p g (omega (arith, size)) t
    (λ rest. steps_long text rest long_text ∙ ap (λ skipping. long ∷ steps_of (unskipped skipping rest)) (sym skips))
    (λ lines e. subst (λ skipping. EndsSo skipping lines) (sym skips) (subst (λ l. 65535 < length l) (sym e) (piece_long text long_text)))

-- the steps so far, and those of what is left, which are these
pub taken_last : (rs : List Record) (l0 l1 : Option (List ℕ)) (mid : Reading) (new : Hall) (done first : List Step) (out got : List ℕ) (more : List Record)
    → (p : Played rs l0 l1 mid done) → (t : Goes (base_of rs) new (state_by rs done) first out more) → steps_of (unskipped mid.skipping (mid.held ++ got)) ≡ first
    → AreTaken rs ((p.lines ++ mid.held) ++ got) (done ++ t.done) []
taken_last rs l0 l1 mid new done first out got more p t same =
    let told = refusals (told_from read_line (state_by rs done) (base_of rs) t.done) in
    let flags : refusals (told_by rs done) ++ (told ++ []) ≡ refusals (told_by rs (done ++ t.done)) =
    sym (refusals_append read_line (base_of rs) (begun rs) done t.done []) ∙ append-nil (refusals (told_by rs (done ++ t.done))) in
    append_assoc done t.done []
    ∙ ap (λ ss. done ++ ss) (sym (t.on [] []))
    ∙ ap (λ ss. done ++ refused_at (told ++ []) ss) (append-nil first ∙ sym same)
    ∙ sym (p.on (mid.held ++ got) (told ++ []))
    ∙ (λ i. refused_at (flags i) (steps_of (sym (append_assoc p.lines mid.held got) i)))

-- the steps so far, at any moment
pub taken_first : (rs : List Record) (l0 l1 : Option (List ℕ)) (mid : Reading) (done : List Step) → (p : Played rs l0 l1 mid done)
    → AreTaken rs (p.lines ++ mid.held) done (refused_at [] (steps_of (unskipped mid.skipping mid.held)))
taken_first rs l0 l1 mid done p =
    sym (p.on mid.held []) ∙ ap (λ fs. refused_at fs (steps_of (p.lines ++ mid.held))) (append-nil (refusals (told_by rs done)))

-- ---- the whole lines of what was taken, where no line comes any more

pub taken_of_lines : (rs : List Record) (l0 l1 : Option (List ℕ)) (mid : Reading) (done : List Step) (got text : List ℕ)
    → (p : Played rs l0 l1 mid done) → unskipped mid.skipping (mid.held ++ got) ≡ text → IsLine text → AreOfLines rs ((p.lines ++ mid.held) ++ got) done
taken_of_lines rs l0 l1 mid done got text p e line =
    let s = settled mid.skipping p.lines (mid.held ++ got) text p.ends e in
    record {
      lines = p.lines ++ s.front;
      piece = text;
      all = append_assoc p.lines mid.held got ∙ ap (λ l. p.lines ++ l) s.all ∙ sym (append_assoc p.lines s.front text);
      whole = s.whole;
      left_off = line;
      steps =
          ap (λ ls. done ++ refused_at [] (steps_of ls)) (sym s.none)
          ∙ sym (p.on s.front [])
          ∙ ap (λ fs. refused_at fs (steps_of (p.lines ++ s.front))) (append-nil (refusals (told_by rs done)));
    }
