-- A kept run goes on by a line that was answered, and how it ends.
use Rattle.std.proofs.Common.{◌≡◌, ℕ, ◌+◌, ◌<◌, ◌≤◌, List, [], ◌∷◌, ◌++◌, length, take, false, true, sym, ap, subst, ◌∙◌, arith, refl}
use Rattle.std.specs.Prelude.{Option}
use Rattle.std.specs.Io.KnownBytes.{Appends, IsAtEnd, Consumes}
use Rattle.std.proofs.KnownBytes.{Consumes-trans, Appends-trans}
use Rattle.std.proofs.lemmas.List.{append_assoc, append-nil, length-append}
use Rattle.std.proofs.lemmas.List.Concat.{flat_map-append}
use Rattle.ifdb_io.specs.Causes.{WritesShort}
use Rattle.ifdb_io.specs.Lines.{Reading, unskipped, Gives, Ends, Exceeds, IsLine, IsLong}
use Rattle.ifdb_disk.specs.Clock.{Clock}
use Rattle.ifdb_journal.specs.Reading.{Holds, IsReady, MayAdd}
use Rattle.ifdb_journal.specs.declared.record.Record.{Record}
use Rattle.ifdb_model.specs.Run.{Step, Told, long}
use Rattle.ifdb_model.specs.Script.{line_steps, steps_of}
use Rattle.ifdb_model.specs.Output.{texts, text_of, refusals, refused_at}
use Rattle.ifdb_laws.specs.StepLaws.{MemoryIsNeverTold}
use Rattle.ifdb_db.specs.Reading.{read_line}
use Rattle.ifdb_db.specs.Room.{Hall, StandsFor}
use Rattle.ifdb_keep.specs.Numbered.{state_from, told_from, records_from}
use Rattle.ifdb_keep.specs.Resumed.{begun, base_of, front_of, Journaled, Began}
use Rattle.ifdb_keep.specs.Taken.{state_by, told_by, records_by, AreTaken, AreScriptSteps, Takes, TakesLine, WereAdded, LostLine}
use Rattle.ifdb_keep.specs.Kept.{Kept, KeptWhole, KeptFront, KeptPast, KeptCut, KeptShort}
use Rattle.ifdb_script.proofs.Progress.{cut_of}
use Rattle.ifdb_script.proofs.ScriptLines.{steps_front, steps_last}
use Rattle.ifdb_keep.proofs.Numbers.{state_append, told_append, records_append}
use Rattle.ifdb_keep.proofs.Resuming.{clients_many}
use Rattle.ifdb_keep.proofs.Flags.{Goes, IsAtMostOne, goes_line}
use Rattle.ifdb_keep.proofs.Batches.{adds_more, joined_more, journaled_on, journaled_short, holds_on, all_have}
use Rattle.ifdb_keep.proofs.Progress.{Played, Stored, Reached, played_line, played_long, taken_last, taken_first, taken_of_lines}

-- ---- the disk

-- a line's records were added
stored_on : (rs : List Record) (t u w : Option Clock) (at next last : ℕ) (new : Hall) (done first : List Step) (out : List ℕ) (more : List Record)
    → Stored rs t at u next done → (g : Goes (base_of rs) new (state_by rs done) first out more) → WereAdded more u next w last → Stored rs t at w last (done ++ g.done)
stored_on rs t u w at next last new done first out more s g added = record {
  batches = s.batches ++ more ∷ [];
  entries =
      joined_more s.batches more
      ∙ (λ i. s.entries i ++ g.entries i)
      ∙ sym (records_append read_line (base_of rs) (begun rs) done g.done);
  adds = adds_more s.batches more t u w at next last s.adds added;
}

kept_by : (first t u : Option Clock) (at next : ℕ) (room : Hall) (done : List Step) → (b : Began first t room at) → Stored b.before t at u next done → Kept b.before done first u
kept_by first t u at next room done b s =
    record {
      journal = subst (λ l. Journaled b.before l first u) s.entries (journaled_on b.before s.batches first t u at next b.journal b.holds s.adds);
      now = all_have (front_of b.before ++ records_by b.before done) u next
          (subst (λ l. Holds u (front_of b.before ++ l) next) s.entries (holds_on b.before s.batches t u at next b.holds s.adds));
    }

-- ---- on

stands_on : (rs : List Record) (room : Hall) (done more : List Step) → StandsFor room (state_from read_line (state_by rs done) (base_of rs) more) → StandsFor room (state_by rs (done ++ more))
stands_on rs room done more = subst (StandsFor room) (sym (state_append read_line (base_of rs) (begun rs) done more))

-- the base is the number of sessions that were opened before
pub based : (first t : Option Clock) (room : Hall) (at : ℕ) (b : Began first t room at) (base : ℕ) → base ≡ length room.clients → base ≡ base_of b.before
based first t room at b base e = e ∙ clients_many room (begun b.before) b.stands

-- a line that was taken goes on from where the run stands
pub goes_on : MemoryIsNeverTold → (rs : List Record) (t u : Option Clock) (at next base : ℕ) (l0 l1 w0 w1 : Option (List ℕ)) (reading : Reading) (old new : Hall) (first : List Step) (out : List ℕ) (more : List Record)
    → base ≡ base_of rs → (r : Reached rs t at l0 l1 w0 w1 u next reading old) → AreScriptSteps first → TakesLine base old new first out more
    → Goes (base_of rs) new (state_by rs r.done) first out more
goes_on never rs t u at next base l0 l1 w0 w1 reading old new first out more same r s takes =
    goes_line (base_of rs) (state_by rs r.done) r.low never old new first out more r.stands s (subst (λ k. TakesLine k old new first out more) same takes)

-- the journal can be appended to, and a line that was lost is one of the script's
pub ready_on : (more : List Record) (t u : Option Clock) (at next : ℕ) → IsReady t at → WereAdded more t at u next → IsReady u next
ready_on more t u at next ready added = (ready.0 ++ more, added.0 ready.0 ready.1)

pub lost_by : (rs : List Record) (base : ℕ) → base ≡ base_of rs → (old new : Hall) (steps : List Step) (u : Option Clock) (next : ℕ) (v : Option Clock) → LostLine base old new steps u next v
    → LostLine (base_of rs) old new steps u next v
lost_by rs base same old new steps u next v lost = subst (λ k. LostLine k old new steps u next v) same lost

-- what was written goes on by a line's text
reached_on : (rs : List Record) (t u v : Option Clock) (at next after : ℕ) (l0 l2 w0 w1 w2 : Option (List ℕ)) (last : Reading) (new : Hall) (done first : List Step) (out : List ℕ) (more : List Record)
    → (g : Goes (base_of rs) new (state_by rs done) first out more) → Played rs l0 l2 last (done ++ g.done) → Stored rs t at u next done → WereAdded more u next v after
    → Appends w0 w1 (texts (told_by rs done)) → Appends w1 w2 out → Reached rs t at l0 l2 w0 w2 v after last new
reached_on rs t u v at next after l0 l2 w0 w1 w2 last new done first out more g p s added wrote text = record {
  done = done ++ g.done;
  stands = stands_on rs new done g.done g.stands;
  low = subst (λ st. base_of rs ≤ length st.sessions) (sym (state_append read_line (base_of rs) (begun rs) done g.done)) g.low;
  played = p;
  wrote = subst (Appends w0 w2) (texts_on rs new done first out more g) (Appends-trans _ _ _ _ _ wrote text);
  stored = stored_on rs t u v at next after new done first out more s g added;
} where
  texts_on : (rs : List Record) (new : Hall) (done first : List Step) (out : List ℕ) (more : List Record) (g : Goes (base_of rs) new (state_by rs done) first out more)
      → texts (told_by rs done) ++ out ≡ texts (told_by rs (done ++ g.done))
  texts_on rs new done first out more g =
      let told = told_from read_line (state_by rs done) (base_of rs) g.done in
      ap (λ b. texts (told_by rs done) ++ b) g.text ∙ sym (flat_map-append text_of (told_by rs done) told) ∙ ap texts (sym (told_append read_line (base_of rs) (begun rs) done g.done))

-- a line's reply was written
pub reached_line : (rs : List Record) (t u v : Option Clock) (at next after : ℕ) (l0 l1 l2 w0 w1 w2 : Option (List ℕ)) (mid last : Reading) (old new : Hall) (out : List ℕ) (more : List Record)
    → (r : Reached rs t at l0 l1 w0 w1 u next mid old) → Gives mid last l1 l2 (last.text ++ 10 ∷ []) → IsLine last.text → last.skipping ≡ false
    → Goes (base_of rs) new (state_by rs r.done) (line_steps last.text) out more → WereAdded more u next v after → Appends w1 w2 out
    → Reached rs t at l0 l2 w0 w2 v after last new
reached_line rs t u v at next after l0 l1 l2 w0 w1 w2 mid last old new out more r g line kept goes added wrote =
    let p = played_line rs l0 l1 l2 mid last new r.done last.text out more r.played g line kept goes in
    reached_on rs t u v at next after l0 l2 w0 w1 w2 last new r.done (line_steps last.text) out more goes p r.stored added r.wrote wrote

-- the reply to a line that is too long was written
pub reached_long : (rs : List Record) (t u : Option Clock) (at next : ℕ) (l0 l1 l2 w0 w1 w2 : Option (List ℕ)) (mid last : Reading) (old : Hall) (out : List ℕ) (more : List Record)
    → (r : Reached rs t at l0 l1 w0 w1 u next mid old) → Gives mid last l1 l2 last.text → IsLong last.text → last.skipping ≡ true
    → Goes (base_of rs) old (state_by rs r.done) (long ∷ []) out more → WereAdded more u next u next → Appends w1 w2 out
    → Reached rs t at l0 l2 w0 w2 u next last old
reached_long rs t u at next l0 l1 l2 w0 w1 w2 mid last old out more r g long_text skips goes added wrote =
    let p = played_long rs l0 l1 l2 mid last old r.done last.text out more r.played g long_text skips goes in
    reached_on rs t u u at next next l0 l2 w0 w1 w2 last old r.done (long ∷ []) out more goes p r.stored added r.wrote wrote

-- ---- ends

module _ (limit : ℕ) (first t : Option Clock) (room : Hall) (at : ℕ) (b : Began first t room at) (l0 l1 w0 w1 : Option (List ℕ)) (u : Option Clock) (next : ℕ) (mid : Reading) (old : Hall)
    (r : Reached b.before t at l0 l1 w0 w1 u next mid old) where
  -- the input has ended, and nothing came any more
  pub kept_end : (l2 : Option (List ℕ)) (last : Reading) → Ends mid last l1 l2 → last.text ≡ [] → IsAtEnd l2 → last.taken ≤ limit → KeptWhole limit l0 l2 w0 w1 first u
  kept_end l2 last e none end within =
      let p = r.played in
      let nothing : Goes (base_of b.before) old (state_by b.before r.done) [] [] [] = record { done = []; stands = r.stands; low = r.low; single = tt; text = refl; entries = refl; on = λ more flags. refl } in
      let steps = taken_last b.before l0 l1 mid old r.done [] [] e.got [] p nothing (ap steps_of (e.all ∙ none)) in
      record {
        before = b.before;
        input = (p.lines ++ mid.held) ++ e.got;
        done = r.done;
        read = Consumes-trans _ _ _ _ _ p.read e.consumed;
        ended = end;
        within = omega (arith, e.count, p.count, length-append (p.lines ++ mid.held) e.got, within);
        steps = subst (λ ss. AreTaken b.before ((p.lines ++ mid.held) ++ e.got) ss []) (append-nil r.done) steps;
        wrote = r.wrote;
        disk = kept_by first t u at next room r.done b r.stored;
      }

  -- the source failed
  pub kept_read : (l2 : Option (List ℕ)) (last : Reading) → Ends mid last l1 l2 → last.taken ≤ limit → KeptFront limit l0 l2 w0 w1 first u
  kept_read l2 last e within =
      let p = r.played in
      record {
        before = b.before;
        taken = (p.lines ++ mid.held) ++ e.got;
        done = r.done;
        read = Consumes-trans _ _ _ _ _ p.read e.consumed;
        within = omega (arith, e.count, p.count, length-append (p.lines ++ mid.held) e.got, within);
        steps = taken_of_lines b.before l0 l1 mid r.done e.got last.text p e.all e.line;
        wrote = r.wrote;
        disk = kept_by first t u at next room r.done b r.stored;
      }

  -- a byte more than the limit came
  pub kept_over : (l2 : Option (List ℕ)) (last : Reading) → Exceeds mid last l1 l2 → last.limit ≡ limit → KeptPast limit l0 l2 w0 w1 first u
  kept_over l2 last e same =
      let p = r.played in
      record {
        before = b.before;
        taken = (p.lines ++ mid.held) ++ e.got;
        past = e.last;
        done = r.done;
        read = subst (Consumes l0 l2) (sym (append_assoc (p.lines ++ mid.held) e.got (e.last ∷ []))) (Consumes-trans _ _ _ _ _ p.read e.consumed);
        full = omega (arith, e.count, e.past, p.count, same, length-append (p.lines ++ mid.held) e.got);
        steps = taken_of_lines b.before l0 l1 mid r.done e.got last.text p e.all e.line;
        wrote = r.wrote;
        disk = kept_by first t u at next room r.done b r.stored;
      }

  -- a last line without a newline came, and was answered
  pub kept_rest : (l2 w2 : Option (List ℕ)) (last : Reading) (new : Hall) (out : List ℕ) (more : List Record) (v : Option Clock) (after : ℕ)
      → Ends mid last l1 l2 → 0 < length last.text → IsAtEnd l2 → last.taken ≤ limit
      → Goes (base_of b.before) new (state_by b.before r.done) (line_steps last.text) out more → WereAdded more u next v after → Appends w1 w2 out
      → KeptWhole limit l0 l2 w0 w2 first v
  kept_rest l2 w2 last new out more v after e some end within goes added wrote =
      let p = r.played in
      let told = told_from read_line (state_by b.before r.done) (base_of b.before) goes.done in
      record {
        before = b.before;
        input = (p.lines ++ mid.held) ++ e.got;
        done = r.done ++ goes.done;
        read = Consumes-trans _ _ _ _ _ p.read e.consumed;
        ended = end;
        within = omega (arith, e.count, p.count, length-append (p.lines ++ mid.held) e.got, within);
        steps = taken_last b.before l0 l1 mid new r.done (line_steps last.text) out e.got more p goes (ap steps_of e.all ∙ steps_last last.text e.line some);
        wrote = subst (Appends w0 w2)
            (ap (λ bs. texts (told_by b.before r.done) ++ bs) goes.text ∙ sym (flat_map-append text_of (told_by b.before r.done) told)
            ∙ ap texts (sym (told_append read_line (base_of b.before) (begun b.before) r.done goes.done)))
            (Appends-trans _ _ _ _ _ r.wrote wrote);
        disk = kept_by first t v at after room (r.done ++ goes.done) b (stored_on b.before t u v at next after new r.done (line_steps last.text) out more r.stored goes added);
      }

  -- a reply was cut
  cut_at : (l2 w2 : Option (List ℕ)) (input : List ℕ) (rest : List Step) (new : Hall) (steps : List Step) (out : List ℕ) (more : List Record) (v : Option Clock) (after : ℕ)
      → (goes : Goes (base_of b.before) new (state_by b.before r.done) steps out more) → Consumes l0 l2 input → length input ≤ limit
      → AreTaken b.before input (r.done ++ goes.done) rest → WereAdded more u next v after → WritesShort w1 w2 out
      → KeptCut limit l0 l2 w0 w2 first v
  cut_at l2 w2 input rest new steps out more v after goes read within taken added short = by (told_from read_line (state_by b.before r.done) (base_of b.before) goes.done) refl goes.single where
    by : (all : List Told) → told_from read_line (state_by b.before r.done) (base_of b.before) goes.done ≡ all → IsAtMostOne all → KeptCut limit l0 l2 w0 w2 first v
    by [] is one = absurd (let text : out ≡ [] = goes.text ∙ ap texts is in omega (arith, short.short, ap length text))
    by (last ∷ []) is one =
        let same : out ≡ text_of last = goes.text ∙ ap texts is ∙ append-nil (text_of last) in
        record {
          before = b.before;
          input = input;
          done = r.done ++ goes.done;
          rest = rest;
          told = told_by b.before r.done;
          last = last;
          n = short.n;
          read = read;
          within = within;
          steps = taken;
          heard = told_append read_line (base_of b.before) (begun b.before) r.done goes.done ∙ ap (λ (l : List Told). told_by b.before r.done ++ l) is;
          short = omega (arith, short.short, ap length same);
          wrote = subst (λ bs. Appends w0 w2 (texts (told_by b.before r.done) ++ take short.n bs)) same (Appends-trans _ _ _ _ _ r.wrote short.written);
          disk = kept_by first t v at after room (r.done ++ goes.done) b (stored_on b.before t u v at next after new r.done steps out more r.stored goes added);
        }
    by (last ∷ other ∷ all) is one = absurd one

  -- that to a line with a newline
  pub cut_line : (l2 w2 : Option (List ℕ)) (last : Reading) (new : Hall) (out : List ℕ) (more : List Record) (v : Option Clock) (after : ℕ)
      → Gives mid last l1 l2 (last.text ++ 10 ∷ []) → IsLine last.text → last.skipping ≡ false → last.taken ≤ limit
      → Goes (base_of b.before) new (state_by b.before r.done) (line_steps last.text) out more → WereAdded more u next v after → WritesShort w1 w2 out
      → KeptCut limit l0 l2 w0 w2 first v
  cut_line l2 w2 last new out more v after g line kept within goes added short =
      let p = played_line b.before l0 l1 l2 mid last new r.done last.text out more r.played g line kept goes in
      cut_at l2 w2 (p.lines ++ last.held) _ new (line_steps last.text) out more v after goes p.read (omega (arith, p.count, within)) (taken_first b.before l0 l2 last (r.done ++ goes.done) p) added short

  -- that to a line that is too long
  pub cut_long : (l2 w2 : Option (List ℕ)) (last : Reading) (out : List ℕ) (more : List Record)
      → Gives mid last l1 l2 last.text → IsLong last.text → last.skipping ≡ true → last.taken ≤ limit
      → Goes (base_of b.before) old (state_by b.before r.done) (long ∷ []) out more → WereAdded more u next u next → WritesShort w1 w2 out
      → KeptCut limit l0 l2 w0 w2 first u
  cut_long l2 w2 last out more g long_text skips within goes added short =
      let p = played_long b.before l0 l1 l2 mid last old r.done last.text out more r.played g long_text skips goes in
      cut_at l2 w2 (p.lines ++ last.held) _ old (long ∷ []) out more u next goes p.read (omega (arith, p.count, within)) (taken_first b.before l0 l2 last (r.done ++ goes.done) p) added short

  -- that to a last line without a newline
  pub cut_rest : (l2 w2 : Option (List ℕ)) (last : Reading) (new : Hall) (out : List ℕ) (more : List Record) (v : Option Clock) (after : ℕ)
      → Ends mid last l1 l2 → 0 < length last.text → last.taken ≤ limit
      → Goes (base_of b.before) new (state_by b.before r.done) (line_steps last.text) out more → WereAdded more u next v after → WritesShort w1 w2 out
      → KeptCut limit l0 l2 w0 w2 first v
  cut_rest l2 w2 last new out more v after e some within goes added short =
      let p = r.played in
      cut_at l2 w2 ((p.lines ++ mid.held) ++ e.got) [] new (line_steps last.text) out more v after goes (Consumes-trans _ _ _ _ _ p.read e.consumed)
      (omega (arith, e.count, p.count, length-append (p.lines ++ mid.held) e.got, within))
      (taken_last b.before l0 l1 mid new r.done (line_steps last.text) out e.got more p goes (ap steps_of e.all ∙ steps_last last.text e.line some)) added short

  -- the disk failed at a step
  short_at : (l2 : Option (List ℕ)) (input : List ℕ) (rest : List Step) (new : Hall) (step : Step) (out : List ℕ) (entry : Record) (v : Option Clock)
      → Consumes l0 l2 input → length input ≤ limit → AreTaken b.before input r.done (step ∷ rest)
      → Takes (base_of b.before) old new step out (entry ∷ []) → MayAdd (entry ∷ []) u next v → KeptShort limit l0 l2 w0 w1 first v
  short_at l2 input rest new step out entry v read within taken takes may =
      let entered : records_by b.before (r.done ++ step ∷ []) ≡ records_by b.before r.done ++ entry ∷ [] =
      records_append read_line (base_of b.before) (begun b.before) r.done (step ∷ []) ∙ ap (λ (l : List Record). records_by b.before r.done ++ l) (sym (takes (state_by b.before r.done) r.stands).2) in
      record {
        before = b.before;
        input = input;
        done = r.done;
        step = step;
        rest = rest;
        entry = entry;
        read = read;
        within = within;
        steps = taken;
        wrote = r.wrote;
        journal = subst (λ l. Journaled b.before l first v) (ap (λ (l : List Record). l ++ entry ∷ []) r.stored.entries ∙ sym entered)
            (journaled_short b.before (entry ∷ []) r.stored.batches first t u v at next b.journal b.holds r.stored.adds may);
        entered = entered;
        last = u;
        kept = all_have (front_of b.before ++ records_by b.before r.done) u next holds;
        since = may (front_of b.before ++ records_by b.before r.done) holds;
      }
    where
      holds : Holds u (front_of b.before ++ records_by b.before r.done) next
      holds = subst (λ l. Holds u (front_of b.before ++ l) next) r.stored.entries (holds_on b.before r.stored.batches t u at next b.holds r.stored.adds)

  -- of a line with a newline
  pub short_line : (l2 : Option (List ℕ)) (last : Reading) (new : Hall) (v : Option Clock) → Gives mid last l1 l2 (last.text ++ 10 ∷ []) → IsLine last.text → last.skipping ≡ false → last.taken ≤ limit
      → LostLine (base_of b.before) old new (line_steps last.text) u next v → KeptShort limit l0 l2 w0 w1 first v
  short_line l2 last new v g line kept within lost =
      let p = r.played in
      let size = length-append last.text (10 ∷ []) in
      let k = cut_of mid last l1 l2 (last.text ++ 10 ∷ []) g (omega (arith, size)) in
      let bytes : (p.lines ++ mid.held) ++ g.got ≡ (p.lines ++ k.front) ++ last.held = append_assoc p.lines mid.held g.got ∙ ap (λ l. p.lines ++ l) k.all ∙ sym (append_assoc p.lines k.front last.held) in
      let later = steps_of last.held in
      let steps : steps_of (unskipped mid.skipping (k.front ++ last.held)) ≡ lost.step ∷ later =
      ap steps_of (k.on last.held ∙ append_assoc last.text (10 ∷ []) last.held) ∙ steps_front last.text last.held line ∙ ap (λ (l : List Step). l ++ later) lost.is in
      let taken : AreTaken b.before ((p.lines ++ k.front) ++ last.held) r.done (lost.step ∷ later) =
      ap (λ ss. r.done ++ refused_at [] ss) (sym steps) ∙ sym (p.on (k.front ++ last.held) [])
      ∙ (λ i. refused_at (append-nil (refusals (told_by b.before r.done)) i) (steps_of (sym (append_assoc p.lines k.front last.held) i))) in
      let read : Consumes l0 l2 ((p.lines ++ k.front) ++ last.held) = subst (Consumes l0 l2) bytes (Consumes-trans _ _ _ _ _ p.read g.consumed) in
      let sum = ap length bytes in
      let all = length-append (p.lines ++ mid.held) g.got in
      short_at l2 ((p.lines ++ k.front) ++ last.held) later new lost.step lost.out lost.entry v read (omega (arith, sum, all, p.count, g.count, within)) taken lost.taken lost.may

  -- of a last line without a newline
  pub short_rest : (l2 : Option (List ℕ)) (last : Reading) (new : Hall) (v : Option Clock) → Ends mid last l1 l2 → 0 < length last.text → last.taken ≤ limit
      → LostLine (base_of b.before) old new (line_steps last.text) u next v → KeptShort limit l0 l2 w0 w1 first v
  short_rest l2 last new v e some within lost =
      let p = r.played in
      let steps : steps_of (unskipped mid.skipping (mid.held ++ e.got)) ≡ lost.step ∷ [] = ap steps_of e.all ∙ steps_last last.text e.line some ∙ lost.is in
      let taken : AreTaken b.before ((p.lines ++ mid.held) ++ e.got) r.done (lost.step ∷ []) =
      ap (λ ss. r.done ++ refused_at [] ss) (sym steps) ∙ sym (p.on (mid.held ++ e.got) [])
      ∙ (λ i. refused_at (append-nil (refusals (told_by b.before r.done)) i) (steps_of (sym (append_assoc p.lines mid.held e.got) i))) in
      short_at l2 ((p.lines ++ mid.held) ++ e.got) [] new lost.step lost.out lost.entry v (Consumes-trans _ _ _ _ _ p.read e.consumed)
      (omega (arith, e.count, p.count, length-append (p.lines ++ mid.held) e.got, within)) taken lost.taken lost.may
