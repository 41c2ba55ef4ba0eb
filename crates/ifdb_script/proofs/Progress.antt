-- How a run goes on by one line, and how it ends.
use Rattle.std.proofs.Common.{◌≡◌, ℕ, ◌+◌, ◌<◌, ◌≤◌, List, [], ◌∷◌, ◌++◌, length, take, Bool, true, false, sym, ap, subst, ◌∙◌, arith, refl, inl, inr}
use Rattle.std.specs.Prelude.{◌⊎◌, Option}
use Rattle.std.specs.Io.KnownBytes.{Appends, Consumes, IsAtEnd}
use Rattle.std.proofs.KnownBytes.{Consumes-trans, Appends-trans, Consumes-nil, Appends-nil}
use Rattle.std.proofs.lemmas.List.{append_assoc, append-nil, length-append}
use Rattle.std.proofs.lemmas.List.Concat.{flat_map-append}
use Rattle.ifdb_io.specs.Causes.{WritesShort}
use Rattle.ifdb_io.specs.Lines.{Reading, after_newline, unskipped, Gives, Ends, Exceeds, IsLine, IsLong}
use Rattle.ifdb_model.specs.Run.{State, Step, long, Told, opening, replies}
use Rattle.ifdb_model.specs.Script.{line_steps, steps_of}
use Rattle.ifdb_model.specs.Output.{texts, text_of, told_of, refusals, flag_of, refused_at}
use Rattle.ifdb_db.specs.Reading.{read_line}
use Rattle.ifdb_db.specs.Room.{Hall, StandsFor}
use Rattle.ifdb_script.specs.Run.{piece_behind, AreWholeLines, IsTold, IsToldFirst, IsToldOfLines, RanWhole, RanFront, RanPast, RanCut}
use Rattle.ifdb_script.proofs.ScriptLines.{steps_front, steps_last, steps_long, piece-append, piece_line, piece_long, skip, skip_all}
use Rattle.ifdb_script.proofs.Flags.{Tells, IsAtMostOne}
use Rattle.ifdb_script.proofs.Stepping.{Goes}

-- behind the lines that were done nothing stands, or a line that is too long goes on
abbrev pub EndsSo : Bool → List ℕ → Type 0
EndsSo false lines = piece_behind [] lines ≡ []
EndsSo true lines = 65535 < length (piece_behind [] lines)

-- The steps of these lines were told this, and whatever follows them, the run of the whole tells what the state tells of it.
pub record Played (left_old left_new : Option (List ℕ)) (reading : Reading) (st : State) (told : List Told) : Type 0 where
  pub lines : List ℕ
  pub read : Consumes left_old left_new (lines ++ reading.held)
  pub count : reading.taken ≡ length (lines ++ reading.held)
  pub ends : EndsSo reading.skipping lines
  pub goes_on : (rest : List ℕ) (flags : List Bool)
      → told ++ replies read_line st (refused_at flags (steps_of (unskipped reading.skipping rest))) ≡ told_of read_line (lines ++ rest) (refusals told ++ flags)

-- And what they were told was written. The room stands for the state.
pub record Reached (left_old left_new written_old written_new : Option (List ℕ)) (reading : Reading) (room : Hall) : Type 0 where
  pub state : State
  pub stands : StandsFor room state
  pub told : List Told
  pub played : Played left_old left_new reading state told
  pub wrote : Appends written_old written_new (texts told)

-- nothing was read yet
pub reached_none : (l w : Option (List ℕ)) (limit : ℕ) (over : Bool) (room : Hall) → StandsFor room opening
    → Reached l l w w (record { text = []; held = []; skipping = false; taken = 0; limit = limit; over = over }) room
reached_none l w limit over room stands = record {
  state = opening;
  stands = stands;
  told = [];
  played = record { lines = []; read = Consumes-nil l; count = refl; ends = refl; goes_on = λ rest flags. refl };
  wrote = Appends-nil w;
}

refusals_more : (told more : List Told) (flags : List Bool) → refusals told ++ (refusals more ++ flags) ≡ refusals (told ++ more) ++ flags
refusals_more told more flags = sym (append_assoc (refusals told) (refusals more) flags) ∙ ap (λ fs. fs ++ flags) (sym (flat_map-append flag_of told more))

-- of the bytes that a reader holds now a front is this line, with what was skipped before it
pub record Cut (skipping : Bool) (bytes line held : List ℕ) : Type 0 where
  pub front : List ℕ
  pub all : bytes ≡ front ++ held
  pub on : (rest : List ℕ) → unskipped skipping (front ++ rest) ≡ line ++ rest
  pub piece : (p : List ℕ) → (skipping ≡ false → p ≡ []) → piece_behind p front ≡ piece_behind [] line

cut : (skipping : Bool) (bytes line held : List ℕ) → unskipped skipping bytes ≡ line ++ held → 0 < length line → Cut skipping bytes line held
cut false bytes line held e some = record { front = line; all = e; on = λ rest. refl; piece = λ p none. ap (λ q. piece_behind q line) (none refl) }
cut true bytes line held e some =
    let size = length-append line held in
    let s = skip bytes (line ++ held) e (omega (arith, some, size)) in
    record {
      front = s.front ++ line;
      all = s.all ∙ sym (append_assoc s.front line held);
      on = λ rest. ap after_newline (append_assoc s.front line rest) ∙ s.on (line ++ rest);
      piece = λ p none. s.piece p line;
    }

-- what a reader takes and holds, of which a line is cut
pub cut_of : (mid last : Reading) (l1 l2 : Option (List ℕ)) (line : List ℕ) → (g : Gives mid last l1 l2 line) → 0 < length line → Cut mid.skipping (mid.held ++ g.got) line last.held
cut_of mid last l1 l2 line g some =
    cut mid.skipping (mid.held ++ g.got) line last.held
    (ap (λ l. unskipped mid.skipping (mid.held ++ l)) (sym (append-nil g.got)) ∙ g.same [] ∙ ap (λ l. line ++ l) (append-nil last.held)) some

-- a piece before the line, if it isn't skipped, is empty
pub piece_before : (skipping : Bool) (lines : List ℕ) → EndsSo skipping lines → skipping ≡ false → piece_behind [] lines ≡ []
piece_before false lines ends e = ends
piece_before true lines ends e = cc

-- one line's steps, whatever follows
played_on : (l0 l1 l2 : Option (List ℕ)) (mid last : Reading) (old new : State) (told : List Told) (first : List Step) (out line : List ℕ)
    → (p : Played l0 l1 mid old told) → (g : Gives mid last l1 l2 line) → 0 < length line → (t : Tells read_line old new first out)
    → ((rest : List ℕ) → steps_of (line ++ rest) ≡ first ++ steps_of (unskipped last.skipping rest))
    → ((lines : List ℕ) → piece_behind [] lines ≡ piece_behind [] line → EndsSo last.skipping lines)
    → Played l0 l2 last new (told ++ t.all)
played_on l0 l1 l2 mid last old new told first out line p g some t same ends = record {
  lines = p.lines ++ k.front;
  read = subst (Consumes l0 l2) bytes (Consumes-trans _ _ _ _ _ p.read g.consumed);
  count =
      let sum = ap length bytes in
      let all = length-append (p.lines ++ mid.held) g.got in
      let before = p.count in
      let now = g.count in
      omega (arith, sum, all, before, now);
  ends = ends (p.lines ++ k.front) (piece-append [] p.lines k.front ∙ k.piece (piece_behind [] p.lines) (piece_before mid.skipping p.lines p.ends));
  goes_on = λ rest flags.
      let later = steps_of (unskipped last.skipping rest) in
      append_assoc told t.all (replies read_line new (refused_at flags later))
      ∙ ap (λ ts. told ++ ts) (sym (t.on later flags))
      ∙ ap (λ ss. told ++ replies read_line old (refused_at (refusals t.all ++ flags) ss)) (sym (ap steps_of (k.on rest) ∙ same rest))
      ∙ p.goes_on (k.front ++ rest) (refusals t.all ++ flags)
      ∙ ap (λ bs. told_of read_line bs (refusals told ++ (refusals t.all ++ flags))) (sym (append_assoc p.lines k.front rest))
      ∙ ap (told_of read_line ((p.lines ++ k.front) ++ rest)) (refusals_more told t.all flags);
} where
  k : Cut mid.skipping (mid.held ++ g.got) line last.held
  k = cut_of mid last l1 l2 line g some

  bytes : (p.lines ++ mid.held) ++ g.got ≡ (p.lines ++ k.front) ++ last.held
  bytes = append_assoc p.lines mid.held g.got ∙ ap (λ l. p.lines ++ l) k.all ∙ sym (append_assoc p.lines k.front last.held)

-- a line and its newline
pub played_line : (l0 l1 l2 : Option (List ℕ)) (mid last : Reading) (old new : State) (told : List Told) (text out : List ℕ)
    → Played l0 l1 mid old told → Gives mid last l1 l2 (text ++ 10 ∷ []) → IsLine text → last.skipping ≡ false → (t : Tells read_line old new (line_steps text) out)
    → Played l0 l2 last new (told ++ t.all)
played_line l0 l1 l2 mid last old new told text out p g line kept t =
    let size = length-append text (10 ∷ []) in
    played_on l0 l1 l2 mid last old new told (line_steps text) out (text ++ 10 ∷ []) p g (omega (arith, size)) t
    (λ rest.
    ap steps_of (append_assoc text (10 ∷ []) rest) ∙ steps_front text rest line
    ∙ ap (λ skips. line_steps text ++ steps_of (unskipped skips rest)) (sym kept))
    (λ lines e. subst (λ skips. EndsSo skips lines) (sym kept) (e ∙ piece_line text line))

-- the front of a line that is too long
pub played_long : (l0 l1 l2 : Option (List ℕ)) (mid last : Reading) (old new : State) (told : List Told) (text out : List ℕ)
    → Played l0 l1 mid old told → Gives mid last l1 l2 text → IsLong text → last.skipping ≡ true → (t : Tells read_line old new (long ∷ []) out)
    → Played l0 l2 last new (told ++ t.all)
played_long l0 l1 l2 mid last old new told text out p g long_text skips t =
    let size = long_text.long in
    played_on l0 l1 l2 mid last old new told (long ∷ []) out text p g (omega (arith, size)) t
    (λ rest. steps_long text rest long_text ∙ ap (λ skipping. long ∷ steps_of (unskipped skipping rest)) (sym skips))
    (λ lines e. subst (λ skipping. EndsSo skipping lines) (sym skips) (subst (λ l. 65535 < length l) (sym e) (piece_long text long_text)))

-- the last steps
told_last : (l0 l1 : Option (List ℕ)) (mid : Reading) (old new : State) (told : List Told) (first : List Step) (out got : List ℕ)
    → (p : Played l0 l1 mid old told) → (t : Tells read_line old new first out) → steps_of (unskipped mid.skipping (mid.held ++ got)) ≡ first
    → IsTold ((p.lines ++ mid.held) ++ got) (told ++ t.all)
told_last l0 l1 mid old new told first out got p t same =
    let none : first ++ [] ≡ first = append-nil first in
    let on = t.on [] [] in
    ap (λ ts. told ++ ts) (sym (on ∙ append-nil t.all) ∙ ap (λ ss. replies read_line old (refused_at (refusals t.all ++ []) ss)) (none ∙ sym same))
    ∙ p.goes_on (mid.held ++ got) (refusals t.all ++ [])
    ∙ (λ i. told_of read_line (sym (append_assoc p.lines mid.held got) i) ((refusals_more told t.all [] ∙ append-nil (refusals (told ++ t.all))) i))

-- the first replies, at any moment
told_first : (l0 l1 : Option (List ℕ)) (mid : Reading) (st : State) (told : List Told)
    → (p : Played l0 l1 mid st told) → IsToldFirst (p.lines ++ mid.held) told
told_first l0 l1 mid st told p = (
  replies read_line st (refused_at [] (steps_of (unskipped mid.skipping mid.held))),
  p.goes_on mid.held [] ∙ ap (told_of read_line (p.lines ++ mid.held)) (append-nil (refusals told)),
)

-- ---- the whole lines of what was taken, where no line comes any more

-- of the bytes behind the lines that were done a front is skipped, and the rest is a piece of a line
pub record Settled (skipping : Bool) (lines bytes text : List ℕ) : Type 0 where
  pub front : List ℕ
  pub all : bytes ≡ front ++ text
  pub none : unskipped skipping front ≡ []
  pub whole : AreWholeLines (lines ++ front)

-- what stands behind the last newline ends a whole line
abbrev IsWholePiece : List ℕ → Type 0
IsWholePiece piece = (piece ≡ []) ⊎ (65535 < length piece)

pub settled : (skipping : Bool) (lines bytes text : List ℕ) → EndsSo skipping lines → unskipped skipping bytes ≡ text → Settled skipping lines bytes text
settled false lines bytes text ends e = record { front = []; all = e; none = refl; whole = inl (ap (piece_behind []) (append-nil lines) ∙ ends) }
settled true lines bytes [] ends e = record {
  front = bytes;
  all = sym (append-nil bytes);
  none = e;
  whole = subst IsWholePiece (sym (piece-append [] lines bytes)) (by (skip_all (piece_behind [] lines) bytes e));
} where
  by : (piece_behind (piece_behind [] lines) bytes ≡ []) ⊎ (length (piece_behind [] lines) ≤ length (piece_behind (piece_behind [] lines) bytes))
      → IsWholePiece (piece_behind (piece_behind [] lines) bytes)
  by (inl none) = inl none
  by (inr more) = inr (omega (arith, more, ends))
settled true lines bytes (b ∷ text) ends e =
    let s = skip bytes (b ∷ text) e (omega arith) in
    record {
      front = s.front;
      all = s.all;
      none = ap after_newline (sym (append-nil s.front)) ∙ s.on [];
      whole = inl (piece-append [] lines s.front ∙ ap (piece_behind (piece_behind [] lines)) (sym (append-nil s.front)) ∙ s.piece (piece_behind [] lines) []);
    }

told_of_lines : (l0 l1 : Option (List ℕ)) (mid : Reading) (st : State) (told : List Told) (got text : List ℕ)
    → (p : Played l0 l1 mid st told) → unskipped mid.skipping (mid.held ++ got) ≡ text → IsLine text → IsToldOfLines ((p.lines ++ mid.held) ++ got) told
told_of_lines l0 l1 mid st told got text p e line =
    let s = settled mid.skipping p.lines (mid.held ++ got) text p.ends e in
    record {
      lines = p.lines ++ s.front;
      piece = text;
      all = append_assoc p.lines mid.held got ∙ ap (λ l. p.lines ++ l) s.all ∙ sym (append_assoc p.lines s.front text);
      whole = s.whole;
      left_off = line;
      played =
          sym (append-nil told)
          ∙ ap (λ ls. told ++ replies read_line st (refused_at [] (steps_of ls))) (sym s.none)
          ∙ p.goes_on s.front []
          ∙ ap (told_of read_line (p.lines ++ s.front)) (append-nil (refusals told));
    }

told_whole : (input : List ℕ) (told : List Told) → IsTold input told → IsToldFirst input told
told_whole input told e = ([], append-nil told ∙ e)

-- the input has ended, and nothing came any more
pub ran_end : (l0 l1 l2 w0 w1 : Option (List ℕ)) (mid last : Reading) (room : Hall) (limit : ℕ)
    → Reached l0 l1 w0 w1 mid room → Ends mid last l1 l2 → last.text ≡ [] → IsAtEnd l2 → last.taken ≤ limit → RanWhole limit l0 l2 w0 w1
ran_end l0 l1 l2 w0 w1 mid last room limit r e none end within =
    let p = r.played in
    let nothing : Tells read_line r.state r.state [] [] = record { all = []; single = tt; text = refl; on = λ more flags. refl } in
    let told = told_last l0 l1 mid r.state r.state r.told [] [] e.got p nothing (ap steps_of (e.all ∙ none)) in
    record {
      input = (p.lines ++ mid.held) ++ e.got;
      told = r.told;
      read = Consumes-trans _ _ _ _ _ p.read e.consumed;
      ended = end;
      within = omega (arith, e.count, p.count, length-append (p.lines ++ mid.held) e.got, within);
      played = subst (IsTold ((p.lines ++ mid.held) ++ e.got)) (append-nil r.told) told;
      wrote = r.wrote;
    }

-- a last line without a newline came
pub ran_rest : (l0 l1 l2 w0 w1 w2 : Option (List ℕ)) (mid last : Reading) (old new : Hall) (out : List ℕ) (limit : ℕ)
    → (r : Reached l0 l1 w0 w1 mid old) → (e : Ends mid last l1 l2) → 0 < length last.text → IsAtEnd l2 → last.taken ≤ limit
    → Goes read_line new r.state (line_steps last.text) out → Appends w1 w2 out → RanWhole limit l0 l2 w0 w2
ran_rest l0 l1 l2 w0 w1 w2 mid last old new out limit r e some end within goes wrote =
    let p = r.played in
    let t = goes.tells in
    record {
      input = (p.lines ++ mid.held) ++ e.got;
      told = r.told ++ t.all;
      read = Consumes-trans _ _ _ _ _ p.read e.consumed;
      ended = end;
      within = omega (arith, e.count, p.count, length-append (p.lines ++ mid.held) e.got, within);
      played = told_last l0 l1 mid r.state goes.state r.told (line_steps last.text) out e.got p t (ap steps_of e.all ∙ steps_last last.text e.line some);
      wrote = subst (Appends w0 w2) (ap (λ b. texts r.told ++ b) t.text ∙ sym (flat_map-append text_of r.told t.all)) (Appends-trans _ _ _ _ _ r.wrote wrote);
    }

-- the source failed
pub ran_read : (l0 l1 l2 w0 w1 : Option (List ℕ)) (mid last : Reading) (room : Hall) (limit : ℕ)
    → Reached l0 l1 w0 w1 mid room → Ends mid last l1 l2 → last.taken ≤ limit → RanFront limit l0 l2 w0 w1
ran_read l0 l1 l2 w0 w1 mid last room limit r e within =
    let p = r.played in
    record {
      taken = (p.lines ++ mid.held) ++ e.got;
      told = r.told;
      read = Consumes-trans _ _ _ _ _ p.read e.consumed;
      within = omega (arith, e.count, p.count, length-append (p.lines ++ mid.held) e.got, within);
      played = told_of_lines l0 l1 mid r.state r.told e.got last.text p e.all e.line;
      wrote = r.wrote;
    }

-- a byte more than the limit came
pub ran_over : (l0 l1 l2 w0 w1 : Option (List ℕ)) (mid last : Reading) (room : Hall) (limit : ℕ)
    → Reached l0 l1 w0 w1 mid room → Exceeds mid last l1 l2 → last.limit ≡ limit → RanPast limit l0 l2 w0 w1
ran_over l0 l1 l2 w0 w1 mid last room limit r e same =
    let p = r.played in
    record {
      taken = (p.lines ++ mid.held) ++ e.got;
      past = e.last;
      told = r.told;
      read = subst (Consumes l0 l2) (sym (append_assoc (p.lines ++ mid.held) e.got (e.last ∷ []))) (Consumes-trans _ _ _ _ _ p.read e.consumed);
      full = omega (arith, e.count, e.past, p.count, same, length-append (p.lines ++ mid.held) e.got);
      played = told_of_lines l0 l1 mid r.state r.told e.got last.text p e.all e.line;
      wrote = r.wrote;
    }

-- what was written goes on by a line's text
reached_on : (l0 l2 w0 w1 w2 : Option (List ℕ)) (last : Reading) (room : Hall) (old new : State) (told : List Told) (first : List Step) (out : List ℕ)
    → StandsFor room new → (t : Tells read_line old new first out) → Played l0 l2 last new (told ++ t.all) → Appends w0 w1 (texts told) → Appends w1 w2 out
    → Reached l0 l2 w0 w2 last room
reached_on l0 l2 w0 w1 w2 last room old new told first out stands t p wrote more = record {
  state = new;
  stands = stands;
  told = told ++ t.all;
  played = p;
  wrote = subst (Appends w0 w2) (ap (λ b. texts told ++ b) t.text ∙ sym (flat_map-append text_of told t.all)) (Appends-trans _ _ _ _ _ wrote more);
}

-- a line's reply was written
pub reached_line : (l0 l1 l2 w0 w1 w2 : Option (List ℕ)) (mid last : Reading) (old new : Hall) (out : List ℕ)
    → (r : Reached l0 l1 w0 w1 mid old) → Gives mid last l1 l2 (last.text ++ 10 ∷ []) → IsLine last.text → last.skipping ≡ false
    → Goes read_line new r.state (line_steps last.text) out → Appends w1 w2 out → Reached l0 l2 w0 w2 last new
reached_line l0 l1 l2 w0 w1 w2 mid last old new out r g line kept goes wrote =
    let p = played_line l0 l1 l2 mid last r.state goes.state r.told last.text out r.played g line kept goes.tells in
    reached_on l0 l2 w0 w1 w2 last new r.state goes.state r.told (line_steps last.text) out goes.stands goes.tells p r.wrote wrote

-- the reply to a line that is too long was written
pub reached_long : (l0 l1 l2 w0 w1 w2 : Option (List ℕ)) (mid last : Reading) (room : Hall) (out : List ℕ)
    → (r : Reached l0 l1 w0 w1 mid room) → Gives mid last l1 l2 last.text → IsLong last.text → last.skipping ≡ true
    → Goes read_line room r.state (long ∷ []) out → Appends w1 w2 out → Reached l0 l2 w0 w2 last room
reached_long l0 l1 l2 w0 w1 w2 mid last room out r g long_text skips goes wrote =
    let p = played_long l0 l1 l2 mid last r.state goes.state r.told last.text out r.played g long_text skips goes.tells in
    reached_on l0 l2 w0 w1 w2 last room r.state goes.state r.told (long ∷ []) out goes.stands goes.tells p r.wrote wrote

-- a reply was cut
ran_cut : (limit : ℕ) (l0 l2 w0 w1 w2 : Option (List ℕ)) (input out : List ℕ) (told all : List Told) → IsAtMostOne all → out ≡ texts all
    → IsToldFirst input (told ++ all) → Consumes l0 l2 input → length input ≤ limit → Appends w0 w1 (texts told) → WritesShort w1 w2 out → RanCut limit l0 l2 w0 w2
ran_cut limit l0 l2 w0 w1 w2 input out told [] one text played read within wrote short = absurd (omega (arith, short.short, ap length text))
ran_cut limit l0 l2 w0 w1 w2 input out told (last ∷ []) one text played read within wrote short =
    let same : out ≡ text_of last = text ∙ append-nil (text_of last) in
    record {
      input = input;
      told = told;
      last = last;
      n = short.n;
      read = read;
      within = within;
      played = played;
      short = omega (arith, short.short, ap length same);
      wrote = subst (λ b. Appends w0 w2 (texts told ++ take short.n b)) same (Appends-trans _ _ _ _ _ wrote short.written);
    }
ran_cut limit l0 l2 w0 w1 w2 input out told (last ∷ other ∷ more) one text played read within wrote short = absurd one

-- a reply to a line in the middle was cut
ran_cut_on : (limit : ℕ) (l0 l2 w0 w1 w2 : Option (List ℕ)) (last : Reading) (old new : State) (told : List Told) (first : List Step) (out : List ℕ)
    → (t : Tells read_line old new first out) → Played l0 l2 last new (told ++ t.all) → last.taken ≤ limit → Appends w0 w1 (texts told) → WritesShort w1 w2 out
    → RanCut limit l0 l2 w0 w2
ran_cut_on limit l0 l2 w0 w1 w2 last old new told first out t p within wrote short =
    ran_cut limit l0 l2 w0 w1 w2 (p.lines ++ last.held) out told t.all t.single t.text
    (told_first l0 l2 last new (told ++ t.all) p) p.read (omega (arith, p.count, within)) wrote short

-- that to a line with a newline
pub ran_cut_line : (limit : ℕ) (l0 l1 l2 w0 w1 w2 : Option (List ℕ)) (mid last : Reading) (old new : Hall) (out : List ℕ)
    → (r : Reached l0 l1 w0 w1 mid old) → Gives mid last l1 l2 (last.text ++ 10 ∷ []) → IsLine last.text → last.skipping ≡ false
    → Goes read_line new r.state (line_steps last.text) out → last.taken ≤ limit → WritesShort w1 w2 out → RanCut limit l0 l2 w0 w2
ran_cut_line limit l0 l1 l2 w0 w1 w2 mid last old new out r g line kept goes within short =
    let p = played_line l0 l1 l2 mid last r.state goes.state r.told last.text out r.played g line kept goes.tells in
    ran_cut_on limit l0 l2 w0 w1 w2 last r.state goes.state r.told (line_steps last.text) out goes.tells p within r.wrote short

-- that to a line that is too long
pub ran_cut_long : (limit : ℕ) (l0 l1 l2 w0 w1 w2 : Option (List ℕ)) (mid last : Reading) (room : Hall) (out : List ℕ)
    → (r : Reached l0 l1 w0 w1 mid room) → Gives mid last l1 l2 last.text → IsLong last.text → last.skipping ≡ true
    → Goes read_line room r.state (long ∷ []) out → last.taken ≤ limit → WritesShort w1 w2 out → RanCut limit l0 l2 w0 w2
ran_cut_long limit l0 l1 l2 w0 w1 w2 mid last room out r g long_text skips goes within short =
    let p = played_long l0 l1 l2 mid last r.state goes.state r.told last.text out r.played g long_text skips goes.tells in
    ran_cut_on limit l0 l2 w0 w1 w2 last r.state goes.state r.told (long ∷ []) out goes.tells p within r.wrote short

-- a reply to the last line was cut
pub ran_cut_rest : (limit : ℕ) (l0 l1 l2 w0 w1 w2 : Option (List ℕ)) (mid last : Reading) (old new : Hall) (out : List ℕ)
    → (r : Reached l0 l1 w0 w1 mid old) → (e : Ends mid last l1 l2) → 0 < length last.text → last.taken ≤ limit
    → Goes read_line new r.state (line_steps last.text) out → WritesShort w1 w2 out → RanCut limit l0 l2 w0 w2
ran_cut_rest limit l0 l1 l2 w0 w1 w2 mid last old new out r e some within goes short =
    let p = r.played in
    let t = goes.tells in
    let told = told_last l0 l1 mid r.state goes.state r.told (line_steps last.text) out e.got p t (ap steps_of e.all ∙ steps_last last.text e.line some) in
    ran_cut limit l0 l2 w0 w1 w2 ((p.lines ++ mid.held) ++ e.got) out r.told t.all t.single t.text (told_whole ((p.lines ++ mid.held) ++ e.got) (r.told ++ t.all) told)
    (Consumes-trans _ _ _ _ _ p.read e.consumed) (omega (arith, e.count, p.count, length-append (p.lines ++ mid.held) e.got, within)) r.wrote short
