-- Lines taken and texts written.
use Rattle.std.proofs.Common.{◌≡◌, ℕ, ◌+◌, ◌≤◌, false, List, [], ◌∷◌, ◌++◌, ◌∙◌, length, take, sym, ap, subst, arith, Option, None}
use Rattle.std.proofs.lemmas.List.{append_assoc, append-nil, length-append}
use Rattle.std.proofs.lemmas.List.Concat.{flat_map-append}
use Rattle.std.proofs.lemmas.List.Elements.{All-append, All-cons}
use Rattle.std.specs.Io.KnownBytes.{Appends, Consumes}
use Rattle.std.proofs.KnownBytes.{Appends-trans, Appends-nil, Consumes-trans, Consumes-nil}
use Rattle.ifdb_io.specs.Causes.{WritesShort}
use Rattle.ifdb_io.specs.Lines.{Reading, Gives, Ends as Stops, Exceeds, IsLine, unskipped}
use Rattle.ifdb_wire.specs.declared.reply.Reply.{Reply}
use Rattle.ifdb_wire.specs.Text.{reply_text}
use Rattle.ifdb_session.specs.Links.{AreLines, Took, TookWithin, WroteShort, CutsReply, with_newline, bytes_of, long_text}
use Rattle.ifdb_session.specs.Talk.{Talks}

bytes-snoc : (lines : List (List ℕ)) (line : List ℕ) → bytes_of (lines ++ line ∷ []) ≡ bytes_of lines ++ with_newline line
bytes-snoc lines line = flat_map-append with_newline lines (line ∷ []) ∙ ap (λ l. bytes_of lines ++ l) (append-nil (with_newline line))

-- ---- what a reader makes of the bytes that it takes, where no line is skipped

gives_bytes : (old new : Reading) (b c : Option (List ℕ)) (bytes : List ℕ) (g : Gives old new b c bytes) → old.skipping ≡ false
    → old.held ++ g.got ≡ bytes ++ new.held
gives_bytes old new b c bytes g still =
    ap (λ l. old.held ++ l) (sym (append-nil g.got))
    ∙ ap (λ k. unskipped k (old.held ++ (g.got ++ []))) (sym still)
    ∙ g.same []
    ∙ ap (λ l. bytes ++ l) (append-nil new.held)

stops_bytes : (old new : Reading) (b c : Option (List ℕ)) (g : Stops old new b c) → old.skipping ≡ false → old.held ++ g.got ≡ new.text
stops_bytes old new b c g still = ap (λ k. unskipped k (old.held ++ g.got)) (sym still) ∙ g.all

exceeds_bytes : (old new : Reading) (b c : Option (List ℕ)) (g : Exceeds old new b c) → old.skipping ≡ false → old.held ++ g.got ≡ new.text
exceeds_bytes old new b c g still = ap (λ k. unskipped k (old.held ++ g.got)) (sym still) ∙ g.all

-- what came behind some bytes
consumes_on : (a b c : Option (List ℕ)) (bytes held got rest : List ℕ) → Consumes a b (bytes ++ held) → Consumes b c got → held ++ got ≡ rest
    → Consumes a c (bytes ++ rest)
consumes_on a b c bytes held got rest first then is =
    subst (Consumes a c) (append_assoc bytes held got ∙ ap (λ l. bytes ++ l) is) (Consumes-trans a b c (bytes ++ held) got first then)

-- no more were taken than the limit that a reader keeps
pub within_limit : {taken kept limit : ℕ} → taken ≤ kept → kept ≡ limit → taken ≤ limit
within_limit {taken} {kept} {limit} few is = omega (arith, few, is)

-- how many bytes were taken, once some more were
count_on : (bytes held got rest : List ℕ) (before now : ℕ) → before ≡ length (bytes ++ held) → now ≡ before + length got → held ++ got ≡ rest → now ≡ length (bytes ++ rest)
count_on bytes held got rest before now was is same =
    let joined = ap length same in
    let one = length-append bytes held in
    let two = length-append held got in
    let three = length-append bytes rest in
    omega (arith, was, is, joined, one, two, three)

-- of a text that is a reply's a front was written, behind the texts before it
cuts_reply : (a b c : Option (List ℕ)) (left now : Option (List ℕ)) (texts text all : List ℕ) → Appends a b texts → (r : Reply) → text ≡ reply_text None r → WritesShort b c text
    → all ≡ texts ++ text → CutsReply all (record { left = left; left_now = now; written = a; written_now = c })
cuts_reply a b c left now texts text all first r is short told =
    let there : WritesShort b c (reply_text None r) = subst (WritesShort b c) is short in
    record {
      before = texts;
      last = r;
      all = told ∙ ap (λ t. texts ++ t) is;
      wrote = record { n = there.n; short = there.short; wrote = Appends-trans a b c texts (take there.n (reply_text None r)) first there.written };
    }

no_lines : AreLines []
no_lines k d lt = absurd (omega (arith, lt))

only_line : (text : List ℕ) → IsLine text → AreLines (text ∷ [])
only_line text line = All-cons IsLine text [] line no_lines

module _ (lines : List (List ℕ)) (texts : List ℕ) (old new : Reading) (a b w v : Option (List ℕ))
    (so : Talks lines texts old (record { left = a; left_now = b; written = w; written_now = v })) where
  -- ---- one line more

  module _ (more : List (List ℕ)) (all : List ℕ) (c : Option (List ℕ)) (text : List ℕ) (g : Gives old new b c (new.text ++ 10 ∷ [])) (line : IsLine new.text)
      (asked : more ≡ lines ++ new.text ∷ []) (told : all ≡ texts ++ text) where
    pub line_bytes : bytes_of lines ++ ((new.text ++ 10 ∷ []) ++ new.held) ≡ bytes_of more ++ new.held
    line_bytes =
        sym (append_assoc (bytes_of lines) (new.text ++ 10 ∷ []) new.held)
        ∙ ap (λ l. l ++ new.held) (sym (bytes-snoc lines new.text) ∙ ap bytes_of (sym asked))

    line_took : Took more new.held (record { left = a; left_now = c; written = w; written_now = v })
    line_took = (
      subst AreLines (sym asked) (All-append IsLine lines (new.text ∷ []) so.took.0 (only_line new.text line)),
      subst (Consumes a c) line_bytes
          (consumes_on a b c (bytes_of lines) old.held g.got ((new.text ++ 10 ∷ []) ++ new.held) so.took.1 g.consumed (gives_bytes old new b c _ g so.still)),
    )

    line_count : new.taken ≡ length (bytes_of more ++ new.held)
    line_count =
        count_on (bytes_of lines) old.held g.got ((new.text ++ 10 ∷ []) ++ new.held) old.taken new.taken so.count g.count (gives_bytes old new b c _ g so.still)
        ∙ ap length line_bytes

    pub line_within : (limit : ℕ) → new.taken ≤ limit → TookWithin limit more new.held (record { left = a; left_now = c; written = w; written_now = v })
    line_within limit few = record { took = line_took; within = let count = line_count in omega (arith, few, count) }

    pub talks_on : (u : Option (List ℕ)) → Appends v u text → new.over ≡ false → new.skipping ≡ false
        → Talks more all new (record { left = a; left_now = c; written = w; written_now = u })
    talks_on u wrote over still = record {
      took = line_took;
      count = line_count;
      wrote = subst (Appends w u) (sym told) (Appends-trans w v u texts text so.wrote wrote);
      over = over;
      still = still;
    }

    pub wrote_cut : (u : Option (List ℕ)) → (r : Reply) → text ≡ reply_text None r → WritesShort v u text → CutsReply all (record { left = a; left_now = c; written = w; written_now = u })
    wrote_cut u r is short = cuts_reply w v u a c texts text all so.wrote r is short told

  -- ---- a line that is too long

  pub long_within : (limit : ℕ) (c : Option (List ℕ)) → (g : Gives old new b c new.text) → new.taken ≤ limit
      → TookWithin limit lines (new.text ++ new.held) (record { left = a; left_now = c; written = w; written_now = v })
  long_within limit c g few = record {
    took = (so.took.0, consumes_on a b c (bytes_of lines) old.held g.got (new.text ++ new.held) so.took.1 g.consumed (gives_bytes old new b c _ g so.still));
    within =
        let count = count_on (bytes_of lines) old.held g.got (new.text ++ new.held) old.taken new.taken so.count g.count (gives_bytes old new b c _ g so.still) in
        omega (arith, few, count);
  }

  pub wrote_long : (u : Option (List ℕ)) → Appends v u long_text → Appends w u (texts ++ long_text)
  wrote_long u wrote = Appends-trans w v u texts long_text so.wrote wrote

  pub wrote_front : (c u : Option (List ℕ)) → WritesShort v u long_text → WroteShort texts long_text (record { left = a; left_now = c; written = w; written_now = u })
  wrote_front c u s = record { n = s.n; short = s.short; wrote = Appends-trans w v u texts (take s.n long_text) so.wrote s.written }

  -- ---- no line any more

  pub rest_within : (limit : ℕ) (c : Option (List ℕ)) → (g : Stops old new b c) → new.taken ≤ limit
      → TookWithin limit lines new.text (record { left = a; left_now = c; written = w; written_now = v })
  rest_within limit c g few = record {
    took = (so.took.0, consumes_on a b c (bytes_of lines) old.held g.got new.text so.took.1 g.consumed (stops_bytes old new b c g so.still));
    within =
        let count = count_on (bytes_of lines) old.held g.got new.text old.taken new.taken so.count g.count (stops_bytes old new b c g so.still) in
        omega (arith, few, count);
  }

  pub past_took : (c : Option (List ℕ)) → (g : Exceeds old new b c) → Took lines (new.text ++ g.last ∷ []) (record { left = a; left_now = c; written = w; written_now = v })
  past_took c g = (
    so.took.0,
    consumes_on a b c (bytes_of lines) old.held (g.got ++ g.last ∷ []) (new.text ++ g.last ∷ []) so.took.1 g.consumed
        (sym (append_assoc old.held g.got (g.last ∷ [])) ∙ ap (λ l. l ++ g.last ∷ []) (exceeds_bytes old new b c g so.still)),
  )

  pub past_limit : (c : Option (List ℕ)) → Exceeds old new b c → length (bytes_of lines ++ new.text) ≡ new.limit
  past_limit c g =
      let bytes = ap length (exceeds_bytes old new b c g so.still) in
      let one = length-append (bytes_of lines) old.held in
      let two = length-append old.held g.got in
      let three = length-append (bytes_of lines) new.text in
      let before = so.count in
      let now = g.count in
      let past = g.past in
      omega (arith, bytes, one, two, three, before, now, past)

-- ---- the beginning

pub talks_first : (lines : List (List ℕ)) (texts : List ℕ) (reader : Reading) (l w : Option (List ℕ)) → lines ≡ [] → texts ≡ []
    → reader ≡ record { text = []; held = []; skipping = false; taken = 0; limit = reader.limit; over = false }
    → Talks lines texts reader (record { left = l; left_now = l; written = w; written_now = w })
talks_first lines texts reader l w none silent is = record {
  took = (subst AreLines (sym none) no_lines, subst (Consumes l l) (sym bytes) (Consumes-nil l));
  count = let k = ap length bytes in let t = ap (λ (r : Reading). r.taken) is in omega (arith, k, t);
  wrote = subst (Appends w w) (sym silent) (Appends-nil w);
  over = ap (λ (r : Reading). r.over) is;
  still = ap (λ (r : Reading). r.skipping) is;
} where
  bytes : bytes_of lines ++ reader.held ≡ []
  bytes = ap (λ (ls : List (List ℕ)). bytes_of ls ++ reader.held) none ∙ ap (λ (r : Reading). r.held) is
