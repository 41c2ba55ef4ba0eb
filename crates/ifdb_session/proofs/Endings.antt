-- How the lines of a connection end, by what the last call of the reader and the last writing said. Reading leaves what was
-- written, and writing leaves what is to be read: so the old and the new are said to be the same.
use Rattle.std.proofs.Common.{◌≡◌, ℕ, ◌≤◌, false, List, [], ◌∷◌, ◌++◌, ◌∙◌, sym, ap, subst, Option, None, inl, inr}
use Rattle.std.specs.Io.KnownBytes.{Appends, IsAtEnd}
use Rattle.ifdb_io.specs.Causes.{WritesShort}
use Rattle.ifdb_io.specs.Lines.{Reading, Gives, Ends as Stops, Exceeds, IsLine, IsLong}
use Rattle.ifdb_wire.specs.declared.reply.Reply.{Reply}
use Rattle.ifdb_wire.specs.Text.{reply_text}
use Rattle.ifdb_session.specs.declared.ending.Ending.TheVariants as ends
use Rattle.ifdb_session.specs.Links.{Ends, long_text}
use Rattle.ifdb_session.specs.Talk.{Talks}
use Rattle.ifdb_session.proofs.Talking.{talks_on, line_within, wrote_cut, long_within, wrote_long, wrote_front, rest_within, past_took, past_limit}

-- the connection before all, before the call of the reader, after it, and after the writing
module _ (limit : ℕ) (lines : List (List ℕ)) (texts : List ℕ) (old new : Reading) (a b c w v u : Option (List ℕ))
    (so : Talks lines texts old (record { left = a; left_now = b; written = w; written_now = v })) (written : u ≡ v) where
  -- ---- a line that was asked

  module _ (more : List (List ℕ)) (all : List ℕ) (text : List ℕ) (d t : Option (List ℕ)) (left : d ≡ c) (g : Gives old new b c (new.text ++ 10 ∷ [])) (line : IsLine new.text)
      (asked : more ≡ lines ++ new.text ∷ []) (told : all ≡ texts ++ text) where
    here : Gives old new b d (new.text ++ 10 ∷ [])
    here = subst (λ z. Gives old new b z (new.text ++ 10 ∷ [])) (sym left) g

    pub goes_on : Appends u t text → new.over ≡ false → new.skipping ≡ false → Talks more all new (record { left = a; left_now = d; written = w; written_now = t })
    goes_on wrote over still = talks_on lines texts old new a b w v so more all d text here line asked told t (subst (λ z. Appends z t text) written wrote) over still

    pub ends_by_bye : new.taken ≤ limit → Appends u t text → new.over ≡ false → new.skipping ≡ false
        → Ends ends.Bye limit more all (record { left = a; left_now = d; written = w; written_now = t })
    ends_by_bye few wrote over still =
        let took = line_within lines texts old new a b w v so more all d text here line asked told limit few in
        ((new.held, record { took = took.took; within = took.within }), (goes_on wrote over still).wrote)

    pub ends_unwritten : new.taken ≤ limit → (r : Reply) → text ≡ reply_text None r → WritesShort u t text
        → Ends ends.LinkWrite limit more all (record { left = a; left_now = d; written = w; written_now = t })
    ends_unwritten few r is short =
        let took = line_within lines texts old new a b w v so more all d text here line asked told limit few in
        inl (
          (new.held, record { took = took.took; within = took.within }),
          wrote_cut lines texts old new a b w v so more all d text here line asked told t r is (subst (λ z. WritesShort z t text) written short),
        )

    -- nothing was written of its reply
    pub ends_unkept : new.taken ≤ limit → (r : Reply) → text ≡ reply_text None r → t ≡ u
        → Ends ends.Unkept limit more all (record { left = a; left_now = d; written = w; written_now = t })
    ends_unkept few r is held =
        let took = line_within lines texts old new a b w v so more all d text here line asked told limit few in (
          (new.held, record { took = took.took; within = took.within }),
          record {
            before = texts;
            last = r;
            all = told ∙ ap (λ l. texts ++ l) is;
            wrote = subst (λ z. Appends w z texts) (sym (held ∙ written)) so.wrote;
          },
        )

  -- ---- a line that is too long

  module _ (d t : Option (List ℕ)) (left : d ≡ c) (g : Gives old new b c new.text) (long : IsLong new.text) (few : new.taken ≤ limit) where
    too_long : Gives old new b d new.text
    too_long = subst (λ z. Gives old new b z new.text) (sym left) g

    pub ends_too_long : Appends u t long_text → Ends ends.TooLong limit lines texts (record { left = a; left_now = d; written = w; written_now = t })
    ends_too_long wrote =
        let took = long_within lines texts old new a b w v so limit d too_long few in
        ((new.text, new.held, record { took = took.took; within = took.within }, long), wrote_long lines texts old new a b w v so t (subst (λ z. Appends z t long_text) written wrote))

    pub ends_too_long_unwritten : WritesShort u t long_text → Ends ends.LinkWrite limit lines texts (record { left = a; left_now = d; written = w; written_now = t })
    ends_too_long_unwritten short =
        let took = long_within lines texts old new a b w v so limit d too_long few in
        inr (
          (new.text, new.held, record { took = took.took; within = took.within }, long),
          wrote_front lines texts old new a b w v so d t (subst (λ z. WritesShort z t long_text) written short),
        )

  -- ---- no line any more

  module _ (g : Stops old new b c) (few : new.taken ≤ limit) where
    pub ends_at_end : IsAtEnd c → Ends ends.End limit lines texts (record { left = a; left_now = c; written = w; written_now = u })
    ends_at_end at =
        let took = rest_within lines texts old new a b w v so limit c g few in
        ((new.text, record { took = took.took; within = took.within }, g.line, at), subst (λ z. Appends w z texts) (sym written) so.wrote)

    pub ends_unread : Ends ends.LinkRead limit lines texts (record { left = a; left_now = c; written = w; written_now = u })
    ends_unread =
        let took = rest_within lines texts old new a b w v so limit c g few in
        ((new.text, record { took = took.took; within = took.within }, g.line), subst (λ z. Appends w z texts) (sym written) so.wrote)

  pub ends_past_limit : (g : Exceeds old new b c) → new.limit ≡ limit → Ends ends.TooMuch limit lines texts (record { left = a; left_now = c; written = w; written_now = u })
  ends_past_limit g is =
      ((new.text, g.last, past_took lines texts old new a b w v so c g, g.line, past_limit lines texts old new a b w v so c g ∙ is), subst (λ z. Appends w z texts) (sym written) so.wrote)
