-- What a line that is asked does to what a connection has read and written.
use Rattle.std.proofs.Common.{◌≡◌, ◌≢◌, ℕ, ◌+◌, ◌<◌, ◌≤◌, List, [], ◌∷◌, ◌++◌, length, take, drop, sym, ap, subst, ◌∙◌, arith}
use Rattle.std.specs.Prelude.{IfSome, All}
use Rattle.std.specs.declared.option.Option.{Option}
use Rattle.std.specs.declared.option.Option.TheVariants.{None, Some}
use Rattle.std.specs.Io.KnownBytes.{append_known}
use Rattle.std.proofs.lemmas.List.{append_assoc, append-nil, take-append-drop, drop_more, length-take, length-append}
use Rattle.std.proofs.lemmas.List.Elements.{All-append, All-cons, All-nil}
use Rattle.std.proofs.lemmas.Grind.{flat_map-append}
use Rattle.ifdb_io.specs.Lines.{IsLine}
use Rattle.ifdb_io.specs.Reader.{BreaksAt}
use Rattle.ifdb_loop.specs.Moves.{Sends}
use Rattle.ifdb_loop.specs.Traffic.{Traffic}
use Rattle.ifdb_loop.specs.Exchange.{IsExchanged, IsTooLong, bytes_of, with_newline}

bytes-snoc : (lines : List (List ℕ)) (line : List ℕ) → bytes_of (lines ++ line ∷ []) ≡ bytes_of lines ++ with_newline line
bytes-snoc lines line = flat_map-append with_newline lines (line ∷ []) ∙ ap (λ l. bytes_of lines ++ l) (append-nil (with_newline line))

-- the bytes up to a newline, the newline, and the rest
broken : (held : List ℕ) (n : ℕ) → BreaksAt held n → held ≡ with_newline (take n held) ++ drop (n + 1) held
broken held n b =
    let whole = take-append-drop n held in
    let more = drop_more held n 0 b.within in
    let joined = append_assoc (take n held) (10 ∷ []) (drop (n + 1) held) in
    let byte = b.newline in
    cc

-- it goes over to the lines
line_over : (held : List ℕ) (n : ℕ) (lines : List (List ℕ)) → BreaksAt held n → bytes_of lines ++ held ≡ bytes_of (lines ++ take n held ∷ []) ++ drop (n + 1) held
line_over held n lines b =
    ap (λ xs. bytes_of lines ++ xs) (broken held n b)
    ∙ sym (append_assoc (bytes_of lines) (with_newline (take n held)) (drop (n + 1) held))
    ∙ ap (λ xs. xs ++ drop (n + 1) held) (sym (bytes-snoc lines (take n held)))

came_on : (given : Option (List ℕ)) (a b : List ℕ) → a ≡ b → IfSome given (λ bytes. bytes ≡ a) → IfSome given (λ bytes. bytes ≡ b)
came_on None a b same e = tt
came_on (Some bytes) a b same e = e ∙ same

owes_more : (written : Option (List ℕ)) (owed text texts : List ℕ) → IfSome written (λ bytes. bytes ++ owed ≡ texts)
    → IfSome written (λ bytes. bytes ++ (owed ++ text) ≡ texts ++ text)
owes_more None owed text texts e = tt
owes_more (Some bytes) owed text texts e = sym (append_assoc bytes owed text) ∙ ap (λ xs. xs ++ text) e

line_cut : (held : List ℕ) (n : ℕ) → BreaksAt held n → n ≤ 65535 → IsLine (take n held)
line_cut held n b short = record {
  plain = b.before;
  short = let size = length-take n held in omega (arith, size, b.within);
}

-- a connection that tells the same exchanged the same
pub exchanged_same : (t u : Traffic) (held owed : List ℕ) (lines : List (List ℕ)) (texts : List ℕ) → u.given ≡ t.given → u.written ≡ t.written
    → IsExchanged t held owed lines texts → IsExchanged u held owed lines texts
exchanged_same t u held owed lines texts given written x = record {
  came = subst (λ o. IfSome o (λ bytes. bytes ≡ bytes_of lines ++ held)) (sym given) x.came;
  went = subst (λ o. IfSome o (λ bytes. bytes ++ owed ≡ texts)) (sym written) x.went;
  are = x.are;
}

-- a line was asked, and its reply isn't owed yet
pub exchanged_asked : (t : Traffic) (held owed : List ℕ) (lines : List (List ℕ)) (texts : List ℕ) (n : ℕ)
    → IsExchanged t held owed lines texts → BreaksAt held n → n ≤ 65535
    → IsExchanged t (drop (n + 1) held) owed (lines ++ take n held ∷ []) texts
exchanged_asked t held owed lines texts n x b short = record {
  came = came_on t.given _ _ (line_over held n lines b) x.came;
  went = x.went;
  are = All-append IsLine lines (take n held ∷ []) x.are (All-cons IsLine (take n held) [] (line_cut held n b short) (All-nil IsLine));
}

-- a text more is owed
pub exchanged_owes : (t : Traffic) (held owed text : List ℕ) (lines : List (List ℕ)) (texts : List ℕ)
    → IsExchanged t held owed lines texts → IsExchanged t held (owed ++ text) lines (texts ++ text)
exchanged_owes t held owed text lines texts x = record {
  came = x.came;
  went = owes_more t.written owed text texts x.went;
  are = x.are;
}

went_on : (written : Option (List ℕ)) (front rest texts : List ℕ) → IfSome written (λ bytes. bytes ++ (front ++ rest) ≡ texts)
    → IfSome (append_known written front) (λ bytes. bytes ++ rest ≡ texts)
went_on None front rest texts e = tt
went_on (Some bytes) front rest texts e = append_assoc bytes front rest ∙ e

-- a front of what was owed was written
pub exchanged_sent : (t u : Traffic) (held old new : List ℕ) (lines : List (List ℕ)) (texts : List ℕ)
    → u.given ≡ t.given → Sends old new t.written u.written → IsExchanged t held old lines texts → IsExchanged u held new lines texts
exchanged_sent t u held old new lines texts given s x = record {
  came = subst (λ o. IfSome o (λ bytes. bytes ≡ bytes_of lines ++ held)) (sym given) x.came;
  went = subst (λ w. IfSome w (λ bytes. bytes ++ new ≡ texts)) (sym s.wrote)
      (went_on t.written s.front new texts (subst (λ xs. IfSome t.written (λ bytes. bytes ++ xs ≡ texts)) s.all x.went));
  are = x.are;
}

came_more : (given : Option (List ℕ)) (before held got : List ℕ) → IfSome given (λ bytes. bytes ≡ before ++ held)
    → IfSome (append_known given got) (λ bytes. bytes ≡ before ++ (held ++ got))
came_more None before held got e = tt
came_more (Some bytes) before held got e = ap (λ xs. xs ++ got) e ∙ append_assoc before held got

-- more bytes came
pub exchanged_came : (t u : Traffic) (held got owed : List ℕ) (lines : List (List ℕ)) (texts : List ℕ)
    → u.given ≡ append_known t.given got → u.written ≡ t.written → IsExchanged t held owed lines texts → IsExchanged u (held ++ got) owed lines texts
exchanged_came t u held got owed lines texts given written x = record {
  came = subst (λ o. IfSome o (λ bytes. bytes ≡ bytes_of lines ++ (held ++ got))) (sym given) (came_more t.given (bytes_of lines) held got x.came);
  went = subst (λ o. IfSome o (λ bytes. bytes ++ owed ≡ texts)) (sym written) x.went;
  are = x.are;
}

-- no bytes came
pub came_none : (held got now : List ℕ) → now ≡ held ++ got → length got ≡ 0 → now ≡ held
came_none held [] now is none = is ∙ append-nil held
came_none held (a ∷ rest) now is none = absurd (omega (arith, none))

-- how many bytes may still come behind these
pub room_left : (given : Option (List ℕ)) (got : List ℕ) (limit room left : ℕ) → left + length got ≡ room
    → IfSome given (λ bytes. length bytes + room ≡ limit) → IfSome (append_known given got) (λ bytes. length bytes + left ≡ limit)
room_left None got limit room left e x = tt
room_left (Some bytes) got limit room left e x = omega (arith, length-append bytes got, e, x)

-- with no room left, one byte more is past the limit
pub past_limit : (given : Option (List ℕ)) (got : List ℕ) (limit room : ℕ) → room ≡ 0 → length got ≡ 1
    → IfSome given (λ bytes. length bytes + room ≡ limit) → IfSome (append_known given got) (λ bytes. length bytes ≡ limit + 1)
past_limit None got limit room none one x = tt
past_limit (Some bytes) got limit room none one x = omega (arith, length-append bytes got, none, one, x)

-- what a connection gave is within its limit
pub within_limit : (given : Option (List ℕ)) (limit room : ℕ) → IfSome given (λ bytes. length bytes + room ≡ limit) → IfSome given (λ bytes. length bytes ≤ limit)
within_limit None limit room x = tt
within_limit (Some bytes) limit room x = omega (arith, x)

-- the first newline stands too far behind
pub too_long : (held : List ℕ) (n : ℕ) → BreaksAt held n → 65535 < n → IsTooLong held
too_long held n b long = record {
  front = take n held;
  rest = drop n held;
  all = sym (take-append-drop n held);
  plain = b.before;
  long = let size = length-take n held in omega (arith, size, b.within);
}

-- there is no newline, and too many bytes
pub all_too_long : (held : List ℕ) → All (λ b. b ≢ 10) held → 65535 < length held → IsTooLong held
all_too_long held plain long = record {
  front = held;
  rest = [];
  all = sym (append-nil held);
  plain = plain;
  long = long;
}

nothing_went : (written : Option (List ℕ)) → IfSome written (λ bytes. bytes ≡ []) → IfSome written (λ bytes. bytes ++ [] ≡ [])
nothing_went None e = tt
nothing_went (Some bytes) e = append-nil bytes ∙ e

-- a connection that has given nothing and was told nothing
pub exchanged_new : (t : Traffic) (held owed : List ℕ) → held ≡ [] → owed ≡ [] → IfSome t.given (λ bytes. bytes ≡ []) → IfSome t.written (λ bytes. bytes ≡ [])
    → IsExchanged t held owed [] []
exchanged_new t held owed h o came went = rw (h, o) (record {
  came = came;
  went = nothing_went t.written went;
  are = All-nil IsLine;
})

pub room_new : (given : Option (List ℕ)) (limit : ℕ) → IfSome given (λ bytes. bytes ≡ []) → IfSome given (λ bytes. length bytes + limit ≡ limit)
room_new None limit e = tt
room_new (Some bytes) limit e = let none : length bytes ≡ 0 = ap length e in omega (arith, none)
