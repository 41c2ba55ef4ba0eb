-- What happens to a connection, and how that leaves what it has exchanged.
use Rattle.std.proofs.Common.{◌≡◌, ℕ, ◌+◌, ◌<◌, ◌≤◌, List, [], ◌∷◌, ◌++◌, length, take, drop, refl, sym, ap, subst, ◌∙◌, arith, Bool, true, false, inl, inr}
use Rattle.std.specs.Prelude.{◌⊎◌, IfSome, unwrap_or}
use Rattle.std.specs.declared.option.Option.{Option}
use Rattle.std.specs.declared.option.Option.TheVariants.{None, Some}
use Rattle.std.proofs.lemmas.List.{append-nil, length-append}
use Rattle.std.specs.Io.KnownBytes.{append_known, IsAtEnd}
use Rattle.ifdb_io.specs.Lines.{IsLine}
use Rattle.ifdb_io.specs.Reader.{BreaksAt}
use Rattle.ifdb_loop.specs.declared.ending.Halt.{Halt}
use Rattle.ifdb_loop.specs.declared.ending.Ending.{Ending}
use Rattle.ifdb_loop.specs.declared.ending.Ending.TheVariants as ends
use Rattle.ifdb_loop.specs.Moves.{Sends}
use Rattle.ifdb_loop.specs.Traffic.{Traffic}
use Rattle.ifdb_loop.specs.Dialogues.{Dialogue, settled, silence, with_answer}
use Rattle.ifdb_loop.specs.Exchange.{IsExchanged, IsTooLong}
use Rattle.ifdb_loop.specs.Closings.{Carries, EndsItself, Exchanges, HasReadCause, HasWriteCause, KeepsLimit, WroteKept}
use Rattle.ifdb_loop.proofs.Talking.{exchanged_asked, exchanged_owes, exchanged_sent, exchanged_came, room_left, past_limit, within_limit, exchanged_new, exchanged_same, room_new}

-- ---- no more was written than what is kept

-- so it is as long as nothing is written
wrote_before : (written : Option (List ℕ)) (owed texts kept : List ℕ) → IfSome written (λ bytes. bytes ++ owed ≡ texts)
    → (kept ≡ texts) ⊎ IfSome written (λ bytes. length bytes ≤ length kept) → IfSome written (λ bytes. length bytes ≤ length kept)
wrote_before None owed texts kept went k = tt
wrote_before (Some bytes) owed texts kept went (inl all) = omega (arith, length-append bytes owed, ap length went, ap length all)
wrote_before (Some bytes) owed texts kept went (inr few) = few

wrote_same : (written now : Option (List ℕ)) (d : Dialogue) → now ≡ written → WroteKept written d → WroteKept now d
wrote_same written now d same k = subst (λ o. WroteKept o d) (sym same) k

-- ---- a line is asked

-- it was answered, and the reply is owed
pub answered : (long : List ℕ) (t : Traffic) (limit room : ℕ) (held owed reply : List ℕ) (d : Dialogue) (n : ℕ) (is_open : Bool)
    → Exchanges long None t limit room held owed d → BreaksAt held n → n ≤ 65535 → is_open ≡ true
    → Exchanges long None t limit room (drop (n + 1) held) (owed ++ reply) (with_answer d (take n held) reply is_open)
answered long t limit room held owed reply d n is_open x b short still = record {
  carries = exchanged_owes t _ owed reply _ d.texts (exchanged_asked t held owed d.lines d.texts n x.carries b short);
  within = x.within;
  may_be_open = still;
  read_cause = x.read_cause;
  write_cause = x.write_cause;
  kept = inr (wrote_before t.written owed d.texts d.kept x.carries.went x.kept);
}

-- so it was, and its session is closed by it
pub answered_last : (long : List ℕ) (t : Traffic) (limit room : ℕ) (held owed reply : List ℕ) (d : Dialogue) (n : ℕ) (is_open : Bool)
    → Exchanges long None t limit room held owed d → BreaksAt held n → n ≤ 65535 → is_open ≡ false
    → Exchanges long (Some ends.Bye) t limit room (drop (n + 1) held) (owed ++ reply) (with_answer d (take n held) reply is_open)
answered_last long t limit room held owed reply d n is_open x b short closed = record {
  carries = (drop (n + 1) held, exchanged_owes t _ owed reply _ d.texts (exchanged_asked t held owed d.lines d.texts n x.carries b short));
  within = within_limit t.given limit room x.within;
  may_be_open = closed;
  read_cause = x.read_cause;
  write_cause = tt;
  kept = inr (wrote_before t.written owed d.texts d.kept x.carries.went x.kept);
}

-- there was no memory for the reply
pub answered_unheard : (long : List ℕ) (t : Traffic) (limit room : ℕ) (held owed reply : List ℕ) (d : Dialogue) (n : ℕ) (is_open : Bool)
    → Exchanges long None t limit room held owed d → BreaksAt held n → n ≤ 65535
    → Exchanges long (Some ends.OutOfMemory) t limit room (drop (n + 1) held) owed (with_answer d (take n held) reply is_open)
answered_unheard long t limit room held owed reply d n is_open x b short = record {
  carries = record {
    tail = drop (n + 1) held;
    told = d.texts;
    last = reply;
    exchanged = exchanged_asked t held owed d.lines d.texts n x.carries b short;
    all = refl;
  };
  within = within_limit t.given limit room x.within;
  may_be_open = tt;
  read_cause = x.read_cause;
  write_cause = tt;
  kept = inr (wrote_before t.written owed d.texts d.kept x.carries.went x.kept);
}

-- ---- a line is too long

pub refused : (long : List ℕ) (t : Traffic) (limit room : ℕ) (held owed : List ℕ) (d : Dialogue)
    → Exchanges long None t limit room held owed d → IsTooLong held → Exchanges long (Some ends.TooLong) t limit room held (owed ++ long) d
refused long t limit room held owed d x too_long = record {
  carries = (held, exchanged_owes t held owed long d.lines d.texts x.carries, too_long);
  within = within_limit t.given limit room x.within;
  may_be_open = x.may_be_open;
  read_cause = x.read_cause;
  write_cause = tt;
  kept = x.kept;
}

-- there was no memory for that, or for the bytes that are held
pub unheard : (long : List ℕ) (t : Traffic) (limit room : ℕ) (held owed : List ℕ) (d : Dialogue)
    → Exchanges long None t limit room held owed d → Exchanges long (Some ends.OutOfMemory) t limit room held owed d
unheard long t limit room held owed d x = record {
  carries = record {
    tail = held;
    told = d.texts;
    last = [];
    exchanged = x.carries;
    all = sym (append-nil d.texts);
  };
  within = within_limit t.given limit room x.within;
  may_be_open = tt;
  read_cause = x.read_cause;
  write_cause = tt;
  kept = x.kept;
}

-- ---- bytes come

-- these came, and some may come still
pub came : (long : List ℕ) (t u : Traffic) (limit room left : ℕ) (held got now owed : List ℕ) (d : Dialogue)
    → now ≡ held ++ got → u.given ≡ append_known t.given got → u.written ≡ t.written → u.unread ≡ t.unread → u.unwritten ≡ t.unwritten → left + length got ≡ room
    → Exchanges long None t limit room held owed d → Exchanges long None u limit left now owed d
came long t u limit room left held got now owed d is given written unread unwritten size x = record {
  carries = subst (λ h. IsExchanged u h owed d.lines d.texts) (sym is) (exchanged_came t u held got owed d.lines d.texts given written x.carries);
  within = subst (KeepsLimit None limit left) (sym given) (room_left t.given got limit room left size x.within);
  may_be_open = x.may_be_open;
  read_cause = unread ∙ x.read_cause;
  write_cause = unwritten ∙ x.write_cause;
  kept = wrote_same t.written u.written d written x.kept;
}

-- one came that is past the limit
pub came_past : (long : List ℕ) (t u : Traffic) (limit room : ℕ) (held got now owed : List ℕ) (d : Dialogue)
    → u.given ≡ append_known t.given got → u.written ≡ t.written → u.unread ≡ t.unread → u.unwritten ≡ t.unwritten → room ≡ 0 → length got ≡ 1 → IsLine held
    → Exchanges long None t limit room held owed d → Exchanges long (Some ends.TooMuch) u limit room now owed d
came_past long t u limit room held [] now owed d given written unread unwritten none one line x = absurd (omega (arith, one))
came_past long t u limit room held (last ∷ []) now owed d given written unread unwritten none one line x = record {
  carries = (held, last, exchanged_came t u held (last ∷ []) owed d.lines d.texts given written x.carries, line);
  within = subst (KeepsLimit (Some ends.TooMuch) limit room) (sym given) (past_limit t.given (last ∷ []) limit room none one x.within);
  may_be_open = x.may_be_open;
  read_cause = unread ∙ x.read_cause;
  write_cause = tt;
  kept = wrote_same t.written u.written d written x.kept;
}
came_past long t u limit room held (a ∷ b ∷ rest) now owed d given written unread unwritten none one line x = absurd (omega (arith, one))

-- none came: the input is at its end
pub came_end : (long : List ℕ) (t u : Traffic) (limit room : ℕ) (held got now owed : List ℕ) (d : Dialogue)
    → u.given ≡ append_known t.given got → u.written ≡ t.written → u.unread ≡ t.unread → length got ≡ 0 → IsAtEnd u.left → IsLine held
    → Exchanges long None t limit room held owed d → Exchanges long (Some ends.End) u limit room now owed d
came_end long t u limit room held [] now owed d given written unread none at_end line x = record {
  carries = (
    held ++ [],
    exchanged_came t u held [] owed d.lines d.texts given written x.carries,
    subst IsLine (sym (append-nil held)) line,
    at_end,
  );
  within =
      let none : room + 0 ≡ room = omega arith in
      let left = room_left t.given [] limit room room none x.within in
      subst (KeepsLimit (Some ends.End) limit room) (sym given) (within_limit (append_known t.given []) limit room left);
  may_be_open = x.may_be_open;
  read_cause = unread ∙ x.read_cause;
  write_cause = tt;
  kept = wrote_same t.written u.written d written x.kept;
}
came_end long t u limit room held (a ∷ rest) now owed d given written unread none at_end line x = absurd (omega (arith, none))

-- none came: reading has failed
pub came_fault : (long : List ℕ) (t u : Traffic) (limit room : ℕ) (held got now owed : List ℕ) (d : Dialogue)
    → u.given ≡ append_known t.given got → u.written ≡ t.written → 0 < u.unread → length got ≡ 0 → IsLine held
    → Exchanges long None t limit room held owed d → Exchanges long (Some ends.LinkRead) u limit room now owed d
came_fault long t u limit room held [] now owed d given written fault none line x = record {
  carries = (
    held ++ [],
    exchanged_came t u held [] owed d.lines d.texts given written x.carries,
    subst IsLine (sym (append-nil held)) line,
  );
  within =
      let none : room + 0 ≡ room = omega arith in
      let left = room_left t.given [] limit room room none x.within in
      subst (KeepsLimit (Some ends.LinkRead) limit room) (sym given) (within_limit (append_known t.given []) limit room left);
  may_be_open = x.may_be_open;
  read_cause = fault;
  write_cause = tt;
  kept = wrote_same t.written u.written d written x.kept;
}
came_fault long t u limit room held (a ∷ rest) now owed d given written fault none line x = absurd (omega (arith, none))

-- reading has failed, without a read
pub silent : (long : List ℕ) (t u : Traffic) (limit room : ℕ) (held owed : List ℕ) (d : Dialogue)
    → u.given ≡ t.given → u.written ≡ t.written → 0 < u.unread → IsLine held
    → Exchanges long None t limit room held owed d → Exchanges long (Some ends.LinkRead) u limit room held owed d
silent long t u limit room held owed d given written fault line x = record {
  carries = (held, exchanged_same t u held owed d.lines d.texts given written x.carries, line);
  within = subst (KeepsLimit (Some ends.LinkRead) limit room) (sym given) (within_limit t.given limit room x.within);
  may_be_open = x.may_be_open;
  read_cause = fault;
  write_cause = tt;
  kept = wrote_same t.written u.written d written x.kept;
}

-- ---- bytes go

carries_sent : (long : List ℕ) (ending : Option Ending) (t u : Traffic) (held old new : List ℕ) (d : Dialogue)
    → u.given ≡ t.given → u.left ≡ t.left → Sends old new t.written u.written
    → Carries long ending t held old d → Carries long ending u held new (settled d)
carries_sent long None t u held old new d g l s x = exchanged_sent t u held old new d.lines d.texts g s x
carries_sent long (Some ends.Bye) t u held old new d g l s x = (x.0, exchanged_sent t u x.0 old new d.lines d.texts g s x.1)
carries_sent long (Some ends.End) t u held old new d g l s x = (x.0, exchanged_sent t u x.0 old new d.lines d.texts g s x.1, x.2, subst IsAtEnd (sym l) x.3)
carries_sent long (Some ends.LinkRead) t u held old new d g l s x = (x.0, exchanged_sent t u x.0 old new d.lines d.texts g s x.1, x.2)
carries_sent long (Some ends.LinkWrite) t u held old new d g l s x = (x.0, exchanged_sent t u x.0 old new d.lines d.texts g s x.1)
carries_sent long (Some (ends.Halted halt)) t u held old new d g l s x = (x.0, exchanged_sent t u x.0 old new d.lines d.texts g s x.1)
carries_sent long (Some ends.TooMuch) t u held old new d g l s x = (x.0, x.1, exchanged_sent t u (x.0 ++ x.1 ∷ []) old new d.lines d.texts g s x.2, x.3)
carries_sent long (Some ends.TooLong) t u held old new d g l s x = (x.0, exchanged_sent t u x.0 old new d.lines (d.texts ++ long) g s x.1, x.2)
carries_sent long (Some ends.OutOfMemory) t u held old new d g l s x = record {
  tail = x.tail;
  told = x.told;
  last = x.last;
  exchanged = exchanged_sent t u x.tail old new d.lines x.told g s x.exchanged;
  all = x.all;
}

write_cause_later : (ending : Option Ending) (old new : ℕ) → (ending ≡ None → new ≡ old) → old ≤ new → HasWriteCause ending old → HasWriteCause ending new
write_cause_later None old new same later x = same refl ∙ x
write_cause_later (Some ends.LinkWrite) old new same later x = omega (arith, later, x)
write_cause_later (Some ends.Bye) old new same later x = tt
write_cause_later (Some ends.End) old new same later x = tt
write_cause_later (Some ends.LinkRead) old new same later x = tt
write_cause_later (Some (ends.Halted halt)) old new same later x = tt
write_cause_later (Some ends.TooMuch) old new same later x = tt
write_cause_later (Some ends.TooLong) old new same later x = tt
write_cause_later (Some ends.OutOfMemory) old new same later x = tt

-- a front of what was owed was written, and writing hasn't failed
pub went : (long : List ℕ) (ending : Option Ending) (t u : Traffic) (limit room : ℕ) (held old new : List ℕ) (d : Dialogue)
    → u.given ≡ t.given → u.left ≡ t.left → u.unread ≡ t.unread → Sends old new t.written u.written → t.unwritten ≤ u.unwritten
    → (ending ≡ None → u.unwritten ≡ t.unwritten)
    → Exchanges long ending t limit room held old d → Exchanges long ending u limit room held new (settled d)
went long ending t u limit room held old new d given left unread sent later same x = record {
  carries = carries_sent long ending t u held old new d given left sent x.carries;
  within = subst (KeepsLimit ending limit room) (sym given) x.within;
  may_be_open = x.may_be_open;
  read_cause = subst (HasReadCause ending) (sym unread) x.read_cause;
  write_cause = write_cause_later ending t.unwritten u.unwritten same later x.write_cause;
  kept = inl refl;
}

some_none : {A : Type 0} (x : A) → Some x ≡ None → ⊥
some_none x e = grind (arith, e)

-- so it was, and then writing has failed
pub lost : (long : List ℕ) (ending : Option Ending) (t u : Traffic) (limit room : ℕ) (held old new : List ℕ) (d : Dialogue)
    → u.given ≡ t.given → u.left ≡ t.left → u.unread ≡ t.unread → Sends old new t.written u.written → t.unwritten ≤ u.unwritten → 0 < u.unwritten
    → Exchanges long ending t limit room held old d → Exchanges long (Some (unwrap_or ending ends.LinkWrite)) u limit room held new (settled d)
lost long None t u limit room held old new d given left unread sent later fault x = record {
  carries = (held, exchanged_sent t u held old new d.lines d.texts given sent x.carries);
  within = subst (λ o. IfSome o (λ bytes. length bytes ≤ limit)) (sym given) (within_limit t.given limit room x.within);
  may_be_open = x.may_be_open;
  read_cause = unread ∙ x.read_cause;
  write_cause = fault;
  kept = inl refl;
}
lost long (Some ending) t u limit room held old new d given left unread sent later fault x =
    went long (Some ending) t u limit room held old new d given left unread sent later (λ e. absurd (some_none ending e)) x

-- ---- the end

-- it has ended, and it doesn't matter any more which bytes are held and how many may come
pub settled_so : (long : List ℕ) (ending : Ending) (t : Traffic) (limit room : ℕ) (held owed : List ℕ) (d : Dialogue)
    → Exchanges long (Some ending) t limit room held owed d → Exchanges long (Some ending) t limit 0 [] owed d
settled_so long ending t limit room held owed d x = record {
  carries = x.carries;
  within = x.within;
  may_be_open = x.may_be_open;
  read_cause = x.read_cause;
  write_cause = x.write_cause;
  kept = x.kept;
}

-- its loop has halted
pub halted : (long : List ℕ) (halt : Halt) (ending : Option Ending) (t : Traffic) (limit room : ℕ) (held owed : List ℕ) (d : Dialogue)
    → Exchanges long ending t limit room held owed d → Exchanges long (Some (unwrap_or ending (ends.Halted halt))) t limit 0 [] owed d
halted long halt None t limit room held owed d x = record {
  carries = (held, x.carries);
  within = within_limit t.given limit room x.within;
  may_be_open = x.may_be_open;
  read_cause = x.read_cause;
  write_cause = tt;
  kept = x.kept;
}
halted long halt (Some ending) t limit room held owed d x = settled_so long ending t limit room held owed d x

pub none_some : {A : Type 0} (x : A) → None ≡ Some x → ⊥
none_some x e = grind (arith, e)

pub some_is : {A : Type 0} (x y : A) → Some x ≡ Some y → x ≡ y
some_is x y e = grind (arith, e)

-- it had ended so
pub closed : (long : List ℕ) (was : Option Ending) (ending : Ending) (t : Traffic) (limit room : ℕ) (held owed : List ℕ) (d : Dialogue)
    → was ≡ Some ending → Exchanges long was t limit room held owed d → Exchanges long (Some ending) t limit 0 [] owed d
closed long None ending t limit room held owed d is x = absurd (none_some ending is)
closed long (Some other) ending t limit room held owed d is x =
    subst (λ e. Exchanges long (Some e) t limit 0 [] owed d) (some_is other ending is) (settled_so long other t limit room held owed d x)

-- of one that has ended it doesn't matter which bytes are held
pub ended_with : (long : List ℕ) (ending : Ending) (t : Traffic) (limit room : ℕ) (held other owed : List ℕ) (d : Dialogue)
    → Exchanges long (Some ending) t limit room held owed d → Exchanges long (Some ending) t limit room other owed d
ended_with long ending t limit room held other owed d x = record {
  carries = x.carries;
  within = x.within;
  may_be_open = x.may_be_open;
  read_cause = x.read_cause;
  write_cause = x.write_cause;
  kept = x.kept;
}

pub false_true : false ≡ true → ⊥
false_true e = grind (arith, e)

-- a connection that has just come
pub fresh : (long : List ℕ) (t : Traffic) (limit : ℕ) (held owed : List ℕ) → held ≡ [] → owed ≡ []
    → IfSome t.given (λ bytes. bytes ≡ []) → IfSome t.written (λ bytes. bytes ≡ []) → t.unread ≡ 0 → t.unwritten ≡ 0
    → Exchanges long None t limit limit held owed silence
fresh long t limit held owed h o given written unread unwritten = record {
  carries = exchanged_new t held owed h o given written;
  within = room_new t.given limit given;
  may_be_open = refl;
  read_cause = unread;
  write_cause = unwritten;
  kept = inl refl;
}

-- ---- by itself

-- the end of one that ended by itself, or whose writing fails now, is its own
pub own_lost : (ending : Option Ending) → EndsItself ending → EndsItself (Some (unwrap_or ending ends.LinkWrite))
own_lost None own = tt
own_lost (Some ending) own = own

-- one that ended by itself wasn't halted
pub own_not_halted : (ending : Ending) (halt : Halt) → EndsItself (Some ending) → ending ≡ ends.Halted halt → ⊥
own_not_halted ending halt own is = subst (λ e. EndsItself (Some e)) is own

halt_is : (halt other : Halt) → ends.Halted halt ≡ ends.Halted other → halt ≡ other
halt_is halt other e = grind (arith, e)

-- if one that may have ended by itself ends as halted now, it is for this cause
pub halted_for : (ending : Option Ending) (halt other : Halt) → EndsItself ending → unwrap_or ending (ends.Halted halt) ≡ ends.Halted other → halt ≡ other
halted_for None halt other own is = halt_is halt other is
halted_for (Some ending) halt other own is = absurd (own_not_halted ending other own is)
