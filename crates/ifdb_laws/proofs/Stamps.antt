-- A COMMIT is judged by the commits since its BEGIN, whose stamps are above it.
use Rattle.std.proofs.Common.{◌≡◌, ℕ, ◌+◌, ◌<◌, Bool, true, false, List, [], ◌∷◌, ◌++◌, drop, refl, sym, ap, arith, cond, Some, None, Option}
use Rattle.ifdb_row.specs.declared.slot.Slot.{Slot}
use Rattle.ifdb_row.specs.Writes.{slots_of, is_written}
use Rattle.ifdb_row.specs.Verdict.{written_by, verdict, later_of, last_stamp}
use Rattle.ifdb_model.specs.Log.{Entry, changes, commits, all_tags, content_of, written_of, stamped_from}
use Rattle.ifdb_laws.specs.StepLaws.{CommitsAreJudged, StampsAreAbove}

written_stamped : (at : ℕ) (log : List Entry) → written_by (stamped_from at log) ≡ written_of log
written_stamped at [] = refl
written_stamped at (changes c ∷ log) = written_stamped (at + 1) log
written_stamped at (commits ws ∷ log) = ap (λ x. slots_of ws ++ x) (written_stamped (at + 1) log)

pub judged_lem : CommitsAreJudged
judged_lem log s x = ap (λ later. verdict (all_tags log) (content_of log) later x.own s.label) (sym (written_stamped x.begin (drop x.begin log)))

stamp_of : Option ℕ → ℕ
stamp_of None = 0
stamp_of (Some n) = n

-- of two stamps that may be there, the one that is taken
either_above : (at n : ℕ) (a b : Option ℕ) → ((m : ℕ) → a ≡ Some m → at < m) → ((m : ℕ) → b ≡ Some m → at < m) → later_of a b ≡ Some n → at < n
either_above at n a None h k e = h n e
either_above at n a (Some m) h k e = k n e

here_above : (at m : ℕ) (b : Bool) → cond b (Some (at + 1)) None ≡ Some m → at < m
unfolding stamp_of
here_above at m true e = let same : at + 1 ≡ m = ap stamp_of e in omega arith
here_above at m false e = cc

pub stamps_above : (at : ℕ) (log : List Entry) (n : ℕ) (p : Slot) → last_stamp (stamped_from at log) p ≡ Some n → at < n
stamps_above at [] n p e = cc
stamps_above at (changes c ∷ log) n p e = let more = stamps_above (at + 1) log n p e in omega arith
stamps_above at (commits ws ∷ log) n p e =
    either_above at n (cond (is_written ws p) (Some (at + 1)) None) (last_stamp (stamped_from (at + 1) log) p) (λ m i. here_above at m (is_written ws p) i)
    (λ m i. let more = stamps_above (at + 1) log m p i in omega arith) e

pub stamps_lem : StampsAreAbove
stamps_lem log begin stamp p e = stamps_above begin (drop begin log) stamp p e
