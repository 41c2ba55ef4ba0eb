-- What is counted of a script, line by line.
use Rattle.std.proofs.Common.{◌≡◌, ℕ, ◌+◌, ◌<◌, ◌≤◌, Bool, true, false, List, [], ◌∷◌, ◌++◌, ◌∙◌, map, filter, length, refl, sym, ap, arith, Option, Some, None}
use Rattle.std.specs.Prelude.{option_to_list}
use Rattle.std.specs.List.{flat_map}
use Rattle.std.proofs.lemmas.List.{map-append, length-append}
use Rattle.std.proofs.lemmas.List.Elements.{filter-append}
use Rattle.ifdb_wire.specs.declared.reply.Reply.{Reply}
use Rattle.ifdb_model.specs.Log.{content_of}
use Rattle.ifdb_model.specs.Run.{State, Told, run, replies, opening}
use Rattle.ifdb_model.specs.Script.{lines_of, line_steps, steps_of}
use Rattle.ifdb_model.specs.Session.{Seen}
use Rattle.ifdb_model.proofs.Runs.{run-append, replies-append}
use Rattle.ifdb_db.specs.Reading.{read_line}
use Rattle.ifdb_db.specs.Room.{Hall, StandsFor}
use Rattle.ifdb_script.specs.declared.rehearsed.Rehearsed.{Rehearsed}
use Rattle.ifdb_script.specs.Rehearsal.{is_ok, is_rows, is_error, number_of, rehearsed}
use Rattle.ifdb_script.specs.Rehearsing.{none_counted, one_if, counted, counted_on, IsFew, IsTaken}

-- the same numbers
same : {l l2 o o2 r r2 e e2 v v2 : ℕ} → l ≡ l2 → o ≡ o2 → r ≡ r2 → e ≡ e2 → v ≡ v2
    → ◌≡◌ {A = Rehearsed} (record { lines = l; ok = o; rows = r; errors = e; live = v }) (record { lines = l2; ok = o2; rows = r2; errors = e2; live = v2 })
same a b c d f = λ i. record { lines = a i; ok = b i; rows = c i; errors = d i; live = f i }

number_append : (passes : Reply → Bool) (first more : List Told) → number_of passes (first ++ more) ≡ number_of passes first + number_of passes more
number_append passes first more =
    ap (λ all. length (filter passes all)) (map-append (λ (t : Told). t.reply) first more)
    ∙ ap length (filter-append passes (map (λ (t : Told). t.reply) first) (map (λ (t : Told). t.reply) more))
    ∙ length-append (filter passes (map (λ (t : Told). t.reply) first)) (filter passes (map (λ (t : Told). t.reply) more))

-- ---- one line

-- how many of a line's replies pass, of which there is one at most
abbrev one_of : (Reply → Bool) → Option Reply → ℕ
one_of passes None = 0
one_of passes (Some r) = one_if (passes r)

one_passes : (passes : Reply → Bool) (reply : Option Reply) → length (filter passes (option_to_list reply)) ≡ one_of passes reply
one_passes passes None = refl
one_passes passes (Some r) = by (passes r) where
  by : (b : Bool) → length (Rattle.std.proofs.Common.cond b (r ∷ []) []) ≡ one_if b
  by true = refl
  by false = refl

module _ (c : Rehearsed) (st : State) (text line behind : List ℕ) (reply : Option Reply)
    (lines : lines_of text ≡ line ∷ lines_of behind)
    (told_so : map (λ (t : Told). t.reply) (replies read_line st (line_steps line)) ≡ option_to_list reply) where
  steps : steps_of text ≡ line_steps line ++ steps_of behind
  steps = ap (flat_map line_steps) lines

  number_on : (passes : Reply → Bool) → number_of passes (replies read_line st (steps_of text))
      ≡ one_of passes reply + number_of passes (replies read_line (run read_line st (line_steps line)) (steps_of behind))
  number_on passes =
      ap (λ ss. number_of passes (replies read_line st ss)) steps
      ∙ ap (number_of passes) (replies-append read_line st (line_steps line) (steps_of behind))
      ∙ number_append passes (replies read_line st (line_steps line)) (replies read_line (run read_line st (line_steps line)) (steps_of behind))
      ∙ ap (λ n. n + number_of passes (replies read_line (run read_line st (line_steps line)) (steps_of behind))) (ap (λ rs. length (filter passes rs)) told_so ∙ one_passes passes reply)

  live_on : length (content_of (run read_line st (steps_of text)).log) ≡ length (content_of (run read_line (run read_line st (line_steps line)) (steps_of behind)).log)
  live_on = ap (λ (s : State). length (content_of s.log)) (ap (run read_line st) steps ∙ run-append read_line st (line_steps line) (steps_of behind))

  -- the same, where the reply is this one
  number_with : (passes : Reply → Bool) (r : Option Reply) → reply ≡ r → number_of passes (replies read_line st (steps_of text))
      ≡ one_of passes r + number_of passes (replies read_line (run read_line st (line_steps line)) (steps_of behind))
  number_with passes r e =
      number_on passes ∙ ap (λ o. one_of passes o + number_of passes (replies read_line (run read_line st (line_steps line)) (steps_of behind))) e

  pub line_counted : counted_on c st text ≡ counted_on (counted c reply) (run read_line st (line_steps line)) behind
  line_counted = by reply refl where
    many : length (lines_of text) ≡ length (line ∷ lines_of behind)
    many = ap length lines

    by : (r : Option Reply) → reply ≡ r → counted_on c st text ≡ counted_on (counted c r) (run read_line st (line_steps line)) behind
    by None e = same
        (omega (arith, many)) (omega (arith, number_with is_ok None e)) (omega (arith, number_with is_rows None e))
        (omega (arith, number_with is_error None e)) live_on
    by (Some r) e = same
        (omega (arith, many)) (omega (arith, number_with is_ok (Some r) e)) (omega (arith, number_with is_rows (Some r) e))
        (omega (arith, number_with is_error (Some r) e)) live_on

-- ---- the beginning and the end

pub none_yet : (script : List ℕ) → counted_on none_counted opening script ≡ rehearsed script
none_yet script = same (omega arith) (omega arith) (omega arith) (omega arith) refl

pub all_counted : (c : Rehearsed) (st : State) → counted_on c st [] ≡ record c { live = length (content_of st.log) }
all_counted c st = same (omega arith) (omega arith) (omega arith) (omega arith) refl

-- ---- so far

lines_counted : (c : Rehearsed) (reply : Option Reply) → (counted c reply).lines ≡ c.lines + 1
lines_counted c None = refl
lines_counted c (Some r) = refl

-- The room stands for a state from which the rest of a script brings the counts to those of the whole.
pub record Counting (script : List ℕ) (room : Hall) (c : Rehearsed) (rest : List ℕ) : Type 0 where
  pub state : State
  pub stands : StandsFor room state
  pub counts : counted_on c state rest ≡ rehearsed script
  pub few : IsFew c
  pub within : c.lines + length rest ≤ length script

pub counting_none : (script : List ℕ) (room : Hall) → StandsFor room opening → Counting script room none_counted script
counting_none script room w = record {
  state = opening;
  stands = w;
  counts = none_yet script;
  few = record { ok = omega arith; rows = omega arith; errors = omega arith };
  within = omega arith;
}

-- one line more
pub counting_on : (script : List ℕ) (room new : Hall) (c d : Rehearsed) (text line behind : List ℕ) (reply : Option Reply)
    → Counting script room c text → lines_of text ≡ line ∷ lines_of behind → length behind < length text → IsTaken room new (line_steps line) reply
    → d ≡ counted c reply → IsFew d → Counting script new d behind
counting_on script room new c d text line behind reply so lines shorter taken is few = record {
  state = run read_line so.state (line_steps line);
  stands = taken.stands so.state so.stands;
  counts =
      ap (λ (e : Rehearsed). counted_on e (run read_line so.state (line_steps line)) behind) is
      ∙ sym (line_counted c so.state text line behind reply lines (taken.replies so.state so.stands)) ∙ so.counts;
  few = few;
  within =
      let more = ap (λ (e : Rehearsed). e.lines) is ∙ lines_counted c reply in
      let old = so.within in
      omega (arith, more, old, shorter);
}

-- nothing is left
pub counting_all : (script : List ℕ) (room : Hall) (c : Rehearsed) (rest : List ℕ) (n : ℕ) → Counting script room c rest → rest ≡ []
    → n ≡ length room.desk.seen.rows → record c { live = n } ≡ rehearsed script
counting_all script room c rest n so none live =
    let here : n ≡ length (content_of so.state.log) = live ∙ ap (λ (x : Seen). length x.rows) so.stands.desk.seen in
    ap (λ m. record c { live = m }) here
    ∙ sym (all_counted c so.state)
    ∙ ap (counted_on c so.state) (sym none)
    ∙ so.counts
