-- The verdict over a store and the one over its log.
use Rattle.std.proofs.Common.{◌≡◌, ℕ, zero, suc, ◌+◌, ◌≤◌, true, false, List, [], ◌∷◌, ◌++◌, ◌∙◌, drop, refl, ap, arith}
use Rattle.std.specs.Prelude.{map, cond}
use Rattle.std.proofs.lemmas.Bool.Decides.{nat_tests}
use Rattle.ifdb_row.specs.declared.commit.Commit.{Commit}
use Rattle.ifdb_row.specs.Writes.{slots_of}
use Rattle.ifdb_row.specs.Content.{content_from}
use Rattle.ifdb_row.specs.Verdict.{verdict, written_by}
use Rattle.ifdb_store.specs.Kept.{is_later, trimmed}
use Rattle.ifdb_store.proofs.KeptLemmas.{tells}
use Rattle.ifdb_model.specs.Log.{Entry, changes, commits, commits_of, content_of, written_of, stamped_from}
use Rattle.ifdb_commit.specs.Laws.{JudgesALog}

pub writes_stamped : (at : ℕ) (log : List Entry) → map (λ (c : Commit). c.writes) (stamped_from at log) ≡ commits_of log
writes_stamped at [] = refl
writes_stamped at (changes c ∷ log) = writes_stamped (at + 1) log
writes_stamped at (commits ws ∷ log) = ap (λ xs. ws ∷ xs) (writes_stamped (at + 1) log)

-- of entries at or behind a stamp all commits are later
all_later : (begin at : ℕ) (log : List Entry) → begin ≤ at → written_by (trimmed begin (stamped_from at log)) ≡ written_of log
all_later begin at [] le = refl
all_later begin at (changes c ∷ log) le = all_later begin (at + 1) log (omega arith)
all_later begin at (commits ws ∷ log) le =
    let it : Commit = record { stamp = at + 1; writes = ws } in
    let later : is_later begin it ≡ true = grind (arith, nat_tests) in
    ap (λ b. written_by (cond b (it ∷ trimmed begin (stamped_from (at + 1) log)) (trimmed begin (stamped_from (at + 1) log)))) later
    ∙ ap (λ x. slots_of ws ++ x) (all_later begin (at + 1) log (omega arith))

-- the commits above a stamp are those behind so many entries
later_written : (k at : ℕ) (log : List Entry) → written_by (trimmed (at + k) (stamped_from at log)) ≡ written_of (drop k log)
later_written zero at log = all_later (at + 0) at log (omega arith)
later_written (suc k) at [] = refl
later_written (suc k) at (changes c ∷ log) =
    let same : at + suc k ≡ (at + 1) + k = omega arith in
    ap (λ n. written_by (trimmed n (stamped_from (at + 1) log))) same ∙ later_written k (at + 1) log
later_written (suc k) at (commits ws ∷ log) =
    let it : Commit = record { stamp = at + 1; writes = ws } in
    let same : at + suc k ≡ (at + 1) + k = omega arith in
    let early : is_later (at + suc k) it ≡ false = grind (arith, nat_tests) in
    ap (λ b. written_by (cond b (it ∷ trimmed (at + suc k) (stamped_from (at + 1) log)) (trimmed (at + suc k) (stamped_from (at + 1) log)))) early
    ∙ (ap (λ n. written_by (trimmed n (stamped_from (at + 1) log))) same ∙ later_written k (at + 1) log)

pub judges_a_log : JudgesALog
judges_a_log tags kept log floor begin own label s le =
    let rows : kept.rows ≡ content_of log = s.rows ∙ ap (content_from []) (writes_stamped 0 log) in
    let none : begin ≡ 0 + begin = omega arith in
    let later : written_by (trimmed begin kept.commits) ≡ written_of (drop begin log) = ap written_by (tells kept (stamped_from 0 log) floor begin s le) ∙ (ap (λ n. written_by (trimmed n (stamped_from 0 log))) none ∙ later_written begin 0 log) in
    λ i. verdict tags (rows i) (later i) own label
