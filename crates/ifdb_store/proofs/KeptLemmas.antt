-- A store that stands for a log goes on to stand for it.
use Rattle.std.proofs.Common.{◌≡◌, ℕ, ◌<◌, ◌≤◌, List, [], ◌∷◌, ◌++◌, ◌∙◌, refl, sym, ap, arith}
use Rattle.std.specs.Prelude.{map}
use Rattle.std.proofs.lemmas.Bool.Decides.{nat_tests}
use Rattle.std.proofs.lemmas.List.{map-append}
use Rattle.ifdb_row.specs.declared.row.Row.{Row}
use Rattle.ifdb_row.specs.declared.write.Write.{Write}
use Rattle.ifdb_row.specs.Content.{after, content_from}
use Rattle.ifdb_value.proofs.Lists.{filter-filter}
use Rattle.ifdb_row.specs.declared.commit.Commit.{Commit}
use Rattle.ifdb_store.specs.Kept.{is_later, trimmed, Installs, Trims, Tells}

content_more : (rows : List Row) (xs : List (List Write)) (ws : List Write) → content_from rows (xs ++ ws ∷ []) ≡ after (content_from rows xs) ws
content_more rows [] ws = refl
content_more rows (x ∷ xs) ws = content_more (after rows x) xs ws

trimmed_more : (floor : ℕ) (log : List Commit) (c : Commit) → floor < c.stamp → trimmed floor (log ++ c ∷ []) ≡ trimmed floor log ++ c ∷ []
trimmed_more floor [] c lt = grind (arith, nat_tests)
trimmed_more floor (x ∷ log) c lt = grind (arith, nat_tests, trimmed_more floor log c lt)

trimmed_again : (low high : ℕ) (log : List Commit) → low ≤ high → trimmed high (trimmed low log) ≡ trimmed high log
trimmed_again low high log le = filter-filter (is_later low) (is_later high) log (λ c e. grind (arith, nat_tests))

pub installs : Installs
installs kept log floor c s lt = record {
  rows = ap (λ rows. after rows c.writes) s.rows ∙ sym (ap (content_from []) (map-append (λ (c : Commit). c.writes) log (c ∷ [])) ∙ content_more [] (map (λ (c : Commit). c.writes) log) c.writes);
  commits = ap (λ cs. cs ++ c ∷ []) s.commits ∙ sym (trimmed_more floor log c lt);
}

pub trims : Trims
trims kept log floor oldest s le = record {
  rows = s.rows;
  commits = ap (trimmed oldest) s.commits ∙ trimmed_again floor oldest log le;
}

pub tells : Tells
tells kept log floor begin s le = ap (trimmed begin) s.commits ∙ trimmed_again floor begin log le
