-- The texts of rows, one behind the other.
use Rattle.std.proofs.Common.{◌≡◌, ℕ, List, [], ◌∷◌, ◌++◌, sym, ap, append-nil}
use Rattle.std.specs.Prelude.{flat_map, Option}
use Rattle.std.proofs.lemmas.List.Folds.{flat_map-map}
use Rattle.ifdb_value.specs.declared.value.Value.{Value}
use Rattle.ifdb_wire.specs.declared.reply.Table.{Table}
use Rattle.ifdb_wire.specs.declared.reply.Reply.TheVariants as reply
use Rattle.ifdb_wire.specs.Text.{value_text, row_text, rows_head, line, reply_text}

-- a tab stands before each value but the first
pub row_text_cons : (first : Value) (more : List Value) → row_text (first ∷ more) ≡ value_text first ++ flat_map (λ value. 9 ∷ value_text value) more
row_text_cons first [] = sym (append-nil (value_text first))
row_text_cons first (second ∷ more) = ap (λ rest. value_text first ++ 9 ∷ rest) (row_text_cons second more)

-- a line for each row
pub rows_text : (session : Option ℕ) (table : Table) → reply_text session (reply.Rows table) ≡
    line session (rows_head table) ++ flat_map (λ row. line session (row_text row)) table.rows
rows_text session table = ap (λ rest. line session (rows_head table) ++ rest) (flat_map-map (line session) row_text table.rows)
