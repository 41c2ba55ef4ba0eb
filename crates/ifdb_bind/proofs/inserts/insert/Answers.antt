use Rattle.std.proofs.Common.{rules, ◌≡◌, ◌∙◌, ◌&&◌, ◌⊎◌, true, false, List, Err, inl, inr, map, sym, ap, refl}
use Rattle.std.specs.List.{list_all}
use Rattle.std.proofs.lemmas.Result.{err_from_is_err_and}
use Rattle.ifdb_wire.specs.declared.fault.Fault.TheVariants.{OutOfMemory, TypeMismatch}
use Rattle.ifdb_value.specs.declared.column.Column.{Column}
use Rattle.ifdb_catalog.specs.Check.{judged}
use Rattle.ifdb_catalog.specs.Queries.{is_relation, is_view}
use Rattle.ifdb_catalog.specs.Statements.{are_listed, are_tags, arranged, columns_named, is_column_of, label_named, row_fits, schema_named, table_number}
use Rattle.ifdb_bind.specs.Listed.{all_fit}
use Rattle.ifdb_bind.proofs.Listed.{all_fit_in}
use Rattle.ifdb_bind.proofs.inserts.insert.Goals as goal

pub returns-clause-bound : goal.returns-clause-bound
unfolding judged
returns-clause-bound c =
    let p = c.args.catalog.now in
    let name = c.args.table.now in
    let t = schema_named p name in
    let names = c.args.new.columns in
    let rows = c.args.new.rows in
    let columns : c.columns_of.result.now ≡ t.columns = search rules in
    let key : c.key_places-key.result.now ≡ t.key = search rules in
    let fit : all_fit c.columns_of.result.now c.key_places-key.result.now names rows ≡ true = search rules in
    let same : columns_named p name ≡ t.columns = search rules in
    let fits : are_listed (columns_named p name) names && list_all (row_fits t names) rows ≡ true =
    ap (λ (l : List Column). are_listed l names && list_all (row_fits t names) rows) same ∙ sym (all_fit_in t c.columns_of.result.now c.key_places-key.result.now names rows columns key) ∙ fit in
    let known : is_relation p name && (list_all (is_column_of (columns_named p name)) names && are_tags p c.args.new.tags) ≡ true = search rules in
    let table : is_view p name ≡ false = search rules in
    let number : table_number p name ≡ c.in-Table.table = search rules in
    let all : map (arranged (columns_named p name) names) rows ≡ c.in_ok-rows.rows = search rules in
    let given : label_named p c.args.new.tags ≡ c.in_ok-given.given = search rules in
    rw (known, table, fits, number, all, given) refl

pub returns-in_err-rows-clause-refused : goal.returns-in_err-rows-clause-refused
unfolding judged
returns-in_err-rows-clause-refused c =
    let p = c.args.catalog.now in
    let name = c.args.table.now in
    let t = schema_named p name in
    let names = c.args.new.columns in
    let rows = c.args.new.rows in
    let fault = c.in_err-rows.field-0.0 in
    let columns : c.columns_of.result.now ≡ t.columns = search rules in
    let key : c.key_places-key.result.now ≡ t.key = search rules in
    let mismatched : (fault ≡ OutOfMemory) ⊎ ((fault ≡ TypeMismatch) × (all_fit c.columns_of.result.now c.key_places-key.result.now names rows ≡ false)) = search rules in
    let same : columns_named p name ≡ t.columns = search rules in
    let known : is_relation p name && (list_all (is_column_of (columns_named p name)) names && are_tags p c.args.new.tags) ≡ true = search rules in
    let table : is_view p name ≡ false = search rules in
    let exit = err_from_is_err_and c.from_residual-in_err-rows.result c.from_residual-in_err-rows.ensures.1 in
    rw (exit.1, exit.2) (elim mismatched [
      | inl lack ↦ inl lack
      | inr bad ↦
          let misfits : are_listed (columns_named p name) names && list_all (row_fits t names) rows ≡ false =
          ap (λ (l : List Column). are_listed l names && list_all (row_fits t names) rows) same ∙ sym (all_fit_in t c.columns_of.result.now c.key_places-key.result.now names rows columns key) ∙ bad.1 in
          inr (rw (known, table, misfits) (ap Err (sym bad.0)))
    ])
