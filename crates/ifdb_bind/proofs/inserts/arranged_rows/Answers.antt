use Rattle.std.proofs.Common.{◌≡◌, ◌⊎◌, Bool, List, true, false, sym, subst, ◌∙◌, ◌&&◌, map, IfOk}
use Rattle.std.specs.List.{list_all}
use Rattle.std.specs.Prelude.{IfErr}
use Rattle.ifdb_value.specs.declared.value.Value.{Value}
use Rattle.ifdb_wire.specs.declared.fault.Fault.TheVariants.{OutOfMemory, TypeMismatch}
use Rattle.ifdb_catalog.specs.Statements.{values_at}
use Rattle.ifdb_bind.specs.Listed.{each_once, listed_fills, places_in}
use Rattle.ifdb_bind.proofs.Listed.{listed_rows, listed_rows_fit, whole_rows}
use Rattle.ifdb_bind.proofs.inserts.arranged_rows.Goals as goal

pub returns-then-is_empty-clause-rows : goal.returns-then-is_empty-clause-rows
returns-then-is_empty-clause-rows c =
    subst (λ (rows : List (List Value)). IfOk c.whole_rows.result (λ same. same ≡ rows))
    (whole_rows c.args.columns.now c.args.names.now c.args.rows (sym c.is_empty.ensures ∙ c.if-is_empty.true)) c.whole_rows.ensures.rows

pub returns-else-is_empty-clause-fit : goal.returns-else-is_empty-clause-fit
returns-else-is_empty-clause-fit c =
    let columns = c.args.columns.now in
    let names = c.args.names.now in
    let all = subst (λ (rows : List (List Value)). IfOk c.listed_rows.result (λ _. each_once columns names && list_all (listed_fills columns c.args.key.now names) rows ≡ true))
    c.items.ensures c.listed_rows.ensures.fit in
    subst (λ (b : Bool). IfOk c.listed_rows.result (λ _. b ≡ true))
    (listed_rows_fit columns c.args.key.now names c.args.rows (sym c.is_empty.ensures ∙ c.if-is_empty.false)) all

pub returns-else-is_empty-clause-rows : goal.returns-else-is_empty-clause-rows
returns-else-is_empty-clause-rows c =
    let columns = c.args.columns.now in
    let names = c.args.names.now in
    let all = subst (λ (rows : List (List Value)). IfOk c.listed_rows.result (λ arranged. arranged ≡ map (λ row. values_at row (places_in names columns)) rows))
    c.items.ensures c.listed_rows.ensures.rows in
    subst (λ (rows : List (List Value)). IfOk c.listed_rows.result (λ arranged. arranged ≡ rows))
    (listed_rows columns names c.args.rows (sym c.is_empty.ensures ∙ c.if-is_empty.false)) all

pub returns-else-is_empty-clause-refused : goal.returns-else-is_empty-clause-refused
returns-else-is_empty-clause-refused c =
    let columns = c.args.columns.now in
    let names = c.args.names.now in
    let all = subst
    (λ (rows : List (List Value)). IfErr c.listed_rows.result
    (λ fault. (fault ≡ OutOfMemory) ⊎ ((fault ≡ TypeMismatch) × (each_once columns names && list_all (listed_fills columns c.args.key.now names) rows ≡ false))))
    c.items.ensures c.listed_rows.ensures.refused in
    subst (λ (b : Bool). IfErr c.listed_rows.result (λ fault. (fault ≡ OutOfMemory) ⊎ ((fault ≡ TypeMismatch) × (b ≡ false))))
    (listed_rows_fit columns c.args.key.now names c.args.rows (sym c.is_empty.ensures ∙ c.if-is_empty.false)) all
