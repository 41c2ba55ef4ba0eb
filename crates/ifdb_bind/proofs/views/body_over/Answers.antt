use Rattle.std.proofs.Common.{◌≡◌, ℕ, true, false, List, inr, Ok, ap, sym, subst, ◌∙◌, ◌&&◌}
use Rattle.std.specs.Prelude.{Option}
use Rattle.std.specs.Option.{IfSome, is_some}
use Rattle.std.specs.List.{list_any}
use Rattle.std.proofs.lemmas.Result.{err_from_is_err_and}
use Rattle.ifdb_syntax.specs.declared.select.Source.{Source}
use Rattle.ifdb_catalog.specs.Queries.{is_view, output, select_fits, select_is_known}
use Rattle.ifdb_catalog.specs.Statements.{are_tags, label_named}
use Rattle.ifdb_catalog.specs.Definitions.{given, have_kinds, is_from_view, names_fit}
use Rattle.ifdb_catalog.specs.Binding.{create_view}
use Rattle.ifdb_catalog.proofs.Tests.{both_of}
use Rattle.ifdb_select.specs.Lacks.{Lacks}
use Rattle.ifdb_bind.specs.ViewBody.{view_of}
use Rattle.ifdb_select.proofs.Lacking.{lacks_first, lacks_second, refused}
use Rattle.ifdb_bind.proofs.ViewChecks.{unknown, viewed, mismatched, accepted, without_names, without_kinds, with_all}
use Rattle.ifdb_bind.proofs.views.body_over.Goals as goal

pub returns-in_err-declassifying-clause-refused : goal.returns-in_err-declassifying-clause-refused
returns-in_err-declassifying-clause-refused c =
    let p = c.args.catalog.now in
    let scope = c.args.scope.now in
    let view = c.args.view.now in
    let exit = err_from_is_err_and c.from_residual.result c.from_residual.ensures.1 in
    let fault = c.in_err-declassifying.field-0.0 in
    rw (exit.1, exit.2)
    (refused fault (select_is_known p scope view.select && are_tags p view.tags) (create_view p c.args._asker view.name view.select view.tags)
    (lacks_second fault (select_is_known p scope view.select) (are_tags p view.tags)
    (subst (λ (tags : List (List ℕ)). Lacks fault (are_tags p tags)) c.items.ensures c.in_err-declassifying.ensures.lacks))
    (unknown p c.args._asker view.name view.select view.tags scope c.requires.new c.requires.scope))

pub returns-in_err-select-clause-refused : goal.returns-in_err-select-clause-refused
returns-in_err-select-clause-refused c =
    let p = c.args.catalog.now in
    let scope = c.args.scope.now in
    let view = c.args.view.now in
    let exit = err_from_is_err_and c.from_residual-in_err-select.result c.from_residual-in_err-select.ensures.1 in
    let fault = c.in_err-select.field-0.0 in
    rw (exit.1, exit.2)
    (refused fault (select_is_known p scope view.select && are_tags p view.tags) (create_view p c.args._asker view.name view.select view.tags)
    (lacks_first fault (select_is_known p scope view.select) (are_tags p view.tags) c.in_err-select.ensures.lacks)
    (unknown p c.args._asker view.name view.select view.tags scope c.requires.new c.requires.scope))

pub returns-then-is_from_view-clause-refused : goal.returns-then-is_from_view-clause-refused
returns-then-is_from_view-clause-refused c =
    let p = c.args.catalog.now in
    let scope = c.args.scope.now in
    let view = c.args.view.now in
    let tags : are_tags p view.tags ≡ true = ap (λ (tags : List (List ℕ)). are_tags p tags) (sym c.items.ensures) ∙ c.in_ok-declassifying.ensures.known in
    let from : is_from_view p view.select ≡ true =
    ap (λ (sources : List Source). list_any (λ (x : Source). is_view p x.name) sources) (sym c.items-2.ensures) ∙ (sym c.is_from_view.ensures ∙ c.if-is_from_view.true) in
    inr (viewed p c.args._asker view.name view.select view.tags scope c.requires.new c.requires.scope
    (both_of (select_is_known p scope view.select) (are_tags p view.tags) c.in_ok-select.ensures.known tags) from)

pub returns-in_default-clause-refused : goal.returns-in_default-clause-refused
returns-in_default-clause-refused c =
    let p = c.args.catalog.now in
    let scope = c.args.scope.now in
    let view = c.args.view.now in
    let tags : are_tags p view.tags ≡ true = ap (λ (tags : List (List ℕ)). are_tags p tags) (sym c.items.ensures) ∙ c.in_ok-declassifying.ensures.known in
    let from : is_from_view p view.select ≡ false =
    ap (λ (sources : List Source). list_any (λ (x : Source). is_view p x.name) sources) (sym c.items-2.ensures) ∙ (sym c.is_from_view.ensures ∙ c.if-is_from_view.false) in
    let names : names_fit (output scope view.select) ≡ false = sym c.in_ok-names.ensures.fit ∙ ap is_some c.in_default.is in
    inr (mismatched p c.args._asker view.name view.select view.tags scope c.requires.new c.requires.scope
    (both_of (select_is_known p scope view.select) (are_tags p view.tags) c.in_ok-select.ensures.known tags) from
    (without_names (select_fits p scope view.select) (names_fit (output scope view.select)) (have_kinds scope view.select) names))

pub returns-then-not-shows_columns-clause-refused : goal.returns-then-not-shows_columns-clause-refused
returns-then-not-shows_columns-clause-refused c =
    let p = c.args.catalog.now in
    let scope = c.args.scope.now in
    let view = c.args.view.now in
    let tags : are_tags p view.tags ≡ true = ap (λ (tags : List (List ℕ)). are_tags p tags) (sym c.items.ensures) ∙ c.in_ok-declassifying.ensures.known in
    let from : is_from_view p view.select ≡ false =
    ap (λ (sources : List Source). list_any (λ (x : Source). is_view p x.name) sources) (sym c.items-2.ensures) ∙ (sym c.is_from_view.ensures ∙ c.if-is_from_view.false) in
    let fits : select_fits p scope view.select && have_kinds scope view.select ≡ false = sym c.shows_columns.ensures ∙ c.if-not-shows_columns.true in
    inr (mismatched p c.args._asker view.name view.select view.tags scope c.requires.new c.requires.scope
    (both_of (select_is_known p scope view.select) (are_tags p view.tags) c.in_ok-select.ensures.known tags) from
    (without_kinds (select_fits p scope view.select) (names_fit (output scope view.select)) (have_kinds scope view.select) fits))

pub returns-clause-bound : goal.returns-clause-bound
returns-clause-bound c =
    let p = c.args.catalog.now in
    let scope = c.args.scope.now in
    let view = c.args.view.now in
    let tags : are_tags p view.tags ≡ true = ap (λ (tags : List (List ℕ)). are_tags p tags) (sym c.items.ensures) ∙ c.in_ok-declassifying.ensures.known in
    let from : is_from_view p view.select ≡ false =
    ap (λ (sources : List Source). list_any (λ (x : Source). is_view p x.name) sources) (sym c.items-2.ensures) ∙ (sym c.is_from_view.ensures ∙ c.if-is_from_view.false) in
    let fits : select_fits p scope view.select && have_kinds scope view.select ≡ true = sym c.shows_columns.ensures ∙ c.if-not-shows_columns.false in
    let names_are_fit : names_fit (output scope view.select) ≡ true = sym c.in_ok-names.ensures.fit ∙ ap is_some c.in-Some.is in
    let names : c.in-Some.names ≡ given (output scope view.select) =
    subst (λ (o : Option (List (List ℕ))). IfSome o (λ names. names ≡ given (output scope view.select))) c.in-Some.is c.in_ok-names.ensures.names in
    let label : c.in_ok-declassifying.declassifying ≡ label_named p view.tags =
    c.in_ok-declassifying.ensures.label ∙ ap (λ (tags : List (List ℕ)). label_named p tags) c.items.ensures in
    accepted p c.args._asker view.name view.select view.tags scope c.requires.new c.requires.scope
    (both_of (select_is_known p scope view.select) (are_tags p view.tags) c.in_ok-select.ensures.known tags) from
    (with_all (select_fits p scope view.select) (names_fit (output scope view.select)) (have_kinds scope view.select) fits names_are_fit)
    ∙ (λ j. Ok (view_of c.args._asker view.name (record {
      select = sym c.in_ok-select.ensures.tree j;
      names = sym names j;
      declassifying = sym label j;
    })))
