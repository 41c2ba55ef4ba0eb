-- decides: the grammar
-- Whether each number of a tree, as it is written, is one that a value holds: from -2^63 to 2^63 - 1.
use Rattle.std.specs.Prelude.{◌^◌, Bool, true, ◌&&◌, nat_lt}
use Rattle.std.specs.List.{list_all}
use Rattle.ifdb_syntax.specs.declared.select.Select.{Select}
use Rattle.ifdb_syntax.specs.declared.select.Order.{Order}
use Rattle.ifdb_syntax.specs.declared.select.OrderBy.{OrderBy}
use Rattle.ifdb_syntax.specs.declared.select.OrderBy.TheVariants as by
use Rattle.ifdb_syntax.specs.declared.request.Request.{Request}
use Rattle.ifdb_syntax.specs.declared.request.Request.TheVariants as q
use Rattle.ifdb_syntax.specs.Within.{select_fits, request_fits}

-- a place of ORDER BY, which is no value, may not be 2^63 either
abbrev pub order_by_fits : OrderBy → Bool
order_by_fits (by.Name name) = true
order_by_fits (by.Place n) = nat_lt n (2 ^ 63)

abbrev pub order_fits : Order → Bool
order_fits x = order_by_fits x.target

abbrev pub select_numbers_fit : Select → Bool
select_numbers_fit s = select_fits s && list_all order_fits s.order

-- all numbers of a request
abbrev pub numbers_fit : Request → Bool
numbers_fit (q.Select select) = select_numbers_fit select
numbers_fit r = request_fits r
