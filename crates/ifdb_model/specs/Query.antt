-- decides: the machine
-- The reply to a SELECT.
use Rattle.std.specs.Prelude.{ℕ, List, length, Result, Ok, Err}
use Rattle.ifdb_value.specs.declared.value.Value.{Value}
use Rattle.ifdb_row.specs.declared.row.Row.{Row}
use Rattle.ifdb_bound.specs.declared.select.BoundSelect.{BoundSelect}
use Rattle.ifdb_expr.specs.View.{Setting}
use Rattle.ifdb_expr.specs.Query.{QueryFault, view_authority, out_of_range, query}
use Rattle.ifdb_wire.specs.declared.fault.Fault.{Fault}
use Rattle.ifdb_wire.specs.declared.fault.Fault.TheVariants as fault
use Rattle.ifdb_wire.specs.declared.reply.Reply.{Reply}
use Rattle.ifdb_wire.specs.declared.reply.Reply.TheVariants as reply
use Rattle.ifdb_catalog.specs.Public.{Public, tags_of, tag_names, has_tags}

-- what a SELECT reads of the public state
abbrev pub setting_of : Public → Setting
setting_of p = record {
  tags = tags_of p;
  names = tag_names p;
  views = p.views;
  allows = λ v. has_tags p v.owner v.declassifying;
}

-- the refusal of a SELECT
abbrev pub fault_of : QueryFault → Fault
fault_of view_authority = fault.ViewAuthority
fault_of out_of_range = fault.OutOfRange

-- the reply to a SELECT with so many items
abbrev pub table_reply : ℕ → Result (List (List Value)) QueryFault → Reply
table_reply columns (Err f) = reply.Refused (fault_of f)
table_reply columns (Ok rows) = reply.Rows (record { columns = columns; rows = rows })

-- the reply to a SELECT at a label, over the public state and the rows that it sees
abbrev pub select_reply : Public → List Row → List ℕ → BoundSelect → Reply
select_reply p rows label s = table_reply (length s.items) (query (setting_of p) rows label s)
