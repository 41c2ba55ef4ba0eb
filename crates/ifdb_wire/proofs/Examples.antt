-- Worked examples, by computation.
use Rattle.std.proofs.Common.{◌≡◌, refl, ap, List, ℕ, zero, suc, Bool, true, false, cond, [], ◌∷◌, ◌++◌, pos, negsuc, take, length, Some, None, arith}
use Rattle.std.proofs.lemmas.Bool.Decides.{nat_tests}
use Rattle.std.specs.Prelude.{codes, decimal, nat_lt}
use Rattle.std.specs.Fmt.{digits}
use Rattle.ifdb_value.specs.declared.value.Value.{Value}
use Rattle.ifdb_value.specs.declared.value.Value.TheVariants as value
use Rattle.ifdb_io.specs.declared.lines.TheConstants.{LONGEST_LINE}
use Rattle.ifdb_wire.specs.declared.fault.Fault.{Fault}
use Rattle.ifdb_wire.specs.declared.fault.Fault.TheVariants as fault
use Rattle.ifdb_wire.specs.declared.reply.Reply.TheVariants as reply
use Rattle.ifdb_wire.specs.Fault.{number_of, fault_text}
use Rattle.ifdb_wire.specs.Text.{row_text, reply_text}
use Rattle.ifdb_wire.specs.Script.{script_line, short_line, without_return, skips, opens, asks, strays, overlong}

-- ---- refusals

-- `ERR`, the number, and a space
abbrev numbered : Fault → List ℕ
numbered f = codes "ERR " ++ (decimal (number_of f) ++ 32 ∷ [])

-- the text of each fault begins with its number
begins_with_number : (f : Fault) → take (length (numbered f)) (fault_text f) ≡ numbered f
unfolding digits
begins_with_number (fault.Syntax at) = refl
begins_with_number fault.NotHello = refl
begins_with_number fault.HelloTwice = refl
begins_with_number fault.BadKey = refl
begins_with_number fault.Taken = refl
begins_with_number fault.UnknownName = refl
begins_with_number fault.LabelNotEmpty = refl
begins_with_number fault.NoAuthority = refl
begins_with_number fault.InTransaction = refl
begins_with_number fault.NoTransaction = refl
begins_with_number fault.TypeMismatch = refl
begins_with_number fault.WriteLabel = refl
begins_with_number fault.DuplicateKey = refl
begins_with_number fault.NoReference = refl
begins_with_number fault.OutOfRange = refl
begins_with_number fault.CommitLabel = refl
begins_with_number fault.Conflict = refl
begins_with_number fault.BrokenReference = refl
begins_with_number fault.StillReferenced = refl
begins_with_number fault.OutOfMemory = refl
begins_with_number fault.TooLong = refl
begins_with_number fault.Limit = refl
begins_with_number fault.NotGranted = refl
begins_with_number fault.KeyColumn = refl
begins_with_number fault.NotCompound = refl
begins_with_number fault.NotATable = refl
begins_with_number fault.ViewAuthority = refl
begins_with_number fault.NoSession = refl
begins_with_number fault.OverClearance = refl
begins_with_number fault.ClosureLabel = refl

-- ---- replies

refused : reply_text (Some 1) (reply.Refused fault.DuplicateKey) ≡ codes "1 ERR 13 DuplicateKey\n"
unfolding digits
refused = refl

misread : reply_text (Some 12) (reply.Refused (fault.Syntax 14)) ≡ codes "12 ERR 1 Syntax 14\n"
unfolding digits
misread = refl

counted : reply_text None (reply.Count 40) ≡ codes "OK 40\n"
unfolding digits
counted = refl

opened : reply_text (Some 3) reply.Opened ≡ codes "3 OPEN\n"
unfolding digits
opened = refl

no_tags : reply_text (Some 1) (reply.Label []) ≡ codes "1 LABEL ()\n"
unfolding digits
no_tags = refl

two_tags : reply_text (Some 1) (reply.Label (codes "a,every")) ≡ codes "1 LABEL (a,every)\n"
unfolding digits
two_tags = refl

no_rows : reply_text (Some 2) (reply.Rows (record { columns = 2; rows = [] })) ≡ codes "2 ROWS 0 2\n"
unfolding digits
no_rows = refl

-- 39 and -3900, and two texts
abbrev two_by_two : List (List Value)
two_by_two = (value.Int (pos 39) ∷ value.Int (negsuc 3899) ∷ []) ∷ (value.Text (codes "x") ∷ value.Text (codes "it's a\\b") ∷ []) ∷ []

two_rows : reply_text (Some 2) (reply.Rows (record { columns = 2; rows = two_by_two })) ≡ codes "2 ROWS 2 2\n2 39\t-3900\n2 x\tit's a\\\\b\n"
unfolding digits
two_rows = refl

tab : row_text (value.Text (codes "a\tb\r") ∷ value.Text [] ∷ []) ≡ codes "a\\tb\\r\t"
tab = refl

-- ---- lines of a script

comment : script_line (codes "# one") ≡ skips
comment = refl

empty : script_line [] ≡ skips
empty = refl

empty_but_return : script_line (codes "\r") ≡ skips
empty_but_return = refl

open_line : script_line (codes "OPEN\r") ≡ opens
open_line = refl

two_returns : script_line (codes "OPEN\r\r") ≡ strays
two_returns = refl

request : script_line (codes "7 BEGIN") ≡ asks 7 (codes "BEGIN")
request = refl

-- part of the request, as are its blanks
return_left : script_line (codes "1  SHOW LABEL\r\r") ≡ asks 1 (codes " SHOW LABEL\r")
return_left = refl

no_request : script_line (codes "12") ≡ asks 12 []
no_request = refl

no_number : script_line (codes "foo") ≡ strays
no_number = refl

zero_first : script_line (codes "01 BEGIN") ≡ strays
zero_first = refl

number_and_returns : script_line (codes "1\r\r") ≡ strays
number_and_returns = refl

-- ---- the longest line

-- so many spaces
spaces : ℕ → List ℕ
spaces zero = []
spaces (suc n) = 32 ∷ spaces n

length-spaces : (n : ℕ) → length (spaces n) ≡ n
unfolding spaces
length-spaces zero = refl
length-spaces (suc n) = grind (arith, length-spaces n)

-- of 12 bytes and these spaces
abbrev shown : ℕ → List ℕ
shown n = codes "1 SHOW LABEL" ++ spaces n

-- of 65,535 bytes
longest : script_line (shown 65523) ≡ short_line (without_return (shown 65523))
longest =
    let fits : nat_lt LONGEST_LINE (length (shown 65523)) ≡ false = grind (arith, nat_tests, length-spaces 65523) in
    ap (λ (b : Bool). cond b overlong (short_line (without_return (shown 65523)))) fits

-- one byte more
too_long : script_line (shown 65524) ≡ overlong
too_long =
    let passes : nat_lt LONGEST_LINE (length (shown 65524)) ≡ true = grind (arith, nat_tests, length-spaces 65524) in
    ap (λ (b : Bool). cond b overlong (short_line (without_return (shown 65524)))) passes
