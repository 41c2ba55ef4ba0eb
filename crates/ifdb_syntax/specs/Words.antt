-- decides: the grammar
-- Kinds of lexemes: reserved words, symbols, names, numbers and texts. A set of kinds is a list of numbers.
use Rattle.std.specs.Prelude.{ℕ, ◌==◌, List, Option, Some, None, if◌then◌else◌}
use Rattle.ifdb_syntax.specs.declared.lexeme.Lexeme.{Lexeme}
use Rattle.ifdb_syntax.specs.declared.lexeme.Lexeme.TheVariants as t

-- the tokens of a line, in order
abbrev pub Lexemes : Type 0
Lexemes = List Lexeme

abbrev pub kind : Lexeme → ℕ
kind t.And = 0
kind t.As = 1
kind t.Asc = 2
kind t.Begin = 3
kind t.By = 4
kind t.Bye = 5
kind t.Call = 6
kind t.Clearance = 7
kind t.Closure = 8
kind t.Commit = 9
kind t.Compound = 10
kind t.Count = 11
kind t.Create = 12
kind t.Declassifying = 13
kind t.Delete = 14
kind t.Desc = 15
kind t.Foreign = 16
kind t.From = 17
kind t.Grant = 18
kind t.Group = 19
kind t.Hello = 20
kind t.In = 21
kind t.Insert = 22
kind t.Int = 23
kind t.Integer = 24
kind t.Into = 25
kind t.Is = 26
kind t.Key = 27
kind t.Label = 28
kind t.Max = 29
kind t.Min = 30
kind t.Not = 31
kind t.Null = 32
kind t.Of = 33
kind t.Or = 34
kind t.Order = 35
kind t.Primary = 36
kind t.Principal = 37
kind t.References = 38
kind t.Revoke = 39
kind t.Rollback = 40
kind t.Select = 41
kind t.Set = 42
kind t.Show = 43
kind t.Sum = 44
kind t.Table = 45
kind t.Tag = 46
kind t.Text = 47
kind t.To = 48
kind t.Update = 49
kind t.Values = 50
kind t.View = 51
kind t.Where = 52
kind t.With = 53
kind t.Open = 54
kind t.Close = 55
kind t.Comma = 56
kind t.Dot = 57
kind t.Equal = 58
kind t.NotEqual = 59
kind t.Less = 60
kind t.AtMost = 61
kind t.Greater = 62
kind t.AtLeast = 63
kind t.Plus = 64
kind t.Minus = 65
kind t.Star = 66
kind t.Semicolon = 67
kind (t.Name name) = 68
kind (t.Number number) = 69
kind (t.Quoted text) = 70

-- ---- the kinds by name

abbrev pub AND : ℕ
AND = 0

abbrev pub AS : ℕ
AS = 1

abbrev pub ASC : ℕ
ASC = 2

abbrev pub BEGIN : ℕ
BEGIN = 3

abbrev pub BY : ℕ
BY = 4

abbrev pub BYE : ℕ
BYE = 5

abbrev pub CALL : ℕ
CALL = 6

abbrev pub CLEARANCE : ℕ
CLEARANCE = 7

abbrev pub CLOSURE : ℕ
CLOSURE = 8

abbrev pub COMMIT : ℕ
COMMIT = 9

abbrev pub COMPOUND : ℕ
COMPOUND = 10

abbrev pub COUNT : ℕ
COUNT = 11

abbrev pub CREATE : ℕ
CREATE = 12

abbrev pub DECLASSIFYING : ℕ
DECLASSIFYING = 13

abbrev pub DELETE : ℕ
DELETE = 14

abbrev pub DESC : ℕ
DESC = 15

abbrev pub FOREIGN : ℕ
FOREIGN = 16

abbrev pub FROM : ℕ
FROM = 17

abbrev pub GRANT : ℕ
GRANT = 18

abbrev pub GROUP : ℕ
GROUP = 19

abbrev pub HELLO : ℕ
HELLO = 20

abbrev pub IN : ℕ
IN = 21

abbrev pub INSERT : ℕ
INSERT = 22

abbrev pub INT : ℕ
INT = 23

abbrev pub INTEGER : ℕ
INTEGER = 24

abbrev pub INTO : ℕ
INTO = 25

abbrev pub IS : ℕ
IS = 26

abbrev pub KEY : ℕ
KEY = 27

abbrev pub LABEL : ℕ
LABEL = 28

abbrev pub MAX : ℕ
MAX = 29

abbrev pub MIN : ℕ
MIN = 30

abbrev pub NOT : ℕ
NOT = 31

abbrev pub NULL : ℕ
NULL = 32

abbrev pub OF : ℕ
OF = 33

abbrev pub OR : ℕ
OR = 34

abbrev pub ORDER : ℕ
ORDER = 35

abbrev pub PRIMARY : ℕ
PRIMARY = 36

abbrev pub PRINCIPAL : ℕ
PRINCIPAL = 37

abbrev pub REFERENCES : ℕ
REFERENCES = 38

abbrev pub REVOKE : ℕ
REVOKE = 39

abbrev pub ROLLBACK : ℕ
ROLLBACK = 40

abbrev pub SELECT : ℕ
SELECT = 41

abbrev pub SET : ℕ
SET = 42

abbrev pub SHOW : ℕ
SHOW = 43

abbrev pub SUM : ℕ
SUM = 44

abbrev pub TABLE : ℕ
TABLE = 45

abbrev pub TAG : ℕ
TAG = 46

abbrev pub TEXT : ℕ
TEXT = 47

abbrev pub TO : ℕ
TO = 48

abbrev pub UPDATE : ℕ
UPDATE = 49

abbrev pub VALUES : ℕ
VALUES = 50

abbrev pub VIEW : ℕ
VIEW = 51

abbrev pub WHERE : ℕ
WHERE = 52

abbrev pub WITH : ℕ
WITH = 53

abbrev pub OPEN : ℕ
OPEN = 54

abbrev pub CLOSE : ℕ
CLOSE = 55

abbrev pub COMMA : ℕ
COMMA = 56

abbrev pub DOT : ℕ
DOT = 57

abbrev pub EQUAL : ℕ
EQUAL = 58

abbrev pub NOT_EQUAL : ℕ
NOT_EQUAL = 59

abbrev pub LESS : ℕ
LESS = 60

abbrev pub AT_MOST : ℕ
AT_MOST = 61

abbrev pub GREATER : ℕ
GREATER = 62

abbrev pub AT_LEAST : ℕ
AT_LEAST = 63

abbrev pub PLUS : ℕ
PLUS = 64

abbrev pub MINUS : ℕ
MINUS = 65

abbrev pub STAR : ℕ
STAR = 66

abbrev pub SEMICOLON : ℕ
SEMICOLON = 67

abbrev pub NAME : ℕ
NAME = 68

abbrev pub NUMBER : ℕ
NUMBER = 69

abbrev pub QUOTED : ℕ
QUOTED = 70

-- ---- what a lexeme says

-- whether it is of this kind
abbrev pub is : ℕ → Lexeme → Option (Unit {0})
is k x = if kind x == k then Some tt else None

abbrev pub name_of : Lexeme → Option (List ℕ)
name_of (t.Name name) = Some name
name_of _ = None

abbrev pub number_of : Lexeme → Option ℕ
number_of (t.Number number) = Some number
number_of _ = None

abbrev pub text_of : Lexeme → Option (List ℕ)
text_of (t.Quoted text) = Some text
text_of _ = None
