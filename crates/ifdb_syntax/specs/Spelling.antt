-- decides: the grammar
-- How each lexeme is written: reserved words in capitals, names as they are, numbers in decimal, texts in quotes.
use Rattle.std.specs.Prelude.{ℕ, List, [], ◌∷◌, ◌++◌, ◌==◌, if◌then◌else◌, codes, decimal, flat_map}
use Rattle.ifdb_syntax.specs.declared.lexeme.Lexeme.{Lexeme}
use Rattle.ifdb_syntax.specs.declared.lexeme.Lexeme.TheVariants as t

-- a quote, which is 39, is written twice within a text
abbrev pub doubled : ℕ → List ℕ
doubled b = if b == 39 then 39 ∷ 39 ∷ [] else b ∷ []

abbrev pub quoted : List ℕ → List ℕ
quoted text = 39 ∷ flat_map doubled text ++ 39 ∷ []

-- the words and symbols; a name, a number or a text is none of them
abbrev pub word_text : Lexeme → List ℕ
word_text t.And = codes "AND"
word_text t.As = codes "AS"
word_text t.Asc = codes "ASC"
word_text t.Begin = codes "BEGIN"
word_text t.By = codes "BY"
word_text t.Bye = codes "BYE"
word_text t.Call = codes "CALL"
word_text t.Clearance = codes "CLEARANCE"
word_text t.Closure = codes "CLOSURE"
word_text t.Commit = codes "COMMIT"
word_text t.Compound = codes "COMPOUND"
word_text t.Count = codes "COUNT"
word_text t.Create = codes "CREATE"
word_text t.Declassifying = codes "DECLASSIFYING"
word_text t.Delete = codes "DELETE"
word_text t.Desc = codes "DESC"
word_text t.Foreign = codes "FOREIGN"
word_text t.From = codes "FROM"
word_text t.Grant = codes "GRANT"
word_text t.Group = codes "GROUP"
word_text t.Hello = codes "HELLO"
word_text t.In = codes "IN"
word_text t.Insert = codes "INSERT"
word_text t.Int = codes "INT"
word_text t.Integer = codes "INTEGER"
word_text t.Into = codes "INTO"
word_text t.Is = codes "IS"
word_text t.Key = codes "KEY"
word_text t.Label = codes "LABEL"
word_text t.Max = codes "MAX"
word_text t.Min = codes "MIN"
word_text t.Not = codes "NOT"
word_text t.Null = codes "NULL"
word_text t.Of = codes "OF"
word_text t.Or = codes "OR"
word_text t.Order = codes "ORDER"
word_text t.Primary = codes "PRIMARY"
word_text t.Principal = codes "PRINCIPAL"
word_text t.References = codes "REFERENCES"
word_text t.Revoke = codes "REVOKE"
word_text t.Rollback = codes "ROLLBACK"
word_text t.Select = codes "SELECT"
word_text t.Set = codes "SET"
word_text t.Show = codes "SHOW"
word_text t.Sum = codes "SUM"
word_text t.Table = codes "TABLE"
word_text t.Tag = codes "TAG"
word_text t.Text = codes "TEXT"
word_text t.To = codes "TO"
word_text t.Update = codes "UPDATE"
word_text t.Values = codes "VALUES"
word_text t.View = codes "VIEW"
word_text t.Where = codes "WHERE"
word_text t.With = codes "WITH"
word_text t.Open = codes "("
word_text t.Close = codes ")"
word_text t.Comma = codes ","
word_text t.Dot = codes "."
word_text t.Equal = codes "="
word_text t.NotEqual = codes "<>"
word_text t.Less = codes "<"
word_text t.AtMost = codes "<="
word_text t.Greater = codes ">"
word_text t.AtLeast = codes ">="
word_text t.Plus = codes "+"
word_text t.Minus = codes "-"
word_text t.Star = codes "*"
word_text t.Semicolon = codes ";"
word_text (t.Name name) = []
word_text (t.Number number) = []
word_text (t.Quoted text) = []

abbrev pub spelling : Lexeme → List ℕ
spelling (t.Name name) = name
spelling (t.Number number) = decimal number
spelling (t.Quoted text) = quoted text
spelling word = word_text word
