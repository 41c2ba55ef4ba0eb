-- decides: closures
-- How the program reads the lines of a script with closures.
use Rattle.ifdb_db.specs.Reading.{read_line}
use Rattle.ifdb_closure.specs.Closures.{Speech}
use Rattle.ifdb_closure.specs.Forms.{closure_form}

abbrev pub speech : Speech
speech = record { read = read_line; form = closure_form }
