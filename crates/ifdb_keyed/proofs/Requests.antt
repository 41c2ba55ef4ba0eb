-- What is heard of a line, by what it is read as.
use Rattle.std.proofs.Common.{◌≡◌, ℕ, Bool, true, false, List, [], Option, Some, None, Ok, Err, refl, sym, ap, ◌∙◌}
use Rattle.std.specs.Prelude.{bytes_eq, if◌then◌else◌}
use Rattle.ifdb_syntax.specs.declared.request.Request.{Request}
use Rattle.ifdb_parse.specs.declared.fault.ParseFault.{ParseFault}
use Rattle.ifdb_parse.specs.Parsed.{parsed}
use Rattle.ifdb_keyed.specs.declared.heard.Heard.TheVariants as heard
use Rattle.ifdb_keyed.specs.Keyed.{admin, heard_as, hello_with, keyed_line, said_key}
use Rattle.ifdb_keyed.specs.Marks.{first_mark, heard_for, heard_request, is_h, line_for}
use Rattle.ifdb_keyed.proofs.Hello.{other_mark}

-- a line that is no HELLO by its first mark
pub heard_other : (key line : List ℕ) → is_h (first_mark line) ≡ false → line_for heard.AsSaid line ≡ keyed_line key line
heard_other key line h = rw (other_mark line h) refl

-- a line with a fault
pub heard_fault : (key line : List ℕ) (f : ParseFault) → parsed line ≡ Err f → line_for heard.AsSaid line ≡ keyed_line key line
heard_fault key line f e = rw e refl

same_for : (key line : List ℕ) (said : Option (List ℕ)) → line_for (heard_for key said) line ≡ heard_as key line said
same_for key line None = refl
same_for key line (Some said) = by (bytes_eq said key)
  where
    by : (test : Bool) → line_for (if test then heard.Admin else heard.Nobody) line ≡ hello_with (if test then admin else [])
    by true = refl
    by false = refl

-- a line with a request
pub heard_of_request : (key line : List ℕ) (r : Request) → parsed line ≡ Ok r → line_for (heard_request key r) line ≡ keyed_line key line
heard_of_request key line r e = same_for key line (said_key (Ok r)) ∙ ap (λ p. heard_as key line (said_key p)) (sym e)
