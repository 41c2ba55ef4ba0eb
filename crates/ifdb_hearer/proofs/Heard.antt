-- What is heard of a line, and of a dialogue.
use Rattle.std.proofs.Common.{◌≡◌, ℕ, Bool, List, [], ◌∷◌, ◌++◌, map, codes, refl, sym, ap, ◌∙◌}
use Rattle.std.specs.Fmt.{digits}
use Rattle.std.proofs.lemmas.List.{map-append}
use Rattle.ifdb_syntax.specs.canonical.Text.{canonical_text}
use Rattle.ifdb_keyed.specs.Keyed.{admin, hello_with, keyed_line}
use Rattle.ifdb_loop.specs.Dialogues.{Dialogue, with_answer}
use Rattle.ifdb_hearer.specs.Hearers.{heard_dialogue}

-- the lines that are heard in the place of a HELLO of admin
pub admin_line : codes "HELLO admin KEY 'admin'" ≡ hello_with admin
unfolding digits canonical_text
admin_line = refl

pub nobody_line : codes "HELLO admin KEY ''" ≡ hello_with []
unfolding digits canonical_text
nobody_line = refl

-- an answer to what was heard of a line is the answer to the line
pub heard_answer : (key : List ℕ) (d : Dialogue) (line heard reply : List ℕ) (is_open : Bool) → heard ≡ keyed_line key line
    → with_answer (heard_dialogue key d) heard reply is_open ≡ heard_dialogue key (with_answer d line reply is_open)
heard_answer key d line heard reply is_open is =
    let lines : map (keyed_line key) d.lines ++ heard ∷ [] ≡ map (keyed_line key) (d.lines ++ line ∷ []) =
    ap (λ h. map (keyed_line key) d.lines ++ h ∷ []) is ∙ sym (map-append (keyed_line key) d.lines (line ∷ [])) in
    ap (λ told. record { lines = told; texts = d.texts ++ reply; kept = d.kept; is_open = is_open }) lines
