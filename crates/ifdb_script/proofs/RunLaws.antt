-- What is so of every run that came to its end.
use Rattle.std.proofs.Common.{ℕ, List, sym, ap, ◌∙◌}
use Rattle.std.specs.Prelude.{Option}
use Rattle.ifdb_model.specs.Output.{texts, told_of, refusals}
use Rattle.ifdb_laws.proofs.Bridge.{heard_alike_scripts}
use Rattle.ifdb_laws.proofs.ToldBack.{bytes_tell}
use Rattle.ifdb_db.specs.Reading.{read_line}
use Rattle.ifdb_framing.proofs.Outputs.{told_framed}
use Rattle.ifdb_script.specs.Run.{RanWhole, CutsDontMatter, IsToldByBytes, IsFramedRun, KeepsLevels}

pub cuts_dont_matter : CutsDontMatter
cuts_dont_matter limit limit' l0 l1 w0 w1 l0' l1' w0' w1' first second bytes flags =
    ap texts (first.played ∙ ap (λ input. told_of read_line input (refusals first.told)) bytes ∙ ap (told_of read_line second.input) flags ∙ sym second.played)

pub told_by_bytes : (limit : ℕ) (l0 l1 w0 w1 : Option (List ℕ)) → RanWhole limit l0 l1 w0 w1 → IsToldByBytes limit l0 l1 w0 w1
told_by_bytes limit l0 l1 w0 w1 ran =
    (ran, λ flags e. bytes_tell read_line ran.input flags (refusals ran.told) (e ∙ ap texts ran.played) ∙ sym ran.played)

pub is_framed_run : (limit : ℕ) (l0 l1 w0 w1 : Option (List ℕ)) → RanWhole limit l0 l1 w0 w1 → IsFramedRun limit l0 l1 w0 w1
is_framed_run limit l0 l1 w0 w1 ran = (ran, told_framed ran.input (refusals ran.told) ran.told ran.played)

pub keeps_levels : (limit : ℕ) (l0 l1 w0 w1 : Option (List ℕ)) → RanWhole limit l0 l1 w0 w1 → KeepsLevels limit l0 l1 w0 w1
keeps_levels limit l0 l1 w0 w1 ran = (ran, λ none. heard_alike_scripts read_line ran.input ran.told ran.played none)
