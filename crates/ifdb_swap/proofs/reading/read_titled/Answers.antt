use Rattle.std.proofs.Common.{sym, subst}
use Rattle.ifdb_log.specs.Behind.{Fronted}
use Rattle.ifdb_restart.specs.Restarted.{log_in}
use Rattle.ifdb_swap.specs.Swapped.{IsKept}
use Rattle.ifdb_swap.proofs.Deciding.{if_both}
use Rattle.ifdb_swap.proofs.Files.{kept_bare, none_titled}
use Rattle.ifdb_swap.proofs.Twice.{IsMadeAgain, twice_extract, twice_kept, twice_whole}
use Rattle.ifdb_swap.proofs.reading.read_titled.Goals as goal

pub returns-in-Ok-clause-extract : goal.returns-in-Ok-clause-extract
returns-in-Ok-clause-extract g c =
    let tells = g.D.Disk.tells in
    let it = c.in-Ok.field-0.disk in
    let now = c.extract_log-extract.new.disk in
    let begun = tells c.args.disk in
    let made = log_in c.in-Ok.field-0.restarted.made.items in
    let k : IsMadeAgain it.size begun (tells it.disk) made = record {
      before = g.D.Disk.present c.args.disk;
      present = g.D.Disk.present it.disk;
      titled = c.requires.titled;
      fronted = subst (λ t. Fronted it.size t (tells it.disk)) c.requires.begun it.fronted;
      shows = c.in-Ok.ensures.shows;
      moments = c.in-Ok.ensures.moments;
    } in
    let last : Fronted now.size begun (tells now.disk) = subst (λ t. Fronted now.size t (tells now.disk)) c.requires.begun now.fronted in
    if_both c.extract_log-extract.result c.extract_log-extract.ensures.extract c.extract_log-extract.ensures.same
    (λ x is spells. twice_extract it.size now.size begun (tells it.disk) (tells now.disk) made k last c.extract_log-extract.ensures.moments x spells is)

pub returns-in-Ok-clause-kept : goal.returns-in-Ok-clause-kept
returns-in-Ok-clause-kept g c =
    let tells = g.D.Disk.tells in
    let it = c.in-Ok.field-0.disk in
    let now = c.extract_log-extract.new.disk in
    let begun = tells c.args.disk in
    let made = log_in c.in-Ok.field-0.restarted.made.items in
    let k : IsMadeAgain it.size begun (tells it.disk) made = record {
      before = g.D.Disk.present c.args.disk;
      present = g.D.Disk.present it.disk;
      titled = c.requires.titled;
      fronted = subst (λ t. Fronted it.size t (tells it.disk)) c.requires.begun it.fronted;
      shows = c.in-Ok.ensures.shows;
      moments = c.in-Ok.ensures.moments;
    } in
    let last : Fronted now.size begun (tells now.disk) = subst (λ t. Fronted now.size t (tells now.disk)) c.requires.begun now.fronted in
    subst (λ d. IsKept begun (tells d)) (sym c.into_disk.ensures.disk) (twice_kept it.size now.size begun (tells it.disk) (tells now.disk) made k last c.extract_log-extract.ensures.moments)

pub returns-in-Ok-clause-damaged : goal.returns-in-Ok-clause-damaged
returns-in-Ok-clause-damaged g c = λ at is.
    let tells = g.D.Disk.tells in
    let it = c.in-Ok.field-0.disk in
    let now = c.extract_log-extract.new.disk in
    let begun = tells c.args.disk in
    let made = log_in c.in-Ok.field-0.restarted.made.items in
    let k : IsMadeAgain it.size begun (tells it.disk) made = record {
      before = g.D.Disk.present c.args.disk;
      present = g.D.Disk.present it.disk;
      titled = c.requires.titled;
      fronted = subst (λ t. Fronted it.size t (tells it.disk)) c.requires.begun it.fronted;
      shows = c.in-Ok.ensures.shows;
      moments = c.in-Ok.ensures.moments;
    } in
    let last : Fronted now.size begun (tells now.disk) = subst (λ t. Fronted now.size t (tells now.disk)) c.requires.begun now.fronted in
    twice_whole it.size now.size begun (tells it.disk) (tells now.disk) made k last c.extract_log-extract.ensures.moments c.damaged_has_no_texts.ensures at (c.extract_log-extract.ensures.still at is) (c.extract_log-extract.ensures.damaged at is)

pub returns-in-Err-clause-kept : goal.returns-in-Err-clause-kept
returns-in-Err-clause-kept g c = kept_bare (g.D.Disk.tells c.args.disk) (g.D.Disk.tells c.in-Err.field-0.disk) (g.D.Disk.present c.args.disk) c.requires.titled c.in-Err.ensures.left

pub returns-in-Err-clause-damaged : goal.returns-in-Err-clause-damaged
returns-in-Err-clause-damaged g c = λ at is. none_titled (g.D.Disk.tells c.args.disk) c.requires.titled (c.in-Err.ensures.damaged at (cc is))
