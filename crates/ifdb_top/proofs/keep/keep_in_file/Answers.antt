use Rattle.std.proofs.Common.{rules, ◌≡◌, ◌∙◌, sym, ap, subst, inr}
use Rattle.ifdb_keep.specs.declared.keep.KeepEnd.{KeepEnd}
use Rattle.ifdb_top.specs.declared.more.MoreStatus.{MoreStatus}
use Rattle.ifdb_top.specs.Keep.{IsKeepEnd, IsKeptOrLacking, status_of}
use Rattle.ifdb_top.specs.Lending.{Lends}
use Rattle.ifdb_top.proofs.Keeping.{end_for, end_for_its_status, is_keep_end, kept_or_lacking}
use Rattle.ifdb_top.proofs.keep.keep_in_file.Goals as goal

pub returns-clause-kept : goal.returns-clause-kept
returns-clause-kept g c =
    let end : KeepEnd = c.keep_script-end.result in
    let is : c.status_of.result ≡ status_of end = search rules in
    let ended : (m : MoreStatus) → c.status_of.result ≡ m → end ≡ end_for m = λ m h. sym (end_for_its_status end) ∙ ap end_for (sym is ∙ h) in
    let lent : (Became : g.row.H-Disk.Denot → g.row.H-Disk.Denot → Type 0) → Became c.in-Ok.disk c.keep_script-end.new.disk
    → Lends g.H.Shelf c.args.keep.now.file c.args.shelf.now c.close.new.self Became = λ Became became. record {
      given = c.in-Ok.disk;
      back = c.keep_script-end.new.disk;
      between = c.open.new.self;
      opened = search rules;
      closed = search rules;
      became = became;
    } in
    let script = c.keep_script-end.ensures in
    record {
      done = λ h. lent _ (script.done (ended _ h));
      read = λ h. script.read (ended _ h);
      read_front = λ h. lent _ (script.read_front (ended _ h));
      write = λ h. script.write (ended _ h);
      write_front = λ h. lent _ (script.write_front (ended _ h));
      too_large = λ h. lent _ (script.too_large (ended _ h));
      disk = λ h. inr (lent _ (script.disk (ended _ h), script.disk_front (ended _ h)));
      damaged = λ at h. let d = script.damaged at (ended _ h) in (d.1, d.2, lent _ (d.0, d.3));
      memory = λ h. let d = script.memory (ended _ h) in (d.0, d.1, inr (lent _ d.2));
      unfailed = λ n. script.unfailed (λ e. n (is ∙ ap status_of e));
      ends = subst IsKeepEnd (sym is) (is_keep_end end);
      complete = λ reads writes large disk. subst IsKeptOrLacking (sym is) (kept_or_lacking end (λ e. reads (script.read e)) (λ e. writes (script.write e))
          (λ e. large (is ∙ ap status_of e)) (λ e. disk (is ∙ ap status_of e)));
    }
