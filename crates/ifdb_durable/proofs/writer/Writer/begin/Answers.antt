use Rattle.std.proofs.Common.{rules, ◌≡◌, [], ◌∷◌, ◌++◌, false, refl, List, length, sym, ap, ◌∙◌, subst, append-nil}
use Rattle.ifdb_journal.specs.declared.record.Record.{Record}
use Rattle.ifdb_journal.specs.Reading.{Holds}
use Rattle.ifdb_durable.specs.declared.view.Told.{Told}
use Rattle.ifdb_durable.specs.Told.{kept_by, nothing}
use Rattle.ifdb_durable.proofs.Steps.{parts, advances}
use Rattle.ifdb_durable.proofs.writer.Writer.begin.Goals as goal

pub split_seat-lent-requires : goal.split_seat-lent-requires
split_seat-lent-requires g c = (search rules, search rules, parts _ _ c.named-mark.ensures.queue c.named-mark.ensures.writer)

pub compare_exchange_with-requires : goal.compare_exchange_with-requires
compare_exchange_with-requires g c =
    let me = c.split_seat-lent.new.seat.me in
    let none_ : me.0.told ≡ nothing = search rules in
    let bare : me.0.taken ≡ [] = search rules in
    let old : 0 ≡ length (kept_by me.0.told) = sym (ap (λ (t : Told g.row.D.Denot). length (kept_by t)) none_) in
    let new : 0 ≡ length me.0.taken = sym (ap (λ (l : List Record). length l) bare) in
    (search rules, search rules, advances _ _ 0 0 me record { disk = c.args.disk; batch = c.args.batch } (search rules) old new)

pub returns-clause-writes : goal.returns-clause-writes
returns-clause-writes g c =
    let me = c.first-receipt.new.seat.me in
    let one : me.0.told ≡ record { flushes = record { disk = c.args.disk; kept = [] } ∷ []; has_failed = false } = search rules in
    let kept : kept_by me.0.told ≡ [] = ap (λ (t : Told g.row.D.Denot). kept_by t) one in
    let taken : me.0.taken ≡ [] = search rules in
    let same : g.B.Naming.before ≡ g.B.Naming.before ++ kept_by me.0.told = sym (append-nil g.B.Naming.before) ∙ ap (λ (l : List Record). g.B.Naming.before ++ l) (sym kept) in
    record {
      seat = record {
        at = search rules;
        role = search rules;
        took = taken ∙ (λ i. sym kept i ++ sym c.requires.empty.1 i);
        count = sym (ap (λ (l : List Record). length l) taken);
        written = sym (ap (λ (l : List Record). length l) kept);
        failed = sym (ap (λ (t : Told g.row.D.Denot). t.has_failed) one);
      };
      works = refl;
      holds = subst (λ (l : List Record). Holds (g.D.Disk.tells c.args.disk) l c.args.journal.at) same c.requires.holds;
    }
