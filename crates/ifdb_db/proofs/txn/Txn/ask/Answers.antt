use Rattle.std.proofs.Common.{ap}
use Rattle.std.specs.Option.{option_copied}
use Rattle.ifdb_model.specs.Step.{form_of}
use Rattle.ifdb_db.specs.Client.{Standing, standing}
use Rattle.ifdb_db.proofs.Inside.{made_still}
use Rattle.ifdb_db.proofs.txn.Txn.ask.Goals as goal

pub returns-in-ShowLabel-clause-told : goal.returns-in-ShowLabel-clause-told
returns-in-ShowLabel-clause-told c = c.show_label.ensures c.args.asker (option_copied c.args.ceiling) c.args.request (ap form_of c.in-ShowLabel.is)

pub returns-in-Select-clause-told : goal.returns-in-Select-clause-told
returns-in-Select-clause-told c = c.select.ensures (option_copied c.args.ceiling)

pub returns-in-Insert-clause-told : goal.returns-in-Insert-clause-told
returns-in-Insert-clause-told c = c.change_rows.ensures (option_copied c.args.ceiling)

pub returns-in-Insert-clause-made : goal.returns-in-Insert-clause-made
returns-in-Insert-clause-made c =
    let who : Standing = standing c.args.asker (option_copied c.args.ceiling) c.args.label.now in
    made_still who c.args.label.now c.args.self.now c.change_rows.new.self c.args.request c.change_rows.result (c.change_rows.ensures (option_copied c.args.ceiling)) c.requires.made

pub returns-in-Update-clause-told : goal.returns-in-Update-clause-told
returns-in-Update-clause-told c = c.change_rows-in-Update.ensures (option_copied c.args.ceiling)

pub returns-in-Update-clause-made : goal.returns-in-Update-clause-made
returns-in-Update-clause-made c =
    let who : Standing = standing c.args.asker (option_copied c.args.ceiling) c.args.label.now in
    made_still who c.args.label.now c.args.self.now c.change_rows-in-Update.new.self c.args.request c.change_rows-in-Update.result (c.change_rows-in-Update.ensures (option_copied c.args.ceiling)) c.requires.made

pub returns-in-Delete-clause-told : goal.returns-in-Delete-clause-told
returns-in-Delete-clause-told c = c.change_rows-in-Delete.ensures (option_copied c.args.ceiling)

pub returns-in-Delete-clause-made : goal.returns-in-Delete-clause-made
returns-in-Delete-clause-made c =
    let who : Standing = standing c.args.asker (option_copied c.args.ceiling) c.args.label.now in
    made_still who c.args.label.now c.args.self.now c.change_rows-in-Delete.new.self c.args.request c.change_rows-in-Delete.result (c.change_rows-in-Delete.ensures (option_copied c.args.ceiling)) c.requires.made
