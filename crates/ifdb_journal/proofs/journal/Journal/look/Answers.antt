use Rattle.std.proofs.Common.{◌≤◌, length, take, drop, ap, sym, subst, ◌∙◌}
use Rattle.ifdb_disk.specs.Clock.{Now}
use Rattle.ifdb_journal.specs.Reading.{Place, StandsAt}
use Rattle.ifdb_journal.specs.Found.{IsFound}
use Rattle.ifdb_journal.proofs.Take.{found_in, found_all}
use Rattle.ifdb_journal.proofs.Gather.{stands_of}
use Rattle.ifdb_journal.proofs.journal.Journal.look.Goals as goal

pub returns-then-not-is_broken-clause-found : goal.returns-then-not-is_broken-clause-found
returns-then-not-is_broken-clause-found g c =
    let ahead = c.bytes.ensures.bytes ∙ ap (λ (p : Place). p.ahead) c.self.view_is in
    subst (λ w. IsFound w c.look_at-found.result) ahead c.look_at-found.ensures

pub returns-then-not-is_broken-clause-all : goal.returns-then-not-is_broken-clause-all
returns-then-not-is_broken-clause-all g c = λ stood.
    let ahead = c.bytes.ensures.bytes ∙ ap (λ (p : Place). p.ahead) c.self.view_is in
    let most : length c.args.self.now.ahead ≤ 65550 = subst (λ (p : Place). length p.ahead ≤ 65550) c.self.view_is c.bytes.ensures.most in
    found_in (g.D.Disk.tells c.args.disk.now) c.args.self.now.at c.args.self.now.ahead c.look_at-found.result stood most (sym c.is_broken.ensures ∙ c.if-not-is_broken.true)
    (subst (λ w. IsFound w c.look_at-found.result) ahead c.look_at-found.ensures)

pub returns-clause-all : goal.returns-clause-all
returns-clause-all g c = λ stood.
    let t = g.D.Disk.tells c.args.disk.now in
    let here = subst (λ (p : Place). StandsAt t p.at p.ahead) (sym c.self.view_is) stood in
    let all = c.in_ok-fill.ensures.bytes here in
    let found : IsFound c.fill.new.self c.look_at.result = subst (λ w. IsFound w c.look_at.result) c.bytes-2.ensures.bytes c.look_at.ensures in
    subst (λ at. Now t (λ s. IsFound (take 65550 (drop at s.bytes)) c.look_at.result)) (ap (λ (p : Place). p.at) c.self.view_is) (found_all t c.self.inside.place c.fill.new.self c.look_at.result all found)

pub returns-clause-ahead : goal.returns-clause-ahead
returns-clause-ahead g c = λ stood.
    let t = g.D.Disk.tells c.args.disk.now in
    let here = subst (λ (p : Place). StandsAt t p.at p.ahead) (sym c.self.view_is) stood in
    subst (λ at. StandsAt t at c.fill.new.self) (ap (λ (p : Place). p.at) c.self.view_is) (stands_of t c.self.inside.place c.fill.new.self (c.in_ok-fill.ensures.bytes here))
