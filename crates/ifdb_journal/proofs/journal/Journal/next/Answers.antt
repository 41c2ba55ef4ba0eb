use Rattle.std.proofs.Common.{◌≡◌, ◌≤◌, ◌+◌, ◌-◌, ◌++◌, ◌∷◌, [], length, take, drop, ap, sym, subst, ◌∙◌, arith}
use Rattle.ifdb_disk.specs.Clock.{Now}
use Rattle.ifdb_journal.specs.declared.record.Record.{Record}
use Rattle.ifdb_journal.specs.Reading.{Place, ReadTo, StandsAt, Holds, SpellsWhole, BreaksAt}
use Rattle.ifdb_journal.specs.Found.{IsFound}
use Rattle.ifdb_journal.proofs.Take.{whole_within, next_end, next_damaged, next_some, stands_read}
use Rattle.ifdb_journal.proofs.journal.Journal.next.Goals as goal

pub returns-in-Shut-clause-end : goal.returns-in-Shut-clause-end
returns-in-Shut-clause-end g c = λ is rs read.
    let t = g.D.Disk.tells c.args.disk.now in
    let old = c.args.self.now in
    let all = subst (λ f. Now t (λ s. IsFound (take 65550 (drop old.at s.bytes)) f)) c.in-Shut.is (c.in-Ok.ensures.all (stands_read t rs old read)) in
    subst (λ at. Holds (g.D.Disk.tells c.look.new.disk) rs at × SpellsWhole (g.D.Disk.tells c.look.new.disk) rs) (sym c.in-Ok.ensures.place)
    (subst (λ u. Holds u rs old.at × SpellsWhole u rs) (sym c.in-Ok.ensures.still) (next_end t rs old read all))

pub returns-in-Broken-clause-damaged : goal.returns-in-Broken-clause-damaged
returns-in-Broken-clause-damaged g c = λ at is rs read.
    let t = g.D.Disk.tells c.args.disk.now in
    let old = c.args.self.now in
    let all = subst (λ f. Now t (λ s. IsFound (take 65550 (drop old.at s.bytes)) f)) c.in-Broken.is (c.in-Ok.ensures.all (stands_read t rs old read)) in
    let place : c.self.inside.place ≡ at = cc is in
    let same : old.at ≡ at = sym c.in-Ok.ensures.place ∙ sym (ap (λ (p : Place). p.at) c.self.view_is) ∙ place in
    subst (λ u. BreaksAt u at) (sym c.in-Ok.ensures.still) (subst (BreaksAt t) same (next_damaged t rs old read all))

pub returns-in-Ok-copy-clause-some : goal.returns-in-Ok-copy-clause-some
returns-in-Ok-copy-clause-some g c = λ rs read.
    let t = g.D.Disk.tells c.args.disk.now in
    let old = c.args.self.now in
    let w = c.self.inside.window in
    let size = c.in-Whole.size in
    let ahead : c.look.new.self.ahead ≡ w = sym (ap (λ (p : Place). p.ahead) c.self.view_is) in
    let place : old.at ≡ c.self.inside.place = sym c.in-Ok.ensures.place ∙ sym (ap (λ (p : Place). p.at) c.self.view_is) in
    let stood = stands_read t rs old read in
    let all = subst (λ f. Now t (λ s. IsFound (take 65550 (drop old.at s.bytes)) f)) c.in-Whole.is (c.in-Ok.ensures.all stood) in
    let stands = subst (StandsAt t old.at) ahead (c.in-Ok.ensures.ahead stood) in
    let found = subst (λ f. IsFound c.look.new.self.ahead f) c.in-Whole.is c.in-Ok.ensures.found in
    let within : 14 + size ≤ length w = subst (λ x. 14 + size ≤ length x) ahead (whole_within c.look.new.self.ahead c.in-Whole.kind c.in-Whole.session size found) in
    let count : 14 + size - 14 ≡ size = omega arith in
    let line : c.in-Ok-copy.line ≡ take size (drop 14 w) = c.in-Ok-copy.ensures ∙ (λ i. take (count i) (drop 14 (c.bytes.ensures.bytes i))) in
    let next : Place = record { at = c.self.inside.place + (14 + size); ahead = c.skip.new.self } in
    let one : Record = record { kind = c.in-Whole.kind; session = c.in-Whole.session; line = c.in-Ok-copy.line } in
    let there : record { at = old.at + (14 + size); ahead = drop (14 + size) w } ≡ next = λ i. record { at = place i + (14 + size); ahead = sym c.skip.ensures i } in
    subst (λ u. ReadTo u (rs ++ one ∷ []) next) (sym c.in-Ok.ensures.still)
    (subst (ReadTo t (rs ++ one ∷ [])) there
    (next_some t rs old w c.in-Whole.kind c.in-Whole.session size c.in-Ok-copy.line read all stands c.bytes.ensures.most within line))
