use Rattle.std.proofs.Common.{◌≡◌, ◌-◌, ◌++◌, ◌∷◌, [], ℕ, List, length, take, ap, sym, subst, ◌∙◌, arith}
use Rattle.ifdb_journal.specs.Records.{Gathered, Spells, body, scan}
use Rattle.ifdb_journal.specs.declared.record.Record.{Record}
use Rattle.ifdb_journal.proofs.Spell.{one_more, scan_spelled}
use Rattle.ifdb_journal.proofs.batch.Batch.push.Goals as goal

pub invariant_of-self : goal.invariant_of-self
invariant_of-self c =
    let old = c.self.inside.text.items in
    let new = c.spell.new.text.items in
    let one : Record = record { kind = c.args.kind; session = c.args.session; line = c.args.line.now } in
    let count : c.len.result - 1 ≡ length old - 1 = omega (arith, c.len.ensures) in
    let kept : c.truncate.new.self.items ≡ take (length old - 1) old = c.truncate.ensures.items ∙ ap (λ n. take n old) count in
    let is = c.spell.ensures.items ∙ ap (λ (l : List ℕ). l ++ (body one ++ 0 ∷ [])) (c.add.ensures.items ∙ ap (λ (l : List ℕ). l ++ 1 ∷ []) kept) in
    let spells = one_more old new (scan 0 old) one c.self.invariant.0 c.requires.lawful is in
    (subst (Spells new) (sym (scan_spelled new (scan 0 old ++ one ∷ []) spells)) spells, grind arith)

pub returns : goal.returns
returns c =
    let old = c.self.inside.text.items in
    let new = c.spell.new.text.items in
    let one : Record = record { kind = c.args.kind; session = c.args.session; line = c.args.line.now } in
    let count : c.len.result - 1 ≡ length old - 1 = omega (arith, c.len.ensures) in
    let kept : c.truncate.new.self.items ≡ take (length old - 1) old = c.truncate.ensures.items ∙ ap (λ n. take n old) count in
    let is = c.spell.ensures.items ∙ ap (λ (l : List ℕ). l ++ (body one ++ 0 ∷ [])) (c.add.ensures.items ∙ ap (λ (l : List ℕ). l ++ 1 ∷ []) kept) in
    let spells = one_more old new (scan 0 old) one c.self.invariant.0 c.requires.lawful is in
    ap (λ rs. record { records = rs; room = c.self.inside.room }) (scan_spelled new (scan 0 old ++ one ∷ []) spells)
    ∙ ap (λ (g : Gathered). record { records = g.records ++ one ∷ []; room = g.room }) c.self.view_is
