use Rattle.std.proofs.Common.{rules, ◌≡◌, true, arith}
use Rattle.std.specs.Prelude.{codes, string_bytes}
use Rattle.std.specs.Str.{bytes_eq}
use Rattle.ifdb_top.proofs.First.{first_is, other_first}
use Rattle.ifdb_top.proofs.all.top_host.Goals as goal

-- the first word is another
pub returns-in-len1-up-2-clause-inspect : goal.returns-in-len1-up-2-clause-inspect
returns-in-len1-up-2-clause-inspect g c = λ other.
    let same : bytes_eq (string_bytes c.word-item-2.result) (codes "compact") ≡ true = search rules in
    let is = first_is (codes "compact") c.args.words.now c.word-item-2.result (omega (arith, c.in-len1-up.len_at_least)) c.word-item-2.is same in
    absurd (other_first c.args.words.now is other)
