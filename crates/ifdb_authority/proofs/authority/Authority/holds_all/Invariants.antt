use Rattle.std.proofs.Common.{◌≡◌, true, take}
use Rattle.ifdb_authority.specs.Authority.{holds_all}
use Rattle.ifdb_authority.proofs.authority.Authority.holds_all.Given as goal

-- each tag so far is held
abbrev pub invariant-loop-tag : goal.invariant-loop-tag
invariant-loop-tag l = holds_all l.tags l.self l.p (take l.tag-index l.list) ≡ true
