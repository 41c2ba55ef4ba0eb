use Rattle.std.proofs.Common.{sym, subst, List}
use Rattle.ifdb_label.specs.Ancestors.{TracedTag, AreTraced}
use Rattle.ifdb_label.proofs.AncestorLemmas.{traced-append}
use Rattle.ifdb_label.proofs.tag.Tags.append.Goals as goal

pub invariant_of-self-2 : goal.invariant_of-self-2
invariant_of-self-2 c =
    let P : List TracedTag → Type 0 = λ traced. AreTraced traced in
    let made = rw (← c.self.view_is) at c.requires.made in
    let above = rw (← c.self.view_is) at c.requires.above in
    subst P (sym c.in_ok-push.ensures.items) (traced-append c.self.inside.entries.items c.args.entry c.self.invariant made above)
