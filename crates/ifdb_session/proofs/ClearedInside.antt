-- A session of a principal with a clearance is inside the levels to which that flows.
use Rattle.std.proofs.Common.{ℕ, List, ◌++◌, ◌∙◌, subst}
use Rattle.ifdb_model.specs.Step.{Reader}
use Rattle.ifdb_model.specs.Run.{Step}
use Rattle.ifdb_history.specs.declared.entry.Entry.{Entry}
use Rattle.ifdb_history.specs.History.{flat}
use Rattle.ifdb_history.proofs.Flat.{flat-append}
use Rattle.ifdb_laws.specs.Ceilings.{HasCeilingBelow}
use Rattle.ifdb_laws.proofs.two_worlds.Ceilings.{are_clearances, keep_inside}
use Rattle.ifdb_session.specs.Cleared.{IsClearedBelow, ClearedStayInside}

has_ceiling : (read : Reader) (level : List ℕ) (h : List Entry) (n : ℕ) → IsClearedBelow read level h n → HasCeilingBelow read level (flat h) n
has_ceiling read level h n k = record { ceiling = k.clearance; had = are_clearances read (flat h) n k.principal k.greeted ∙ k.made_with; below = k.below }

pub stay_inside : ClearedStayInside
stay_inside read level h more n k =
    keep_inside read level (flat h) (flat more) n
    (subst (λ (steps : List Step). HasCeilingBelow read level steps n) (flat-append h more) (has_ceiling read level (h ++ more) n k))
