-- Tags by their names.
use Rattle.std.proofs.Common.{◌≡◌, ℕ, List, length, sym, subst, true}
use Rattle.ifdb_label.specs.Tags.{MadeTag, AreMade}
use Rattle.ifdb_catalog.specs.Public.{Public, tags_of}
use Rattle.ifdb_catalog.specs.Statements.{are_tags, tags_named}
use Rattle.ifdb_catalog.proofs.Found.{tags_are_made}
use Rattle.ifdb_catalog.proofs.Growth.{tags_of-length}

-- the tags of names that are known are made
pub named_are_made : (p : Public) (names : List (List ℕ)) (tags : List MadeTag) (list : List ℕ)
    → are_tags p names ≡ true → tags ≡ tags_of p → list ≡ tags_named p names → AreMade (length tags) list
named_are_made p names tags list known e i =
    subst (λ (tags : List MadeTag). AreMade (length tags) list) (sym e)
    (subst (λ (list : List ℕ). AreMade (length (tags_of p)) list) (sym i)
    (subst (λ (n : ℕ). AreMade n (tags_named p names)) (sym (tags_of-length p)) (tags_are_made p names known)))
