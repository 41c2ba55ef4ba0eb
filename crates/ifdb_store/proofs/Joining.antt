-- Pages joined with their neighbours.
use Rattle.std.proofs.Common.{◌≡◌, true, false, List, [], ◌∷◌, ◌++◌, refl, sym, ap, ◌∙◌, arith}
use Rattle.std.specs.List.{list_any}
use Rattle.std.proofs.lemmas.Bool.Decides.{nat_tests}
use Rattle.std.proofs.lemmas.List.{length-append, append_assoc, append-nil}
use Rattle.std.proofs.lemmas.Grind.{flat_map-append}
use Rattle.ifdb_row.specs.Content.{rising}
use Rattle.ifdb_row.proofs.Rising.{rising_back, rising_front}
use Rattle.ifdb_row.specs.declared.row.Row.{Row}
use Rattle.ifdb_store.specs.Pages.{are_joined, flat, is_small, may_join}

-- pages at the front of joined ones are joined
pub joined_front : (pages : List (List Row)) (q : List Row) → are_joined (pages ++ q ∷ []) ≡ true → are_joined pages ≡ true
joined_front [] q h = refl
joined_front (p ∷ []) q h = refl
joined_front (p ∷ x ∷ pages) q h = grind (arith, nat_tests, joined_front (x ∷ pages) q)

-- one page more, which may not be joined with the last
pub joined_more : (pages : List (List Row)) (p q : List Row) → are_joined (pages ++ p ∷ []) ≡ true → may_join p q ≡ false → are_joined (pages ++ p ∷ q ∷ []) ≡ true
joined_more [] p q h n = grind (arith, nat_tests)
joined_more (x ∷ []) p q h n = grind (arith, nat_tests)
joined_more (x ∷ y ∷ pages) p q h n = grind (arith, nat_tests, joined_more (y ∷ pages) p q)

-- pages of which none is small are joined
pub none_small : (pages : List (List Row)) → list_any is_small pages ≡ false → are_joined pages ≡ true
none_small [] h = refl
none_small (p ∷ []) h = refl
none_small (p ∷ q ∷ pages) h = grind (arith, nat_tests, none_small (q ∷ pages))

wider : (x p q : List Row) → may_join x p ≡ false → may_join x (p ++ q) ≡ false
wider x p q h = let all = length-append p q in grind (arith, nat_tests)

-- the last page with more rows
pub joined_wider : (pages : List (List Row)) (p q : List Row) → are_joined (pages ++ p ∷ []) ≡ true → are_joined (pages ++ (p ++ q) ∷ []) ≡ true
joined_wider [] p q h = refl
joined_wider (x ∷ []) p q h = let w = wider x p q in grind (arith, nat_tests)
joined_wider (x ∷ y ∷ pages) p q h = grind (arith, nat_tests, joined_wider (y ∷ pages) p q)

-- the last pages of rising ones rise
pub rising_pair : (all pages : List (List Row)) (p q : List Row) → all ≡ pages ++ p ∷ [] → rising (flat all ++ q) ≡ true → rising (p ++ q) ≡ true
rising_pair all pages p q e h =
    let parts : flat all ++ q ≡ flat pages ++ (p ++ q) =
    ap (λ ps. flat ps ++ q) e ∙ (ap (λ r. r ++ q) (flat_map-append (λ page. page) pages (p ∷ []) ∙ ap (λ r. flat pages ++ r) (append-nil p)) ∙ append_assoc (flat pages) p q) in
    rising_back (flat pages) (p ++ q) (ap rising (sym parts) ∙ h)

-- one page more of rising ones
pub rising_next : (all seen rest : List (List Row)) (p : List Row) → all ≡ seen ++ p ∷ rest → rising (flat all) ≡ true → rising (flat seen ++ p) ≡ true
rising_next all seen rest p e h =
    let parts : flat all ≡ (flat seen ++ p) ++ flat rest = ap flat e ∙ (flat_map-append (λ page. page) seen (p ∷ rest) ∙ sym (append_assoc (flat seen) p (flat rest))) in
    rising_front (flat seen ++ p) (flat rest) (ap rising (sym parts) ∙ h)
