-- Rows in pages, and pages in nodes.
use Rattle.std.specs.Prelude.{◌≡◌, ℕ, Bool, true, refl, List, [], ◌∷◌, ◌&&◌, ◌||◌, ◌+◌, ◌++◌, nat_lt, not, length, take, drop, get_or}
use Rattle.std.proofs.Common.{ap, arith}
use Rattle.std.proofs.lemmas.Bool.{false≢true}
use Rattle.std.proofs.lemmas.Bool.Decides.{nat_tests}
use Rattle.std.specs.List.{list_all, flat_map}
use Rattle.std.specs.declared.vec.Vec.{Vec}
use Rattle.std.specs.declared.alloc.Global.{Global}
use Rattle.ifdb_row.specs.declared.row.Row.{Row}
use Rattle.ifdb_row.specs.declared.slot.Slot.{Slot}
use Rattle.ifdb_row.specs.declared.write.Write.{Write}
use Rattle.ifdb_row.specs.Slots.{slot_lt}
use Rattle.ifdb_row.specs.Content.{after, rising}

-- from 1 to 64 rows, in the order of their slots
abbrev pub is_page : List Row → Bool
is_page rows = nat_lt 0 (length rows) && (nat_lt (length rows) 65 && rising rows)

-- fewer than 16 rows
abbrev pub is_small : List Row → Bool
is_small page = nat_lt (length page) 16

-- one of two pages is small, and both fit into one
abbrev pub may_join : List Row → List Row → Bool
may_join p q = (is_small p || is_small q) && nat_lt (length p + length q) 65

-- no two neighbours may be joined
abbrev pub are_joined : List (List Row) → Bool
are_joined [] = true
are_joined (p ∷ []) = true
are_joined (p ∷ q ∷ pages) = not (may_join p q) && are_joined (q ∷ pages)

-- the rows of pages
abbrev pub flat : List (List Row) → List Row
flat pages = flat_map (λ page. page) pages

-- where there are several parts each is full
abbrev pub are_full : {X : Type 0} → (X → Bool) → List X → Bool
are_full is_full parts = nat_lt (length parts) 2 || list_all is_full parts

-- full parts, and the rows of all in the order of their slots
abbrev pub are_parts : {X : Type 0} → (X → List Row) → (X → Bool) → (X → Bool) → List X → Bool
are_parts rows is_part is_full parts = are_full is_full parts && (list_all is_part parts && rising (flat_map rows parts))

-- from 1 to 32 of them
abbrev pub is_node : {X : Type 0} → (X → List Row) → (X → Bool) → (X → Bool) → List X → Bool
is_node rows is_part is_full parts = nat_lt 0 (length parts) && (nat_lt (length parts) 33 && are_parts rows is_part is_full parts)

-- a page is full, however few rows it has
abbrev pub is_full_page : List Row → Bool
is_full_page page = true

-- a node is full from 16 parts on
abbrev pub is_full_node : {X : Type 0} → List X → Bool
is_full_node parts = nat_lt 15 (length parts)

-- several nodes, and the rows in them
abbrev pub are_nodes : {X : Type 0} → (X → List Row) → (X → Bool) → (X → Bool) → List (List X) → Bool
are_nodes rows is_part is_full nodes = list_all (is_node rows is_part is_full) nodes

abbrev pub in_nodes : {X : Type 0} → (X → List Row) → List (List X) → List Row
in_nodes rows nodes = flat_map (flat_map rows) nodes

-- pages stand in twigs
abbrev pub is_twig : List (List Row) → Bool
is_twig pages = is_node (λ page. page) is_page is_full_page pages

-- twigs in branches
abbrev pub branch_rows : List (List (List Row)) → List Row
branch_rows twigs = flat_map flat twigs

abbrev pub is_branch : List (List (List Row)) → Bool
is_branch twigs = is_node flat is_twig is_full_node twigs

-- branches in limbs
abbrev pub limb_rows : List (List (List (List Row))) → List Row
limb_rows branches = flat_map branch_rows branches

abbrev pub is_limb : List (List (List (List Row))) → Bool
is_limb branches = is_node branch_rows is_branch is_full_node branches

-- and limbs in a tree
abbrev pub rows_of : List (List (List (List (List Row)))) → List Row
rows_of limbs = flat_map limb_rows limbs

abbrev pub is_tree : List (List (List (List (List Row)))) → Bool
is_tree limbs = are_parts limb_rows is_limb is_full_node limbs

-- the slot of the first row
abbrev pub front : List Row → Slot
front [] = record { table = 0; key = []; label = [] }
front (r ∷ rows) = r.slot

-- there is a first row, and it stands in the slot
abbrev pub Begins : List Row → Slot → Type 0
Begins rows s = (r : Row) × (rest : List Row) × (rows ≡ r ∷ rest) × (s ≡ r.slot)

pub page_begins : (rows : List Row) → is_page rows ≡ true → Begins rows (front rows)
page_begins [] h = absurd (false≢true h)
page_begins (r ∷ rows) h = (r, rows, refl, refl)

pub node_begins : {X : Type 0} → (rows : X → List Row) → (place : X → Slot) → (is_part is_full : X → Bool) → ((x : X) → is_part x ≡ true → Begins (rows x) (place x))
    → (parts : List X) → is_node rows is_part is_full parts ≡ true → Begins (flat_map rows parts) (front (flat_map rows parts))
node_begins rows place is_part is_full begins [] h = absurd (false≢true h)
node_begins rows place is_part is_full begins (x ∷ parts) h =
    let b = begins x (grind (arith, nat_tests)) in
    let all : flat_map rows (x ∷ parts) ≡ b.0 ∷ (b.1 ++ flat_map rows parts) = ap (λ r. r ++ flat_map rows parts) b.2 in
    (b.0, b.1 ++ flat_map rows parts, all, ap front all)

pub twig_begins : (pages : List (List Row)) → is_twig pages ≡ true → Begins (flat pages) (front (flat pages))
twig_begins pages h = node_begins (λ page. page) front is_page is_full_page page_begins pages h

pub branch_begins : (twigs : List (List (List Row))) → is_branch twigs ≡ true → Begins (branch_rows twigs) (front (branch_rows twigs))
branch_begins twigs h = node_begins flat (λ pages. front (flat pages)) is_twig is_full_node twig_begins twigs h

pub limb_begins : (branches : List (List (List (List Row)))) → is_limb branches ≡ true → Begins (limb_rows branches) (front (limb_rows branches))
limb_begins branches h = node_begins branch_rows (λ twigs. front (branch_rows twigs)) is_branch is_full_node branch_begins branches h

-- the first n writes are those of the part at a place, and the others those of the parts behind it
abbrev pub Divides : {X : Type 0} → (X → List Row) → List X → ℕ → List Write → ℕ → Type 0
Divides {X} rows parts i ws n = (x : X) → x ≡ get_or parts i x
    → after (flat_map rows (drop i parts)) ws ≡ after (rows x) (take n ws) ++ after (flat_map rows (drop (i + 1) parts)) (drop n ws)

-- the parts hold the rows of more parts, behind the others
abbrev pub AddsParts : {X : Type 0} → (X → List Row) → Vec X Global → Vec X Global → List X → Type 0
AddsParts rows old new parts = flat_map rows new.items ≡ flat_map rows old.items ++ flat_map rows parts

-- they hold what writes make of some rows, behind the others
abbrev pub AddsAfter : {X : Type 0} → (X → List Row) → Vec X Global → Vec X Global → List Row → List Write → Type 0
AddsAfter rows old new before ws = flat_map rows new.items ≡ flat_map rows old.items ++ after before ws

-- the same of the rows of some parts
abbrev pub AddsAllAfter : {X : Type 0} → (X → List Row) → Vec X Global → Vec X Global → List X → List Write → Type 0
AddsAllAfter rows old new parts ws = AddsAfter rows old new (flat_map rows parts) ws

-- writes leave the first n parts as they are
abbrev pub Leaves : {X : Type 0} → (X → List Row) → List X → List Write → ℕ → Type 0
Leaves rows parts ws n = after (flat_map rows parts) ws ≡ flat_map rows (take n parts) ++ after (flat_map rows (drop n parts)) ws

-- the writes are all of slots before this one, or of none of them
abbrev pub are_before : Slot → List Write → Bool
are_before s ws = list_all (λ (w : Write). slot_lt w.slot s) ws

abbrev pub are_from : Slot → List Write → Bool
are_from s ws = list_all (λ (w : Write). not (slot_lt w.slot s)) ws
