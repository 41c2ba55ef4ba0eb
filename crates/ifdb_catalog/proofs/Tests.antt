-- Tests joined by `and`.
use Rattle.std.proofs.Common.{◌≡◌, refl, Bool, true, false, ◌&&◌, arith}

pub first_of : (a b : Bool) → a && b ≡ true → a ≡ true
first_of true b h = refl
first_of false b h = h

pub rest_of : (a b : Bool) → a && b ≡ true → b ≡ true
rest_of true b h = h
rest_of false b h = grind (arith)

pub both_of : (a b : Bool) → a ≡ true → b ≡ true → a && b ≡ true
both_of true b h k = k
both_of false b h k = h
