-- A fact that holds whatever a call answered.
use Rattle.std.specs.Prelude.{Result, Ok, Err, OnOk, OnErr}

pub either : {T E : Type 0} (r : Result T E) (P Q R : Type 0) → OnOk r P → OnErr r Q → (P → R) → (Q → R) → R
either (Ok x) P Q R ok err good bad = good ok
either (Err e) P Q R ok err good bad = bad err

pub on_ok : {T E : Type 0} (r : Result T E) (P Q : Type 0) → OnOk r P → (P → Q) → OnOk r Q
on_ok (Ok x) P Q ok imply = imply ok
on_ok (Err e) P Q ok imply = tt

pub on_err : {T E : Type 0} (r : Result T E) (P Q : Type 0) → OnErr r P → (P → Q) → OnErr r Q
on_err (Ok x) P Q err imply = tt
on_err (Err e) P Q err imply = imply err
