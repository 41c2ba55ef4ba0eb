-- Visits after visits.
use Rattle.std.proofs.Common.{◌≡◌, ◌≤◌, ◌<◌, ◌+◌, List, [], ◌∷◌, ◌++◌, Option, Some, None, Ok, sym, refl, ap, ◌∙◌, subst, arith, length-append, append_assoc}
use Rattle.std.proofs.lemmas.List.{map-append}
use Rattle.ifdb_io.specs.Doors.{Stays, LosesFirst, GainsLast, Becomes, TakesNext}
use Rattle.ifdb_io.specs.declared.doors.Door as door
use Rattle.ifdb_io.specs.declared.outside.Failed.{Failed}
use Rattle.ifdb_pool.specs.Visits.{Visit, Serves, GainsAll}
use Rattle.ifdb_pool.specs.Work.{Served}
use Rattle.ifdb_pool.specs.declared.host.Host as host
use Rattle.ifdb_pool.specs.declared.worker.Worker.{Worker}

-- one visit
pub serves_one : {H L : Type 0} (serves : H → L → H → L → Type 0) (h k : H) (visit : Visit L) → serves h visit.came k visit.went → Serves serves h (visit ∷ []) k
serves_one serves h k visit one = (k, one, refl)

serves-append : {H L : Type 0} (serves : H → L → H → L → Type 0) (h k m : H) (vs us : List (Visit L)) → Serves serves h vs k → Serves serves k us m → Serves serves h (vs ++ us) m
serves-append serves h k m [] us is more = subst (λ x. Serves serves x us m) (sym is) more
serves-append serves h k m (v ∷ vs) us all more = (all.0, all.1, serves-append serves all.0 k m vs us all.2 more)

loses-append : {A : Type 0} (a b c : Option (List A)) (xs ys : List A) → LosesFirst a b xs → LosesFirst b c ys → LosesFirst a c (xs ++ ys)
loses-append None b c xs ys f g = tt
loses-append (Some told) None c xs ys f g = absurd f
loses-append (Some told) (Some more) None xs ys f g = absurd g
loses-append (Some told) (Some more) (Some rest) xs ys f g = f ∙ ap (λ l. xs ++ l) g ∙ sym (append_assoc xs ys rest)

gains-append : {A : Type 0} (a b c : Option (List A)) (xs ys : List A) → GainsAll a b xs → GainsAll b c ys → GainsAll a c (xs ++ ys)
gains-append None b c xs ys f g = tt
gains-append (Some told) b c xs ys f g = subst (λ x. GainsAll x c ys) f g ∙ ap Some (append_assoc told xs ys)

-- a link was the next to come, and then what comes stays
pub loses_next : {A : Type 0} (E : Type 0) (a b c : Option (List A)) (link : A) → TakesNext {L = A} {E = E} a b (Ok (Some link)) → Stays b c → LosesFirst a c (link ∷ [])
loses_next E None b c link t s = tt
loses_next E (Some told) None c link t s = absurd t
loses_next E (Some told) (Some left) c link t s = subst (λ x. LosesFirst (Some told) x (link ∷ [])) (sym s) t

-- what went back stays, and then a link went back
pub gains_last : {A : Type 0} (a b c : Option (List A)) (link : A) → Stays a b → GainsLast b c link → GainsAll a c (link ∷ [])
gains_last None b c link s g = tt
gains_last (Some told) b c link s g = subst (λ x. GainsLast x c link) s g

-- a door at its end, which has lost these links before, has lost all that it told
pub becomes-nil : {A : Type 0} (E : Type 0) (a b c : Option (List A)) (answer : Option A) (xs : List A) → LosesFirst a b xs → answer ≡ None → TakesNext {L = A} {E = E} b c (Ok answer) → Becomes a c []
becomes-nil E None b c answer xs f none t = tt
becomes-nil E (Some told) None c answer xs f none t = absurd f
becomes-nil {A} E (Some told) (Some left) c answer xs f none t = (subst (λ o. TakesNext {L = A} {E = E} (Some left) c (Ok o)) none t).1

module _ {D H L : Type 0} (doors : door.Ghosts D L) (hosts : host.Ghosts H L) where
  -- these visits, and then those
  pub served-append : (w w1 w2 : Worker D H) (vs us : List (Visit L)) → Served doors hosts w w1 vs → Served doors hosts w1 w2 us → Served doors hosts w w2 (vs ++ us)
  served-append w w1 w2 vs us before after =
      let size = length-append vs us in record {
        host = serves-append hosts.serves _ _ _ vs us before.host after.host;
        ready = after.ready;
        coming = subst (LosesFirst (doors.coming w.door) (doors.coming w2.door)) (sym (map-append (λ v. v.came) vs us)) (loses-append _ _ _ _ _ before.coming after.coming);
        back = subst (GainsAll (doors.back w.door) (doors.back w2.door)) (sym (map-append (λ v. v.went) vs us)) (gains-append _ _ _ _ _ before.back after.back);
        out = omega (arith, before.out, after.out);
        most = omega (arith, before.most, after.most);
        links = omega (arith, before.links, after.links);
        later = omega (arith, before.later, after.later);
      }

  -- the door gave its next connection, the host served it, and it went back
  pub served_one : (w w' : Worker D H) (d : D) (link went : L) → hosts.serves w.host link w'.host went → hosts.ready w'.host
      → TakesNext {L = L} {E = Failed} (doors.coming w.door) (doors.coming d) (Ok (Some link)) → Stays (doors.coming d) (doors.coming w'.door)
      → Stays (doors.back w.door) (doors.back d) → GainsLast (doors.back d) (doors.back w'.door) went
      → doors.out w'.door ≡ doors.out w.door → doors.most w'.door < doors.most w.door → w'.links ≡ w.links + 1 → doors.faults w.door ≤ doors.faults w'.door
      → Served doors hosts w w' (record { came = link; went = went } ∷ [])
  served_one w w' d link went served ready took stays same gains out fewer links later = record {
    host = serves_one hosts.serves _ _ (record { came = link; went = went }) served;
    ready = ready;
    coming = loses_next Failed _ (doors.coming d) _ link took stays;
    back = gains_last _ (doors.back d) _ went same gains;
    out = out;
    most = omega (arith, fewer);
    links = links;
    later = later;
  }
