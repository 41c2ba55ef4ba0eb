-- What a SELECT is bound to is over four sources at most.
use Rattle.std.proofs.Common.{◌≡◌, ℕ, true, length, refl, ap, sym}
use Rattle.std.specs.Prelude.{Ok, nat_le, map}
use Rattle.std.proofs.lemmas.List.{length-map}
use Rattle.ifdb_syntax.specs.declared.select.Select.{Select}
use Rattle.ifdb_syntax.specs.declared.request.Request.{Request}
use Rattle.ifdb_syntax.specs.declared.request.Request.TheVariants as q
use Rattle.ifdb_bound.specs.declared.request.Bound.{Bound}
use Rattle.ifdb_bound.specs.declared.request.Bound.TheVariants as b
use Rattle.ifdb_catalog.specs.Public.{Public}
use Rattle.ifdb_catalog.specs.Binding.{bound}
use Rattle.ifdb_catalog.specs.Queries.{bound_source}
use Rattle.ifdb_catalog.proofs.Judging.{accepted}
use Rattle.ifdb_snapshot.specs.Narrow.{is_narrow, is_narrow_bound}

as_many : (p : Public) (s : Select) → nat_le (length s.sources) 4 ≡ true → nat_le (length (map (bound_source p) s.sources)) 4 ≡ true
as_many p s h = simp length-map h

pub bound_narrow : (p : Public) (asker : ℕ) (r : Request) (x : Bound) → is_narrow r ≡ true → bound p asker r ≡ Ok x → is_narrow_bound x ≡ true
unfolding bound
bound_narrow p asker (q.Select s) x h e = accepted is_narrow_bound _ _ x e (λ k. as_many p s h)
bound_narrow p asker (q.CreateView name s tags) x h e = accepted is_narrow_bound _ _ x e (λ k. as_many p s h)
bound_narrow p asker (q.CreatePrincipal name key clearance) x h e = accepted is_narrow_bound _ _ x e (λ k. refl)
bound_narrow p asker (q.CreateTag name compound parents) x h e = accepted is_narrow_bound _ _ x e (λ k. refl)
bound_narrow p asker (q.CreateTable name columns key foreign) x h e = accepted is_narrow_bound _ _ x e (λ k. refl)
bound_narrow p asker (q.Grant tag to) x h e = accepted is_narrow_bound _ _ x e (λ k. refl)
bound_narrow p asker (q.Revoke tag from) x h e = accepted is_narrow_bound _ _ x e (λ k. refl)
bound_narrow p asker (q.SetLabel tags) x h e = accepted is_narrow_bound _ _ x e (λ k. refl)
bound_narrow p asker (q.Insert table names rows tags) x h e = accepted is_narrow_bound _ _ x e (λ k. refl)
bound_narrow p asker (q.Update table assignments cond tags) x h e = accepted is_narrow_bound _ _ x e (λ k. refl)
bound_narrow p asker (q.Delete table cond) x h e = accepted is_narrow_bound _ _ x e (λ k. refl)
bound_narrow p asker (q.Hello name key) x h e = let same : b.Other ≡ x = cc in ap is_narrow_bound (sym same)
bound_narrow p asker q.ShowLabel x h e = let same : b.Other ≡ x = cc in ap is_narrow_bound (sym same)
bound_narrow p asker q.Begin x h e = let same : b.Other ≡ x = cc in ap is_narrow_bound (sym same)
bound_narrow p asker q.Commit x h e = let same : b.Other ≡ x = cc in ap is_narrow_bound (sym same)
bound_narrow p asker q.Rollback x h e = let same : b.Other ≡ x = cc in ap is_narrow_bound (sym same)
bound_narrow p asker q.Bye x h e = let same : b.Other ≡ x = cc in ap is_narrow_bound (sym same)
