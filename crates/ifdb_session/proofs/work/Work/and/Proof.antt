-- `and` makes the empty struct, with the notes that its clause names. Assumes `Logic`.
use Rattle.std.proofs.Common.{List, [], ◌∷◌, ◌++◌, length, refl}
use seplogic.Ra.Ura.{Ura}
use mir.Syntax.{named}
use mir.Val.{Val, vptr, vbool, vstruct, vnil}
use base.Logic.{SProp}
use prog.Memory.{Memory}
use prog.Routine.{Routine}
use prog.Wp.{Calls, Loops, WpFn, Tables}
use contract.Monad.{Fun}
use contract.Running.{tables, tables_of}
use sound.WpLaws.{WpFn-mono}
use types.Logic.{Logic}
use types.Kit.{‵, raw, ◌⊛◌, ◌$◌, ◌∵◌, !, qed, move, keep, split, fjoin, feq_i, fpack, suffices, done}
use types.Part.{agg}
use types.Run.{enter, returns, no_more}
use types.ByLocal.{alloc_all, pass_all, free_all, look_at, sets}
use denote.RattleType.{Valss, owns}
use denote.Builtin.{RefOf, SliceRefOf, bool, u8}
use denote.Exit.{yes}
use denote.Plain.{bool_vals, bool_Tells}
use denote.Ref.{shr_vals, shr_Tells}
use denote.Slice.{slice_val, shr_slice_vals, shr_slice_Tells}
use denote.Signature.{plain, types_at}
use denote.Steps.{nothing}
use denote.Struct.Struct.{within}
use denote.Triple.Clauses.{Clauses, closing}
use denote.Triple.Entry.{alive}
use denote.Triple.Spec.{Meets, triple_of}
use denote.Triple.Table.{entered}
use denote.Triple.Walked.{says, Stays, stay_dropped, AllGo, Goes-dropped, Walks, walk_of, walked, ends_at, walk_Meets}
use Rattle.ifdb_session.specs.declared.work.Work.{Work}
use Rattle.ifdb_session.specs.contracts.work.Work as W
use Rattle.ifdb_session.specs.contracts.work.Work.and as F
use Rattle.ifdb_session.specs.contracts.work.Work.and.Key.{name as #self}
use Rattle.ifdb_session.proofs.work.Work.and.Statement as stated
use Rattle.ifdb_session.proofs.work.Work.and.Code as code

abbrev none : Val
none = vstruct vnil

abbrev stayed : Stays F.ended.signature.params F.ended.kept
stayed = (
  stay_dropped (RefOf (0 ∷ []) tt (plain (λ _. W.the_row)) (λ _. tt)) yes,
  (stay_dropped (SliceRefOf (1 ∷ []) tt (plain (λ _. u8)) (λ _. tt)) yes, (stay_dropped (plain (λ _. bool)) yes, tt)),
)

module _ {M : Type 1} {𝓤 : Ura M} (𝓛 : Logic 𝓤) (at_mem : Memory → SProp 𝓤) (run : Routine → Fun 𝓤) where
  open 𝓛 use {H}

  abbrev held : Clauses 𝓤 F.ended
  held = F.clauses 𝓛 at_mem run

  goes : AllGo 𝓛 2 F.ended.signature.params F.ended.kept stayed
  goes = (
    Goes-dropped 𝓛 2 (RefOf (0 ∷ []) tt (plain (λ _. W.the_row)) (λ _. tt)) yes (λ κs x f. refl),
    (
      Goes-dropped 𝓛 2 (SliceRefOf (1 ∷ []) tt (plain (λ _. u8)) (λ _. tt)) yes (λ κs x f. refl),
      (Goes-dropped 𝓛 2 (plain (λ _. bool)) yes (λ κs x f. refl), tt),
    ),
  )

  walks : (C : Calls 𝓤 H) (Λ : Loops 𝓤 H) → Walks 𝓛 F.ended stayed (WpFn 𝓤 H C Λ code.function) held
  walks C Λ = walked 𝓛 F.ended stayed held (WpFn 𝓤 H C Λ code.function) (λ κs. (shr_vals, (shr_slice_vals, (bool_vals, tt))))
      (λ κs. (shr_Tells (named 0) κs.0 W.the_row, (shr_slice_Tells (named 1) κs.1.0 u8, (bool_Tells, tt))))
      (λ κs qs bounds a g are.
      let vss : List Val × (List Val × (List Val × Unit {0})) = (shr_vals a.0, (shr_slice_vals a.1.0, (bool_vals a.1.1.0, tt))) in
      let z : (walk_of 𝓛 F.ended stayed held).Ghost = ((κs, qs, bounds, a, vss), g) in
      let made : Work = record { notes = a.0.now.notes ++ record { line = a.1.0.now; is_refused = a.1.1.0 } ∷ [] } in
      qed 𝓛 ((raw (alive 𝓛 F.ended.signature κs qs) ⊛ ‵ (owns (types_at F.ended.signature.params κs) a vss)) ∷ raw ((held κs a).requires g) ∷ []) ∵
      keep ! (0 ∷ []) $ split ! $ keep ! (0 ∷ []) $
      enter ! C Λ code.function (vptr a.0.ref_ptr.0 a.0.ref_ptr.1 ∷ slice_val a.1.0.ref_ptr (length a.1.0.now) ∷ vbool a.1.1.0 ∷ []) _ $
      alloc_all ! (λ l. pass_all ! refl ((tt, tt), ((tt, (tt, (record { fits = are.1.0.0.1.0 }, tt))), ((tt, tt), tt))) $
      sets ! (agg ! (no_more !)) refl (tt, tt) $
      nothing ! $ nothing ! $ feq_i ! (List Val) (none ∷ []) (none ∷ []) refl $ fjoin ! $
      fpack ! (Valss []) (within (record { name = []; args = []; types = []; fields = [] }) tt (none ∷ [])) tt $ fjoin ! $
      returns ! (look_at ! 0 refl) $ free_all ! refl $
      suffices ! _ (ends_at 𝓛 F.ended stayed held z none made (tt, (tt, (tt, tt))) (tt, (tt, (tt, tt)))) $ says ! refl $
      nothing ! $ nothing ! $ fjoin ! $ nothing ! $ fjoin ! $ nothing ! $ fjoin ! $ move ! (2 ∷ 0 ∷ 1 ∷ []) $ done !))

  meets : (𝓣 : Tables 𝓤 H) → Meets 𝓛 F.ended.signature (WpFn 𝓤 H 𝓣.C 𝓣.Λ code.function) (closing 𝓛 F.ended held)
  meets 𝓣 = walk_Meets 𝓛 F.ended stayed goes held (WpFn 𝓤 H 𝓣.C 𝓣.Λ code.function) (WpFn-mono 𝓤 H 𝓛.laws 𝓣 code.function) (walks 𝓣.C 𝓣.Λ)

pub and_spec : {M : Type 1} → stated.statement M
unfolding tables_of
and_spec 𝓤 𝓛 𝓜 𝓡 wired =
    let 𝓣 : Tables 𝓤 𝓛.H = tables_of 𝓤 𝓛.H 𝓜 (tables 𝓤 𝓛.H 𝓜 𝓡 𝓡.env) in
    entered 𝓤 𝓛.H (triple_of 𝓛 F.ended.signature (closing 𝓛 F.ended (held 𝓛 𝓜.mem 𝓡.returns))) 𝓣.C 𝓣.Λ #self code.function
    (code.unfolded 𝓤 𝓛.H 𝓜 𝓡 wired) (meets 𝓛 𝓜.mem 𝓡.returns 𝓣)
