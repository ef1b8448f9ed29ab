-- `of` makes a value of no bytes; its state is that of the object.
use Rattle.std.proofs.Common.{◌≡◌, [], ◌∷◌, refl}
use Rattle.std.proofs.raw_atomic.Walks.{proved, leaves}
use mir.Syntax.{a_type, dcons, dnil, named}
use mir.MapTy.{inst_fn}
use mir.Val.{Val, vptr, vstruct, vnil}
use base.Fml.{Fml}
use base.Logic.{SProp, emp}
use contract.Monad.{fact, fact_i}
use contract.Running.{tables}
use types.Kit.{‵, raw, ◌⊛◌, ◌$◌, ◌∵◌, !, qed, by, keep, use0, split, fjoin}
use types.Part.{agg}
use types.Run.{no_more, enter, returns}
use types.ByLocal.{alloc_all, pass_all, free_all, look_at, sets}
use denote.Builtin.{RefOf}
use denote.Exit.{yes}
use denote.Param.{param, bounded}
use denote.RattleType.{RattleType, owns}
use denote.Ref.{shr_vals, shr_Tells}
use denote.Shadow.{makes_shadow}
use denote.Signature.{plain, types_at}
use denote.Steps.{nothing}
use denote.Triple.Entry.{alive}
use denote.Triple.Walked.{Stays, stay_dropped, walk_of, Goes-dropped}
use Rattle.charmlet_shelf.specs.contracts.ghost_state.GhostState.{the_row}
use Rattle.charmlet_shelf.specs.contracts.ghost_state.GhostState.of.{ended, clauses}
use Rattle.charmlet_shelf.specs.contracts.ghost_state.GhostState.of.Key.{name}
use Rattle.charmlet_shelf.proofs.ghost_state.GhostState.of.Statement.{statement}
use Rattle.charmlet_shelf.proofs.ghost_state.GhostState.of.Code as code

pub of_spec : {M : Type 1} → statement M
of_spec 𝓤 𝓛 𝓜 𝓡 wired C LC g d e _ _ =
    let H = 𝓛.H in
    let 𝓣 = tables 𝓤 H 𝓜 𝓡 𝓡.env in
    let R : RattleType = param 0 C in
    let E = ended C g d e in
    let at = bounded (a_type ∷ []) (C, tt) (dcons d (dcons e dnil)) in
    let function = inst_fn at code.function in
    let c = clauses C g d e 𝓛 𝓜.mem 𝓡.returns in
    let arg = RefOf (0 ∷ []) tt (plain (λ _. R)) (λ _. tt) in
    let stayed : Stays E.signature.params E.kept = (stay_dropped arg yes, tt) in
    proved 𝓛 E stayed c 𝓜 𝓡 (Goes-dropped 𝓛 2 arg yes (λ κs x f. refl), tt) (name at) function (code.unfolded 𝓤 H 𝓜 𝓡 wired (C, tt) d e)
    (λ κs. (shr_vals, tt)) (λ κs. (shr_Tells (named 0) κs.0 R, tt)) (λ κs qs bounds a ghost are.
    let p : Val = vptr a.0.ref_ptr.0 a.0.ref_ptr.1 in
    let state = g.state a.0.now in
    let made : the_row.Denot = record { state = state } in
    let owned : Fml = the_row.own_val made (vstruct vnil ∷ []) in
    let y : (walk_of 𝓛 E stayed c).Ghost = ((κs, qs, bounds, a, (p ∷ [], tt)), ghost) in
    let Post : Val → SProp 𝓤 = (walk_of 𝓛 E stayed c).post y in
    qed 𝓛 ((raw (alive 𝓛 E.signature κs qs) ⊛ ‵ (owns (types_at E.signature.params κs) a y.0.4)) ∷ raw ((c κs a).requires ghost) ∷ []) ∵ split ! $ keep ! (0 ∷ []) $
    enter ! 𝓣.C 𝓣.Λ function (p ∷ []) Post $ alloc_all ! (λ l. pass_all ! refl ((tt, tt), tt) $
    sets ! (agg ! (no_more !)) refl (tt, tt) $
    use0 𝓛 (raw (fact 𝓤 (state ≡ state))) (fact_i 𝓤 (state ≡ state) (emp 𝓤) refl) $
    use0 𝓛 (‵ owned) (makes_shadow 𝓛 owned ((λ vss. (tt, tt)), tt) ((tt, (refl, tt)), tt)) $ nothing ! $ nothing ! $ fjoin ! $
    returns ! (look_at ! 0 refl) $ free_all ! refl $ keep ! (3 ∷ 0 ∷ 1 ∷ 2 ∷ []) $ by ! (leaves 𝓛 E stayed c y (vstruct vnil) made (tt, tt) (tt, tt))))
