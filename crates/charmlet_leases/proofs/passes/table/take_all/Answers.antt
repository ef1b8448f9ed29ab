use Rattle.std.proofs.Common.{◌≡◌, ◌∷◌, ◌++◌, [], None, length, vec_len, sym, ◌∙◌, subst, rules}
use Rattle.std.specs.Prelude.{slice_set}
use Rattle.charmlet_leases.proofs.PassesLemmas.Taken.{IsTakenSoFar, taken-all, taken-none, taken-one}
use Rattle.charmlet_leases.proofs.passes.table.take_all.Goals as goal

pub loop-pass-init : goal.loop-pass-init
loop-pass-init g c =
    let long : vec_len c.args.passes ≡ length c.args.passes.items = search rules in
    taken-none c.args.authority c.args.passes.items (c.requires ∙ long)

pub loop-pass-preserved : goal.loop-pass-preserved
loop-pass-preserved g c =
    let pass = c.in-Some.pass in
    let all = c.args.authority in
    let handed = c.args.passes.items in
    let last : c.loop-pass.passes.items ≡ c.pop.new.self.items ++ pass ∷ [] = search rules in
    let new : c.take_in.new.authority ≡ slice_set c.loop-pass.authority c.take_in.ensures.0 None = c.take_in.ensures.2 in
    let so_far : IsTakenSoFar all handed c.loop-pass.authority (c.pop.new.self.items ++ pass ∷ []) = subst (IsTakenSoFar all handed c.loop-pass.authority) last c.loop-pass.invariant in
    subst (λ held. IsTakenSoFar all handed held c.pop.new.self.items) (sym new) (taken-one all handed c.loop-pass.authority c.pop.new.self.items c.take_in.ensures.0 pass c.take_in.ensures.1 so_far)

pub returns : goal.returns
returns g c =
    let nothing : c.loop-pass.passes.items ≡ [] = search rules in
    taken-all c.args.authority c.args.passes.items c.loop-pass.authority (subst (IsTakenSoFar c.args.authority c.args.passes.items c.loop-pass.authority) nothing c.loop-pass.invariant)
