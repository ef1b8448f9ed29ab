use Rattle.std.proofs.Common.{◌≡◌, ◌-◌, Ok, refl, ap, subst, ◌∙◌, arith}
use Rattle.charmlet_engine.specs.Engine.{view_of}
use Rattle.charmlet_engine.proofs.Advancing.{advances_after}
use Rattle.charmlet_lab.specs.Lines.{Drains}
use Rattle.charmlet_lab.proofs.Halting.{delivered_goes, halts_after, halts_not}
use Rattle.charmlet_lab.proofs.Lines.{drains_all, drains_no_more, drains_on}
use Rattle.charmlet_lab.proofs.round.drain.Goals as goal

pub loop-init : goal.loop-init
loop-init g c =
    let all : c.args.most - 0 ≡ c.args.most = omega arith in (
      c.facts.ensures.still,
      λ last drained. subst (λ n. Drains n (view_of c.args.engine.now) last) all drained,
      λ runs. runs,
      halts_not g.D.Disk c.args.engine.now c.args.engine.now refl refl,
    )

pub returns-in_err-deliver_next-clause-advances : goal.returns-in_err-deliver_next-clause-advances
returns-in_err-deliver_next-clause-advances g c =
    advances_after g.D.Disk c.args.engine.now c.loop.engine c.deliver_next.new.engine c.loop.invariant.0 c.deliver_next.ensures.advances

pub returns-then-not-branch-clause-advances : goal.returns-then-not-branch-clause-advances
returns-then-not-branch-clause-advances g c =
    advances_after g.D.Disk c.args.engine.now c.loop.engine c.deliver_next.new.engine c.loop.invariant.0 c.deliver_next.ensures.advances

pub returns-in_err-deliver_next-clause-counted : goal.returns-in_err-deliver_next-clause-counted
returns-in_err-deliver_next-clause-counted g c =
    halts_after g.D.Disk c.args.engine.now c.loop.engine c.deliver_next.new.engine c.loop.invariant.3 c.loop.invariant.2 c.deliver_next.ensures.counted

pub returns-then-not-branch-clause-counted : goal.returns-then-not-branch-clause-counted
returns-then-not-branch-clause-counted g c =
    halts_after g.D.Disk c.args.engine.now c.loop.engine c.deliver_next.new.engine c.loop.invariant.3 c.loop.invariant.2 c.deliver_next.ensures.counted

pub returns-then-not-branch-clause-drains : goal.returns-then-not-branch-clause-drains
returns-then-not-branch-clause-drains g c =
    let old = view_of c.loop.engine in
    let new = view_of c.deliver_next.new.engine in
    c.loop.invariant.1 new (drains_no_more c.args.most c.loop.counter c.loop-test.true old new (c.deliver_next.ensures.none (c.in_ok-deliver_next.was ∙ ap Ok c.if-not-branch.true)))

pub loop-preserved : goal.loop-preserved
loop-preserved g c =
    let old = view_of c.loop.engine in
    let mid = view_of c.deliver_next.new.engine in
    let next = c.deliver_next.ensures.delivers (c.in_ok-deliver_next.was ∙ ap Ok c.if-not-branch.false) in (
      advances_after g.D.Disk c.args.engine.now c.loop.engine c.deliver_next.new.engine c.loop.invariant.0 c.deliver_next.ensures.advances,
      λ last drained. c.loop.invariant.1 last (drains_on c.args.most c.loop.counter c.loop-test.true old mid last next drained),
      λ runs. delivered_goes old mid next.0 next.1 (c.loop.invariant.2 runs) next.3,
      halts_after g.D.Disk c.args.engine.now c.loop.engine c.deliver_next.new.engine c.loop.invariant.3 c.loop.invariant.2 c.deliver_next.ensures.counted,
    )

pub returns-clause-drains : goal.returns-clause-drains
returns-clause-drains g c =
    let store = view_of c.loop.engine in
    c.loop.invariant.1 store (drains_all c.args.most c.loop.counter store c.loop-test.false)
