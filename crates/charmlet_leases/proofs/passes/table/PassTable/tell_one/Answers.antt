use Rattle.std.proofs.Common.{◌≡◌, ◌≤◌, ap, subst, ◌∙◌}
use Rattle.charmlet_history.specs.Kept.{core_in}
use Rattle.charmlet_leases.specs.Passes.Passes.{HeldPass, event_count}
use Rattle.charmlet_leases.proofs.PassesLemmas.Requests.{accepted-flushed, kept-then}
use Rattle.charmlet_leases.proofs.passes.table.PassTable.tell_one.Goals as goal

pub returns-clause-told : goal.returns-clause-told
returns-clause-told g c = c.record_flush.ensures.recorded ∙ ap (λ (h : HeldPass). record h { flushed = event_count (core_in c.args.history.now) }) c.tell_accepted.ensures.told

pub returns-clause-kept : goal.returns-clause-kept
returns-clause-kept g c =
    kept-then c.args.self.now c.tell_accepted.new.self c.record_flush.new.self (core_in c.args.history.now) c.args.pass.now c.tell_accepted.new.pass c.record_flush.new.pass c.tell_accepted.ensures.current c.tell_accepted.ensures.kept c.record_flush.ensures.kept

pub returns-clause-rising : goal.returns-clause-rising
returns-clause-rising g c =
    let same : c.tell_accepted.new.pass.flushed ≡ c.args.pass.now.flushed = ap (λ (h : HeldPass). h.flushed) c.tell_accepted.ensures.told ∙ accepted-flushed c.args.pass.now in
    subst (λ n. n ≤ event_count (core_in c.args.history.now)) same c.record_flush.ensures.rising
