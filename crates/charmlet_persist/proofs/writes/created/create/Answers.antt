use Rattle.std.proofs.Common.{rules, ◌≡◌, ◌+◌, ap, sym, subst, ◌∙◌, arith}
use Rattle.charmlet_model.specs.Core.{Core}
use Rattle.charmlet_model.specs.Sizes.{image_size}
use Rattle.charmlet_model.specs.Sound.{new_world, opened}
use Rattle.charmlet_image.specs.Spelled.{IsClosed}
use Rattle.charmlet_halves.specs.Halves.{disk_of}
use Rattle.charmlet_halves.proofs.Quiet.{not_read}
use Rattle.charmlet_history.specs.Kept.{core_in}
use Rattle.charmlet_persist.specs.Writes.NewStores.{created_disk}
use Rattle.charmlet_persist.specs.Writes.Rest.{IsKept}
use Rattle.charmlet_persist.proofs.WritesLemmas.Resting.{created_current}
use Rattle.charmlet_persist.proofs.WritesLemmas.Making.{new_end, new_kept, new_leaves, none_leaves}
use Rattle.charmlet_persist.proofs.writes.created.create.Goals as goal

pub returns-then-not-is_processor_count-clause-cause : goal.returns-then-not-is_processor_count-clause-cause
returns-then-not-is_processor_count-clause-cause g c = λ honest. record { here = search rules; lacking = search rules }

pub returns-then-not-is_processor_count-clause-leaves : goal.returns-then-not-is_processor_count-clause-leaves
returns-then-not-is_processor_count-clause-leaves g c = λ honest.
    let laws = g.met.D.Disk g.world.𝓛 g.world.𝓜 g.world.𝓡 ((λ s x. x), (λ x. x), (λ x. x), (λ x. x)) in
    let read = not_read g.D.Disk c.args.disk (λ o left. laws.only_now c.args.disk o honest left) in
    record {
      any_moment = λ closed. none_leaves g.D.Disk c.args.manifest c.facts.ensures c.requires.newest c.args.disk closed.zero closed.one (c.requires.settled honest) (λ o left. laws.only_now c.args.disk o honest left);
      open_kept = λ any. read.any_moment;
      unwritten = λ other. read;
    }

pub returns-in_err-halves-clause-leaves : goal.returns-in_err-halves-clause-leaves
returns-in_err-halves-clause-leaves g c = λ honest.
    let leaves = c.in_err-halves.ensures.leaves honest in
    record {
      any_moment = λ closed. new_leaves g.D.Disk c.args.manifest c.facts.ensures c.requires.newest c.args.disk closed.zero closed.one (created_disk c.from_residual.result) (search rules);
      open_kept = search rules;
      unwritten = search rules;
    }

pub returns-clause-ok : goal.returns-clause-ok
returns-clause-ok g c =
    let made : core_in c.in-Ok.history ≡ opened c.args.processors (new_world c.args.manifest) 0 1 c.log_end.result = search rules in
    let end : c.log_end.result ≡ 25 + image_size (new_world c.args.manifest) = omega (arith, new_end c.args.manifest, c.log_end.ensures, c.in_ok-halves.ensures.created.log_end) in
    record {
      processors_are = search rules;
      opens = made ∙ ap (opened c.args.processors (new_world c.args.manifest) 0 1) end;
      half = search rules;
      agrees = search rules;
    }

pub returns-clause-files : goal.returns-clause-files
returns-clause-files g c = λ honest.
    let halves = c.in_ok-halves.halves in
    let files = c.in_ok-halves.ensures.files honest in
    let spare = subst IsClosed (sym files.other) files.closed.one in
    let kept = new_kept {G = g.D.Disk} c.args.manifest c.facts.ensures c.requires.newest c.args.processors halves (c.in_ok-halves.ensures.disk.honest.0 honest) c.in_ok-halves.ensures.created.going files.text spare in
    record {
      closed = files.closed;
      text = files.text;
      other = files.other;
      settled = search rules;
      kept = subst (λ (core : Core). IsKept {G = g.D.Disk} core halves) (sym (returns-clause-ok g c).opens) kept;
      current = created_current {G = g.D.Disk} halves c.args.manifest c.facts.ensures c.requires.newest files.text spare;
    }

pub returns-clause-leaves : goal.returns-clause-leaves
returns-clause-leaves g c = λ honest.
    let leaves = c.in_ok-halves.ensures.leaves honest in
    record {
      any_moment = λ closed. new_leaves g.D.Disk c.args.manifest c.facts.ensures c.requires.newest c.args.disk closed.zero closed.one (disk_of c.in_ok-halves.halves) (leaves.any_moment closed.zero);
      open_kept = leaves.open_kept;
      unwritten = tt;
    }
