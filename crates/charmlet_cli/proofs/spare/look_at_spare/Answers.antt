use Rattle.std.proofs.Common.{◌≡◌, ◌∙◌, ap, ap₂}
use Rattle.charmlet_model.specs.declared.half.Half.TheVariants.{Zero, One}
use Rattle.charmlet_disk.specs.File.{File}
use Rattle.charmlet_halves.proofs.Quiet.{read_then}
use Rattle.charmlet_cli.specs.declared.spare.Start.{Start}
use Rattle.charmlet_cli.specs.Spare.{judged_both, start_in}
use Rattle.charmlet_cli.proofs.spare.look_at_spare.Goals as goal

pub returns-clause-only_read : goal.returns-clause-only_read
returns-clause-only_read g c = λ honest.
    read_then g.D.Disk c.args.disk.now c.look_at.new.disk c.look_at-2.new.disk (c.look_at.ensures.only_read honest)
    (c.look_at-2.ensures.only_read (c.look_at.ensures.disk.honest.0 honest))

pub returns-clause-spare : goal.returns-clause-spare
returns-clause-spare g c = λ honest.
    let still = c.look_at.ensures.disk.honest.0 honest in
    let same = (c.look_at.ensures.only_read honest).same One in
    let first : c.in_ok-zero.zero ≡ start_in (g.D.Disk.file c.args.disk.now Zero).now = c.in_ok-zero.ensures.start honest in
    let second : c.in_ok-one.one ≡ start_in (g.D.Disk.file c.args.disk.now One).now =
    c.in_ok-one.ensures.start still ∙ ap (λ (f : File). start_in f.now) same in
    c.judged_both.ensures ∙ ap₂ (λ (a b : Start). judged_both a b a.beginning b.beginning) first second
