use Rattle.std.proofs.Common.{◌≡◌, ℕ, List, ◌∷◌, Option, length, subst, ap, ◌∙◌}
use Rattle.std.specs.Prelude.{IfSome}
use Rattle.charmlet_disk.specs.Disk.{LeavesOnly}
use Rattle.charmlet_disk.proofs.Moments.{after_that, weaker}
use Rattle.charmlet_halves.specs.Halves.{disk_of, image_to, text_of, KeepsTaken, HasOldOrImage}
use Rattle.charmlet_persist.specs.Writes.Rest.{StoresOldOrImage}
use Rattle.charmlet_persist.proofs.WritesLemmas.Turning.{prepared_stores, opened_stores, opened_rests, opened_current}
use Rattle.charmlet_persist.proofs.writes.sealed.write_image.Goals as goal

pub returns-in_err-prepare_image-clause-any_moment : goal.returns-in_err-prepare_image-clause-any_moment
returns-in_err-prepare_image-clause-any_moment g c = λ honest w count generation history next.
    let old = c.args.halves.now in
    weaker g.D.Disk.moment g.D.Disk.since (disk_of old) (disk_of c.prepare_image.new.self) (KeepsTaken old) (StoresOldOrImage w count generation history)
    (c.prepare_image.ensures.any_moment honest c.requires.going)
    (prepared_stores {G = g.D.Disk} old c.args.bytes.now w count generation history honest c.requires.going next)

pub returns-in_err-open_gate-clause-any_moment : goal.returns-in_err-open_gate-clause-any_moment
returns-in_err-open_gate-clause-any_moment g c = λ honest w count generation history next.
    let old = c.args.halves.now in
    let mid = c.prepare_image.new.self in
    let new = c.open_gate.new.self in
    let at = length c.args.bytes.now in
    let still = c.prepare_image.ensures.disk.honest.0 honest in
    let taken = c.in_ok-prepare_image.ensures.taken in
    let prepared = c.in_ok-prepare_image.ensures.prepared honest in
    let opening = subst (λ (o : Option ℕ). IfSome o (λ n. LeavesOnly g.D.Disk.moment g.D.Disk.since (disk_of mid) (disk_of new) (HasOldOrImage mid (image_to mid n)))) taken.1
    (c.open_gate.ensures.any_moment still taken.0.going) in
    after_that g.D.Disk.moment g.D.Disk.since (disk_of old) (disk_of mid) (disk_of new) (KeepsTaken old) (HasOldOrImage mid (image_to mid at)) (StoresOldOrImage w count generation history)
    (c.prepare_image.ensures.any_moment honest c.requires.going) opening
    (prepared_stores {G = g.D.Disk} old c.args.bytes.now w count generation history honest c.requires.going next)
    (opened_stores {G = g.D.Disk} old c.args.bytes.now w count generation history honest c.requires.going next mid prepared.1 at prepared.0)

pub returns-clause-any_moment : goal.returns-clause-any_moment
returns-clause-any_moment g c = λ honest w count generation history next.
    let old = c.args.halves.now in
    let mid = c.prepare_image.new.self in
    let new = c.open_gate.new.self in
    let at = length c.args.bytes.now in
    let still = c.prepare_image.ensures.disk.honest.0 honest in
    let taken = c.in_ok-prepare_image.ensures.taken in
    let prepared = c.in_ok-prepare_image.ensures.prepared honest in
    let opening = subst (λ (o : Option ℕ). IfSome o (λ n. LeavesOnly g.D.Disk.moment g.D.Disk.since (disk_of mid) (disk_of new) (HasOldOrImage mid (image_to mid n)))) taken.1
    (c.open_gate.ensures.any_moment still taken.0.going) in
    after_that g.D.Disk.moment g.D.Disk.since (disk_of old) (disk_of mid) (disk_of new) (KeepsTaken old) (HasOldOrImage mid (image_to mid at)) (StoresOldOrImage w count generation history)
    (c.prepare_image.ensures.any_moment honest c.requires.going) opening
    (prepared_stores {G = g.D.Disk} old c.args.bytes.now w count generation history honest c.requires.going next)
    (opened_stores {G = g.D.Disk} old c.args.bytes.now w count generation history honest c.requires.going next mid prepared.1 at prepared.0)

pub returns-clause-rests : goal.returns-clause-rests
returns-clause-rests g c = λ honest w count generation history next.
    let old = c.args.halves.now in
    let mid = c.prepare_image.new.self in
    let new = c.open_gate.new.self in
    let at = length c.args.bytes.now in
    let still = c.prepare_image.ensures.disk.honest.0 honest in
    let taken = c.in_ok-prepare_image.ensures.taken in
    let prepared = c.in_ok-prepare_image.ensures.prepared honest in
    let opened = c.in_ok-open_gate.ensures.opened still in
    let says = subst (λ (o : Option ℕ). IfSome o (λ n. text_of new ≡ 1 ∷ image_to mid n)) taken.1 opened.0 in
    opened_rests {G = g.D.Disk} old c.args.bytes.now w count generation history honest c.requires.going next mid prepared.1 at prepared.0 new says opened.1

pub returns-clause-text : goal.returns-clause-text
returns-clause-text g c = λ honest.
    let mid = c.prepare_image.new.self in
    let new = c.open_gate.new.self in
    let still = c.prepare_image.ensures.disk.honest.0 honest in
    let taken = c.in_ok-prepare_image.ensures.taken in
    let prepared = c.in_ok-prepare_image.ensures.prepared honest in
    let opened = c.in_ok-open_gate.ensures.opened still in
    let says = subst (λ (o : Option ℕ). IfSome o (λ n. text_of new ≡ 1 ∷ image_to mid n)) taken.1 opened.0 in
    says ∙ ap (λ (bytes : List ℕ). 1 ∷ bytes) prepared.0

pub returns-clause-current : goal.returns-clause-current
returns-clause-current g c = λ honest w count generation history next.
    let old = c.args.halves.now in
    let mid = c.prepare_image.new.self in
    let new = c.open_gate.new.self in
    let at = length c.args.bytes.now in
    let still = c.prepare_image.ensures.disk.honest.0 honest in
    let taken = c.in_ok-prepare_image.ensures.taken in
    let prepared = c.in_ok-prepare_image.ensures.prepared honest in
    let opened = c.in_ok-open_gate.ensures.opened still in
    let says = subst (λ (o : Option ℕ). IfSome o (λ n. text_of new ≡ 1 ∷ image_to mid n)) taken.1 opened.0 in
    opened_current {G = g.D.Disk} old c.args.bytes.now w count generation history honest c.requires.going next mid prepared.1 at prepared.0 new says
