use Rattle.std.proofs.Common.{◌≡◌, ℕ, min, List, length, take, refl, sym, ◌∙◌, ap, arith}
use Rattle.std.proofs.lemmas.List.{take_at, take_min, length-take}
use Rattle.charmlet_disk.specs.File.{File}
use Rattle.charmlet_halves.proofs.Quiet.{not_read, read_more}
use Rattle.charmlet_halves.proofs.half_bytes.read_start.Goals as goal

pub returns-in_err-length-clause-only_read : goal.returns-in_err-length-clause-only_read
returns-in_err-length-clause-only_read g c = λ honest.
    let laws = g.met.D.Disk g.world.𝓛 g.world.𝓜 g.world.𝓡 ((λ s x. x), (λ x. x), (λ x. x), (λ x. x)) in
    let old = c.args.disk.now in
    read_more g.D.Disk old old c.len.new.self (not_read g.D.Disk old (λ o left. laws.only_now old o honest left)) (c.len.ensures.same honest) (c.len.ensures.time honest)

pub returns-in_err-read_at-clause-only_read : goal.returns-in_err-read_at-clause-only_read
returns-in_err-read_at-clause-only_read g c = λ honest.
    let laws = g.met.D.Disk g.world.𝓛 g.world.𝓜 g.world.𝓡 ((λ s x. x), (λ x. x), (λ x. x), (λ x. x)) in
    let old = c.args.disk.now in
    let one = read_more g.D.Disk old old c.len.new.self (not_read g.D.Disk old (λ o left. laws.only_now old o honest left)) (c.len.ensures.same honest) (c.len.ensures.time honest) in
    let still = c.len.ensures.honest.0 honest in
    read_more g.D.Disk old c.len.new.self c.read_at.new.self one (c.read_at.ensures.same still) (c.read_at.ensures.time still)

pub returns-clause-only_read : goal.returns-clause-only_read
returns-clause-only_read g c = λ honest.
    let laws = g.met.D.Disk g.world.𝓛 g.world.𝓜 g.world.𝓡 ((λ s x. x), (λ x. x), (λ x. x), (λ x. x)) in
    let old = c.args.disk.now in
    let one = read_more g.D.Disk old old c.len.new.self (not_read g.D.Disk old (λ o left. laws.only_now old o honest left)) (c.len.ensures.same honest) (c.len.ensures.time honest) in
    let still = c.len.ensures.honest.0 honest in
    read_more g.D.Disk old c.len.new.self c.read_at.new.self one (c.read_at.ensures.same still) (c.read_at.ensures.time still)

pub returns-clause-read : goal.returns-clause-read
returns-clause-read g c = λ honest.
    let still = c.len.ensures.honest.0 honest in
    let size = c.min-size.result in
    let now : List ℕ = (g.D.Disk.file c.len.new.self c.args.half).now in
    let is_least : size ≡ min 25 (length now) = c.min-size.ensures ∙ ap (λ (n : ℕ). min 25 n) (c.in_ok-length.ensures.length honest ∙ ap (λ (f : File). length f.now) (sym (c.len.ensures.same honest c.args.half))) in
    let whole : length (take size c.args.start.now) ≡ size = omega (arith, length-take size c.args.start.now, is_least, c.fits-start) in
    let into : c.read_at.new.into ≡ take size now = c.in_ok-read_at.ensures.bytes still ∙ ap (λ (n : ℕ). take n now) whole in
    let long : length c.read_at.new.into ≡ size = omega (arith, ap (λ (l : List ℕ). length l) into, length-take size now, is_least) in
    take_at c.read_at.new.into _ size long ∙ into ∙ ap (λ (n : ℕ). take n now) is_least ∙ take_min 25 now ∙ ap (λ (f : File). take 25 f.now) (c.len.ensures.same honest c.args.half)
