use Rattle.std.proofs.Common.{◌≡◌, ℕ, List, length, take, refl, sym, ◌∙◌, ap, arith}
use Rattle.std.proofs.lemmas.List.{take_at, take_all}
use Rattle.charmlet_disk.specs.File.{File}
use Rattle.charmlet_halves.proofs.Quiet.{not_read, read_more}
use Rattle.charmlet_halves.proofs.half_bytes.read_whole.Goals as goal

pub returns-in_err-length-clause-only_read : goal.returns-in_err-length-clause-only_read
returns-in_err-length-clause-only_read g c = λ honest.
    let laws = g.met.D.Disk g.world.𝓛 g.world.𝓜 g.world.𝓡 ((λ s x. x), (λ x. x), (λ x. x), (λ x. x)) in
    let old = c.args.disk.now in
    read_more g.D.Disk old old c.len.new.self (not_read g.D.Disk old (λ o left. laws.only_now old o honest left)) (c.len.ensures.same honest) (c.len.ensures.time honest)

pub returns-in_err-resize-clause-only_read : goal.returns-in_err-resize-clause-only_read
returns-in_err-resize-clause-only_read g c = λ honest.
    let laws = g.met.D.Disk g.world.𝓛 g.world.𝓜 g.world.𝓡 ((λ s x. x), (λ x. x), (λ x. x), (λ x. x)) in
    let old = c.args.disk.now in
    read_more g.D.Disk old old c.len.new.self (not_read g.D.Disk old (λ o left. laws.only_now old o honest left)) (c.len.ensures.same honest) (c.len.ensures.time honest)

pub returns-in_err-read_at-clause-only_read : goal.returns-in_err-read_at-clause-only_read
returns-in_err-read_at-clause-only_read g c = λ honest.
    let laws = g.met.D.Disk g.world.𝓛 g.world.𝓜 g.world.𝓡 ((λ s x. x), (λ x. x), (λ x. x), (λ x. x)) in
    let old = c.args.disk.now in
    let one = read_more g.D.Disk old old c.len.new.self (not_read g.D.Disk old (λ o left. laws.only_now old o honest left)) (c.len.ensures.same honest) (c.len.ensures.time honest) in
    let still = c.len.ensures.honest.0 honest in
    read_more g.D.Disk old c.len.new.self c.read_at.new.self one (c.read_at.ensures.same still) (c.read_at.ensures.time still)

pub returns-clause-only_read : goal.returns-clause-only_read
returns-clause-only_read g c = λ honest.
    let laws = g.met.D.Disk g.world.𝓛 g.world.𝓜 g.world.𝓡 ((λ s x. x), (λ x. x), (λ x. x), (λ x. x)) in
    let old = c.args.disk.now in
    let one = read_more g.D.Disk old old c.len.new.self (not_read g.D.Disk old (λ o left. laws.only_now old o honest left)) (c.len.ensures.same honest) (c.len.ensures.time honest) in
    let still = c.len.ensures.honest.0 honest in
    read_more g.D.Disk old c.len.new.self c.read_at.new.self one (c.read_at.ensures.same still) (c.read_at.ensures.time still)

pub returns-clause-read : goal.returns-clause-read
returns-clause-read g c = λ honest.
    let still = c.len.ensures.honest.0 honest in
    let now : List ℕ = (g.D.Disk.file c.len.new.self c.args.half).now in
    let same = c.len.ensures.same honest c.args.half in
    let size = c.in_ok-length.length in
    let whole : size ≡ length now = c.in_ok-length.ensures.length honest ∙ ap (λ (f : File). length f.now) (sym same) in
    let room : length c.as_mut_slice.result.now ≡ size = omega (arith, c.as_mut_slice.ensures.len, c.in_ok-resize.ensures.len) in
    let into : c.read_at.new.into ≡ now = c.in_ok-read_at.ensures.bytes still ∙ ap (λ (n : ℕ). take n now) room ∙ take_all size now (omega (arith, whole)) in
    let long : length c.read_at.new.into ≡ c.resize.new.self.len = omega (arith, ap (λ (l : List ℕ). length l) into, whole, c.in_ok-resize.ensures.len) in
    take_at c.read_at.new.into _ c.resize.new.self.len long ∙ into ∙ ap (λ (f : File). f.now) same
