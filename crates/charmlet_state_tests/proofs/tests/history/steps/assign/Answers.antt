use Rattle.std.proofs.Common.{rules, ◌≡◌, Bool, true, false, cond, Option, Some, None, ap, ◌∙◌, arith}
use Rattle.charmlet_model.specs.declared.kind_version.KindVersion.{KindVersion}
use Rattle.charmlet_model.specs.declared.kind_version.KindVersion.TheVariants as kind_versions
use Rattle.charmlet_model.specs.World.{version_of_array}
use Rattle.charmlet_model.specs.Core.{Assign, Core, next_core, present}
use Rattle.charmlet_world.specs.Waiting.{message_of}
use Rattle.charmlet_history.specs.Kept.{assigned_message, blank_of_move, core_in}
use Rattle.charmlet_state_tests.specs.Opening.{counter_at}
use Rattle.charmlet_state_tests.proofs.Outcomes.{plain_outcome}
use Rattle.charmlet_state_tests.proofs.tests.history.steps.assign.Goals as goal

chosen : (b : Bool) (kind_version : Option KindVersion) → cond b None kind_version ≡ Some kind_versions.Counter → kind_version ≡ Some kind_versions.Counter
chosen true kind_version h = absurd (let no : ⊥ = cc in no)
chosen false kind_version h = h

pub returns : goal.returns
returns c =
    let old = core_in c.args.history.now in
    let new = core_in c.assign.new.self in
    let m = message_of c.in-Some._id c.in-Some.pending_message.now in
    let is : assigned_message new c.args.processor ≡ Some m = search rules in
    let entry : m.entry ≡ 4 = omega arith in
    let array : m.to.array ≡ 0 = omega arith in
    let assigned : new ≡ next_core old (Assign c.args.processor c.args.id) = search rules in
    let blank : blank_of_move old (counter_at 0) 3 ≡ Some kind_versions.Counter = search rules in
    let kind_version : version_of_array (present new) m.to.array ≡ Some kind_versions.Counter =
    ap (λ (core : Core). version_of_array (present core) m.to.array) assigned ∙ ap (version_of_array (present old)) array ∙ chosen _ _ blank in
    record { outcome = λ _. plain_outcome new c.facts.ensures.sound c.args.processor m entry kind_version is }
