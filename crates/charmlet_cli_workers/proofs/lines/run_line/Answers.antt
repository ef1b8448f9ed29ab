use Rattle.std.proofs.Common.{rules, ◌≡◌, ◌≤◌, List, [], ◌∷◌, ◌++◌, arith, cond, drop, length, take, map, refl, sym, ap, subst, ◌∙◌}
use Rattle.std.specs.Cmp.{nat_eq_equiv}
use Rattle.std.proofs.lemmas.List.{append-nil, drop_all, take_all}
use Rattle.charmlet_model.specs.declared.step.Answer.{Answer}
use Rattle.charmlet_model.specs.declared.step.Step.TheVariants as steps
use Rattle.charmlet_model.specs.Kind.{kind_number}
use Rattle.charmlet_model.specs.Texts.{Text, answer_text}
use Rattle.charmlet_requests.specs.Handlers.{IsTarget}
use Rattle.charmlet_script.specs.declared.script.Line.{Line}
use Rattle.charmlet_script.specs.declared.script.Line.TheVariants as lines
use Rattle.charmlet_script.specs.Script.{blanks_in as supplied_by}
use Rattle.charmlet_stock.specs.Stock.{blanks_in}
use Rattle.charmlet_workers.specs.declared.work.WorkerSlot.{WorkerSlot}
use Rattle.charmlet_cli_workers.specs.Heard.{known_by, names_in}
use Rattle.charmlet_cli_workers.specs.Said.{Answers, Says}
use Rattle.charmlet_cli_workers.proofs.Hearing.{same_passes}
use Rattle.charmlet_cli_workers.proofs.lines.run_line.Goals as goal

pub supply_line-requires-clause-enough : goal.supply_line-requires-clause-enough
supply_line-requires-clause-enough g c κs within =
    let kind = c.in-Supply.kind in
    let part : supplied_by kind c.args.line.now ≡ c.in-Supply.count = ap (supplied_by kind) c.in-Supply.is ∙ ap (λ b. cond b c.in-Supply.count 0) (nat_eq_equiv.refl (kind_number kind)) in
    subst (λ n. n ≤ blanks_in c.args.floor.now.source kind) part (c.requires.enough kind)

pub returns-in-Supply-clause-later : goal.returns-in-Supply-clause-later
returns-in-Supply-clause-later g c = same_passes c.args.floor.now.clients.passes.items

pub returns-in-Drain-clause-later : goal.returns-in-Drain-clause-later
returns-in-Drain-clause-later g c = same_passes c.args.floor.now.clients.passes.items

pub returns-in-State-clause-later : goal.returns-in-State-clause-later
returns-in-State-clause-later g c = same_passes c.args.floor.now.clients.passes.items

pub returns-in-Pending-clause-later : goal.returns-in-Pending-clause-later
returns-in-Pending-clause-later g c = same_passes c.args.floor.now.clients.passes.items

pub returns-in-Census-clause-later : goal.returns-in-Census-clause-later
returns-in-Census-clause-later g c = same_passes c.args.floor.now.clients.passes.items

pub returns-in-Supply-clause-said : goal.returns-in-Supply-clause-said
returns-in-Supply-clause-said g c = λ before done.
    let clients = known_by c.args.runtime.now (names_in c.args.floor.now.handlers) c.args.floor.now.clients.passes.items in
    let written = c.supply_line.ensures.written in
    (before, done, (written.0, subst (λ (line : Line). Says clients before line written.0 before) (sym c.in-Supply.is) (written.1, refl), written.2))

pub returns-in-State-clause-said : goal.returns-in-State-clause-said
returns-in-State-clause-said g c = λ before done.
    let clients = known_by c.args.runtime.now (names_in c.args.floor.now.handlers) c.args.floor.now.clients.passes.items in
    let written = c.state_line.ensures in
    (before, done, (written.0, subst (λ (line : Line). Says clients before line written.0 before) (sym c.in-State.is) (written.1, refl), written.2))

pub returns-in-Pending-clause-said : goal.returns-in-Pending-clause-said
returns-in-Pending-clause-said g c = λ before done.
    let clients = known_by c.args.runtime.now (names_in c.args.floor.now.handlers) c.args.floor.now.clients.passes.items in
    let written = c.pending_line.ensures in
    (before, done, (written.0, subst (λ (line : Line). Says clients before line written.0 before) (sym c.in-Pending.is) (written.1, refl), written.2))

pub returns-in-Census-clause-said : goal.returns-in-Census-clause-said
returns-in-Census-clause-said g c = λ before done.
    let clients = known_by c.args.runtime.now (names_in c.args.floor.now.handlers) c.args.floor.now.clients.passes.items in
    let written = c.census_line.ensures in
    (before, done, (written.0, subst (λ (line : Line). Says clients before line written.0 before) (sym c.in-Census.is) (written.1, refl), written.2))

pub returns-in-Drain-clause-said : goal.returns-in-Drain-clause-said
returns-in-Drain-clause-said g c = λ before done.
    let clients = known_by c.args.runtime.now (names_in c.args.floor.now.handlers) c.args.floor.now.clients.passes.items in
    let lent : c.as_mut_slice-slots.result.now ≡ c.args.floor.now.slots.items = search rules in
    let ids : before.delivered ≡ map (λ (s : WorkerSlot g.row.B.Denot). s.seat.ids) c.as_mut_slice-slots.result.now = done.delivered ∙ ap (λ ss. map (λ (s : WorkerSlot g.row.B.Denot). s.seat.ids) ss) (sym lent) in
    let written = c.drain_line.ensures (names_in c.args.floor.now.handlers) c.args.floor.now.clients.passes.items before ids in
    let items = c.args.floor.now.slots.items in
    let new = c.drain_line.new.slots in
    let long : c.args.floor.now.slots.len ≡ length items = search rules in
    let same : length new ≡ length items = omega (arith, c.drain_line.auto.slots, ap length lent) in
    let whole : take c.args.floor.now.slots.len (new ++ drop (length new) items) ≡ new =
    ap (λ ss. take c.args.floor.now.slots.len (new ++ ss)) (drop_all (length new) items (omega (arith, same))) ∙ ap (take c.args.floor.now.slots.len) (append-nil new) ∙ take_all c.args.floor.now.slots.len new (omega (arith, same, long)) in
    let after = record before { delivered = map (λ (s : WorkerSlot g.row.B.Denot). s.seat.ids) c.drain_line.new.slots } in
    (after, (record { accepts = done.accepts; delivered = ap (λ ss. map (λ (s : WorkerSlot g.row.B.Denot). s.seat.ids) ss) (sym whole); knows = done.knows }), (written.0, subst (λ (line : Line). Says clients before line written.0 after) (sym c.in-Drain.is) written.1, written.2))

pub returns-in-Call-clause-said : goal.returns-in-Call-clause-said
returns-in-Call-clause-said g c = λ before done.
    let old = c.args.floor.now.clients.passes.items in
    let new = c.call_handler-told.new.clients.passes.items in
    let clients = known_by c.args.runtime.now (names_in c.args.floor.now.handlers) new in
    let lists = map (λ (s : WorkerSlot g.row.B.Denot). s.seat.ids) c.args.floor.now.slots.items in
    let call = c.in-Call in
    let words : c.as_slice.result.now ≡ call.words = c.as_slice.ensures in
    let did = c.call_handler-told.ensures.did lists before done in
    let after = did.0 in
    let texts = answer_text c.told_answer.result ∷ [] in
    let target = subst (λ (name : Text). IsTarget c.args.runtime.now.opening call.index (names_in c.args.floor.now.handlers name) (record { array = did.1; index = call.index }) did.2) c.as_str.ensures did.4 in
    let answers = subst (λ (a : Answer). Answers clients before a (steps.Request call.client call.number (record { array = did.1; index = call.index }) did.2 c.as_slice.result.now) after) (sym c.told_answer.ensures) did.5 in
    let said = subst (λ (ws : List _). Says clients before (lines.Call call.client call.number call.name call.index ws) texts after) words (did.1, did.2, target, (c.told_answer.result, answers, refl)) in
    (after, did.3, (texts, subst (λ (line : Line). Says clients before line texts after) (sym call.is) said, c.write_answer.ensures))

pub returns-in-Step-clause-said : goal.returns-in-Step-clause-said
returns-in-Step-clause-said g c = λ before done.
    let clients = known_by c.args.runtime.now (names_in c.args.floor.now.handlers) c.answer_to-answer.new.clients.passes.items in
    let lists = map (λ (s : WorkerSlot g.row.B.Denot). s.seat.ids) c.args.floor.now.slots.items in
    let did = c.answer_to-answer.ensures.answers (names_in c.args.floor.now.handlers) lists before done in
    let texts = answer_text c.answer_to-answer.result ∷ [] in (
      did.0,
      did.1,
      (texts, subst (λ (line : Line). Says clients before line texts did.0) (sym c.in-Step.is) (c.answer_to-answer.result, did.2, refl), c.write_step_answer.ensures),
    )
