use Rattle.std.proofs.Common.{List, [], inl, inr, map, refl, sym, subst}
use Rattle.charmlet_model.specs.Row.{no_client}
use Rattle.charmlet_leases.specs.Passes.Passes.{HeldPass}
use Rattle.charmlet_workers.specs.declared.work.WorkerSlot.{WorkerSlot}
use Rattle.charmlet_cli_workers.specs.Heard.{IsDoneBy}
use Rattle.charmlet_cli_workers.specs.Said.{Deeds}
use Rattle.charmlet_cli_workers.proofs.Asking.{nothing_done}
use Rattle.charmlet_cli_workers.proofs.opened.run_on.Goals as goal

pub returns-in-Err-clause-prints : goal.returns-in-Err-clause-prints
returns-in-Err-clause-prints g c =
    let lists = map (λ (s : WorkerSlot g.row.B.Denot). s.seat.ids) c.take_seats.new.slots.items in
    let first : Deeds = record { accepts = []; delivered = lists; knows = λ client. no_client } in
    let done = subst (λ (ps : List HeldPass). IsDoneBy ps lists first) (sym c.requires.passes) (nothing_done lists) in
    (first, first, (refl, c.in-Ok.ensures.new, λ client. refl), done, inl (refl, c.in-Err.ensures))

pub returns-in-Ok-run_lines-clause-prints : goal.returns-in-Ok-run_lines-clause-prints
returns-in-Ok-run_lines-clause-prints g c =
    let lists = map (λ (s : WorkerSlot g.row.B.Denot). s.seat.ids) c.take_seats.new.slots.items in
    let first : Deeds = record { accepts = []; delivered = lists; knows = λ client. no_client } in
    let done = subst (λ (ps : List HeldPass). IsDoneBy ps lists first) (sym c.requires.passes) (nothing_done lists) in
    let said = c.in-Ok-run_lines.ensures.said first done in
    (first, said.0, (refl, c.in-Ok.ensures.new, λ client. refl), said.1, g.W.Write.contents c.write_opening.new.writer, c.in_default-write_opening.ensures, said.2)

pub returns-in-Err-run_lines-clause-prints : goal.returns-in-Err-run_lines-clause-prints
returns-in-Err-run_lines-clause-prints g c =
    let lists = map (λ (s : WorkerSlot g.row.B.Denot). s.seat.ids) c.take_seats.new.slots.items in
    let first : Deeds = record { accepts = []; delivered = lists; knows = λ client. no_client } in
    let done = subst (λ (ps : List HeldPass). IsDoneBy ps lists first) (sym c.requires.passes) (nothing_done lists) in
    let cut = c.in-Err-run_lines.ensures.cut_off first done in
    (first, cut.0, (refl, c.in-Ok.ensures.new, λ client. refl), cut.1, inr (g.W.Write.contents c.write_opening.new.writer, c.in_default-write_opening.ensures, cut.2))
