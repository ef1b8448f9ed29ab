use Rattle.std.proofs.Common.{ap, inl, inr, ◌∷◌, [], refl}
use Rattle.charmlet_model.specs.World.{record_of}
use Rattle.charmlet_script.specs.Printed.{shown_text}
use Rattle.charmlet_engine.specs.Engine.{world_of}
use Rattle.charmlet_script_output.specs.Ledgers.{ledger_in}
use Rattle.charmlet_script_output.specs.Writing.{memory_text}
use Rattle.charmlet_cli.proofs.Showings.{is_some_unless}
use Rattle.charmlet_cli.proofs.inquiries.state_line.Goals as goal

pub returns-in_default-clause-prints : goal.returns-in_default-clause-prints
returns-in_default-clause-prints g c =
    let r = record_of (world_of c.args.engine.now) c.args.elem in
    let there = is_some_unless r.state (λ none. let ok = c.in_default.ensures.absent none in let never : ⊥ = cc in never) in
    (memory_text ∷ [], (memory_text, inr (there, refl), refl, ap ledger_in c.shown.ensures.same), c.write_memory_refused.ensures)

pub returns-clause-prints : goal.returns-clause-prints
returns-clause-prints g c =
    let text = shown_text c.in-Ok.shown in
    (text ∷ [], (text, inl c.in-Ok.ensures.ok, refl, ap ledger_in c.shown.ensures.same), c.write_line.ensures)
