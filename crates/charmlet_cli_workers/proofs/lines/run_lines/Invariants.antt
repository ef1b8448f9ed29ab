use Rattle.std.proofs.Common.{◌≡◌, ◌≤◌, drop, map, take}
use Rattle.charmlet_model.specs.declared.kind.Kind.{Kind}
use Rattle.charmlet_script.specs.Script.{blanks_of}
use Rattle.charmlet_stock.specs.Stock.{blanks_in}
use Rattle.charmlet_workers.specs.declared.work.WorkerSlot.{WorkerSlot}
use Rattle.charmlet_cli_workers.specs.Heard.{AreTidy, IsDoneBy, known_by, names_in}
use Rattle.charmlet_cli_workers.specs.Said.{AreSaid, Deeds}
use Rattle.charmlet_cli_workers.proofs.lines.run_lines.Given as goal

-- the lines so far have printed their texts and done what passes and seats hold, and there are
-- objects for the others
abbrev pub invariant-loop-line : goal.invariant-loop-line
invariant-loop-line g l =
    ((first : Deeds) → IsDoneBy l.initial.floor.clients.passes.items (map (λ (s : WorkerSlot g.row.B.Denot). s.seat.ids) l.initial.floor.slots.items) first →
    (last : Deeds) × IsDoneBy l.floor.clients.passes.items (map (λ (s : WorkerSlot g.row.B.Denot). s.seat.ids) l.floor.slots.items) last
    × AreSaid (known_by l.runtime (names_in l.initial.floor.handlers) l.floor.clients.passes.items) first (take l.line-index l.lines) last (g.W.Write.contents l.initial.writer) (g.W.Write.contents l.writer))
    × ((kind : Kind) → blanks_of kind (drop l.line-index l.lines) ≤ blanks_in l.floor.source kind)
    × AreTidy l.floor.clients.passes.items l.floor.clients.places.entries
    × (l.floor.seats ≡ l.initial.floor.seats)
    × (l.floor.handlers ≡ l.initial.floor.handlers)
