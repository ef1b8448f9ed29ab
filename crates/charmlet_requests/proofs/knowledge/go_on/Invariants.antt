use Rattle.std.proofs.Common.{◌≡◌, ◌-◌}
use Rattle.charmlet_requests.specs.Knowing.{IsWindowed, gone_on}
use Rattle.charmlet_requests.proofs.knowledge.go_on.Given as goal

abbrev pub invariant-loop-last : goal.invariant-loop-last
invariant-loop-last l =
    (gone_on l.row (l.number - l.last) ≡ gone_on l.initial.row (l.number - l.initial.row.last)) × (l.row.last ≡ l.last) × IsWindowed l.row
