-- The ids that a scan knows: those that were given are no new ones.
use Rattle.std.specs.Prelude.{ℕ, ◌≤◌}
use Rattle.std.specs.List.{AllByRecursion}
use Rattle.charmlet_model.specs.declared.names.Origin.{Origin}
use Rattle.charmlet_model.specs.declared.names.Origin.TheVariants.{Client, Element}
use Rattle.charmlet_model.specs.World.{row_of}
use Rattle.charmlet_recovery.specs.Replays.{LogScan, sent_at}

-- the greatest number that the origin has given a message
abbrev pub given_by : LogScan → Origin → ℕ
given_by scan (Element x) = sent_at scan.sent x
given_by scan (Client c) = (row_of scan.clients c).last

-- each pending message has a number that its origin has given
abbrev pub AreGiven : LogScan → Type 0
AreGiven scan = AllByRecursion (λ m. m.id.number ≤ given_by scan m.id.origin) scan.pending
