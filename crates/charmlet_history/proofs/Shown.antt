-- What is kept is the present world.
use Rattle.std.proofs.Common.{ℕ, sym}
use Rattle.charmlet_model.specs.Core.{present}
use Rattle.charmlet_world.specs.Seen.{Seen, Shows}
use Rattle.charmlet_history.specs.Kept.{Kept, IsConsistent, core_in, seen_of}
use Rattle.charmlet_history.specs.Opened.{with_arrays}
use Rattle.charmlet_history.proofs.Assigning.{there_is}
use Rattle.charmlet_history.proofs.Consistency.{manifest_is}

pub shows : (k : Kept) → IsConsistent k → Shows (seen_of k) (present (core_in k))
shows k consistent = record {
  manifest = sym (manifest_is k);
  there = λ x. sym (there_is k consistent x);
  counts = consistent.counts;
  pending = consistent.pending;
  clients = consistent.clients;
}

-- another present world is kept, with so many promises
abbrev pub kept_with : Kept → Seen → ℕ → Kept
kept_with k s promised = record k {
  opening = with_arrays s.manifest k.opening;
  processors = s.processors;
  elements = s.elements;
  pending = s.pending;
  clients = s.clients;
  promised = promised;
}
