use Rattle.std.proofs.Common.{arith}
use Rattle.std.proofs.lemmas.Option.{slice_get_within}
use Rattle.charmlet_world.specs.Waiting.{seqs}
use Rattle.charmlet_world.proofs.Climbing.{after_this, length_seqs}
use Rattle.charmlet_world.proofs.pending.end_of.Goals as goal

pub overflow_add-result : goal.overflow_add-result
overflow_add-result c =
    let es = c.args.envelopes.now.entries in
    let within = slice_get_within (seqs es) c.in-Some.place c.args.number c.in-Some.ensures.found in
    let len = length_seqs es in
    omega (arith, within, len, c.len-len.ensures.len, c.len-len.ensures.small)

pub returns-in-Some : goal.returns-in-Some
returns-in-Some c = after_this (seqs c.args.envelopes.now.entries) c.in-Some.place c.args.number c.requires c.in-Some.ensures.found
