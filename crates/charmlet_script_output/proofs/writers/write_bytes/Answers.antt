use Rattle.std.proofs.Common.{◌≡◌, ℕ, List, ◌++◌, [], length, drop, sym, ap, subst, ◌∙◌, Bor}
use Rattle.std.specs.Io.KnownBytes.{Appends}
use Rattle.std.proofs.lemmas.Bool.{eqb-true}
use Rattle.std.proofs.lemmas.List.{append-nil, nil_from_length}
use Rattle.charmlet_script_output.proofs.Printing.{appends_kept, more_written, rest_dropped}
use Rattle.charmlet_script_output.proofs.writers.write_bytes.Goals as goal
use Rattle.charmlet_script_output.proofs.writers.write_bytes.Goals.{in-Ok, in-Err}

pub returns-then-is_empty : goal.returns-then-is_empty
returns-then-is_empty g c =
    let old = g.W.Write.contents c.args.writer.now in
    let mid = g.W.Write.contents c.loop.writer in
    let bytes = c.args.bytes.now in
    let written = c.loop.invariant.0 in
    let none : c.loop.rest.now ≡ [] = nil_from_length c.loop.rest.now (eqb-true (length c.loop.rest.now) 0 (sym c.is_empty.ensures ∙ c.if-is_empty.true)) in
    let whole : bytes ≡ written = c.loop.invariant.1 ∙ ap (λ rest. written ++ rest) none ∙ append-nil written in
    subst (Appends old mid) (sym whole) c.loop.invariant.2

pub loop-preserved : goal.loop-preserved
loop-preserved g c =
    elim c.match-write.branch [
      | in-Ok w ↦
          let dropped : c.match-write.rest.now ≡ drop w.in-Ok.count c.loop.rest.now = ap (λ (rest : Bor (List ℕ)). rest.now) w.rest-is ∙ rest_dropped w.in-Ok.count c.loop.rest.now in
          more_written (g.W.Write.contents c.args.writer.now) (g.W.Write.contents c.loop.writer) (g.W.Write.contents c.write.new.self) c.args.bytes.now
          c.loop.invariant.0 c.loop.rest.now c.match-write.rest.now w.in-Ok.count c.loop.invariant.1 c.loop.invariant.2 w.in-Ok.ensures.bytes dropped
      | in-Err w ↦ (
        c.loop.invariant.0,
        c.loop.invariant.1 ∙ ap (λ (rest : Bor (List ℕ)). c.loop.invariant.0 ++ rest.now) (sym w.rest-is),
        appends_kept (g.W.Write.contents c.args.writer.now) (g.W.Write.contents c.loop.writer) (g.W.Write.contents c.write.new.self) c.loop.invariant.0 c.loop.invariant.2 w.in-Err.ensures.bytes,
      )
    ]
