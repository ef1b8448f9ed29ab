use Rattle.std.proofs.Common.{List, refl, subst}
use Rattle.std.specs.List.{flat_map}
use Rattle.charmlet_script.specs.declared.printed.Counted.{Counted}
use Rattle.charmlet_store.specs.Census.{census_in}
use Rattle.charmlet_script_output.specs.Writing.{in_lines, Writes}
use Rattle.charmlet_script_output.specs.Shown.{all_kinds, counted_of, counted_texts}
use Rattle.charmlet_cli.proofs.inquiries.census_line.Goals as goal

pub returns : goal.returns
returns g c =
    let engine = c.args.engine.now in
    let old = g.W.Write.contents c.args.writer.now in
    let new = g.W.Write.contents c.write_counts.new.writer in (
      flat_map (λ kind. counted_texts (counted_of engine kind)) all_kinds,
      ((λ kind. (census_in engine.store kind).retired, c.count_each-counts.ensures.whole, refl), refl),
      subst (λ (counts : List Counted). Writes c.write_counts.result old new (in_lines (flat_map counted_texts counts))) c.count_each-counts.ensures.counts c.write_counts.ensures,
    )
