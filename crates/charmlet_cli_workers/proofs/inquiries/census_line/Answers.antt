use Rattle.std.proofs.Common.{List, refl, subst, arith}
use Rattle.std.specs.List.{flat_map}
use Rattle.charmlet_script.specs.declared.printed.Counted.{Counted}
use Rattle.charmlet_script_output.specs.Writing.{in_lines, Writes}
use Rattle.charmlet_script_output.specs.Shown.{all_kinds, counted_texts}
use Rattle.charmlet_cli_workers.specs.Said.{counted_by}
use Rattle.charmlet_cli_workers.proofs.inquiries.census_line.Goals as goal

pub returns : goal.returns
returns g c =
    let census = c.census.result in
    let old = g.W.Write.contents c.args.writer.now in
    let new = g.W.Write.contents c.write_counts.new.writer in (
      flat_map (λ kind. counted_texts (counted_by census kind)) all_kinds,
      (census, c.census.ensures, c.count_each-counts.ensures.whole, refl),
      subst (λ (counts : List Counted). Writes c.write_counts.result old new (in_lines (flat_map counted_texts counts))) c.count_each-counts.ensures.counts c.write_counts.ensures,
    )

pub count_each-counts-requires : goal.count_each-counts-requires
count_each-counts-requires g c = λ kind. let all = c.census.ensures.was kind in omega (arith, all)
