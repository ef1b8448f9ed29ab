use Rattle.std.proofs.Common.{rules, ◌≡◌, ◌+◌, ap, ◌∙◌, arith}
use Rattle.charmlet_model.specs.Core.{Blanks}
use Rattle.charmlet_model.specs.declared.kind.Kind.{Kind}
use Rattle.charmlet_stock.specs.Stock.{blanks_in, supplied_to}
use Rattle.charmlet_parallel_replay.proofs.ImageLemmas.Empty.{none_supplied, none_there}
use Rattle.charmlet_parallel_replay.proofs.image.replayers.empty_replayer.Goals as goal

pub returns-in-Ok : goal.returns-in-Ok
returns-in-Ok g c = record {
  held = c.in-Ok.ensures.held;
  on = c.in-Ok.ensures.on;
  nothing = c.in-Ok.ensures.nothing;
  bare = λ kind. ap (λ (f : Blanks). f kind) c.in-Ok.ensures.supplied ∙ none_supplied c.new.result c.new.ensures.tally kind;
  spare = λ kind. ap (λ (f : Blanks). f kind) c.in-Ok.ensures.blanks ∙ none_there c.new.result c.new.ensures.tally kind;
  deliveries = search rules;
  tasks = search rules;
}
