use Rattle.std.proofs.Common.{◌≡◌}
use Rattle.charmlet_model.specs.declared.kind.Kind.{Kind}
use Rattle.charmlet_model.specs.declared.kind.Kind.TheVariants as kinds
use Rattle.charmlet_history.specs.Kept.{core_in}
use Rattle.charmlet_history.specs.Wanting.{wanted_in}
use Rattle.charmlet_recover.specs.Wanted.{blanks_in}
use Rattle.charmlet_engine.proofs.constructions.constructions_in.Goals as goal

-- what holds of each kind holds of all
by_kind : (P : Kind → Type 0) → P kinds.Counter → P kinds.Ring → P kinds.Account → P kinds.Sum → P kinds.Tree → P kinds.Tape → (kind : Kind) → P kind
by_kind P counter ring account total tree tape kinds.Counter = counter
by_kind P counter ring account total tree tape kinds.Ring = ring
by_kind P counter ring account total tree tape kinds.Account = account
by_kind P counter ring account total tree tape kinds.Sum = total
by_kind P counter ring account total tree tape kinds.Tree = tree
by_kind P counter ring account total tree tape kinds.Tape = tape

pub returns : goal.returns
returns c =
    by_kind
    (λ kind. blanks_in (record { counters = c.wanted_blanks.result; rings = c.wanted_blanks-2.result; accounts = c.wanted_blanks-3.result; sums = c.wanted_blanks-4.result; trees = c.wanted_blanks-5.result; tapes = c.wanted_blanks-6.result }) kind ≡ wanted_in (core_in c.args.history.now) kind)
    c.wanted_blanks.ensures c.wanted_blanks-2.ensures c.wanted_blanks-3.ensures c.wanted_blanks-4.ensures c.wanted_blanks-5.ensures c.wanted_blanks-6.ensures
