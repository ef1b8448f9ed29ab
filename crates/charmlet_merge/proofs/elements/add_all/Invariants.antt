use Rattle.std.proofs.Common.{◌≡◌}
use Rattle.charmlet_model.specs.Names.{elem_cmp}
use Rattle.charmlet_world.specs.Made.{as_it_is, with_made}
use Rattle.charmlet_merge.proofs.elements.add_all.Given as goal

-- what is left brings the elements to their end
abbrev pub invariant-loop-elem : goal.invariant-loop-elem
invariant-loop-elem l = with_made elem_cmp as_it_is l.elements.entries l.elem-iterator ≡ with_made elem_cmp as_it_is l.fn.elements.entries l.fn.more.entries
