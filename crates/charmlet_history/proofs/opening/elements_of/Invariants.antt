use Rattle.std.proofs.Common.{◌≡◌, drop, []}
use Rattle.charmlet_history.specs.Opened.{with_elements}
use Rattle.charmlet_history.proofs.opening.elements_of.Given as goal

-- what is left brings the elements to their end
abbrev pub invariant-loop-elem : goal.invariant-loop-elem
invariant-loop-elem l = with_elements l.processors l.elements.entries (drop l.elem-index l.records) ≡ with_elements l.processors [] l.records
