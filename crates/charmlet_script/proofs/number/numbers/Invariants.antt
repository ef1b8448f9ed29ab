use Rattle.std.proofs.Common.{◌≡◌, drop, map}
use Rattle.charmlet_script.specs.Line.{numbers_of}
use Rattle.charmlet_script.proofs.Numbers.{with_front}
use Rattle.charmlet_script.proofs.number.numbers.Given as goal

-- the numbers so far and those that are left are all of them
abbrev pub invariant-loop-word : goal.invariant-loop-word
invariant-loop-word l =
    with_front l.numbers.items (numbers_of (map (λ word. word.now) (drop l.word-index l.words))) ≡ numbers_of (map (λ word. word.now) l.words)
