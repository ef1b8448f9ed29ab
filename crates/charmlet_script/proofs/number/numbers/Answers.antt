use Rattle.charmlet_script.proofs.Numbers.{numbers_go_on, numbers_end, numbers_done, with_front-nil}
use Rattle.charmlet_script.proofs.number.numbers.Goals as goal

pub loop-word-init : goal.loop-word-init
loop-word-init c = rw c.new-numbers.ensures.items (with_front-nil _)

pub returns-in_default : goal.returns-in_default
returns-in_default c =
    numbers_end (λ word. word.now) c.args.words.now c.loop-word.word-index _ c.loop-word.numbers.items _ c.loop-word-test.true c.u64_of.result c.u64_of.ensures c.in_default.is c.loop-word.invariant

pub loop-word-preserved : goal.loop-word-preserved
loop-word-preserved c =
    rw c.in_ok-push.ensures.items (numbers_go_on (λ word. word.now) c.args.words.now c.loop-word.word-index _ c.loop-word.numbers.items c.in-Some.number _ c.loop-word-test.true c.u64_of.result c.u64_of.ensures c.in-Some.is c.loop-word.invariant)

pub returns : goal.returns
returns c = rw c.new.ensures (numbers_done (λ word. word.now) c.args.words.now c.loop-word.word-index c.loop-word.numbers.items _ c.loop-word-test.false c.loop-word.invariant)
