use Rattle.charmlet_script.proofs.Limit.{few_lines}
use Rattle.charmlet_script.proofs.reading.ScriptText.script.Goals as goal

pub read_lines-requires : goal.read_lines-requires
read_lines-requires c =
    few_lines (λ line. line.now) c.deref.result.now c.deref-2.result.now (rw c.deref-2.ensures.value c.in_ok-lines.ensures) (rw c.deref.ensures.value c.args.self.now.length)
