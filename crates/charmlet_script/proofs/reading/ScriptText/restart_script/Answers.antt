use Rattle.charmlet_script.proofs.Limit.{few_lines}
use Rattle.charmlet_script.proofs.reading.ScriptText.restart_script.Goals as goal

pub read_restart_lines-requires : goal.read_restart_lines-requires
read_restart_lines-requires c =
    few_lines (λ line. line.now) c.deref.result.now c.deref-2.result.now (rw c.deref-2.ensures.value c.in_ok-lines.ensures) (rw c.deref.ensures.value c.args.self.now.length)
