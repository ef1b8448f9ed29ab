use Rattle.std.proofs.Common.{refl}
use Rattle.charmlet_script.specs.Reading.{restart_lines_spell}
use Rattle.charmlet_script.proofs.Limit.{spelled_is}
use Rattle.charmlet_script.proofs.reading.read_restart_script.Goals as goal

pub returns-clause-reads : goal.returns-clause-reads
returns-clause-reads g c = spelled_is (restart_lines_spell c.args.runner) (g.R.Read.remaining c.args.reader.now) c.in_ok-read.field-0.bytes.items _ _
    c.in_ok-read.ensures.reads refl c.restart_script.ensures.reads
