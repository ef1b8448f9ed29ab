use Rattle.charmlet_script.proofs.Limit.{text_is}
use Rattle.charmlet_script.proofs.reading.read_text.Goals as goal

pub returns-clause-reads : goal.returns-clause-reads
returns-clause-reads g c = text_is (g.R.Read.remaining c.args.reader.now) c.in_ok-text.text.items _ c.in_ok-text.ensures.reads c.in_ok-cut.ensures.text
