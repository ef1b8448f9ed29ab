use Rattle.charmlet_recovery.proofs.Writing.{legal_histories_part, legal_histories_join}
use Rattle.charmlet_recovery.proofs.laws.legal_histories_have_parts.Goals as goal

pub returns : goal.returns
returns c = record { part = legal_histories_part; join = legal_histories_join }
