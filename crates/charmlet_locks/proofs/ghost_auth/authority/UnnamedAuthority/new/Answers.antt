use Rattle.charmlet_locks.proofs.GhostAuthLemmas.Moves.{begins}
use Rattle.charmlet_locks.proofs.ghost_auth.authority.UnnamedAuthority.new.Goals as goal

pub of_words-requires : goal.of_words-requires
of_words-requires g c = begins
