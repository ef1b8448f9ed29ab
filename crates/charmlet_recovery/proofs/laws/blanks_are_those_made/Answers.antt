use Rattle.charmlet_recovery.proofs.Good.{image-good, log-events}
use Rattle.charmlet_recovery.proofs.BlankLogs.{blanks-made}
use Rattle.charmlet_recovery.proofs.BlankPrefixes.{catch-up-suffices, events-suffice}
use Rattle.charmlet_recovery.proofs.BlankNext.{catch-up-next, log-next}
use Rattle.charmlet_recovery.proofs.laws.blanks_are_those_made.Goals as goal

pub returns : goal.returns
returns c = record {
  made = λ mark image before log kind is room each none. blanks-made image before log kind (image-good mark image is) (log-events image.manifest log each) none;
  suffice = λ mark image before log kind.
      (catch-up-suffices image log kind, λ i is each. events-suffice image before log kind i (image-good mark image is) (log-events image.manifest log each));
  next = λ mark image before kind.
      (catch-up-next image kind, λ earlier later id received sends m is each. log-next image before kind earlier later id received sends m (image-good mark image is) (log-events image.manifest earlier each));
}
