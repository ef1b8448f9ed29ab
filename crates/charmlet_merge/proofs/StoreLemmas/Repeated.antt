-- A store that opens with the world after a half's log.
use Rattle.std.proofs.Common.{◌≡◌, ◌+◌, sym, ap, subst, ◌∙◌}
use Rattle.charmlet_model.specs.Core.{Core}
use Rattle.charmlet_image.specs.declared.header.Header.{Header}
use Rattle.charmlet_recovery.specs.Blanks.{made}
use Rattle.charmlet_recovery.specs.Meanings.{Whole, meaning}
use Rattle.charmlet_recovery.specs.Recovered.{log_of}
use Rattle.charmlet_recovery.proofs.Values.{whole-from}
use Rattle.charmlet_store.specs.Store.{blanks_of}
use Rattle.charmlet_image.specs.Views.{image_said}
use Rattle.charmlet_replay.proofs.OpenHalves.{before_is, log_is}
use Rattle.charmlet_replay.specs.Places.{events_in}
use Rattle.charmlet_merge.specs.Store.Laws.{ReopenedIsRepeated}

pub is-repeated : ReopenedIsRepeated
is-repeated bytes s half processors given store is none ready core left =
    let its_image = image_said half.image in
    let its_log = events_in half.image.manifest half.log.rest.now in
    record {
      ready = ready;
      on = ap (λ (k : Core). k.processors) core;
      gives = (λ i. meaning (sym is.view.image i) (sym (before_is bytes s half is) i) (sym (log_is bytes s half is) i))
          ∙ whole-from its_image half.header.events its_log none
          ∙ (λ i. Whole ((sym core i).opening) ((sym core i).before));
      generation = ap (λ (k : Core). k.generation) core ∙ ap (λ (h : Header). h.generation) is.view.header;
      log_end = ap (λ (k : Core). k.log_end) core ∙ is.view.ends;
      left = λ kind.
          subst (λ m. blanks_of store kind + made m (log_of s) kind ≡ given kind) is.view.image
          (subst (λ ls. blanks_of store kind + made its_image ls kind ≡ given kind) (log_is bytes s half is) (left kind));
    }
