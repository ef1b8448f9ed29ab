use Rattle.std.proofs.Common.{rules, ◌≡◌, ◌+◌, inr, List, map, refl, ap, subst, ◌∙◌}
use Rattle.std.specs.Prelude.{Err}
use Rattle.charmlet_model.specs.World.{World}
use Rattle.charmlet_image.specs.declared.entries.Entry.{Entry}
use Rattle.charmlet_image.specs.Images.{Image}
use Rattle.charmlet_image.specs.Views.{entry_said, image_said}
use Rattle.charmlet_record.specs.declared.reader.ReadError.TheVariants as errors
use Rattle.charmlet_recovery.specs.Bases.{base}
use Rattle.charmlet_recovery.specs.Blanks.{made_by_catch_up, wanted_by_records}
use Rattle.charmlet_world.specs.declared.element.Element.{Element}
use Rattle.charmlet_world.specs.Seen.{element_at}
use Rattle.charmlet_stock.specs.Stock.{blanks_in}
use Rattle.charmlet_replay.specs.Counted.{IsCountedWith}
use Rattle.charmlet_shard.specs.RestoredShard.{AreRedelivered}
use Rattle.charmlet_shard.proofs.Redelivered.{known_element}
use Rattle.charmlet_replay.proofs.replayed.bring_image_back.Goals as goal

pub returns-in_err-waiting-clause-fault : goal.returns-in_err-waiting-clause-fault
returns-in_err-waiting-clause-fault g c = λ fault is.
    let image : Image = image_said c.args.image in
    let w : World = base image in
    let done : AreRedelivered image.manifest image.records image.caught_up c.bring_back.new.restored =
    subst (λ (es : List Entry). AreRedelivered image.manifest (map (entry_said image.manifest) es) image.caught_up c.bring_back.new.restored) c.as_slice.ensures.value c.in_ok-bring_back.ensures.ok in
    let waits : IsCountedWith w c.bring_back.new.restored.elements.entries c.args.image.clients.items = record {
      clients = refl;
      sent = λ x. ap (λ (e : Element). e.sent) (ap (λ es. element_at es x) done.restored.elements ∙ known_element c.bring_back.new.restored.processors w.records x);
    } in
    let failed : c.waiting_of.result ≡ Err (errors.Damaged fault) = search rules in
    inr (done.pass, c.waiting_of.ensures.fault w waits fault failed)

pub returns-clause-ok : goal.returns-clause-ok
returns-clause-ok g c =
    let image : Image = image_said c.args.image in
    let w : World = base image in
    let done : AreRedelivered image.manifest image.records image.caught_up c.bring_back.new.restored =
    subst (λ (es : List Entry). AreRedelivered image.manifest (map (entry_said image.manifest) es) image.caught_up c.bring_back.new.restored) c.as_slice.ensures.value c.in_ok-bring_back.ensures.ok in
    let waits : IsCountedWith w c.bring_back.new.restored.elements.entries c.args.image.clients.items = record {
      clients = refl;
      sent = λ x. ap (λ (e : Element). e.sent) (ap (λ es. element_at es x) done.restored.elements ∙ known_element c.bring_back.new.restored.processors w.records x);
    } in
    record {
      restored = done.restored;
      caught_up = done.pass;
      was_sent = c.in_ok-waiting.ensures.ok w waits;
      pending = c.in_ok-waiting.ensures.pending;
      clients = c.in_ok-waiting.ensures.clients;
      taken = λ kind.
          subst (λ (es : List Entry). blanks_in c.bring_back.new.restored.stock kind + wanted_by_records image.manifest kind (map (entry_said image.manifest) es)
          + made_by_catch_up image.manifest kind (map (entry_said image.manifest) es) image.caught_up ≡ blanks_in c.args.restored.now.stock kind) c.as_slice.ensures.value (c.in_ok-bring_back.ensures.blanks kind);
    }
