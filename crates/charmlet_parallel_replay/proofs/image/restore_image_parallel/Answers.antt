use Rattle.std.proofs.Common.{rules, ◌≡◌, inl, inr, List, length, map, subst}
use Rattle.std.specs.Prelude.{Err}
use Rattle.charmlet_image.specs.declared.entries.Entry.{Entry}
use Rattle.charmlet_image.specs.Images.{Image}
use Rattle.charmlet_image.specs.Positioned.{items_of}
use Rattle.charmlet_image.specs.Views.{entry_said, image_said}
use Rattle.charmlet_record.specs.declared.reader.ReadError.TheVariants.{Damaged}
use Rattle.charmlet_recovery.specs.Bases.{base, redelivered_all}
use Rattle.charmlet_recovery.specs.Faults.{catch_up_tests}
use Rattle.charmlet_stock.specs.Stock.{blanks_in}
use Rattle.charmlet_history.specs.Opened.{opened_elements}
use Rattle.charmlet_replay.specs.Places.{IsFirstFault}
use Rattle.charmlet_replayers.specs.Dispatch.Sharing.{worker_of}
use Rattle.charmlet_parallel_replay.specs.Image.ImageRestored.{AreCaughtUp}
use Rattle.charmlet_parallel_replay.proofs.image.restore_image_parallel.Goals as goal

pub returns-in_err-elements-clause-fault : goal.returns-in_err-elements-clause-fault
returns-in_err-elements-clause-fault g c = λ fault is.
    let image : Image = image_said c.args.image in
    let failed : c.bring_back.result ≡ Err (Damaged fault) = search rules in
    inl (subst (λ (es : List Entry). IsFirstFault (catch_up_tests image.manifest (map (entry_said image.manifest) es) image.caught_up) c.args.image.caught_up.items fault.bytes_left) c.as_slice.ensures.value (c.bring_back.ensures.fault fault failed))

pub world_of-requires-clause-rising : goal.world_of-requires-clause-rising
world_of-requires-clause-rising g c = c.requires.blanks.good.clients.rising

pub world_of-requires-clause-distinct : goal.world_of-requires-clause-distinct
world_of-requires-clause-distinct g c = c.requires.blanks.good.pending.distinct

pub returns-in_err-world-clause-fault : goal.returns-in_err-world-clause-fault
returns-in_err-world-clause-fault g c = λ fault is.
    let n = c.args.processors in
    let image : Image = image_said c.args.image in
    let are : c.in_ok-elements.elements.entries ≡ opened_elements n (base image).records =
    subst (λ (es : List Entry). c.in_ok-elements.elements.entries ≡ opened_elements n (redelivered_all image.manifest (map (entry_said image.manifest) es) image.caught_up)) c.as_slice.ensures.value c.in_ok-elements.ensures.elements in
    let done : AreCaughtUp (worker_of n (length c.args.replayers.now)) image.manifest image.records image.caught_up n (blanks_in c.args.stock.now) (blanks_in c.bring_back.new.stock) c.bring_back.new.replayers =
    subst (λ (es : List Entry). AreCaughtUp (worker_of n (length c.args.replayers.now)) image.manifest (map (entry_said image.manifest) es) image.caught_up n (blanks_in c.args.stock.now) (blanks_in c.bring_back.new.stock) c.bring_back.new.replayers)
    c.as_slice.ensures.value c.in_ok-elements.ensures.ok in
    let failed : c.world_of.result ≡ Err (Damaged fault) = search rules in
    inr (done.pass, c.world_of.ensures.fault (base image).records are fault failed)

pub returns-clause-ok : goal.returns-clause-ok
returns-clause-ok g c =
    let n = c.args.processors in
    let image : Image = image_said c.args.image in
    let are : c.in_ok-elements.elements.entries ≡ opened_elements n (base image).records =
    subst (λ (es : List Entry). c.in_ok-elements.elements.entries ≡ opened_elements n (redelivered_all image.manifest (map (entry_said image.manifest) es) image.caught_up)) c.as_slice.ensures.value c.in_ok-elements.ensures.elements in
    let done : AreCaughtUp (worker_of n (length c.args.replayers.now)) image.manifest image.records image.caught_up n (blanks_in c.args.stock.now) (blanks_in c.bring_back.new.stock) c.bring_back.new.replayers =
    subst (λ (es : List Entry). AreCaughtUp (worker_of n (length c.args.replayers.now)) image.manifest (map (entry_said image.manifest) es) image.caught_up n (blanks_in c.args.stock.now) (blanks_in c.bring_back.new.stock) c.bring_back.new.replayers)
    c.as_slice.ensures.value c.in_ok-elements.ensures.ok in
    record {
      caught_up = done;
      was_sent = c.in_ok-world.ensures.ok (base image).records are;
      shows = c.in_ok-world.ensures.shows (base image).records are;
      on = c.in_ok-world.ensures.on;
    }
