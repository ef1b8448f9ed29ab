-- A new store: what its halves keep, and what a crash leaves while they are written.
use Rattle.std.proofs.Common.{◌≡◌, inl, ℕ, ◌+◌, false, length, sym, subst, arith}
use Rattle.charmlet_model.specs.declared.half.Half.TheVariants.{Zero, One}
use Rattle.charmlet_model.specs.KindVersion.{AreNewest}
use Rattle.charmlet_model.specs.Fit.{IsFit}
use Rattle.charmlet_model.specs.Sizes.{image_size}
use Rattle.charmlet_model.specs.Sound.{new_world}
use Rattle.charmlet_record.specs.Reading.{Kinds}
use Rattle.charmlet_image.specs.Images.{spell_half}
use Rattle.charmlet_image.specs.NewStores.{new_saved}
use Rattle.charmlet_image.specs.Spelled.{IsClosed}
use Rattle.charmlet_recovery.proofs.Writing.{halves_have_size, creations_are_stored}
use Rattle.charmlet_disk.specs.declared.disk.Disk.{Ghosts}
use Rattle.charmlet_disk.specs.Disk.{IsSettled, LeavesOnly}
use Rattle.charmlet_disk.specs.File.{CrashBytes, MayLeave}
use Rattle.charmlet_disk.proofs.Moments.{started, weaker}
use Rattle.charmlet_halves.specs.declared.halves.Halves.{Halves}
use Rattle.charmlet_halves.specs.Halves.{disk_of, is_halted, spare_of, text_of}
use Rattle.charmlet_halves.specs.Steps.{NothingOrNew}
use Rattle.charmlet_halves.proofs.Standing.{is_left}
use Rattle.charmlet_persist.specs.Writes.NewStores.{NothingOrNewWorld, new_core}
use Rattle.charmlet_persist.specs.Writes.Rest.{IsKept}
use Rattle.charmlet_persist.proofs.WritesLemmas.Resting.{rest_stores, created_rests}

-- where the log of a new store ends
pub new_end : (kinds : Kinds) → length (spell_half (new_saved kinds)) ≡ 25 + image_size (new_world kinds)
new_end kinds = halves_have_size (new_world kinds) 0 1

module _ {D : Type 0} {G : Ghosts D} (kinds : Kinds) (fit : IsFit (new_world kinds)) (newest : AreNewest kinds) where
  -- the halves of a new store keep it
  pub new_kept : (processors : ℕ) (halves : Halves D G) → G.honest (disk_of halves) → is_halted halves ≡ false → text_of halves ≡ spell_half (new_saved kinds) → IsClosed (spare_of halves) → IsKept (new_core processors kinds) halves
  new_kept processors halves honest going text closed =
      let rests = created_rests {G = G} halves kinds fit newest text closed in
      record {
        now = λ o left. record {
          kept = 0;
          durable_kept = omega arith;
          none_invented = omega arith;
          generation = 1;
          stores = rest_stores {G = G} halves (new_world kinds) 0 1 honest going rests o left;
        };
        rest = λ _. rests;
      }

module _ {D : Type 0} (G : Ghosts D) (kinds : Kinds) (fit : IsFit (new_world kinds)) (newest : AreNewest kinds) (old : D) (zero_closed : IsClosed (G.file old Zero).now) (one_closed : IsClosed (G.file old One).now) where
  -- while they are written, there is nothing or the new store
  pub new_leaves : (new : D) → LeavesOnly G.moment G.since old new (NothingOrNew (G.file old) (spell_half (new_saved kinds))) → LeavesOnly G.moment G.since old new (NothingOrNewWorld kinds)
  new_leaves new leaves =
      weaker G.moment G.since old new (NothingOrNew (G.file old) (spell_half (new_saved kinds))) (NothingOrNewWorld kinds) leaves
      (λ o so. creations_are_stored o kinds fit newest (subst IsClosed (sym so.0) one_closed) so.1)

  -- and before there is nothing
  pub none_leaves : IsSettled (G.file old) → ((o : CrashBytes) → G.since old (G.moment old) o → MayLeave (G.file old) o) → LeavesOnly G.moment G.since old old (NothingOrNewWorld kinds)
  none_leaves settled only_now =
      started G.moment G.since old (NothingOrNewWorld kinds)
      (λ o left.
      let same = is_left (G.file old) settled o (only_now o left) in
      creations_are_stored o kinds fit newest (subst IsClosed (sym (same One)) one_closed) (inl (subst IsClosed (sym (same Zero)) zero_closed)))
