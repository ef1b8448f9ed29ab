-- What outcomes keep while batches are written.
use Rattle.std.proofs.Common.{◌≡◌, ◌⊎◌, inl, inr, ⊎_elim, ℕ, ◌+◌, ◌<◌, ◌≤◌, false, List, [], ◌∷◌, ◌++◌, length, take, sym, ap, subst, ◌∙◌, arith, slice_index}
use Rattle.std.proofs.lemmas.List.{length-take-le, take_all}
use Rattle.charmlet_model.specs.declared.event.Event.{Event}
use Rattle.charmlet_model.specs.declared.half.Half.{Half}
use Rattle.charmlet_model.specs.declared.half.Half.TheVariants.{Zero, One}
use Rattle.charmlet_model.specs.Half.{other}
use Rattle.charmlet_model.specs.KindVersion.{AreNewest}
use Rattle.charmlet_model.specs.Logging.{logged_all}
use Rattle.charmlet_model.specs.Spelling.{spell_batch}
use Rattle.charmlet_model.specs.Fit.{IsFit}
use Rattle.charmlet_model.specs.Sound.{new_world}
use Rattle.charmlet_model.specs.World.{World, world, IsLegal}
use Rattle.charmlet_record.specs.Reading.{Kinds}
use Rattle.charmlet_record.specs.WalBuffer.{Batched, closed_batch, batch_of, batch_count}
use Rattle.charmlet_record.proofs.BatchLaws.{batches_are_logged}
use Rattle.charmlet_pup.specs.Fields.{number_bytes}
use Rattle.charmlet_image.specs.Images.{Saved, spell_half}
use Rattle.charmlet_image.specs.NewStores.{new_saved}
use Rattle.charmlet_image.specs.Spelled.{Spells, IsClosed}
use Rattle.charmlet_image.specs.Halves.{IsSaved, Takes, taken, with_batch}
use Rattle.charmlet_image.proofs.HalfLemmas.{halves_are_one}
use Rattle.charmlet_recovery.specs.Stores.{IsSuperseded, Stores}
use Rattle.charmlet_recovery.specs.Outcomes.{Keeps}
use Rattle.charmlet_recovery.specs.WritingLaws.{StandsFor}
use Rattle.charmlet_recovery.proofs.Files.{stored_is_taken}
use Rattle.charmlet_recovery.proofs.Writing.{batches_lengthen, standing_is_stored, batches_stand, flushes_are_stored, new_stores_stand}
use Rattle.charmlet_disk.specs.declared.disk.Disk.{Ghosts}
use Rattle.charmlet_disk.specs.File.{CrashBytes, MayLeave}
use Rattle.charmlet_disk.specs.Disk.{LeavesOnly}
use Rattle.charmlet_disk.proofs.Moments.{started, after_that}
use Rattle.charmlet_halves.specs.declared.halves.Halves.{Halves}
use Rattle.charmlet_halves.specs.Bytes.{before_gate}
use Rattle.charmlet_halves.specs.Halves.{disk_of, end_of, is_halted, spare_of, taken_of, taken_half, text_of, HasOldOrBatch}
use Rattle.charmlet_halves.proofs.Standing.{is_left}
use Rattle.charmlet_persist.specs.Writes.Rest.{Rests, IsCurrent, IsNext}
use Rattle.charmlet_persist.proofs.WritesLemmas.Closed.{before_closed}
use Rattle.charmlet_persist.proofs.WritesLemmas.Parts.{done, part, before_part, IsPart, is_part, all_done}

module _ {D : Type 0} {G : Ghosts D} where
  -- the taken half of halves that go on spells what it says
  pub spells_text : (halves : Halves D G) (w : World) (count generation : ℕ) → G.honest (disk_of halves) → is_halted halves ≡ false → (rests : Rests halves w count generation) → Spells (taken_of halves) (spell_half rests.saved)
  spells_text halves w count generation honest going rests =
      let ready = halves.ready honest going in
      let inside = ready.inside in
      let at : length (text_of halves) ≡ end_of halves = length-take-le (end_of halves) (taken_of halves) (omega arith) in
      let size : length (spell_half rests.saved) ≡ end_of halves = ap (length {A = ℕ}) (sym rests.text) ∙ at in
      record {
        front = ap (λ (n : ℕ). take n (taken_of halves)) size ∙ rests.text;
        inside = omega (arith, size, inside);
        closed = λ same. ready.closed (ap (λ (n : ℕ). slice_index (taken_of halves) n) (sym size) ∙ same);
      }

  -- each outcome now stores the world
  pub rest_stores : (halves : Halves D G) (w : World) (count generation : ℕ) → G.honest (disk_of halves) → is_halted halves ≡ false → Rests halves w count generation →
      (o : CrashBytes) → MayLeave (G.file (disk_of halves)) o → Stores o w count generation
  rest_stores halves w count generation honest going rests o left =
      let ready = halves.ready honest going in
      let same = is_left (G.file (disk_of halves)) ready.settled o left in
      standing_is_stored o (taken_half halves) rests.saved (spare_of halves) w count generation rests.stands
      (subst (λ (bytes : List ℕ). Spells bytes (spell_half rests.saved)) (sym (same (taken_half halves))) (spells_text halves w count generation honest going rests))
      (inr (same (other (taken_half halves))))

  -- and the half is the one that is taken of the two
  pub rest_taken : (halves : Halves D G) (w : World) (count generation : ℕ) → G.honest (disk_of halves) → is_halted halves ≡ false → (rests : Rests halves w count generation) →
      taken (G.file (disk_of halves) Zero).now (G.file (disk_of halves) One).now ≡ Takes (taken_half halves) rests.saved
  rest_taken halves w count generation honest going rests =
      stored_is_taken (λ (half : Half). (G.file (disk_of halves) half).now) (taken_half halves) rests.saved (record {
        good = rests.stands.good;
        spelled = spells_text halves w count generation honest going rests;
        superseded = subst (IsSuperseded (spare_of halves)) (sym rests.stands.has_generation) rests.stands.superseded;
      })

  -- what the half says is spelled by one image and log alone
  pub said_once : (halves : Halves D G) (s t : Saved) → text_of halves ≡ spell_half s → text_of halves ≡ spell_half t → IsSaved s → IsSaved t → s ≡ t
  said_once halves s t one other good also =
      halves_are_one s t 0 0 [] [] good also (omega arith) (λ e. absurd (omega (arith, e))) (omega arith) (λ e. absurd (omega (arith, e)))
      (ap (λ (l : List ℕ). l ++ (number_bytes 1 0 ++ [])) (sym one ∙ other))

  -- whatever half says the same text is of the newest versions
  newest_saved : (halves : Halves D G) → IsCurrent halves → (s : Saved) → text_of halves ≡ spell_half s → IsSaved s → AreNewest s.image.manifest
  newest_saved halves current s text good = subst (λ (t : Saved). AreNewest t.image.manifest) (said_once halves current.saved s current.text text current.good good) current.newest

  -- the halves of a new store are at rest
  pub created_rests : (halves : Halves D G) (kinds : Kinds) → IsFit (new_world kinds) → AreNewest kinds → text_of halves ≡ spell_half (new_saved kinds) → IsClosed (spare_of halves) → Rests halves (new_world kinds) 0 1
  created_rests halves kinds fit newest text closed = record { saved = new_saved kinds; text = text; stands = new_stores_stand kinds (spare_of halves) fit newest closed }

  -- and current
  pub created_current : (halves : Halves D G) (kinds : Kinds) → IsFit (new_world kinds) → AreNewest kinds → text_of halves ≡ spell_half (new_saved kinds) → IsClosed (spare_of halves) → IsCurrent halves
  created_current halves kinds fit newest text closed =
      let stands = new_stores_stand kinds (spare_of halves) fit newest closed in
      record { saved = new_saved kinds; text = text; good = stands.good; newest = newest }

  -- what an outcome stores while a batch is appended
  batch_stores : (halves : Halves D G) (w : World) (count generation : ℕ) (more : List Event) (bytes : List ℕ) → Rests halves w count generation → IsCurrent halves → IsLegal w count more → 1 ≤ length more → length more ≤ 4096 →
      bytes ≡ closed_batch (logged_all w more) → (o : CrashBytes) → HasOldOrBatch halves (before_gate bytes) o →
      Stores o w count generation ⊎ Stores o (world w more) (count + length more) generation
  batch_stores halves w count generation more bytes rests current legal some few is o has =
      let batch : before_gate bytes ≡ spell_batch (logged_all w more) = ap before_gate is ∙ before_closed (logged_all w more) in
      let new_text : text_of halves ++ (1 ∷ before_gate bytes) ≡ spell_half rests.saved ++ (1 ∷ spell_batch (logged_all w more)) =
      λ i. rests.text i ++ (1 ∷ batch i) in
      flushes_are_stored o (taken_half halves) rests.saved w count generation more
      (subst (λ (spare : List ℕ). StandsFor rests.saved spare w count generation) (sym has.1) rests.stands) (newest_saved halves current rests.saved rests.text rests.stands.good) legal some few
      (⊎_elim (λ old. inl (subst (Spells (o (taken_half halves))) rests.text old)) (λ new. inr (subst (Spells (o (taken_half halves))) new_text new)) has.0)

  -- and the halves rest on it then
  pub batch_rests : (halves new : Halves D G) (w : World) (count generation : ℕ) (more : List Event) (bytes : List ℕ) → Rests halves w count generation → IsCurrent halves → IsLegal w count more → 1 ≤ length more → length more ≤ 4096 →
      bytes ≡ closed_batch (logged_all w more) → text_of new ≡ text_of halves ++ (1 ∷ before_gate bytes) → spare_of new ≡ spare_of halves → Rests new (world w more) (count + length more) generation
  batch_rests halves new w count generation more bytes rests current legal some few is text spare =
      let events = logged_all w more in
      let batch : before_gate bytes ≡ spell_batch events = ap before_gate is ∙ before_closed events in
      record {
        saved = with_batch rests.saved events;
        text = text ∙ (λ i. rests.text i ++ (1 ∷ batch i)) ∙ sym (batches_lengthen rests.saved events);
        stands = subst (λ (bytes : List ℕ). StandsFor (with_batch rests.saved events) bytes (world w more) (count + length more) generation) (sym spare)
            (batches_stand rests.saved (spare_of halves) w count generation more rests.stands (newest_saved halves current rests.saved rests.text rests.stands.good) legal some few);
      }

  -- of the same versions
  pub batch_current : (halves new : Halves D G) (w : World) (count generation : ℕ) (more : List Event) (bytes : List ℕ) → Rests halves w count generation → IsCurrent halves → IsLegal w count more → 1 ≤ length more → length more ≤ 4096 →
      bytes ≡ closed_batch (logged_all w more) → text_of new ≡ text_of halves ++ (1 ∷ before_gate bytes) → IsCurrent new
  batch_current halves new w count generation more bytes rests current legal some few is text =
      let events = logged_all w more in
      let batch : before_gate bytes ≡ spell_batch events = ap before_gate is ∙ before_closed events in
      let newest = newest_saved halves current rests.saved rests.text rests.stands.good in
      let stands = batches_stand rests.saved (spare_of halves) w count generation more rests.stands newest legal some few in
      record {
        saved = with_batch rests.saved events;
        text = text ∙ (λ i. rests.text i ++ (1 ∷ batch i)) ∙ sym (batches_lengthen rests.saved events);
        good = stands.good;
        newest = newest;
      }

-- what is stored after some events of a history keeps these
pub stores_keep : (w : World) (count generation : ℕ) (history : List Event) (n : ℕ) (o : CrashBytes) → n ≤ length history → Stores o (world w (take n history)) (count + n) generation → Keeps w count history 0 o
stores_keep w count generation history n o most stores =
    record { kept = n; durable_kept = omega arith; none_invented = most; generation = generation; stores = stores }

module _ {D : Type 0} {G : Ghosts D} (first : Halves D G) (b : Batched) (w : World) (count generation : ℕ) (history : List Event) where
  -- the first batches are written
  pub record Written (now : Halves D G) (i : ℕ) : Type 0 where
    pub rests : Rests now (before_part w history i) (count + done history i) generation
    pub current : IsCurrent now
    pub any_moment : LeavesOnly G.moment G.since (disk_of first) (disk_of now) (Keeps w count history 0)

  pub written_none : G.honest (disk_of first) → is_halted first ≡ false → IsNext first b w count generation history →
      ((o : CrashBytes) → G.since (disk_of first) (G.moment (disk_of first)) o → MayLeave (G.file (disk_of first)) o) → Written first 0
  written_none honest going next only_now =
      let none : count ≡ count + 0 = omega arith in
      let rests : Rests first w (count + 0) generation = subst (λ (n : ℕ). Rests {G = G} first w n generation) none next.rests in
      let start : 0 ≡ done history 0 = omega arith in
      record {
        rests = subst (λ (n : ℕ). Rests {G = G} first (world w (take n history)) (count + n) generation) start rests;
        current = next.current;
        any_moment = started G.moment G.since (disk_of first) (Keeps w count history 0)
            (λ o left. stores_keep w count generation history 0 o (omega arith) (rest_stores first w (count + 0) generation honest going rests o (only_now o left)));
      }

  module _ (next : IsNext first b w count generation history) (now new : Halves D G) (i : ℕ) (bytes : List ℕ) (so_far : Written now i)
      (lt : i < batch_count (logged_all w history)) (is : bytes ≡ closed_batch (batch_of (logged_all w history) i)) where
    this : IsPart w count history i
    this = is_part w count history i next.legal lt

    spelled : bytes ≡ closed_batch (logged_all (before_part w history i) (part history i))
    spelled = is ∙ ap closed_batch (batches_are_logged w history i) ∙ ap (λ (n : ℕ). closed_batch (logged_all (world w (take n history)) (part history i))) (sym this.whole)

    -- what a batch more leaves
    pub written_leaves : LeavesOnly G.moment G.since (disk_of now) (disk_of new) (HasOldOrBatch now (before_gate bytes)) → LeavesOnly G.moment G.since (disk_of first) (disk_of new) (Keeps w count history 0)
    written_leaves leaves =
        let v = before_part w history i in
        let n = done history i in
        let counts : count + n + length (part history i) ≡ count + done history (i + 1) = omega (arith, this.next) in
        after_that G.moment G.since (disk_of first) (disk_of now) (disk_of new) (Keeps w count history 0) (HasOldOrBatch now (before_gate bytes)) (Keeps w count history 0) so_far.any_moment leaves
        (λ o keeps. keeps)
        (λ o has.
        ⊎_elim (stores_keep w count generation history n o (omega (arith, this.next, this.most)))
        (λ more.
        stores_keep w count generation history (done history (i + 1)) o this.most
        (subst (λ (u : World). Stores o u (count + done history (i + 1)) generation) (sym this.world_is)
        (subst (λ (m : ℕ). Stores o (world v (part history i)) m generation) counts more)))
        (batch_stores now v (count + n) generation (part history i) bytes so_far.rests so_far.current this.legal this.some this.few spelled o has))

    -- a batch more
    pub written_more : LeavesOnly G.moment G.since (disk_of now) (disk_of new) (HasOldOrBatch now (before_gate bytes)) →
        text_of new ≡ text_of now ++ (1 ∷ before_gate bytes) → spare_of new ≡ spare_of now → Written new (i + 1)
    written_more leaves text spare =
        let v = before_part w history i in
        let n = done history i in
        let counts : count + n + length (part history i) ≡ count + done history (i + 1) = omega (arith, this.next) in
        let rests = batch_rests now new v (count + n) generation (part history i) bytes so_far.rests so_far.current this.legal this.some this.few spelled text spare in
        record {
          rests = subst (λ (u : World). Rests {G = G} new u (count + done history (i + 1)) generation) (sym this.world_is)
              (subst (λ (m : ℕ). Rests {G = G} new (world v (part history i)) m generation) counts rests);
          current = batch_current now new v (count + n) generation (part history i) bytes so_far.rests so_far.current this.legal this.some this.few spelled text;
          any_moment = written_leaves leaves;
        }

  -- and at the end
  pub written_all : (now : Halves D G) (i : ℕ) → Written now i → batch_count (logged_all w history) ≤ i → Rests now (world w history) (count + length history) generation
  written_all now i so_far le =
      let all = all_done w history i le in
      subst (λ (l : List Event). Rests {G = G} now (world w l) (count + length history) generation) (take_all (length history) history (omega arith))
      (subst (λ (n : ℕ). Rests {G = G} now (world w (take n history)) (count + n) generation) all so_far.rests)
