-- Steps that write nothing: what halves keep of a store stays, however its history grows.
use Rattle.std.proofs.Common.{◌≡◌, ℕ, ◌+◌, ◌≤◌, ◌==◌, Bool, true, false, if◌then◌else◌, Option, Some, None, List, [], ◌∷◌, ◌++◌, length, take, refl, sym, ap, subst, ◌∙◌, inl, inr, arith, length-append, append_assoc}
use Rattle.std.proofs.lemmas.List.{append-nil, take-append-le}
use Rattle.charmlet_model.specs.declared.event.Event.{Event}
use Rattle.charmlet_model.specs.declared.event.Event.TheVariants.{Accept, Deliver}
use Rattle.charmlet_model.specs.declared.names.Elem.{Elem}
use Rattle.charmlet_model.specs.declared.names.MsgId.{MsgId}
use Rattle.charmlet_model.specs.declared.refusal.Refusal.{Refusal}
use Rattle.charmlet_model.specs.Core.{Core, CoreStep, Request, Status, Assign, Commit, Finish, Release, Move, Flush, Checkpoint, Blanks, Stepped, Steps, assigned_to, committed, durable_world, failed, first_refusal, checks, is_repeat, next_core, place_or_home, stepped_unless}
use Rattle.charmlet_model.specs.CoreLaws.{IsQuiet}
use Rattle.charmlet_model.specs.World.{World, world}
use Rattle.charmlet_recovery.specs.Stores.{Stores}
use Rattle.charmlet_disk.specs.declared.disk.Disk.{Ghosts}
use Rattle.charmlet_disk.specs.File.{CrashBytes}
use Rattle.charmlet_halves.specs.declared.halves.Halves.{Halves}
use Rattle.charmlet_persist.specs.Writes.Quiet.{Quiet}
use Rattle.charmlet_persist.specs.Writes.Rest.{Agrees, IsAtRest, IsKept, Rests, keeps_durable}

module _ (core : Core) where
  grown : (history more : List Event) (places : List (Elem × ℕ)) (assigned : List (ℕ × MsgId)) → history ≡ core.history ++ more → Quiet core (record core { history = history; places = places; assigned = assigned })
  grown history more places assigned grows = record { more = more; grows = grows; opening = refl; before = refl; durable = refl; generation = refl; log_end = refl; going = λ h. h }

  pub stays : Quiet core core
  stays = grown core.history [] core.places core.assigned (sym (append-nil core.history))

  halts : (blanks : Blanks) → Quiet core (failed core blanks).core
  halts blanks = record { more = []; grows = sym (append-nil core.history); opening = refl; before = refl; durable = refl; generation = refl; log_end = refl; going = λ h. absurd cc }

  either_way : (b : Bool) (new : Core) → Quiet core new → Quiet core (if b then core else new)
  either_way true new h = stays
  either_way false new h = h

  commits : (processor : ℕ) (id : Option MsgId) → Quiet core (committed core processor id)
  commits processor None = stays
  commits processor (Some id) = grown _ (Deliver id ∷ []) _ _ refl

  pub next_quiet : (step : CoreStep) → IsQuiet step → Quiet core (next_core core step)
  next_quiet (Request client number to entry words) q = either_way (is_repeat core client number) _ (grown _ (Accept client number to entry words ∷ []) core.places core.assigned refl)
  next_quiet (Status client number) q = stays
  next_quiet (Assign processor id) q = grown core.history [] core.places _ (sym (append-nil core.history))
  next_quiet (Commit processor) q = commits processor (assigned_to core processor)
  next_quiet (Finish processor) q = commits processor (assigned_to core processor)
  next_quiet (Release processor) q = grown core.history [] core.places _ (sym (append-nil core.history))
  next_quiet (Move x processor) q = either_way (place_or_home core x == processor) _ (grown core.history [] _ core.assigned (sym (append-nil core.history)))
  next_quiet Flush q = absurd q
  next_quiet Checkpoint q = absurd q

  unless : (blanks : Blanks) (step : CoreStep) → IsQuiet step → (o : Option Refusal) → Quiet core (stepped_unless core blanks step o).core
  unless blanks step q None = next_quiet step q
  unless blanks step q (Some refusal) = stays

  -- a step that writes to no file is quiet
  pub quiet_step : (blanks : Blanks) (step : CoreStep) (next : Stepped) → IsQuiet step → Steps core blanks step next → Quiet core next.core
  quiet_step blanks step next q s = elim s.1 [
    | inl same ↦ subst (λ (n : Stepped). Quiet core n.core) (sym same) (unless blanks step q (first_refusal (checks core blanks step)))
    | inr lacking ↦ elim lacking [
      | inl memory ↦ subst (λ (n : Stepped). Quiet core n.core) (sym memory.1) stays
      | inr device ↦ subst (λ (n : Stepped). Quiet core n.core) (sym device.1) (halts blanks)
    ]
  ]

module _ {D : Type 0} {G : Ghosts D} (old new : Core) (quiet : Quiet old new) (halves : Halves D G) where
  -- the halves still agree with the history
  pub still_agrees : Agrees old halves → Agrees new halves
  still_agrees agrees = λ going.
      let on = agrees (quiet.going going) in
      record { going = on.going; log_end = on.log_end ∙ sym quiet.log_end; generation = on.generation ∙ sym quiet.generation }

module _ (old new : Core) (quiet : Quiet old new) where
  -- the world after the first events is the same
  same_world : (n : ℕ) → n ≤ length old.history → world old.opening (take n old.history) ≡ world new.opening (take n new.history)
  same_world n within =
      ap (world old.opening) (sym (take-append-le n old.history quiet.more within) ∙ ap (take n) (sym quiet.grows))
      ∙ ap (λ (w : World). world w (take n new.history)) (sym quiet.opening)

  -- what is kept of the old history is kept of the new one
  still_durable : (o : CrashBytes) → keeps_durable old o → keeps_durable new o
  still_durable o keeps =
      let most = keeps.none_invented in
      let least = keeps.durable_kept in
      record {
        kept = keeps.kept;
        durable_kept = omega (arith, quiet.durable, least);
        none_invented = omega (arith, most, ap (length {A = Event}) quiet.grows, length-append old.history quiet.more);
        generation = keeps.generation;
        stores = subst (λ (w : World). Stores o w (new.before + keeps.kept) keeps.generation) (same_world keeps.kept most)
            (subst (λ (n : ℕ). Stores o (world old.opening (take keeps.kept old.history)) (n + keeps.kept) keeps.generation) (sym quiet.before) keeps.stores);
      }

module _ {D : Type 0} {G : Ghosts D} (old new : Core) (quiet : Quiet old new) (within : old.durable ≤ length old.history) (halves : Halves D G) where
  still_rests : IsAtRest old halves → IsAtRest new halves
  still_rests rests =
      let worlds : durable_world old ≡ durable_world new = same_world old new quiet old.durable within ∙ ap (λ (n : ℕ). world new.opening (take n new.history)) (sym quiet.durable) in
      let count : old.before + old.durable ≡ new.before + new.durable = omega (arith, quiet.before, quiet.durable) in
      subst (λ (g : ℕ). Rests {G = G} halves (durable_world new) (new.before + new.durable) g) (sym quiet.generation)
      (subst (λ (n : ℕ). Rests {G = G} halves (durable_world new) n old.generation) count
      (subst (λ (w : World). Rests {G = G} halves w (old.before + old.durable) old.generation) worlds rests))

  -- they still keep what is durable
  pub still_kept : IsKept old halves → IsKept new halves
  still_kept kept = record {
    now = λ o left. still_durable old new quiet o (kept.now o left);
    rest = λ going. still_rests (kept.rest (quiet.going going));
  }

-- one after another
pub quiet_after : (first second third : Core) → Quiet first second → Quiet second third → Quiet first third
quiet_after first second third a b = record {
  more = a.more ++ b.more;
  grows = b.grows ∙ ap (λ (l : List Event). l ++ b.more) a.grows ∙ append_assoc first.history a.more b.more;
  opening = b.opening ∙ a.opening;
  before = b.before ∙ a.before;
  durable = b.durable ∙ a.durable;
  generation = b.generation ∙ a.generation;
  log_end = b.log_end ∙ a.log_end;
  going = λ h. a.going (b.going h);
}
