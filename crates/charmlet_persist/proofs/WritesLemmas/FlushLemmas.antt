-- A flush, by the core of its history.
use Rattle.std.proofs.Common.{◌≡◌, ⊎_elim, ℕ, ◌+◌, ◌^◌, ◌<◌, ◌≤◌, Bool, true, false, cond, eqb, leb, None, Result, Ok, Err, List, [], ◌∷◌, length, take, drop, refl, sym, ap, subst, ◌∙◌, arith}
use Rattle.std.specs.Prelude.{OnOk}
use Rattle.std.proofs.lemmas.Bool.{cases_Bool, eqb-true}
use Rattle.std.proofs.lemmas.Bool.Decides.{nat_tests}
use Rattle.std.proofs.lemmas.List.{take-append-drop, length-drop, length-take-le, take_all, drop_all}
use Rattle.std.proofs.Math.Seq.{take-add}
use Rattle.charmlet_model.specs.declared.event.Event.{Event}
use Rattle.charmlet_model.specs.declared.refusal.Refusal.{Refusal}
use Rattle.charmlet_model.specs.declared.refusal.Refusal.TheVariants as refusals
use Rattle.charmlet_model.specs.Core as cores
use Rattle.charmlet_model.specs.Core.{Core, Check, When, MayLackMemory, MayFail, Blanks, Stepped, Refuses, durable_world, unwritten, end_of_flush, checks, flush_checks, first_refusal, may_fail, next_core, failed, halted_core, stepped, refused}
use Rattle.charmlet_model.specs.Logging.{logged_all}
use Rattle.charmlet_model.specs.Sizes.{log_size}
use Rattle.charmlet_model.specs.World.{World, world, IsLegal}
use Rattle.charmlet_model.proofs.Histories.{world-append}
use Rattle.charmlet_record.specs.WalBuffer.{Batched, IsWalBuffer}
use Rattle.charmlet_record.proofs.WalBuffers.{length-batches}
use Rattle.charmlet_recovery.specs.Stores.{Stores}
use Rattle.charmlet_recovery.specs.Outcomes.{Keeps}
use Rattle.charmlet_recovery.proofs.Writing.{legal_histories_part}
use Rattle.charmlet_disk.specs.declared.disk.Disk.{Ghosts}
use Rattle.charmlet_disk.specs.File.{CrashBytes, MayLeave}
use Rattle.charmlet_disk.specs.Disk.{LeavesOnly}
use Rattle.charmlet_disk.proofs.Moments.{weaker}
use Rattle.charmlet_halves.specs.declared.halves.Halves.{Halves}
use Rattle.charmlet_halves.specs.Halves.{disk_of, is_halted}
use Rattle.charmlet_history.specs.Kept.{plenty, refusal_in}
use Rattle.charmlet_persist.specs.Writes.Rest.{Rests, IsAtRest, IsKept, GoesOn, Grew, IsCurrent, IsNext, keeps_durable}
use Rattle.charmlet_persist.proofs.WritesLemmas.Resting.{rest_stores}

-- ---- checks

-- what is known where a flush isn't refused
record Passed (halted none full : Bool) : Type 0 where
  pub going : halted ≡ false
  pub fits : none ≡ false → full ≡ false

passed : (halted none full : Bool) → first_refusal (When halted refusals.Halted ∷ cond none [] (When full refusals.LogFull ∷ MayLackMemory ∷ MayFail ∷ [])) ≡ None → Passed halted none full
passed true none full e = absurd cc
passed false true full e = record { going = refl; fits = λ no. absurd cc }
passed false false true e = absurd cc
passed false false false e = record { going = refl; fits = λ no. refl }

-- a device may fail where there is something to write
may_fail_by : (halted none full : Bool) → halted ≡ false → none ≡ false → full ≡ false → may_fail (When halted refusals.Halted ∷ cond none [] (When full refusals.LogFull ∷ MayLackMemory ∷ MayFail ∷ [])) ≡ true
may_fail_by halted none full going some room = rw (going, some, room) refl

-- where nothing is left to be written, it has no bytes
none_unwritten : (core : Core) → core.durable ≡ length core.history → log_size (unwritten core) ≡ 0
unfolding log_size
none_unwritten core all = ap (λ (es : List Event). log_size (logged_all (durable_world core) es)) (drop_all core.durable core.history (omega arith))

some_unwritten : (core : Core) → 0 < log_size (unwritten core) → eqb core.durable (length core.history) ≡ false
some_unwritten core some = ⊎_elim (λ all. absurd (omega (arith, some, none_unwritten core (eqb-true _ _ all)))) (λ no. no) (cases_Bool (eqb core.durable (length core.history)))

pub record Passes (core : Core) : Type 0 where
  pub going : core.halted ≡ false
  pub fits : 0 < log_size (unwritten core) → end_of_flush core < 2 ^ 31
  pub fails : (blanks : Blanks) → 0 < log_size (unwritten core) → may_fail (checks core blanks cores.Flush) ≡ true

pub flush_passes : (core : Core) → first_refusal (checks core plenty cores.Flush) ≡ None → Passes core
flush_passes core e =
    let is = passed core.halted (eqb core.durable (length core.history)) (leb (2 ^ 31) (end_of_flush core)) e in
    let room : 0 < log_size (unwritten core) → leb (2 ^ 31) (end_of_flush core) ≡ false = λ some. is.fits (some_unwritten core some) in
    record {
      going = is.going;
      fits = λ some. let no = room some in grind (arith, nat_tests);
      fails = λ blanks some. may_fail_by core.halted (eqb core.durable (length core.history)) (leb (2 ^ 31) (end_of_flush core)) is.going (some_unwritten core some) (room some);
    }

-- a result that isn't refused
pub ok_of : {T : Type 0} (result : Result T Refusal) (P : Type 0) → refusal_in result ≡ None → OnOk result P → P
ok_of (Ok x) P e p = p
ok_of (Err refusal) P e p = absurd cc

-- the device failed
pub flush_failed : (core next : Core) (blanks : Blanks) (refusal : Refusal) → refusal ≡ refusals.Device → next ≡ halted_core core → Path Stepped (record { answer = Refuses refusal; core = next; blanks = blanks }) (failed core blanks)
flush_failed core next blanks refusal is halted = λ i. record { answer = Refuses (is i); core = halted i; blanks = blanks }

-- ---- what is kept

-- the bytes of what is unwritten
pub unwritten_bytes : (core : Core) (b : Batched) → IsWalBuffer b (unwritten core) → length b.bytes ≡ log_size (unwritten core)
unwritten_bytes core b is = ap (length {A = ℕ}) is.bytes ∙ length-batches (unwritten core)

-- what is kept of the events that aren't durable yet is kept of the history
keeps_from : (w : World) (before : ℕ) (history : List Event) (d : ℕ) (o : CrashBytes) → d ≤ length history → Keeps (world w (take d history)) (before + d) (drop d history) 0 o → Keeps w before history d o
keeps_from w before history d o within keeps =
    let most = keeps.none_invented in
    let same : world (world w (take d history)) (take keeps.kept (drop d history)) ≡ world w (take (d + keeps.kept) history) =
    sym (world-append w (take d history) (take keeps.kept (drop d history))) ∙ ap (world w) (sym (take-add d keeps.kept history)) in
    let count : before + d + keeps.kept ≡ before + (d + keeps.kept) = omega arith in
    record {
      kept = d + keeps.kept;
      durable_kept = omega arith;
      none_invented = omega (arith, most, length-drop d history);
      generation = keeps.generation;
      stores = subst (λ (n : ℕ). Stores o (world w (take (d + keeps.kept) history)) n keeps.generation) count
          (subst (λ (v : World). Stores o v (before + d + keeps.kept) keeps.generation) same keeps.stores);
    }

-- the events that aren't durable
abbrev pub fresh : Core → List Event
fresh core = drop core.durable core.history

-- they may come next
pub fresh_legal : (core : Core) → IsLegal core.opening core.before core.history → core.durable ≤ length core.history → IsLegal (durable_world core) (core.before + core.durable) (fresh core)
fresh_legal core legal within =
    let front = length-take-le core.durable core.history within in
    let parts = legal_histories_part core.opening core.before (take core.durable core.history) (fresh core) (subst (IsLegal core.opening core.before) (sym (take-append-drop core.durable core.history)) legal) in
    subst (λ (n : ℕ). IsLegal (durable_world core) (core.before + n) (fresh core)) front parts.later_is

module _ {D : Type 0} {G : Ghosts D} (core : Core) (legal : IsLegal core.opening core.before core.history) (within : core.durable ≤ length core.history) where
  -- the events that aren't durable come next
  pub due : (halves : Halves D G) (b : Batched) → IsAtRest core halves → IsCurrent halves → IsWalBuffer b (unwritten core) → IsNext halves b (durable_world core) (core.before + core.durable) core.generation (fresh core)
  due halves b rest current is = record { rests = rest; current = current; legal = fresh_legal core legal within; wal_buffer = is }

  -- what is left while they are written keeps the durable events
  pub leaves_durable : (old new : Halves D G) → LeavesOnly G.moment G.since (disk_of old) (disk_of new) (Keeps (durable_world core) (core.before + core.durable) (fresh core) 0) →
      LeavesOnly G.moment G.since (disk_of old) (disk_of new) (keeps_durable core)
  leaves_durable old new leaves =
      weaker G.moment G.since (disk_of old) (disk_of new) (Keeps (durable_world core) (core.before + core.durable) (fresh core) 0) (keeps_durable core) leaves
      (λ o keeps. keeps_from core.opening core.before core.history core.durable o within keeps)

  -- and then the halves are at rest with them
  pub flushed_rest : (halves : Halves D G) → Rests halves (world (durable_world core) (fresh core)) (core.before + core.durable + length (fresh core)) core.generation → IsAtRest (next_core core cores.Flush) halves
  flushed_rest halves rests =
      let count : core.before + core.durable + length (fresh core) ≡ core.before + length core.history = omega (arith, within, length-drop core.durable core.history) in
      let same : world (durable_world core) (fresh core) ≡ world core.opening (take (length core.history) core.history) =
      sym (world-append core.opening (take core.durable core.history) (fresh core)) ∙ ap (world core.opening) (take-append-drop core.durable core.history ∙ sym (take_all (length core.history) core.history (omega arith))) in
      subst (λ (n : ℕ). Rests {G = G} halves (world core.opening (take (length core.history) core.history)) n core.generation) count
      (subst (λ (v : World). Rests {G = G} halves v (core.before + core.durable + length (fresh core)) core.generation) same rests)

  pub flushed_kept : (halves : Halves D G) → G.honest (disk_of halves) → is_halted halves ≡ false → IsAtRest (next_core core cores.Flush) halves → IsKept (next_core core cores.Flush) halves
  flushed_kept halves honest going rest = record {
    now = λ o left. record {
      kept = length core.history;
      durable_kept = omega arith;
      none_invented = omega arith;
      generation = core.generation;
      stores = rest_stores halves (world core.opening (take (length core.history) core.history)) (core.before + length core.history) core.generation honest going rest o left;
    };
    rest = λ _. rest;
  }

  -- the halves agree with the history afterwards
  pub flushed_agrees : (old new : Halves D G) (b : Batched) → IsWalBuffer b (unwritten core) → GoesOn core old → Grew old new (length b.bytes) → GoesOn (next_core core cores.Flush) new
  flushed_agrees old new b is before grew = record {
    going = grew.going;
    log_end = omega (arith, grew.log_end, before.log_end, unwritten_bytes core b is);
    generation = grew.generation ∙ before.generation;
  }

  -- after a failure each outcome still keeps what is durable
  pub halted_kept : (old new : Halves D G) → LeavesOnly G.moment G.since (disk_of old) (disk_of new) (keeps_durable core) →
      ((o : CrashBytes) → MayLeave (G.file (disk_of new)) o → G.since (disk_of new) (G.moment (disk_of old)) o) → IsKept (halted_core core) new
  halted_kept old new leaves since = record { now = λ o left. leaves.each o (since o left); rest = λ no. absurd cc }
