-- Engines that come back.
use Rattle.std.proofs.Common.{◌≡◌, ◌≢◌, ◌⊎◌, inl, inr, ℕ, ◌+◌, Bool, true, false, not, None, Result, Ok, Err, IfErr, IfOk, List, [], length, take, refl, sym, ap, subst, ◌∙◌, arith, if◌then◌else◌}
use Rattle.charmlet_model.specs.declared.event.Event.{Event}
use Rattle.charmlet_model.specs.declared.half.Half.{Half}
use Rattle.charmlet_model.specs.declared.refusal.Refusal.{Refusal}
use Rattle.charmlet_model.specs.declared.refusal.Refusal.TheVariants as refusals
use Rattle.charmlet_model.specs.Core.{Blanks, Core, durable_world}
use Rattle.charmlet_model.specs.Sound.{IsSound, opened}
use Rattle.charmlet_model.specs.World.{World, world}
use Rattle.charmlet_chare.specs.declared.chare.Chare as chares
use Rattle.charmlet_disk.specs.declared.disk.Disk as disks
use Rattle.charmlet_disk.specs.Calls.{IsUnwritten}
use Rattle.charmlet_disk.specs.Disk.{IsSettled, LeavesOnly}
use Rattle.charmlet_disk.specs.File.{MayLeave, CrashBytes}
use Rattle.charmlet_disk.proofs.Moments.{after_that, weaker}
use Rattle.charmlet_image.specs.Halves.{Takes}
use Rattle.charmlet_image.specs.Images.{Saved}
use Rattle.charmlet_recovery.specs.Meanings.{Whole}
use Rattle.charmlet_recovery.specs.Recovered.{Found, meaning_of, recovered}
use Rattle.charmlet_recovery.specs.Restarts.{either_refusal, engine_refusal, image_end, image_refusal, is_old, limit_refusal, restart_refusal, taken_image_refusal, wanted_of, wants_image}
use Rattle.charmlet_recovery.proofs.Restarting.{engine_is_refused_as_restart, engine_refusals_are_taken, images_are_wanted}
use Rattle.charmlet_stock.specs.declared.stock.Stock.{Stock}
use Rattle.charmlet_stock.specs.Stock.{blanks_in, supplied_to}
use Rattle.charmlet_halves.specs.declared.halves.Halves.{Halves}
use Rattle.charmlet_halves.specs.Halves.{disk_of, taken_half}
use Rattle.charmlet_persist.specs.Writes.Rest.{HasOldOrSealed}
use Rattle.charmlet_store.specs.Store.{blanks_of}
use Rattle.charmlet_replay.specs.Unused.{IsUnused}
use Rattle.charmlet_recover.specs.declared.restarted.NotRestarted.{NotRestarted}
use Rattle.charmlet_recover.specs.declared.restarted.Recovered.{Recovered}
use Rattle.charmlet_recover.specs.Restart as recovers
use Rattle.charmlet_recover.specs.Restart.{AnswersBy, IsSameStock, IsShortOfSome, OpensWithin, bytes_on, is_after_sync, is_lack, is_restart_refusal}
use Rattle.charmlet_recover.proofs.Answered.{answers_so, has_cause}
use Rattle.charmlet_recover.proofs.Stocks.{unused_is_same}
use Rattle.charmlet_engine.specs.Engine.{EngineShown, HasImage, core_of, supplied_of, view_of}
use Rattle.charmlet_engine.specs.Lives.{ComesBack, Past, Remembers}
use Rattle.charmlet_engine.specs.Outcomes.{Onward, is_lawful_now}
use Rattle.charmlet_engine.specs.Restarted.{AnswersAfterCrash, CameBack, CameFromFiles, ComesFrom, IsRefused, IsFound, IsFullOfSome, IsLackOrFull, IsLeftByRestart, CameBackOn, IsOpenedOn, IsReadFrom, IsSameOrNext, IsTaken, IsTakenFrom, core_or_refusal, disk_after, going_refusal, gone_on, is_engine_refusal}
use Rattle.charmlet_engine.proofs.Lives.{comes_back}
use Rattle.charmlet_engine.proofs.Onward.{old_or_image}
use Rattle.charmlet_engine.proofs.Renewed.{IsGoingRefusal, going_is, going_refused, gone_opened, opened_is, opened_present}

-- ---- refusals

-- what is refused before anything is written is refused so here
pub restart_is_engine : (refusal : Refusal) → is_restart_refusal refusal ≡ true → is_engine_refusal refusal ≡ true
restart_is_engine refusals.ImageFull is = refl
restart_is_engine _ is = is

-- and for its cause
pub restart_answers : (X Y : Type 0) (given : Blanks) (outcome : CrashBytes) (refusal : Refusal) → AnswersBy {X = X} (restart_refusal given outcome) (Err refusal) → AnswersBy {X = Y} (engine_refusal given outcome) (Err refusal)
restart_answers X Y given outcome refusal so = elim (has_cause X (restart_refusal given outcome) refusal so) [
  | inl memory ↦ subst (λ (r : Refusal). AnswersBy {X = Y} (engine_refusal given outcome) (Err r)) (sym memory) tt
  | inr more ↦ elim more [
    | inl device ↦ subst (λ (r : Refusal). AnswersBy {X = Y} (engine_refusal given outcome) (Err r)) (sym device) tt
    | inr why ↦ answers_so Y (engine_refusal given outcome) refusal (engine_is_refused_as_restart given outcome refusal why)
  ]
]

-- it is no full image
pub restart_is_not_full : (refusal : Refusal) → is_restart_refusal refusal ≡ true → IsFullOfSome refusal
restart_is_not_full refusals.ImageFull is = absurd cc
restart_is_not_full _ is = tt

-- what is refused after the syncs isn't the device
sure_apart : (refusal : Refusal) → is_after_sync {X = Core} (Err refusal) ≡ true → refusal ≢ refusals.Device
sure_apart refusal after is = (let no : false ≡ true = sym (ap (λ (r : Refusal). is_after_sync {X = Core} (Err r)) is) ∙ after in cc)

module _ (is_current : Bool) (core : Core) (refusal : Refusal) (going : IsGoingRefusal is_current core refusal) where
  pub going_is_engine : is_engine_refusal refusal ≡ true
  going_is_engine = elim going [
    | inl is ↦ ap is_engine_refusal is
    | inr more ↦ elim more [ inl is ↦ ap is_engine_refusal is | inr full ↦ ap is_engine_refusal full.0 ]
  ]

  pub going_is_not_bad : refusal ≡ refusals.BadPes → ⊥
  going_is_not_bad bad = elim going [
    | inl is ↦ (let no : refusals.Memory ≡ refusals.BadPes = sym is ∙ bad in cc)
    | inr more ↦ elim more [
      | inl is ↦ (let no : refusals.Device ≡ refusals.BadPes = sym is ∙ bad in cc)
      | inr full ↦ (let no : refusals.ImageFull ≡ refusals.BadPes = sym full.0 ∙ bad in cc)
    ]
  ]

  pub going_is_not_short : (given : Blanks) → IsShortOfSome given refusal
  going_is_not_short given = elim going [
    | inl is ↦ subst (λ (r : Refusal). IsShortOfSome given r) (sym is) tt
    | inr more ↦ elim more [
      | inl is ↦ subst (λ (r : Refusal). IsShortOfSome given r) (sym is) tt
      | inr full ↦ subst (λ (r : Refusal). IsShortOfSome given r) (sym full.0) tt
    ]
  ]

  -- after a crash it is a lack, or the image that is wanted is full
  pub going_lacks : (outcome : CrashBytes) → (is_current ≡ false → wants_image outcome ≡ true) → IsLackOrFull outcome refusal
  going_lacks outcome wanted = elim going [
    | inl is ↦ inl (ap is_lack is)
    | inr more ↦ elim more [ inl is ↦ inl (ap is_lack is) | inr full ↦ inr (full.0, wanted full.1) ]
  ]

-- ---- tests

not_false : (b : Bool) → not b ≡ false → b ≡ true
not_false true e = refl
not_false false e = absurd cc

not_true : (b : Bool) → not b ≡ true → b ≡ false
not_true true e = absurd cc
not_true false e = refl

not_turns : (b : Bool) (m n : ℕ) → (if b then m else n) ≡ (if not b then n else m)
not_turns true m n = refl
not_turns false m n = refl

-- ---- the half that was taken

module _ {D C : Type 0} {G : disks.Ghosts D} (given : Blanks) (outcome : CrashBytes) (back : Recovered D C G) (its : recovers.IsTakenFrom given outcome back) where
  -- an image is wanted where it isn't current
  wants_is : wants_image outcome ≡ not back.is_current
  wants_is = images_are_wanted outcome ∙ ap is_old its.1 ∙ ap not (sym its.2.current)

  pub current_where : wants_image outcome ≡ false → back.is_current ≡ true
  current_where none = not_false back.is_current (sym wants_is ∙ none)

  pub old_where : wants_image outcome ≡ true → back.is_current ≡ false
  old_where wanted = not_true back.is_current (sym wants_is ∙ wanted)

  pub wanted_where : back.is_current ≡ false → wants_image outcome ≡ true
  wanted_where old = wants_is ∙ ap not old

  -- where it stays, it is the engine's
  stays_taken : (engine : EngineShown D) → engine.half ≡ taken_half back.halves → IsTaken outcome engine.half
  stays_taken engine same = (its.0, its.1 ∙ ap (λ (half : Half). Takes half its.0) (sym same))

-- ---- a store that came back

module _ {D C : Type 0} {G : disks.Ghosts D} (processors : ℕ) (back : Recovered D C G) (opens : recovers.IsOpenedOn processors back) where
  abbrev old : Core
  old = recovers.core_of back

  -- why no image of it can be written is known from the half
  module _ (given : Blanks) (s : Saved) (its : recovers.OpensWith given back s) where
    pub image_is : image_refusal s (meaning_of s) ≡ going_refusal back.is_current old
    image_is =
        ap (image_refusal s) its.means
        ∙ (λ i. if sym its.current i then None else limit_refusal (sym its.generation i) old.opening)
        ∙ sym (going_is processors old opens back.is_current)

  pub engine_is : (given : Blanks) (outcome : CrashBytes) → recovers.IsTakenFrom given outcome back → restart_refusal given outcome ≡ None → engine_refusal given outcome ≡ going_refusal back.is_current old
  engine_is given outcome its none =
      engine_refusals_are_taken given outcome
      ∙ (λ i. either_refusal (none i) (taken_image_refusal (its.1 i)))
      ∙ image_is given its.0 its.2

  full_by : (X : Type 0) (given : Blanks) → recovers.IsReadFrom given back → (refusal : Refusal) → AnswersBy {X = X} (going_refusal back.is_current old) (Err refusal) → IsFullOfSome refusal
  full_by X given read refusals.ImageFull so = (read.0, read.1, read.2, image_is given read.1 read.3 ∙ so)
  full_by X given read _ so = tt

  pub going_full : (given : Blanks) → recovers.IsReadFrom given back → (refusal : Refusal) → AnswersBy {X = Core} (going_refusal back.is_current old) (Err refusal) → IsFullOfSome refusal
  going_full given read refusal so = full_by Core given read refusal so

  -- it is refused as a full image, or as memory or the device
  why : (refusal : Refusal) → AnswersBy {X = Core} (going_refusal back.is_current old) (Err refusal) → IsGoingRefusal back.is_current old refusal
  why refusal so = going_refused Core back.is_current old refusal so

  -- a crash while its image is written leaves the same world
  pub sealed_same : (first outcome : CrashBytes) → recovered first ≡ Found old.opening old.before old.generation → HasOldOrSealed old outcome → IsSameOrNext first outcome
  sealed_same first outcome found has =
      let durable : durable_world old ≡ old.opening = ap (λ (k : Core). world old.opening (take k.durable k.history)) opens in
      let none : old.before + old.durable ≡ old.before = (let is : old.durable ≡ 0 = ap (λ (k : Core). k.durable) opens in omega (arith, is)) in
      let count : old.before + length old.history ≡ old.before = (let is : length old.history ≡ 0 = ap (λ (k : Core). length {A = Event} k.history) opens in omega (arith, is)) in
      record {
        world = old.opening;
        count = old.before;
        generation = old.generation;
        was = found;
        is = elim (old_or_image old outcome has) [
          | inl same ↦ inl (same ∙ (λ i. Found (durable i) (none i) old.generation))
          | inr next ↦ inr (next ∙ (λ i. Found (opened_present processors old opens i) (count i) (old.generation + 1)))
        ];
      }

  module _ (engine : EngineShown D) (gone : core_of engine ≡ gone_on back.is_current old) where
    abbrev next_generation : ℕ
    next_generation = if back.is_current then old.generation else old.generation + 1

    abbrev next_end : ℕ
    next_end = if back.is_current then old.log_end else image_end old.opening

    core_is : core_of engine ≡ opened processors old.opening old.before next_generation next_end
    core_is = gone ∙ gone_opened processors old opens back.is_current

    pub came_opens : IsOpenedOn processors (core_of engine)
    came_opens = opened_is processors old.opening old.before next_generation next_end (core_of engine) core_is

    pub came_nothing : (core_of engine).history ≡ []
    came_nothing = ap (λ (k : Core). k.history) core_is

    opening_is : (core_of engine).opening ≡ old.opening
    opening_is = ap (λ (k : Core). k.opening) core_is

    before_is : (core_of engine).before ≡ old.before
    before_is = ap (λ (k : Core). k.before) core_is

    generation_is : (core_of engine).generation ≡ next_generation
    generation_is = ap (λ (k : Core). k.generation) core_is

    log_end_is : (core_of engine).log_end ≡ next_end
    log_end_is = ap (λ (k : Core). k.log_end) core_is

    pub came_within : (w : World) (before : ℕ) (history : List Event) (durable : ℕ) → OpensWithin w before history durable old → OpensWithin w before history durable (core_of engine)
    came_within w before history durable within = record {
      kept = within.kept;
      durable_kept = within.durable_kept;
      none_invented = within.none_invented;
      opening = opening_is ∙ within.opening;
      count = before_is ∙ within.count;
    }

    pub came_found : (given : Blanks) (outcome : CrashBytes) → recovers.IsTakenFrom given outcome back → recovered outcome ≡ Found old.opening old.before old.generation → IsFound outcome (core_of engine)
    came_found given outcome its found = record {
      generation = old.generation;
      is = found ∙ (λ i. Found (sym opening_is i) (sym before_is i) old.generation);
      at = generation_is ∙ not_turns back.is_current old.generation (old.generation + 1)
          ∙ ap (λ (b : Bool). if b then old.generation + 1 else old.generation) (sym (wants_is given outcome back its));
    }

    module _ (given : Blanks) (blanks : (view_of engine).blanks ≡ blanks_of back.store) where
      came_from : (s : Saved) → recovers.OpensWith given back s → ComesFrom given (view_of engine) s
      came_from s its = record {
        means = its.means ∙ (λ i. Whole (sym opening_is i) (sym before_is i));
        generation = generation_is ∙ (λ i. if its.current i then its.generation i else its.generation i + 1);
        log_end = log_end_is ∙ (λ i. if its.current i then its.log_end i else image_end (sym opening_is i));
        left = λ kind. ap (λ (b : Blanks). b kind + wanted_of s kind) blanks ∙ its.left kind;
      }

      pub came_read : recovers.IsReadFrom given back → IsReadFrom given (view_of engine)
      came_read read = record { bytes = read.0; saved = read.1; is_open = read.2; comes = came_from read.1 read.3 }

      pub came_taken : (outcome : CrashBytes) → recovers.IsTakenFrom given outcome back → IsTakenFrom given outcome (view_of engine)
      came_taken outcome its = record { half = taken_half back.halves; saved = its.0; is_taken = its.1; comes = came_from its.0 its.2 }

-- ---- what is answered

-- an engine that came back, or why none did
abbrev pub Answer : (D C : Type 0) → chares.Ghosts C → Type 0
Answer D C H = Result (EngineShown D) (NotRestarted D C H)

module _ {D C : Type 0} {H : chares.Ghosts C} where
  -- the disk is that of halves that stay as they were
  pub on_disk : {G : disks.Ghosts D} (halves : Halves D G) (r : Answer D C H) → CameBackOn halves r → disk_after r ≡ disk_of halves
  on_disk halves (Ok engine) same = same.disk
  on_disk halves (Err refused) never = absurd never

  pub all_back : (blanks : Stock C H) → IsUnused blanks → (supplied : Blanks) → supplied ≡ supplied_to blanks → (r : Result (EngineShown D) (NotRestarted D C H)) →
      IfErr r (λ refused. IsUnused refused.blanks) → IfErr r (λ refused. supplied_to refused.blanks ≡ supplied) → IfErr r (λ refused. IsSameStock blanks refused.blanks)
  all_back blanks was supplied same (Ok engine) unused kept = tt
  all_back blanks was supplied same (Err refused) unused kept = unused_is_same blanks refused.blanks was unused (kept ∙ same)

  -- once both halves were synced they are settled, and so they are after an image
  pub all_settled : {G : disks.Ghosts D} (halves : Halves D G) (r : Result (EngineShown D) (NotRestarted D C H)) → IsSettled (G.file (disk_of halves)) →
      IfOk r (λ engine. IsSettled (G.file engine.disk)) →
      IfErr r (λ refused. refused.refusal ≢ refusals.Device → refused.disk ≡ disk_of halves) → is_after_sync (core_or_refusal r) ≡ true → IsSettled (G.file (disk_after r))
  all_settled {G = G} halves (Ok engine) settled next still after = next
  all_settled {G = G} halves (Err refused) settled next still after =
      subst (λ (d : D). IsSettled (G.file d)) (sym (still (sure_apart refused.refusal after))) settled

module _ {D C : Type 0} {G : disks.Ghosts D} (processors : ℕ) (back : Recovered D C G) (opens : recovers.IsOpenedOn processors back) where
  abbrev was : Core
  was = recovers.core_of back

  abbrev HasGone : {H : chares.Ghosts C} → Answer D C H → Type 0
  HasGone r = IfOk r (λ engine. core_of engine ≡ gone_on back.is_current was)

  abbrev HasLeft : {H : chares.Ghosts C} → Answer D C H → Type 0
  HasLeft r = IfOk r (λ engine. (view_of engine).blanks ≡ blanks_of back.store)

  pub all_came_back : {H : chares.Ghosts C} (given was supplied : Blanks) → recovers.IsReadFrom given back → was ≡ supplied → (r : Answer D C H) → HasGone r → HasLeft r →
      IfOk r (λ engine. supplied_of engine ≡ was) → IfOk r (CameBack processors given supplied)
  all_came_back given was supplied read same (Ok engine) gone left is = record {
    opens = came_opens processors back opens engine gone;
    read = came_read processors back opens engine gone given left read;
    supplied_are = is ∙ same;
  }
  all_came_back given was supplied read same (Err refused) gone left is = tt

  pub all_from_files : {H : chares.Ghosts C} (given : Blanks) (outcome : CrashBytes) → recovers.IsTakenFrom given outcome back → recovered outcome ≡ Found was.opening was.before was.generation →
      (r : Answer D C H) → HasGone r → HasLeft r → (back.is_current ≡ true → IfOk r (λ engine. engine.half ≡ taken_half back.halves)) → (back.is_current ≡ false → IfOk r (HasImage G)) →
      IfOk r (λ engine. (o : CrashBytes) → MayLeave (G.file engine.disk) o → is_lawful_now (core_of engine) o) → IfOk r (CameFromFiles G given outcome)
  all_from_files given outcome its found (Ok engine) gone left stays image now = record {
    found = came_found processors back opens engine gone given outcome its found;
    taken_from = came_taken processors back opens engine gone given left outcome its;
    stays = λ none. stays_taken given outcome back its engine (stays (current_where given outcome back its none));
    image = λ wanted. image (old_where given outcome back its wanted);
    now = now;
  }
  all_from_files given outcome its found (Err refused) gone left stays image now = tt

  -- what was told in earlier lives is remembered
  pub all_remember : {H : chares.Ghosts C} (past : Past) (old new : Core) → Remembers past old → Onward old new → IsSound new → OpensWithin new.opening new.before new.history old.durable was → (r : Answer D C H) → HasGone r →
      IfOk r (λ engine. ComesBack past old new (core_of engine))
  all_remember past old new remembers on sound within (Ok engine) gone =
      comes_back past old new (core_of engine) remembers on sound (came_within processors back opens engine gone new.opening new.before new.history old.durable within) (came_nothing processors back opens engine gone)
  all_remember past old new remembers on sound within (Err refused) gone = tt

  -- ---- and what is refused

  abbrev HasAnswered : {H : chares.Ghosts C} → Answer D C H → Type 0
  HasAnswered r = AnswersBy (going_refusal back.is_current was) (core_or_refusal r)

  pub all_lawful : {H : chares.Ghosts C} (w : World) (before : ℕ) (history : List Event) (durable : ℕ) (given : Blanks) (outcome : CrashBytes) → recovers.IsTakenFrom given outcome back → OpensWithin w before history durable was →
      (r : Answer D C H) → HasGone r → HasAnswered r → AnswersAfterCrash w before history durable outcome (core_or_refusal r)
  all_lawful w before history durable given outcome its within (Ok engine) gone so = came_within processors back opens engine gone w before history durable within
  all_lawful w before history durable given outcome its within (Err refused) gone so =
      going_lacks back.is_current was refused.refusal (why processors back opens refused.refusal so) outcome (wanted_where given outcome back its)

  pub all_refused : {H : chares.Ghosts C} (blanks : Stock C H) → recovers.IsReadFrom (blanks_in blanks) back → (r : Answer D C H) → HasAnswered r → IfErr r (λ refused. IsSameStock blanks refused.blanks) →
      IfErr r (IsRefused processors blanks)
  all_refused blanks read (Ok engine) so same = tt
  all_refused blanks read (Err refused) so same =
      let cause = why processors back opens refused.refusal so in
      record {
        bad = λ bad. absurd (going_is_not_bad back.is_current was refused.refusal cause bad);
        known = going_is_engine back.is_current was refused.refusal cause;
        short = going_is_not_short back.is_current was refused.refusal cause (blanks_in blanks);
        full = going_full processors back opens (blanks_in blanks) read refused.refusal so;
        back = same;
      }

-- ---- the disk

module _ {D : Type 0} (G : disks.Ghosts D) (disk mid : D) (read : IsUnwritten G disk mid) where
  -- nothing is written where the disk stays
  pub unwritten_at : (last : D) → last ≡ mid → IsUnwritten G disk last
  unwritten_at last is = subst (λ (d : D). IsUnwritten G disk d) (sym is) read

  -- and else an image is, and nothing more
  pub leaves_by : (last : D) (core : Core) → (last ≡ mid) ⊎ LeavesOnly G.moment G.since mid last (HasOldOrSealed core) →
      ((outcome : CrashBytes) → HasOldOrSealed core outcome → IsSameOrNext (bytes_on (G.file disk)) outcome) → LeavesOnly G.moment G.since disk last (IsLeftByRestart (G.file disk))
  leaves_by last core written same_world = elim written [
    | inl still ↦
        subst (λ (d : D). LeavesOnly G.moment G.since disk d (IsLeftByRestart (G.file disk))) (sym still)
        (weaker G.moment G.since disk mid (MayLeave (G.file disk)) (IsLeftByRestart (G.file disk)) read.any_moment (λ o left. inl left))
    | inr stored ↦
        after_that G.moment G.since disk mid last (MayLeave (G.file disk)) (HasOldOrSealed core) (IsLeftByRestart (G.file disk)) read.any_moment stored (λ o left. inl left) (λ o has. inr (same_world o has))
  ]

  -- nor is it at a refusal where it does
  pub all_unwritten : {C : Type 0} {H : chares.Ghosts C} (r : Result (EngineShown D) (NotRestarted D C H)) → IfErr r (λ refused. refused.refusal ≢ refusals.Device → refused.disk ≡ mid) →
      IfErr r (λ refused. refused.refusal ≢ refusals.Device → IsUnwritten G disk refused.disk)
  all_unwritten (Ok engine) still = tt
  all_unwritten (Err refused) still = λ other. unwritten_at refused.disk (still other)
