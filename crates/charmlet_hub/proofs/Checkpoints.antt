-- What a hub has of a checkpoint, as its history goes on.
use Rattle.std.proofs.Common.{◌≡◌, ◌≢◌, ◌⊎◌, ℕ, zero, suc, ◌+◌, ◌<◌, ◌≤◌, true, false, List, [], ◌∷◌, ◌++◌, length, max, inl, inr, refl, sym, ap, subst, ◌∙◌, arith, if◌then◌else◌}
use Rattle.std.proofs.Math.Nat.{eq-or-lt_of_le}
use Rattle.std.proofs.lemmas.List.{length-set}
use Rattle.std.specs.Prelude.{Option, Some, None, IfErr, IfSome, Result, Ok, Err, is_some, slice_get, slice_set}
use Rattle.std.specs.BTreeMap.{is_at}
use Rattle.std.specs.List.{All}
use Rattle.std.specs.Map.{keys_of, lookup}
use Rattle.charmlet_model.specs.declared.event.Event.TheVariants.{Accept}
use Rattle.charmlet_model.specs.declared.message.Message.{Message}
use Rattle.charmlet_model.specs.declared.names.Elem.{Elem}
use Rattle.charmlet_model.specs.declared.names.MsgId.{MsgId}
use Rattle.charmlet_model.specs.declared.reaction.Reaction.{Reaction}
use Rattle.charmlet_model.specs.declared.refusal.Refusal.{Refusal}
use Rattle.charmlet_model.specs.declared.refusal.Refusal.TheVariants as refusals
use Rattle.charmlet_model.specs.declared.state.Record.{Record}
use Rattle.charmlet_model.specs.Core.{Assign, Blanks, Checkpoint, Commit, Core, CoreStep, Finish, Flush, Move, Release, Request, Status, Stepped, Steps, halted_core, is_repeat, next_core, present}
use Rattle.charmlet_model.specs.Names.{elem_cmp}
use Rattle.charmlet_model.specs.Sound.{IsSound}
use Rattle.charmlet_model.specs.World.{World, reaction_of}
use Rattle.charmlet_delivery.proofs.Places.{stepped_core}
use Rattle.charmlet_history.specs.Kept.{assigned_message}
use Rattle.charmlet_persist.specs.FuzzyCheckpoint.Laws.{AreCapturedOn}
use Rattle.charmlet_persist.specs.FuzzyCheckpoint.Checkpoint.{AreAllCaptured, IsRunning, IsShownBy, Run, with_delivery, with_images, with_message, with_reaction}
use Rattle.charmlet_persist.specs.FuzzyCheckpoint.Sealing.{PassesLimit}
use Rattle.charmlet_persist.proofs.FuzzyCheckpointLemmas.Others.{assignments_keep, flushes_keep, halts_keep, images_keep, processors_are_all, releases_keep, requests_keep}
use Rattle.charmlet_persist.proofs.FuzzyCheckpointLemmas.Shelves.{shelves_are_taken}
use Rattle.charmlet_persist.proofs.FuzzyCheckpointLemmas.Steps.{still_running}
use Rattle.charmlet_shelf.specs.declared.image.Image.{Image}
use Rattle.charmlet_shelf.specs.Image.{AreImages}
use Rattle.charmlet_delivery.specs.Workplace.{ShowsOn}
use Rattle.charmlet_hub.specs.Checkpoint.{HasRoom, IsCheckpoint, IsCheckpointed, IsNoted, IsTooLarge, Token, roomier, with_images_if}
use Rattle.charmlet_hub.proofs.Steps.{IsAside, next_aside}

-- ---- tokens

-- what is read of a list in which one place was written
pub set_or_other : {A : Type 0} (xs : List A) (k : ℕ) (v : A) (place : ℕ) (x : A) → slice_get (slice_set xs k v) place ≡ Some x → ((place ≡ k) × (x ≡ v)) ⊎ ((place ≢ k) × (slice_get xs place ≡ Some x))
set_or_other [] k v place x at = absurd (let never : ⊥ = cc in never)
set_or_other (y ∷ ys) zero v zero x at = inl (refl, let same : x ≡ v = cc in same)
set_or_other (y ∷ ys) zero v (suc place) x at = inr ((λ e. omega (arith, e)), at)
set_or_other (y ∷ ys) (suc k) v zero x at = inr ((λ e. omega (arith, e)), at)
set_or_other (y ∷ ys) (suc k) v (suc place) x at = elim (set_or_other ys k v place x at) [
  | inl here ↦ inl (ap suc here.0, here.1)
  | inr other ↦ inr ((λ e. other.0 (omega (arith, e))), other.1)
]

-- or to which one more was added
pub last_or_before : {A : Type 0} (xs : List A) (v : A) (place : ℕ) (x : A) → slice_get (xs ++ v ∷ []) place ≡ Some x → ((place + 1 ≡ length (xs ++ v ∷ [])) × (x ≡ v)) ⊎ (slice_get xs place ≡ Some x)
last_or_before [] v zero x at = inl (refl, let same : x ≡ v = cc in same)
last_or_before [] v (suc place) x at = absurd (let never : ⊥ = cc in never)
last_or_before (y ∷ ys) v zero x at = inr at
last_or_before (y ∷ ys) v (suc place) x at = elim (last_or_before ys v place x at) [
  | inl last ↦ inl (let rest = last.0 in omega arith, last.1)
  | inr before ↦ inr before
]

pub none_there : (tokens : List (Option Token)) → tokens ≡ [] → (place : ℕ) (token : Token) → slice_get tokens place ≡ Some (Some token) → ⊥
none_there [] none place token at = let never : ⊥ = cc in never
none_there (t ∷ ts) none place token at = let never : ⊥ = cc in never

-- ---- steps that are no delivery

module _ (core next : Core) (tokens : List (Option Token)) (keeps : (run : Run) → IsRunning core run → IsRunning next run) (places : next.places ≡ core.places) (assigned : length next.assigned ≤ length core.assigned) where
  -- it stays one
  pub checkpoint_stays : (o : Option Run) → IsCheckpointed core o tokens → IsCheckpointed next o tokens
  checkpoint_stays None is = is
  checkpoint_stays (Some run) is = record {
    running = keeps run is.running;
    room = let most = is.room in omega arith;
    token = λ place token at.
        let t = is.token place token at in
        record {
          last = t.last;
          begun = t.begun;
          handed_in = λ p less x on. t.handed_in p less x (ap (lookup (is_at (elem_cmp x))) (sym places) ∙ on);
        };
  }

-- a request, a question, a flush or a release
abbrev pub IsUnnoted : CoreStep → Type 0
IsUnnoted (Request client number to entry words) = Unit {0}
IsUnnoted (Status client number) = Unit {0}
IsUnnoted (Release processor) = Unit {0}
IsUnnoted Flush = Unit {0}
IsUnnoted _ = ⊥

module _ (core : Core) where
  unnoted_aside : (step : CoreStep) → IsUnnoted step → IsAside step
  unnoted_aside (Request client number to entry words) is = tt
  unnoted_aside (Status client number) is = tt
  unnoted_aside (Assign processor id) is = absurd is
  unnoted_aside (Commit processor) is = absurd is
  unnoted_aside (Finish processor) is = absurd is
  unnoted_aside (Release processor) is = tt
  unnoted_aside (Move x processor) is = absurd is
  unnoted_aside Flush is = tt
  unnoted_aside Checkpoint is = absurd is

  same_places : (step : CoreStep) → IsUnnoted step → (next_core core step).places ≡ core.places
  same_places (Request client number to entry words) is =
      elim (is_repeat core client number) as (λ b. (if b then core else record core { history = core.history ++ Accept client number to entry words ∷ [] }).places ≡ core.places) [ true ↦ refl | false ↦ refl ]
  same_places (Status client number) is = refl
  same_places (Assign processor id) is = absurd is
  same_places (Commit processor) is = absurd is
  same_places (Finish processor) is = absurd is
  same_places (Release processor) is = refl
  same_places (Move x processor) is = absurd is
  same_places Flush is = refl
  same_places Checkpoint is = absurd is

  still_runs : (step : CoreStep) → IsUnnoted step → (run : Run) → IsRunning core run → IsRunning (next_core core step) run
  still_runs (Request client number to entry words) is run = requests_keep core run client number to entry words
  still_runs (Status client number) is run = λ running. running
  still_runs (Assign processor id) is run = absurd is
  still_runs (Commit processor) is run = absurd is
  still_runs (Finish processor) is run = absurd is
  still_runs (Release processor) is run = releases_keep core run processor
  still_runs (Move x processor) is run = absurd is
  still_runs Flush is run = flushes_keep core run
  still_runs Checkpoint is run = absurd is

  pub halt_keeps : (o : Option Run) (tokens : List (Option Token)) → IsCheckpointed core o tokens → IsCheckpointed (halted_core core) o tokens
  halt_keeps o tokens = checkpoint_stays core (halted_core core) tokens (halts_keep core) refl (omega arith) o

  pub step_keeps : (blanks : Blanks) (step : CoreStep) (next : Stepped) (o : Option Run) (tokens : List (Option Token)) → IsUnnoted step → Steps core blanks step next → IsCheckpointed core o tokens → IsCheckpointed next.core o tokens
  step_keeps blanks step next o tokens unnoted steps is =
      stepped_core (λ (c : Core). IsCheckpointed c o tokens) core blanks step is (halt_keeps o tokens is)
      (checkpoint_stays core (next_core core step) tokens (still_runs step unnoted) (same_places step unnoted) (next_aside core step (unnoted_aside step unnoted)).no_more o is) next steps

-- an image that is made durable, or isn't
pub seal_keeps : (core next : Core) (o : Option Run) (tokens : List (Option Token)) → next.opening ≡ core.opening → next.before ≡ core.before → next.history ≡ core.history → next.places ≡ core.places → next.assigned ≡ core.assigned → IsCheckpointed core o tokens → IsCheckpointed next o tokens
seal_keeps core next o tokens opening before history places assigned =
    checkpoint_stays core next tokens (λ run is. still_running core run is next opening before history) places (let as_many = ap length assigned in omega arith) o

-- where none runs, any step leaves none
pub none_keeps : (core next : Core) (o : Option Run) (tokens : List (Option Token)) → is_some o ≡ false → IsCheckpointed core o tokens → IsCheckpointed next o tokens
none_keeps core next None tokens none is = is
none_keeps core next (Some run) tokens none is = absurd (let never : ⊥ = cc in never)

pub none_is : (o : Option Run) → is_some o ≡ false → o ≡ None
none_is None none = refl
none_is (Some run) none = absurd (let never : ⊥ = cc in never)

-- ---- assignments

roomy_running : (core : Core) (run : Run) (room : ℕ) → IsRunning core run → IsRunning core (record run { room = room })
roomy_running core run room is = record {
  after = is.after;
  within = is.within;
  from = record { rising = is.from.rising; captured = is.from.captured; caught_up = is.from.caught_up; count = is.from.count };
}

-- with room for as many as are assigned then
pub assigned_keeps : (core : Core) (blanks : Blanks) (p : ℕ) (id : MsgId) (next : Stepped) (most : ℕ) (o : Option Run) (tokens : List (Option Token)) → length next.core.assigned ≤ most → Steps core blanks (Assign p id) next → IsCheckpointed core o tokens →
    IsCheckpointed next.core (roomier most o) tokens
assigned_keeps core blanks p id next most None tokens few steps is = is
assigned_keeps core blanks p id next most (Some run) tokens few steps is =
    let more : Run = record run { room = max run.room most } in
    let running = roomy_running core run (max run.room most) is.running in
    let both : IsRunning next.core more × (next.core.places ≡ core.places) =
    stepped_core (λ (c : Core). IsRunning c more × (c.places ≡ core.places)) core blanks (Assign p id) (running, refl) (halts_keep core more running, refl) (assignments_keep core more p id running, refl) next steps in
    record {
      running = both.0;
      room = omega (arith, few);
      token = λ place token at.
          let t = is.token place token at in
          record {
            last = t.last;
            begun = t.begun;
            handed_in = λ q less x on. t.handed_in q less x (ap (lookup (is_at (elem_cmp x))) (sym both.1) ∙ on);
          };
    }

-- ---- deliveries

pub has_room : (core : Core) (o : Option Run) (tokens : List (Option Token)) → 1 ≤ length core.assigned → IsCheckpointed core o tokens → IfSome o (HasRoom core)
has_room core None tokens some is = tt
has_room core (Some run) tokens some is = record { running = is.running; room = let most = is.room in omega arith }

reaction_room : (w : World) (m : Message) (o : Option Reaction) (run : Run) → run.room ≤ (with_reaction w m o run).room + 1
reaction_room w m None run = omega arith
reaction_room w m (Some r) run = omega arith

message_room : (w : World) (q : Option Message) (run : Run) → run.room ≤ (with_message w q run).room + 1
message_room w None run = omega arith
message_room w (Some m) run = reaction_room w m (reaction_of w m) run

delivery_room : (core : Core) (p : ℕ) (run : Run) → run.room ≤ (with_delivery core p run).room + 1
delivery_room core p run = message_room (present core) (assigned_message core p) run

-- it began when it did
reaction_begun : (w : World) (m : Message) (o : Option Reaction) (run : Run) → (with_reaction w m o run).begun ≡ run.begun
reaction_begun w m None run = refl
reaction_begun w m (Some r) run = refl

message_begun : (w : World) (q : Option Message) (run : Run) → (with_message w q run).begun ≡ run.begun
message_begun w None run = refl
message_begun w (Some m) run = reaction_begun w m (reaction_of w m) run

delivery_begun : (core : Core) (p : ℕ) (run : Run) → (with_delivery core p run).begun ≡ run.begun
delivery_begun core p run = message_begun (present core) (assigned_message core p) run

-- one that is noted
pub noted_keeps : (core next : Core) (p : ℕ) (o o' : Option Run) (tokens : List (Option Token)) → next ≡ next_core core (Commit p) → length next.assigned + 1 ≡ length core.assigned → IsNoted core p o o' → IsCheckpointed core o tokens → IsCheckpointed next o' tokens
noted_keeps core next p None o' tokens same fewer noted is = subst (λ (o : Option Run). IsCheckpointed next o tokens) (sym noted) is
noted_keeps core next p (Some run) o' tokens same fewer noted is =
    let new = noted.0 in
    let n = noted.2 in
    subst (λ (o : Option Run). IsCheckpointed next o tokens) (sym noted.1) (record {
      running = subst (λ (c : Core). IsRunning c new) (sym same) n.running;
      room =
          let one = delivery_room core p run in
          let left = ap (λ (r : Run). r.room) n.noted in
          let most = is.room in
          omega arith;
      token = λ place token at.
          let t = is.token place token at in
          record {
            last = t.last;
            begun = ap (λ (r : Run). r.begun) n.noted ∙ delivery_begun core p run ∙ t.begun;
            handed_in = λ q less. subst (λ (c : Core). AreCapturedOn c new q) (sym same) (n.settled q (t.handed_in q less));
          };
    })

-- ---- its beginning, its images and its end

pub begins : (core : Core) (run : Run) (tokens : List (Option Token)) (begun : ℕ) → IsRunning core run → run.begun ≡ begun → length core.assigned ≤ run.room → IsCheckpointed core None tokens →
    IsCheckpointed core (Some run) (tokens ++ Some (record { begun = begun; shelves = 0 }) ∷ [])
begins core run tokens begun running when room none =
    let new : Token = record { begun = begun; shelves = 0 } in
    record {
      running = running;
      room = room;
      token = λ place token at. elim (last_or_before tokens (Some new) place (Some token) at) [
        | inl last ↦
            (let same : token ≡ new = (let e : Some token ≡ Some new = last.1 in cc) in
            record {
              last = last.0;
              begun = when ∙ sym (ap (λ (t : Token). t.begun) same);
              handed_in = λ p less. (let no : token.shelves ≡ 0 = ap (λ (t : Token). t.shelves) same in absurd (omega (arith, no, less)));
            })
        | inr before ↦ absurd (none place token before)
      ];
    }

-- a token is of a checkpoint that runs
pub token_runs : (core : Core) (o : Option Run) (tokens : List (Option Token)) (k : ℕ) (t : Token) → IsCheckpointed core o tokens → slice_get tokens k ≡ Some (Some t) → is_some o ≡ true
token_runs core None tokens k t is here = absurd (is k t here)
token_runs core (Some run) tokens k t is here = refl

pub running_of : (core : Core) (o : Option Run) (tokens : List (Option Token)) → IsCheckpointed core o tokens → IfSome o (IsRunning core)
running_of core None tokens is = tt
running_of core (Some run) tokens is = is.running

-- one more shelf was handed in
abbrev pub with_shelf : Token → Token
with_shelf token = record token { shelves = token.shelves + 1 }

module _ (core : Core) (run : Run) (tokens : List (Option Token)) (k : ℕ) (t : Token) (is : IsCheckpoint core run tokens) (here : slice_get tokens k ≡ Some (Some t)) where
  -- it is the only one that is out
  only_one : (place : ℕ) (token : Token) → place ≢ k → slice_get tokens place ≡ Some (Some token) → ⊥
  only_one place token apart at =
      let this = (is.token k t here).last in
      let other = (is.token place token at).last in
      apart (omega arith)

  module _ (images : List Image) (running : IsRunning core (record run { captured = with_images run.captured images })) (settled : AreCapturedOn core (record run { captured = with_images run.captured images }) t.shelves) where
    abbrev more : Run
    more = record run { captured = with_images run.captured images }

    known : (p : ℕ) → p < t.shelves + 1 → AreCapturedOn core more p
    known p less =
        let within : p ≤ t.shelves = omega arith in
        elim (eq-or-lt_of_le within) [
          | inl same ↦ subst (AreCapturedOn core more) (sym same) settled
          | inr before ↦ λ x on. images_keep run images x ((is.token k t here).handed_in p before x on)
        ]

    -- one more shelf is handed in
    pub hands_in : IsCheckpoint core more (slice_set tokens k (Some (with_shelf t)))
    hands_in = record {
      running = running;
      room = is.room;
      token = λ place token at. elim (set_or_other tokens k (Some (with_shelf t)) place (Some token) at) [
        | inl this ↦
            (let same : token ≡ with_shelf t = (let e : Some token ≡ Some (with_shelf t) = this.1 in cc) in
            let as_many : token.shelves ≡ t.shelves + 1 = ap (λ (x : Token). x.shelves) same in
            record {
              last = (let last = (is.token k t here).last in let there = this.0 in let all = length-set tokens k (Some (with_shelf t)) in omega arith);
              begun = (is.token k t here).begun ∙ sym (ap (λ (x : Token). x.begun) same);
              handed_in = λ p less. known p (omega (arith, as_many, less));
            })
        | inr other ↦ absurd (only_one place token other.0 other.1)
      ];
    }

-- the images of the next shelf are taken
pub image_keeps : (core : Core) → IsSound core → (o o' : Option Run) (tokens tokens' : List (Option Token)) (k : ℕ) (t : Token) (number : ℕ) (records : List (Elem × Record)) (images : List Image) → IsCheckpointed core o tokens → slice_get tokens k ≡ Some (Some t) → number ≡ t.shelves →
    ShowsOn number records core.places (present core) → AreImages records (keys_of records) images → o' ≡ with_images_if o images → IfSome o' (IsRunning core) → tokens' ≡ slice_set tokens k (Some (with_shelf t)) → IsCheckpointed core o' tokens'
image_keeps core sound None o' tokens tokens' k t number records images is here same shows are taken running written = absurd (is k t here)
image_keeps core sound (Some run) o' tokens tokens' k t number records images is here same shows are taken running written =
    let more : Run = record run { captured = with_images run.captured images } in
    let runs : IsRunning core more = subst (λ (o : Option Run). IfSome o (IsRunning core)) taken running in
    let settled : AreCapturedOn core more t.shelves = subst (AreCapturedOn core more) same (shelves_are_taken core run number records images sound shows are).1 in
    subst (λ (x : Option Run × List (Option Token)). IsCheckpointed core x.0 x.1) (λ i. (sym taken i, sym written i)) (hands_in core run tokens k t is here images runs settled)

-- all of them are of what is there
pub images_shown : (core : Core) → IsSound core → (number : ℕ) (records : List (Elem × Record)) (images : List Image) → ShowsOn number records core.places (present core) → AreImages records (keys_of records) images → All (IsShownBy (present core)) images
images_shown core sound number records images shows are =
    (shelves_are_taken core (record { begun = 0; captured = []; caught_up = []; count = 0; room = 0 }) number records images sound shows are).0

-- its token is taken back
pub ends : (core next : Core) (o : Option Run) (tokens : List (Option Token)) (k : ℕ) (t : Token) → IsCheckpointed core o tokens → slice_get tokens k ≡ Some (Some t) → IsCheckpointed next None (slice_set tokens k None)
ends core next None tokens k t is here = absurd (is k t here)
ends core next (Some run) tokens k t is here = λ place token at. elim (set_or_other tokens k None place (Some token) at) [
  | inl this ↦ (let never : ⊥ = (let e : Some token ≡ None = this.1 in cc) in never)
  | inr other ↦ only_one core run tokens k t is here place token other.0 other.1
]

-- where all shelves were handed in, all is settled
pub all_settled : (core : Core) → IsSound core → (o : Option Run) (tokens : List (Option Token)) (k : ℕ) (t : Token) → t.shelves ≡ core.processors → slice_get tokens k ≡ Some (Some t) → IsCheckpointed core o tokens → IfSome o (AreAllCaptured core)
all_settled core sound None tokens k t all here is = tt
all_settled core sound (Some run) tokens k t all here is = processors_are_all core run sound (λ p x on.
    let on_processor : p < core.processors = subst (λ (o : Option ℕ). IfSome o (λ q. q < core.processors)) on (sound.placed x).on_processor in
    (is.token k t here).handed_in p (omega (arith, all, on_processor)) x on)

-- ---- its limits

pub limits_if : (core : Core) (o : Option Run) (run : Run) → o ≡ Some run → (r : Result ℕ Refusal) → IfErr r (λ refusal. refusal ≡ refusals.ImageFull → PassesLimit core run) → IfErr r (λ refusal. refusal ≡ refusals.ImageFull → IfSome o (PassesLimit core))
limits_if core o run is (Ok generation) full = tt
limits_if core o run is (Err refusal) full = λ same. subst (λ (o : Option Run). IfSome o (PassesLimit core)) (sym is) (full same)

-- the one that runs is the token's, and would pass one
pub too_large : (core : Core) → IsSound core → (o : Option Run) (tokens : List (Option Token)) (k : ℕ) (t : Token) → t.shelves ≡ core.processors → slice_get tokens k ≡ Some (Some t) → IsCheckpointed core o tokens → IfSome o (PassesLimit core) → IsTooLarge core t.begun
too_large core sound None tokens k t all here is passes = absurd (is k t here)
too_large core sound (Some run) tokens k t all here is passes = record {
  run = run;
  when = (is.token k t here).begun;
  running = is.running;
  settled = all_settled core sound (Some run) tokens k t all here is;
  passes = passes;
}
