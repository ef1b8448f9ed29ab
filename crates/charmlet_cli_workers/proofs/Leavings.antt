-- What runs by workers leave, and how they end.
use Rattle.std.proofs.Common.{◌≡◌, ℕ, List, ◌∷◌, inl, inr, ⊎_elim, refl, sym, subst, ◌∙◌, Option, Some, None, Result, Ok, Err, OnOk}
use Rattle.std.specs.Prelude.{IfErr, IfSome, IsErr, IsOk, IsSome}
use Rattle.std.specs.List.{AllByRecursion}
use Rattle.charmlet_model.specs.declared.names.MsgId.{MsgId}
use Rattle.charmlet_model.specs.Core.{Core}
use Rattle.charmlet_model.specs.Sound.{IsSound}
use Rattle.charmlet_model.specs.Texts.{Text}
use Rattle.charmlet_model.specs.World.{World}
use Rattle.charmlet_hub.specs.Hub.{deliveries_in}
use Rattle.charmlet_leases.specs.Passes.Passes.{HaveAllAccepts, HeldPass, IsCurrent}
use Rattle.charmlet_leases.specs.Seats.Woven.{IsWoven}
use Rattle.charmlet_script.specs.declared.script.Line.{Line}
use Rattle.charmlet_script_output.specs.declared.restarted_line.RestartedLine.{RestartedLine}
use Rattle.charmlet_requests.specs.Handlers.{IsTarget}
use Rattle.charmlet_script_output.specs.Named.{Names}
use Rattle.charmlet_workers.specs.Refusals.{IsRecent}
use Rattle.charmlet_workers.specs.Runtime.{ArePending, ArePendingIds, RuntimeShown, StoodOn, WasSeen, WereCounted}
use Rattle.charmlet_cli_workers.specs.Heard.{IsDoneBy, IsStepCauseBy, known_by}
use Rattle.charmlet_cli_workers.specs.Said.{ArePrinted, AreCutOff, AreSaid, Clients, Deeds, HaveDone, IsBrokenOff, IsOfCheckpoint, WereFlushed, opening_generation, known_in, shown_since, unknown}
use Rattle.charmlet_cli_workers.proofs.Asking.{accepts_are, all_accepts, cause_in, lent_in}
use Rattle.charmlet_cli_workers.proofs.Hearing.{flushed_is_durable, heard_stays_true, reached_is_accepted, sure_stays_true}
use Rattle.charmlet_cli_workers.proofs.Sayings.{KnowsMore, said_all_on, said_on}
use Rattle.charmlet_disk.specs.declared.disk.Disk.{Ghosts}
use Rattle.charmlet_sequencer.specs.Sequencer.{IsOf}
use Rattle.charmlet_cli_workers.specs.declared.ended.WorkersError.{WorkersError}
use Rattle.charmlet_cli_workers.specs.declared.ended.WorkersError.TheVariants.{Delivers, TooFewBlanks, Memory, NotCreated, NotRestarted, NoSeats, Output, NotClosed}
use Rattle.charmlet_cli_workers.specs.Left.{EndsApart, EndsEarly, IsApart, IsEarly, IsLeft, KeepsDurable, Prints, PrintsOver}

-- a disk that comes back as this one, with a store of this core
pub left_by : {D : Type 0} (G : Ghosts D) (opening : World) (before processors : ℕ) (printed : Core → Type 0) (core : Core) (was disk : D) → disk ≡ was → IsOf opening before processors core → IsSound core → KeepsDurable G core was → printed core →
    IsLeft G opening before processors printed disk
left_by G opening before processors printed core was disk is of sound keeps prints = record {
  last = core;
  of = of;
  sound = sound;
  keeps = subst (KeepsDurable G core) (sym is) keeps;
  prints = prints;
}

pub apart_by : {D : Type 0} (G : Ghosts D) (opening : World) (before processors : ℕ) (passes : List HeldPass) (lists : List (List MsgId)) (core : Core) (was disk : D) → disk ≡ was → IsOf opening before processors core → IsSound core → KeepsDurable G core was →
    AllByRecursion (λ (held : HeldPass). IsCurrent held core) passes → HaveAllAccepts passes core → (own : List MsgId) → IsWoven (own ∷ lists) (deliveries_in core.history) → IsApart G opening before processors passes lists disk
apart_by G opening before processors passes lists core was disk is of sound keeps current all own woven = record {
  last = core;
  of = of;
  sound = sound;
  keeps = subst (KeepsDurable G core) (sym is) keeps;
  current = current;
  all = all;
  own = own;
  woven = woven;
}

-- ---- what passes and seats know is so in the end

-- what passes hold, and seats, was done in the end
done_in : (core : Core) (passes : List HeldPass) (lists : List (List MsgId)) (own : List MsgId) (deeds : Deeds) → AllByRecursion (λ (held : HeldPass). IsCurrent held core) passes → HaveAllAccepts passes core → IsWoven (own ∷ lists) (deliveries_in core.history) → IsDoneBy passes lists deeds →
    HaveDone core deeds
done_in core passes lists own deeds current all woven done = record {
  accepts = λ client. done.accepts client ∙ accepts_are core passes client (all_accepts core passes current) all;
  own = own;
  delivered = subst (λ ls. IsWoven (own ∷ ls) (deliveries_in core.history)) (sym done.delivered) woven;
}

-- a runtime is seen as a core that went on from its opening
shown_is : (shown : RuntimeShown) (first : ℕ) (core : Core) → shown.generation ≡ first → IsOf shown.opening shown.before shown.processors core → shown ≡ shown_since first core
shown_is shown first core since of = λ i. record { opening = sym of.opening_is i; before = sym of.before_is i; processors = sym of.processors_are i; generation = since i }

-- and so is what they know
knows_more : (shown : RuntimeShown) (first : ℕ) (names : Names) (core : Core) (passes : List HeldPass) → shown.generation ≡ first → IsOf shown.opening shown.before shown.processors core → IsSound core → AllByRecursion (λ (held : HeldPass). IsCurrent held core) passes →
    KnowsMore (known_by shown names passes) (known_in first core names)
knows_more shown first names core passes since of sound current = record {
  told = λ client number told heard. heard_stays_true core passes client number told sound current heard;
  accepted = λ client number reached. reached_is_accepted core passes client number current reached;
  earlier = λ client number lent. lent_in core passes client (λ last. IsRecent last number) current lent;
  durable = λ client number sure. sure_stays_true core passes client number sound current sure;
  refused = λ accepts step refusal cause. cause_in first core passes accepts step refusal current (subst (λ (v : RuntimeShown). IsStepCauseBy v passes accepts step refusal) (shown_is shown first core since of) cause);
  target = λ name index to entry is. subst (λ (v : RuntimeShown). IsTarget v.opening index (names name) to entry) (shown_is shown first core since of) is;
  flushed = λ accepts knows count is. (subst (λ (v : RuntimeShown). WereFlushed v accepts knows count) (shown_is shown first core since of) is.0, ⊎_elim (λ none. inl none) (λ flushed. inr (flushed_is_durable core passes count current flushed)) is.1);
  sealed = λ generation is. subst (λ (v : RuntimeShown). IsOfCheckpoint v generation) (shown_is shown first core since of) is;
  pending = λ count is. subst (λ (v : RuntimeShown). ArePending v count) (shown_is shown first core since of) is;
  pending_ids = λ ids are. subst (λ (v : RuntimeShown). ArePendingIds v ids) (shown_is shown first core since of) are;
  seen = λ elem look was. subst (λ (v : RuntimeShown). WasSeen v elem look) (shown_is shown first core since of) was;
  stood = λ elem processor was. subst (λ (v : RuntimeShown). StoodOn v elem processor) (shown_is shown first core since of) was;
  counted = λ census were. subst (λ (v : RuntimeShown). WereCounted v census) (shown_is shown first core since of) were;
}

-- or nothing is known of it
knows_nothing : (here : Clients) → KnowsMore here unknown
knows_nothing here = record {
  told = λ client number told is. tt;
  accepted = λ client number is. tt;
  earlier = λ client number is. tt;
  durable = λ client number is. tt;
  refused = λ accepts step refusal is. tt;
  target = λ name index to entry is. tt;
  flushed = λ accepts knows count is. tt;
  sealed = λ generation is. tt;
  pending = λ count is. tt;
  pending_ids = λ ids are. tt;
  seen = λ elem look was. tt;
  stood = λ elem processor was. tt;
  counted = λ census were. tt;
}

module _ (here there : Clients) (did was : Deeds → Type 0) (more : KnowsMore here there) (on : (deeds : Deeds) → did deeds → was deeds) where
  said_lines_on : (first : Deeds) (lines : List Line) (last : Deeds) (before after : Option Text) → AreSaid here first lines last before after → AreSaid there first lines last before after
  said_lines_on first lines last before after said = (said.0, said_all_on here there more first lines said.0 last said.1, said.2)

  printed_on : (restarted : Option RestartedLine) (lines : List Line) (before after : Option Text) → ArePrinted restarted here did lines before after → ArePrinted restarted there was lines before after
  printed_on restarted lines before after printed = (printed.0, printed.1, printed.2, on printed.1 printed.3, printed.4, printed.5, said_lines_on printed.0 lines printed.1 printed.4 after printed.6)

  cut_on : (first : Deeds) (lines : List Line) (last : Deeds) (before after : Option Text) → AreCutOff here first lines last before after → AreCutOff there first lines last before after
  cut_on first lines last before after cut =
      (cut.0, cut.1, cut.2, cut.3, cut.4, cut.5, said_lines_on first cut.0 cut.4 before cut.5 cut.6, cut.7, said_on here there more cut.4 cut.1 cut.7 last cut.8, cut.9)

  broken_on : (restarted : Option RestartedLine) (lines : List Line) (before after : Option Text) → IsBrokenOff restarted here did lines before after → IsBrokenOff restarted there was lines before after
  broken_on restarted lines before after broken =
      (broken.0, broken.1, broken.2, on broken.1 broken.3, ⊎_elim (λ early. inl early) (λ later. inr (later.0, later.1, cut_on broken.0 lines broken.1 later.0 after later.2)) broken.4)

  pub prints_on : {T X : Type 0} (r : Result X (WorkersError T)) (restarted : Option RestartedLine) (lines : List Line) (before after : Option Text) → Prints r restarted here did lines before after → Prints r restarted there was lines before after
  prints_on (Ok x) restarted lines before after prints = printed_on restarted lines before after prints
  prints_on (Err (Output e)) restarted lines before after prints = broken_on restarted lines before after prints
  prints_on (Err NotClosed) restarted lines before after prints = printed_on restarted lines before after prints
  prints_on (Err NoSeats) restarted lines before after prints = tt
  prints_on (Err Memory) restarted lines before after prints = tt
  prints_on (Err (Delivers objects)) restarted lines before after prints = tt
  prints_on (Err (TooFewBlanks objects)) restarted lines before after prints = tt
  prints_on (Err (NotCreated refusal)) restarted lines before after prints = tt
  prints_on (Err (NotRestarted refusal)) restarted lines before after prints = tt

-- what was printed is true of the store that is left
pub left_apart : {D T X : Type 0} (G : Ghosts D) (shown : RuntimeShown) (names : Names) (passes : List HeldPass) (lists : List (List MsgId)) (end : Option D) (ran r : Result X (WorkersError T)) (restarted : Option RestartedLine) (lines : List Line)
    (was now : Option Text) → shown.generation ≡ opening_generation restarted → IfSome end (IsApart G shown.opening shown.before shown.processors passes lists) → (IsSome end → r ≡ ran) → Prints ran restarted (known_by shown names passes) (IsDoneBy passes lists) lines was now →
    IfSome end (IsLeft G shown.opening shown.before shown.processors (λ last. PrintsOver r restarted last names lines was now))
left_apart G shown names passes lists None ran r restarted lines was now since apart same prints = tt
left_apart G shown names passes lists (Some disk) ran r restarted lines was now since apart same prints = record {
  last = apart.last;
  of = apart.of;
  sound = apart.sound;
  keeps = apart.keeps;
  prints = prints_on (known_by shown names passes) (known_in (opening_generation restarted) apart.last names) (IsDoneBy passes lists) (HaveDone apart.last) (knows_more shown (opening_generation restarted) names apart.last passes since apart.of apart.sound apart.current)
      (λ deeds done. done_in apart.last passes lists apart.own deeds apart.current apart.all apart.woven done) r restarted lines was now (subst (λ e. Prints e restarted (known_by shown names passes) (IsDoneBy passes lists) lines was now) (sym (same refl)) prints);
}

-- and was printed, whether or not the disk comes back
module _ (here : Clients) (did : Deeds → Type 0) (restarted : Option RestartedLine) (lines : List Line) (was now : Option Text) where
  ran_ok : {T X : Type 0} (ran : Result X (WorkersError T)) → IsOk ran → Prints ran restarted here did lines was now → ArePrinted restarted here did lines was now
  ran_ok (Ok x) ok prints = prints
  ran_ok (Err e) ok prints = let never : ⊥ = cc in absurd never

  closed_so : {T X : Type 0} (ran : Result X (WorkersError T)) (error : WorkersError T) → IsOk ran → error ≡ NotClosed → Prints ran restarted here did lines was now → Prints {T = T} {X = X} (Err error) restarted here did lines was now
  closed_so {T = T} {X = X} ran error ok is prints = subst (λ e. Prints {T = T} {X = X} (Err e) restarted here did lines was now) (sym is) (ran_ok ran ok prints)

  prints_so : {D T X : Type 0} (end : Option D) (ran r : Result X (WorkersError T)) → (IsSome end → r ≡ ran) → OnOk r (IsSome end) → IfErr r (EndsApart ran end) → Prints ran restarted here did lines was now → Prints r restarted here did lines was now
  prints_so end ran (Ok x) same back apart prints = subst (λ e. Prints e restarted here did lines was now) (sym (same back)) prints
  prints_so end ran (Err error) same back apart prints =
      ⊎_elim (λ is. subst (λ e. Prints e restarted here did lines was now) is prints) (λ is. closed_so ran error is.2 is.0 prints) apart

  pub prints_apart : {D T X : Type 0} (end : Option D) (ran r : Result X (WorkersError T)) → (IsSome end → r ≡ ran) → OnOk r (IsSome end) → IfErr r (EndsApart ran end) → Prints ran restarted here did lines was now →
      Prints r restarted unknown (λ deeds. Unit {0}) lines was now
  prints_apart end ran r same back apart prints = prints_on here unknown did (λ deeds. Unit {0}) (knows_nothing here) (λ deeds done. tt) r restarted lines was now (prints_so end ran r same back apart prints)

-- the same of lines that are these
pub left_of_lines : {D T X : Type 0} (G : Ghosts D) (opening : World) (before processors : ℕ) (end : Option D) (r : Result X (WorkersError T)) (restarted wanted : Option RestartedLine) (names called : Names) (lines all : List Line) (was now : Option Text) →
    restarted ≡ wanted → names ≡ called → lines ≡ all → IfSome end (IsLeft G opening before processors (λ last. PrintsOver r restarted last names lines was now)) → IfSome end (IsLeft G opening before processors (λ last. PrintsOver r wanted last called all was now))
left_of_lines G opening before processors end r restarted wanted names called lines all was now first calls same left =
    subst (λ (x : Option RestartedLine × (Names × List Line)). IfSome end (IsLeft G opening before processors (λ last. PrintsOver r x.0 last x.1.0 x.1.1 was now))) (λ i. (first i, (calls i, same i))) left

pub prints_of_lines : {T X : Type 0} (r : Result X (WorkersError T)) (restarted wanted : Option RestartedLine) (lines all : List Line) (was now : Option Text) → restarted ≡ wanted → lines ≡ all → Prints r restarted unknown (λ deeds. Unit {0}) lines was now →
    Prints r wanted unknown (λ deeds. Unit {0}) all was now
prints_of_lines r restarted wanted lines all was now first same prints =
    subst (λ (p : Option RestartedLine × List Line). Prints r p.0 unknown (λ deeds. Unit {0}) p.1 was now) (λ i. (first i, same i)) prints

early_ends : {D T W : Type 0} (end : Option D) (before after : W) (error : WorkersError T) → IsEarly before after error → EndsEarly end before after error
early_ends end before after NotClosed early = absurd early
early_ends end before after NoSeats early = early
early_ends end before after (Output e) early = early
early_ends end before after (Delivers objects) early = early
early_ends end before after (TooFewBlanks objects) early = early
early_ends end before after Memory early = early
early_ends end before after (NotCreated refusal) early = early
early_ends end before after (NotRestarted refusal) early = early

not_closed_ends : {D T W : Type 0} (end : Option D) (before after : W) (error : WorkersError T) → error ≡ NotClosed → end ≡ None → EndsEarly end before after error
not_closed_ends end before after error is none = subst (λ e. EndsEarly end before after e) (sym is) none

-- a run that ended early for a reason, once the runtime is apart or isn't
apart_early : {D T X W : Type 0} (ran : Result X (WorkersError T)) (end : Option D) (before after : W) (error : WorkersError T) → IfErr ran (IsEarly before after) → EndsApart ran end error → EndsEarly end before after error
apart_early (Ok x) end before after error early apart = ⊎_elim (λ same. let never : ⊥ = cc in absurd never) (λ is. not_closed_ends end before after error is.0 is.1) apart
apart_early (Err e) end before after error early apart =
    ⊎_elim (λ same. let is : e ≡ error = cc in early_ends end before after error (subst (IsEarly before after) is early)) (λ is. not_closed_ends end before after error is.0 is.1) apart

pub ends_early : {D T X Y W : Type 0} (ran : Result X (WorkersError T)) (r : Result Y (WorkersError T)) (end : Option D) (before after : W) → IfErr ran (IsEarly before after) → IfErr r (EndsApart ran end) → IfErr r (EndsEarly end before after)
ends_early ran (Ok y) end before after early apart = tt
ends_early ran (Err error) end before after early apart = apart_early ran end before after error early apart

pub on_ok : {T E P : Type 0} (r : Result T E) → P → OnOk r P
on_ok (Ok x) holds = holds
on_ok (Err e) holds = tt

-- nothing is left of a disk that doesn't come back
pub none_left : {D : Type 0} (P : D → Type 0) (end : Option D) → end ≡ None → IfSome end P
none_left P end is = subst (λ e. IfSome e P) (sym is) tt

-- what fails isn't done
pub not_ok : {T E : Type 0} (P : Type 0) (r : Result T E) → IsErr r → OnOk r P
not_ok P (Ok x) fails = let never : ⊥ = cc in absurd never
not_ok P (Err e) fails = tt

-- what holds of the disk that comes back holds more widely
pub some_on : {D : Type 0} (P Q : D → Type 0) (end : Option D) → ((disk : D) → P disk → Q disk) → IfSome end P → IfSome end Q
some_on P Q None f holds = tt
some_on P Q (Some disk) f holds = f disk holds

-- a disk that is left so is left anyhow
pub left_anyhow : {D : Type 0} (G : Ghosts D) (opening : World) (before processors : ℕ) (P : Core → Type 0) (end : Option D) → IfSome end (IsLeft G opening before processors P) → IfSome end (IsLeft G opening before processors (λ last. Unit {0}))
left_anyhow G opening before processors P None left = tt
left_anyhow G opening before processors P (Some disk) left = record { last = left.last; of = left.of; sound = left.sound; keeps = left.keeps; prints = tt }
