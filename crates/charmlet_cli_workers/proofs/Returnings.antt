-- How runs by workers over stores that come back begin and end.
use Rattle.std.proofs.Common.{◌≡◌, ℕ, true, inl, inr, List, refl, sym, ap, subst, ◌∙◌, Option, Some, None, Result, Ok, Err, OnOk}
use Rattle.std.specs.Prelude.{IfErr, IfSome}
use Rattle.std.specs.Global.{Vec}
use Rattle.std.specs.Io.KnownBytes.{Appends}
use Rattle.charmlet_model.specs.declared.refusal.Refusal.{Refusal}
use Rattle.charmlet_model.specs.declared.state.State.{State}
use Rattle.charmlet_model.specs.Core.{Blanks, Core}
use Rattle.charmlet_model.specs.Texts.{Text}
use Rattle.charmlet_chare.specs.declared.chare.Chare as chares
use Rattle.charmlet_disk.specs.declared.disk.Disk.{Ghosts}
use Rattle.charmlet_locate.specs.Locations.{is_processor_count}
use Rattle.charmlet_recovery.specs.Restarts.{engine_refusal}
use Rattle.charmlet_stock.specs.declared.stock.Stock.{Stock}
use Rattle.charmlet_stock.specs.Stock.{supplied_to}
use Rattle.charmlet_replay.specs.Unused.{IsUnused}
use Rattle.charmlet_script.specs.declared.script.HandlerLine.{HandlerLine}
use Rattle.charmlet_script.specs.declared.script.Line.{Line}
use Rattle.charmlet_script_output.specs.declared.restarted_line.RestartedLine.{RestartedLine}
use Rattle.charmlet_script_output.specs.Named.{Names, named_by}
use Rattle.charmlet_workers.specs.Runtime.{shown_of}
use Rattle.charmlet_runtime.specs.restarted.NotRestarted.{NotRestarted as NoStore}
use Rattle.charmlet_runtime.specs.Engine.{EngineShown, core_of, view_of}
use Rattle.charmlet_runtime.specs.Constructions.{AreConstructions}
use Rattle.charmlet_runtime.specs.wanted.Wanted.{Wanted}
use Rattle.charmlet_runtime.specs.Reopened.{IsReopened, IsRestart, ReopenedShown, core_to_be}
use Rattle.charmlet_runtime.specs.Reopening.{IsOver}
use Rattle.charmlet_runtime.specs.Restart.{AnswersBy, bytes_on}
use Rattle.charmlet_runtime.specs.Restarted.{IsOpenedOn, IsTakenFrom}
use Rattle.charmlet_script_output.specs.Back.{CameBackWith, given_of, refusal_text}
use Rattle.charmlet_script_output.specs.Ledgers.{ledger_in}
use Rattle.charmlet_script_output.proofs.Backs.{all_given, counted_processors, is_back, was_not_restarted}
use Rattle.charmlet_cli_workers.specs.declared.ended.WorkersError.{WorkersError}
use Rattle.charmlet_cli_workers.specs.declared.ended.WorkersError.TheVariants.{Delivers, TooFewBlanks, Memory, NotCreated, NotRestarted, NoSeats, Output, NotClosed}
use Rattle.charmlet_cli_workers.specs.Left.{EndsEarly, IsLeft, Prints, PrintsOver}
use Rattle.charmlet_cli_workers.specs.Said.{ArePrinted, HaveBrokenOff, HaveRun, IsBrokenOff, unknown}
use Rattle.charmlet_cli_workers.proofs.Leavings.{left_anyhow, left_of_lines, prints_of_lines, some_on}
use Rattle.charmlet_cli_workers.specs.Restarts.{EndsBack, EndsRestart, IsBackByWorkers, IsCountedAt, IsNotBack, TellsRefusal, line_of}

module _ {D : Type 0} (G : Ghosts D) where
  -- the store came back on so many processors
  pub left_back : (processors : ℕ) (core : Core) (end : Option D) → IsOpenedOn processors core → (P : Core → Type 0) → IfSome end (IsLeft G core.opening core.before core.processors P) → IfSome end (IsLeft G core.opening core.before processors P)
  left_back processors core end opens P left = subst (λ n. IfSome end (IsLeft G core.opening core.before n P)) (ap (λ (c : Core). c.processors) opens) left

  module _ {C : Type 0} {H : chares.Ghosts C} (processors : ℕ) (blanks : Stock C H) (first : D) where
    -- a store that came back, and that a run went on with
    pub back_by : (engine : EngineShown D) → IsUnused blanks → IsRestart {C = C} {H = H} G processors blanks first (Ok engine) → (end : Option D) (P : (back last : Core) → Type 0) (S : Core → Type 0) →
        IfSome end (λ last. G.honest first → G.honest last) → IfSome end (IsLeft G (core_of engine).opening (core_of engine).before (core_of engine).processors (P (core_of engine))) → S (core_of engine) →
        IsBackByWorkers G processors (supplied_to blanks) first end P S
    back_by engine unused made end P S honest left says =
        let same = all_given blanks unused in
        let taken = subst (λ (given : Blanks). G.honest first → IsTakenFrom given (bytes_on (G.file first)) (view_of engine)) same (λ honest. (made.files honest).taken_from) in
        record {
          counted = counted_processors (is_processor_count processors) (λ is. made.bad is);
          back = ledger_in engine;
          is_back = is_back G processors (supplied_to blanks) first engine made.ok.opens (λ honest. (made.files honest).found) taken made.ok.supplied_are made.remembers made.after.counted made.after.honest
              (λ honest. (made.leaves honest).settled refl) (λ honest. (made.files honest).now) (λ honest. (made.leaves honest).still) (λ honest. (made.leaves honest).any_moment);
          left = left_back processors (core_of engine) end made.ok.opens (P (core_of engine)) left;
          says = says;
          honest = honest;
        }

    -- so many blanks are those that its pending messages take
    pub back_with : (core : Core) → IsUnused blanks → IsOver {C = C} {H = H} G processors blanks first core (shown_of core) → (wanted : Wanted) → AreConstructions core wanted → CameBackWith G processors (supplied_to blanks) first wanted
    back_with core unused over wanted are =
        let back = back_by over.engine unused over.restarted None (λ back last. Unit {0}) (λ back. AreConstructions back wanted) tt tt (subst (λ (k : Core). AreConstructions k wanted) (sym over.core_is) are) in
        (back.back, back.is_back, back.says)

    -- none came back
    pub not_back : (refused : NoStore D C H) → IsUnused blanks → IsRestart G processors blanks first (Err refused) → (end : Option D) → end ≡ Some refused.disk → IsNotBack G processors (supplied_to blanks) first end refused.refusal
    not_back refused unused why end is =
        let same = all_given blanks unused in
        let answer = subst (λ (given : Blanks). G.honest first → is_processor_count processors ≡ true → AnswersBy {X = Core} (engine_refusal given (bytes_on (G.file first))) (Err refused.refusal)) same why.answer in (
          refused.disk,
          is,
          was_not_restarted G processors (supplied_to blanks) first blanks refused why.err.known why.bad why.err.bad answer why.lawful
              (λ honest. (why.leaves honest).still) (λ honest. (why.leaves honest).unwritten) (λ honest. (why.leaves honest).settled) (λ honest. (why.leaves honest).any_moment) why.after.counted,
          why.after.honest,
        )

  module _ (processors : ℕ) (given : Blanks) (first : D) (end : Option D) (handlers : List HandlerLine) (lines : List Line) (core : Core)
      (make : (P : (back last : Core) → Type 0) (S : Core → Type 0) → IfSome end (IsLeft G core.opening core.before core.processors (P core)) → S core → IsBackByWorkers G processors given first end P S) where
    -- what a run left that ended well
    pub back_ok : {T X : Type 0} (before after : Option Text) (r : Result X (WorkersError T)) →
        IfSome end (IsLeft G core.opening core.before core.processors (λ last. PrintsOver r (Some (line_of core)) last (named_by handlers) lines before after)) →
        OnOk r (IsBackByWorkers G processors given first end (λ back last. HaveRun (Some (line_of back)) last handlers lines before after) (λ back. Unit {0}))
    back_ok before after (Ok x) left = make (λ back last. HaveRun (Some (line_of back)) last handlers lines before after) (λ back. Unit {0}) left tt
    back_ok before after (Err e) left = tt

    -- a run over a store that came back ends early
    pub back_early : {T W X : Type 0} (contents : W → Option Text) (before after : W) (r : Result X (WorkersError T)) →
        IfSome end (IsLeft G core.opening core.before core.processors (λ last. PrintsOver r (Some (line_of core)) last (named_by handlers) lines (contents before) (contents after))) →
        Prints r (Some (line_of core)) unknown (λ deeds. Unit {0}) lines (contents before) (contents after) →
        IfErr r (EndsEarly end before after) → IfErr r (EndsBack G contents processors given first end handlers lines before after)
    back_early contents before after (Ok x) left prints early = tt
    back_early {T = T} {X = X} contents before after (Err NoSeats) left prints early = (
      make (λ back last. Unit {0}) (λ back. Unit {0})
          (left_anyhow G core.opening core.before core.processors (λ last. PrintsOver {T = T} {X = X} (Err NoSeats) (Some (line_of core)) last (named_by handlers) lines (contents before) (contents after)) end left) tt,
      early,
    )
    back_early contents before after (Err (Output e)) left prints early =
        inr (make (λ back last. HaveBrokenOff (Some (line_of back)) last handlers lines (contents before) (contents after)) (λ back. IsBrokenOff (Some (line_of back)) unknown (λ deeds. Unit {0}) lines (contents before) (contents after)) left prints)
    back_early {T = T} {X = X} contents before after (Err NotClosed) left prints early = (
      make (λ back last. Unit {0}) (λ back. ArePrinted (Some (line_of back)) unknown (λ deeds. Unit {0}) lines (contents before) (contents after))
          (left_anyhow G core.opening core.before core.processors (λ last. PrintsOver {T = T} {X = X} (Err NotClosed) (Some (line_of core)) last (named_by handlers) lines (contents before) (contents after)) end left) prints,
      early,
    )
    back_early contents before after (Err (Delivers o)) left prints early = absurd early
    back_early contents before after (Err (TooFewBlanks o)) left prints early = absurd early
    back_early contents before after (Err Memory) left prints early = absurd early
    back_early contents before after (Err (NotCreated refusal)) left prints early = absurd early
    back_early contents before after (Err (NotRestarted refusal)) left prints early = absurd early

  module _ {C : Type 0} {H : chares.Ghosts C} (processors : ℕ) (blanks : Stock C H) (first : D) (reopened : ReopenedShown D) (its : IsReopened G processors blanks first reopened)
      (over : IsOver G processors blanks first (core_to_be reopened) (shown_of (core_to_be reopened))) (generation events : ℕ) (is_generation : generation ≡ (core_to_be reopened).generation) (are_events : events ≡ (core_to_be reopened).before)
      (names : Names) (handlers : List HandlerLine) (called : names ≡ named_by handlers) (lines all : List Line) (same : lines ≡ all) (end : Option D) (honest : IfSome end (λ last. G.honest reopened.disk → G.honest last)) where
    abbrev core : Core
    core = core_of over.engine

    abbrev line : RestartedLine
    line = record { generation = generation; events = events; processors = processors }

    line_is : line ≡ line_of core
    line_is = λ i. record {
      generation = (is_generation ∙ sym (ap (λ (k : Core). k.generation) over.core_is)) i;
      events = (are_events ∙ sym (ap (λ (k : Core). k.before) over.core_is)) i;
      processors = sym (ap (λ (k : Core). k.processors) over.restarted.ok.opens) i;
    }

    still_honest : IfSome end (λ last. G.honest first → G.honest last)
    still_honest = some_on (λ last. G.honest reopened.disk → G.honest last) (λ last. G.honest first → G.honest last) end
        (λ last still h. still (subst G.honest (sym (ap (λ (v : ReopenedShown D). v.disk) its.is)) (its.after.honest.0 h))) honest

    make : (P : (back last : Core) → Type 0) (S : Core → Type 0) → IfSome end (IsLeft G core.opening core.before core.processors (P core)) → S core → IsBackByWorkers G processors (supplied_to blanks) first end P S
    make P S left says = back_by processors blanks first over.engine its.unused over.restarted end P S still_honest left says

    left_in : {T X : Type 0} (r : Result X (WorkersError T)) (was now : Option Text) → IfSome end (IsLeft G (core_to_be reopened).opening (core_to_be reopened).before (core_to_be reopened).processors (λ last. PrintsOver r (Some line) last names lines was now)) →
        IfSome end (IsLeft G core.opening core.before core.processors (λ last. PrintsOver r (Some (line_of core)) last (named_by handlers) all was now))
    left_in r was now left =
        left_of_lines G core.opening core.before core.processors end r (Some line) (Some (line_of core)) names (named_by handlers) lines all was now (ap Some line_is) called same
        (subst (λ (k : Core). IfSome end (IsLeft G k.opening k.before k.processors (λ last. PrintsOver r (Some line) last names lines was now))) (sym over.core_is) left)

    -- a run over a store that went on ended well
    pub ran_ok : {T X : Type 0} (r : Result X (WorkersError T)) (was now : Option Text) → IfSome end (IsLeft G (core_to_be reopened).opening (core_to_be reopened).before (core_to_be reopened).processors (λ last. PrintsOver r (Some line) last names lines was now)) →
        OnOk r (IsBackByWorkers G processors (supplied_to blanks) first end (λ back last. HaveRun (Some (line_of back)) last handlers all was now) (λ back. Unit {0}))
    ran_ok r was now left = back_ok processors (supplied_to blanks) first end handlers all core make was now r (left_in r was now left)

    -- or early
    pub ran_early : {T W X : Type 0} (contents : W → Option Text) (before after : W) (r : Result X (WorkersError T)) →
        IfSome end (IsLeft G (core_to_be reopened).opening (core_to_be reopened).before (core_to_be reopened).processors (λ last. PrintsOver r (Some line) last names lines (contents before) (contents after))) →
        Prints r (Some line) unknown (λ deeds. Unit {0}) lines (contents before) (contents after) → IfErr r (EndsEarly end before after) → IfErr r (EndsBack G contents processors (supplied_to blanks) first end handlers all before after)
    ran_early contents before after r left prints early =
        back_early processors (supplied_to blanks) first end handlers all core make contents before after r (left_in r (contents before) (contents after) left)
        (prints_of_lines r (Some line) (Some (line_of core)) lines all (contents before) (contents after) (ap Some line_is) same prints) early

  -- what is pending is counted where a run over a store that came back ends early
  pub counted_early : {T W X Y : Type 0} (end : Option D) (before after : W) (r : Result X (WorkersError T)) (count : Y) → IfErr r (EndsEarly end before after) → IfErr r (λ error. IsCountedAt error (Some count))
  counted_early end before after (Ok x) count early = tt
  counted_early end before after (Err NoSeats) count early = refl
  counted_early end before after (Err (Output e)) count early = tt
  counted_early end before after (Err NotClosed) count early = refl
  counted_early end before after (Err (Delivers o)) count early = absurd early
  counted_early end before after (Err (TooFewBlanks o)) count early = absurd early
  counted_early end before after (Err Memory) count early = absurd early
  counted_early end before after (Err (NotCreated refusal)) count early = absurd early
  counted_early end before after (Err (NotRestarted refusal)) count early = absurd early

  -- a restart is refused, and told so
  pub refused_ends : {T X W : Type 0} (contents : W → Option Text) (processors : ℕ) (given : Blanks) (first : D) (end : Option D) (handlers : List HandlerLine) (lines : List Line) (refusal : Refusal) (before after : W) (r : Result X (WorkersError T)) →
      IfErr r (TellsRefusal contents refusal before after) → IsNotBack G processors given first end refusal → IfErr r (EndsBack G contents processors given first end handlers lines before after)
  refused_ends contents processors given first end handlers lines refusal before after (Ok x) told not_back = tt
  refused_ends contents processors given first end handlers lines refusal before after (Err (NotRestarted why)) told not_back =
      (subst (λ (r : Refusal). Appends (contents before) (contents after) (refusal_text r)) (sym told.0) told.1, subst (λ (r : Refusal). IsNotBack G processors given first end r) (sym told.0) not_back)
  refused_ends contents processors given first end handlers lines refusal before after (Err (Output e)) told not_back = inl (refusal, told, not_back)
  refused_ends contents processors given first end handlers lines refusal before after (Err NoSeats) told not_back = absurd told
  refused_ends contents processors given first end handlers lines refusal before after (Err NotClosed) told not_back = absurd told
  refused_ends contents processors given first end handlers lines refusal before after (Err (Delivers o)) told not_back = absurd told
  refused_ends contents processors given first end handlers lines refusal before after (Err (TooFewBlanks o)) told not_back = absurd told
  refused_ends contents processors given first end handlers lines refusal before after (Err Memory) told not_back = absurd told
  refused_ends contents processors given first end handlers lines refusal before after (Err (NotCreated why)) told not_back = absurd told

  -- nothing is counted then
  pub uncounted_refused : {T X W Y : Type 0} (contents : W → Option Text) (refusal : Refusal) (before after : W) (r : Result X (WorkersError T)) (counted : Option Y) → counted ≡ None → IfErr r (TellsRefusal contents refusal before after) →
      IfErr r (λ error. IsCountedAt error counted)
  uncounted_refused contents refusal before after (Ok x) counted none told = tt
  uncounted_refused contents refusal before after (Err (NotRestarted why)) counted none told = none
  uncounted_refused contents refusal before after (Err (Output e)) counted none told = tt
  uncounted_refused contents refusal before after (Err NoSeats) counted none told = absurd told
  uncounted_refused contents refusal before after (Err NotClosed) counted none told = absurd told
  uncounted_refused contents refusal before after (Err (Delivers o)) counted none told = none
  uncounted_refused contents refusal before after (Err (TooFewBlanks o)) counted none told = none
  uncounted_refused contents refusal before after (Err Memory) counted none told = none
  uncounted_refused contents refusal before after (Err (NotCreated why)) counted none told = none

  -- and so ends the run
  pub back_ends : {C W X : Type 0} (state : C → State) (contents : W → Option Text) (processors : ℕ) (given : Blanks) (first : D) (end : Option D) (blanks supplies : List C) (handlers : List HandlerLine) (lines : List Line) (before after : W) (r : Result X (WorkersError (Vec C × Vec C))) →
      given ≡ given_of state blanks → IfErr r (EndsBack G contents processors given first end handlers lines before after) → IfErr r (EndsRestart G state contents processors first end blanks supplies handlers lines before after)
  back_ends state contents processors given first end blanks supplies handlers lines before after (Ok x) same ends = tt
  back_ends {C = C} state contents processors given first end blanks supplies handlers lines before after (Err NoSeats) same ends = subst (λ (b : Blanks). EndsBack G {T = Vec C × Vec C} contents processors b first end handlers lines before after NoSeats) same ends
  back_ends {C = C} state contents processors given first end blanks supplies handlers lines before after (Err (Output e)) same ends = subst (λ (b : Blanks). EndsBack G {T = Vec C × Vec C} contents processors b first end handlers lines before after (Output e)) same ends
  back_ends {C = C} state contents processors given first end blanks supplies handlers lines before after (Err NotClosed) same ends = subst (λ (b : Blanks). EndsBack G {T = Vec C × Vec C} contents processors b first end handlers lines before after NotClosed) same ends
  back_ends {C = C} state contents processors given first end blanks supplies handlers lines before after (Err (NotRestarted refusal)) same ends = subst (λ (b : Blanks). EndsBack G {T = Vec C × Vec C} contents processors b first end handlers lines before after (NotRestarted refusal)) same ends
  back_ends state contents processors given first end blanks supplies handlers lines before after (Err (Delivers o)) same ends = absurd ends
  back_ends state contents processors given first end blanks supplies handlers lines before after (Err (TooFewBlanks o)) same ends = absurd ends
  back_ends state contents processors given first end blanks supplies handlers lines before after (Err Memory) same ends = absurd ends
  back_ends state contents processors given first end blanks supplies handlers lines before after (Err (NotCreated refusal)) same ends = absurd ends
