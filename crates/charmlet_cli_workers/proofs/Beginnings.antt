-- How runs by workers begin, and how those end that began.
use Rattle.std.proofs.Common.{◌≡◌, ◌≤◌, ℕ, inr, List, [], refl, sym, ap, subst, ◌∙◌, Option, Some, None, Result, Ok, Err, OnOk}
use Rattle.std.specs.Prelude.{IfErr, IfSome, unwrap_or}
use Rattle.std.specs.Global.{Vec}
use Rattle.charmlet_model.specs.declared.kind_version.KindVersion.{KindVersion}
use Rattle.charmlet_model.specs.declared.kind.Kind.{Kind}
use Rattle.charmlet_model.specs.declared.state.State.{State}
use Rattle.charmlet_model.specs.Core.{Core}
use Rattle.charmlet_model.specs.Manifest.{manifest_of}
use Rattle.charmlet_model.specs.Shelves.{count_of}
use Rattle.charmlet_model.specs.Sound.{new_world}
use Rattle.charmlet_model.specs.Texts.{Text}
use Rattle.charmlet_disk.specs.declared.disk.Disk.{Ghosts}
use Rattle.charmlet_persist.specs.Writes.NewStores.{new_core}
use Rattle.charmlet_script.specs.declared.script.Line.{Line}
use Rattle.charmlet_script.specs.Script.{Contents, blanks_of, pairs_of, processors_of}
use Rattle.charmlet_script_output.specs.Supplied.{AreEnough}
use Rattle.charmlet_script_output.specs.Ledgers.{kinds_of}
use Rattle.charmlet_script_output.specs.Named.{named_by}
use Rattle.charmlet_cli_workers.specs.declared.ended.WorkersError.{WorkersError}
use Rattle.charmlet_cli_workers.specs.declared.ended.WorkersError.TheVariants.{Delivers, TooFewBlanks, Memory, NotCreated, NotRestarted, NoSeats, Output, NotClosed}
use Rattle.charmlet_cli_workers.specs.Left.{EndsEarly, IsLeft, Prints, PrintsOver}
use Rattle.charmlet_cli_workers.specs.Said.{HaveBrokenOff, HaveRun, unknown}
use Rattle.charmlet_cli_workers.proofs.Leavings.{left_anyhow}
use Rattle.charmlet_cli_workers.specs.Runs.{EndsMade, EndsRun, IsFit, IsMade, Lacks}

-- objects that are enough are so in a stock that has them
pub enough_in : {C : Type 0} (state : C → State) (objects : List C) (lines : List Line) (left : Kind → ℕ) → AreEnough state objects lines → ((kind : Kind) → left kind ≡ count_of state objects kind) → (kind : Kind) → blanks_of kind lines ≤ left kind
enough_in state objects lines left enough same kind = subst (λ n. blanks_of kind lines ≤ n) (sym (same kind)) (enough kind)

-- a new store has the script's arrays and processors
made_of : (script : Contents) (manifest : List (ℕ × KindVersion)) → manifest_of (pairs_of script.arrays) ≡ Some manifest → manifest ≡ kinds_of script
made_of script manifest is = sym (ap (λ (o : Option (List (ℕ × KindVersion))). unwrap_or o []) is)

module _ {D : Type 0} (G : Ghosts D) where
  pub left_new : (script : Contents) (manifest : List (ℕ × KindVersion)) (processors : ℕ) (core : Core) (end : Option D) → manifest_of (pairs_of script.arrays) ≡ Some manifest → processors ≡ processors_of script → core ≡ new_core processors manifest →
      (P : Core → Type 0) → IfSome end (IsLeft G core.opening core.before core.processors P) → IfSome end (IsLeft G (new_world (kinds_of script)) 0 (processors_of script) P)
  left_new script manifest processors core end is count opens P left =
      let new : core ≡ new_core (processors_of script) (kinds_of script) = opens ∙ ap (λ n. new_core n manifest) count ∙ ap (new_core (processors_of script)) (made_of script manifest is) in
      subst (λ (c : Core). IfSome end (IsLeft G c.opening c.before c.processors P)) new left

  module _ (first : D) (end : Option D) (script : Contents) (core : Core)
      (make : (P : Core → Type 0) → IfSome end (IsLeft G core.opening core.before core.processors P) → IsMade G first end script P) where
    -- what a run left that ended well
    pub made_ok : {T X : Type 0} (before after : Option Text) (r : Result X (WorkersError T)) →
        IfSome end (IsLeft G core.opening core.before core.processors (λ last. PrintsOver r None last (named_by script.handlers) script.lines before after)) →
        OnOk r (IsMade G first end script (λ last. HaveRun None last script.handlers script.lines before after))
    made_ok before after (Ok x) left = make (λ last. HaveRun None last script.handlers script.lines before after) left
    made_ok before after (Err e) left = tt

    -- a run over a store that was made ends early
    pub made_early : {T W X : Type 0} (contents : W → Option Text) (before after : W) (r : Result X (WorkersError T)) →
        IfSome end (IsLeft G core.opening core.before core.processors (λ last. PrintsOver r None last (named_by script.handlers) script.lines (contents before) (contents after))) →
        Prints r None unknown (λ deeds. Unit {0}) script.lines (contents before) (contents after) →
        IfErr r (EndsEarly end before after) → IfErr r (EndsMade G contents first end script before after)
    made_early contents before after (Ok x) left prints early = tt
    made_early {T = T} {X = X} contents before after (Err NoSeats) left prints early =
        (make (λ last. Unit {0}) (left_anyhow G core.opening core.before core.processors (λ last. PrintsOver {T = T} {X = X} (Err NoSeats) None last (named_by script.handlers) script.lines (contents before) (contents after)) end left), early)
    made_early contents before after (Err (Output e)) left prints early = inr (make (λ last. HaveBrokenOff None last script.handlers script.lines (contents before) (contents after)) left, prints)
    made_early {T = T} {X = X} contents before after (Err NotClosed) left prints early =
        (make (λ last. Unit {0}) (left_anyhow G core.opening core.before core.processors (λ last. PrintsOver {T = T} {X = X} (Err NotClosed) None last (named_by script.handlers) script.lines (contents before) (contents after)) end left), early, prints)
    made_early contents before after (Err (Delivers o)) left prints early = absurd early
    made_early contents before after (Err (TooFewBlanks o)) left prints early = absurd early
    made_early contents before after (Err Memory) left prints early = absurd early
    made_early contents before after (Err (NotCreated refusal)) left prints early = absurd early
    made_early contents before after (Err (NotRestarted refusal)) left prints early = absurd early

  -- and so ends the run of a script that is fit
  pub made_ends : {C W X : Type 0} (state : C → State) (contents : W → Option Text) (first : D) (end : Option D) (objects : List C) (script : Contents) (before after : W) (r : Result X (WorkersError (Vec C))) →
      IsFit state objects script.lines → IfErr r (EndsMade G contents first end script before after) → IfErr r (EndsRun G state contents first end objects script before after)
  made_ends state contents first end objects script before after (Ok x) fit ends = tt
  made_ends state contents first end objects script before after (Err NoSeats) fit ends = ends
  made_ends state contents first end objects script before after (Err (Output e)) fit ends = ends
  made_ends state contents first end objects script before after (Err NotClosed) fit ends = ends
  made_ends state contents first end objects script before after (Err (NotCreated refusal)) fit ends = ends
  made_ends state contents first end objects script before after (Err (Delivers o)) fit ends = absurd ends
  made_ends state contents first end objects script before after (Err (TooFewBlanks o)) fit ends = absurd ends
  made_ends state contents first end objects script before after (Err Memory) fit ends = (ends.0, ends.1, fit.0, fit.1)
  made_ends state contents first end objects script before after (Err (NotRestarted refusal)) fit ends = absurd ends

  -- nothing was done where none began
  pub lacks_ends : {C W : Type 0} (state : C → State) (contents : W → Option Text) (first : D) (objects : List C) (script : Contents) (writer : W) (error : WorkersError (Vec C)) →
      Lacks state objects script.lines error → EndsRun G state contents first (Some first) objects script writer writer error
  lacks_ends state contents first objects script writer (Delivers o) lacks = (refl, lacks.0, refl, lacks.1)
  lacks_ends state contents first objects script writer (TooFewBlanks o) lacks = (refl, lacks.0, refl, lacks.1, lacks.2)
  lacks_ends state contents first objects script writer Memory lacks = (refl, refl, lacks.0, lacks.1)
  lacks_ends state contents first objects script writer NoSeats lacks = absurd lacks
  lacks_ends state contents first objects script writer (Output e) lacks = absurd lacks
  lacks_ends state contents first objects script writer NotClosed lacks = absurd lacks
  lacks_ends state contents first objects script writer (NotCreated refusal) lacks = absurd lacks
  lacks_ends state contents first objects script writer (NotRestarted refusal) lacks = absurd lacks
