-- Runs that began with a new store.
use Rattle.std.proofs.Common.{◌≡◌, ℕ, ◌+◌, ◌≤◌, arith, List, [], Option, Some, None, length, sym, ap, subst, ◌∙◌}
use Rattle.std.specs.Prelude.{Result, Ok, Err, IfErr, option_map, unwrap_or}
use Rattle.std.specs.Result.{IsErrAnd}
use Rattle.charmlet_model.specs.declared.event.Event.{Event}
use Rattle.charmlet_model.specs.declared.kind.Kind.{Kind}
use Rattle.charmlet_model.specs.declared.kind.Kind.TheVariants as kinds
use Rattle.charmlet_model.specs.declared.refusal.Refusal.{Refusal}
use Rattle.charmlet_model.specs.declared.refusal.Refusal.TheVariants as refusals
use Rattle.charmlet_model.specs.Core.{Blanks, Core}
use Rattle.charmlet_model.specs.Manifest.{manifest_of}
use Rattle.charmlet_model.specs.Sound.{IsSound, new_world}
use Rattle.charmlet_model.specs.World.{IsLegal, World}
use Rattle.charmlet_record.specs.Reading.{Kinds}
use Rattle.charmlet_recovery.specs.Blanks.{least_short}
use Rattle.charmlet_recovery.specs.Outcomes.{IsLawful}
use Rattle.charmlet_recovery.specs.RestartLaws.{IsEnough, Lacks}
use Rattle.charmlet_recovery.proofs.Restarting.{least_short_is_found}
use Rattle.charmlet_chare.specs.declared.chare.Chare as chares
use Rattle.charmlet_stock.specs.declared.stock.Stock.{Stock}
use Rattle.charmlet_stock.specs.declared.pile.Tally.{Tally}
use Rattle.charmlet_stock.specs.Stock.{blanks_in, supplied_to}
use Rattle.charmlet_replay.specs.Unused.{IsUnused}
use Rattle.charmlet_disk.specs.declared.disk.Disk as disks
use Rattle.charmlet_disk.specs.File.{CrashBytes}
use Rattle.charmlet_persist.specs.Writes.NewStores.{new_core}
use Rattle.charmlet_script.specs.Script.{Contents, blanks_of, pairs_of}
use Rattle.charmlet_engine.specs.Outcomes.{Onward, is_lawful_now}
use Rattle.charmlet_lab.specs.Rounds.{IsNotRun, arrays_of, needed_by}

-- a manifest of the script's arrays is them
pub same_arrays : (script : Contents) (kinds : Kinds) → manifest_of (pairs_of script.arrays) ≡ Some kinds → arrays_of script ≡ kinds
same_arrays script kinds is = ap (λ (found : Option Kinds). unwrap_or found []) is

module _ (kinds : Kinds) (processors : ℕ) (first last : Core) (opens : first ≡ new_core processors kinds) (on : Onward first last)
    (events : List Event) (are : events ≡ last.history) (durable : ℕ) (counts : durable ≡ last.before + last.durable) where
  opening : last.opening ≡ new_world kinds
  opening = on.opening ∙ ap (λ (core : Core). core.opening) opens

  none_before : last.before ≡ 0
  none_before = on.before ∙ ap (λ (core : Core). core.before) opens

  all_durable : last.durable ≡ durable
  all_durable = omega (arith, none_before, counts)

  -- its events can happen
  pub legal_events : IsSound last → IsLegal (new_world kinds) 0 events
  legal_events sound =
      subst (λ (es : List Event). IsLegal (new_world kinds) 0 es) (sym are)
      (subst (λ (n : ℕ). IsLegal (new_world kinds) n last.history) none_before (subst (λ (w : World). IsLegal w last.before last.history) opening sound.legal))

  -- the durable ones are among them
  pub durable_within : IsSound last → durable ≤ length events
  durable_within sound = let within = sound.durable in omega (arith, all_durable, ap (length {A = Event}) are, within)

  -- and what is lawful of the store is so of them
  pub lawful_events : (o : CrashBytes) → is_lawful_now last o → IsLawful (new_world kinds) 0 events durable o
  lawful_events o lawful =
      subst (λ (d : ℕ). IsLawful (new_world kinds) 0 events d o) all_durable
      (subst (λ (es : List Event). IsLawful (new_world kinds) 0 es last.durable o) (sym are)
      (subst (λ (n : ℕ). IsLawful (new_world kinds) n last.history last.durable o) none_before
      (subst (λ (w : World). IsLawful w last.before last.history last.durable o) opening lawful)))

-- ---- why nothing was run

module _ {D : Type 0} (G : disks.Ghosts D) (given : Blanks) (script : Contents) (first : D) where
  -- blanks lack
  pub blanks_lack : (found : Option (Kind × ℕ)) → Lacks given (needed_by script) found → (refusal : Refusal) →
      option_map (λ (lack : Kind × ℕ). refusals.BlanksWanted lack.0 lack.1) found ≡ Some refusal → IsNotRun G given script first refusal
  blanks_lack (Some lack) lacks refusal told = subst (IsNotRun G given script first) (let same : refusals.BlanksWanted lack.0 lack.1 ≡ refusal = cc in same) lacks
  blanks_lack None enough refusal told = absurd cc

  -- memory is lacking
  pub memory_lacks : {T : Type 0} (result : Result T Refusal) → IsErrAnd result (λ told. told ≡ refusals.Memory) → IfErr result (IsNotRun G given script first)
  memory_lacks (Ok x) is = tt
  memory_lacks (Err told) is = subst (IsNotRun G given script first) (sym is) tt

  -- as the stock of these blanks and the count of the lines say
  module _ (stock needed : Blanks) (stock_has : (kind : Kind) → stock kind ≡ given kind) (needed_are : (kind : Kind) → needed kind ≡ blanks_of kind script.lines) where
    lacks : Lacks given (needed_by script) (least_short stock needed)
    lacks =
        subst (λ (g : Blanks). Lacks g (needed_by script) (least_short stock needed)) (λ i kind. stock_has kind i)
        (subst (λ (n : Blanks). Lacks stock n (least_short stock needed)) (λ i kind. needed_are kind i) (least_short_is_found stock needed))

    pub told_lack : (refusal : Refusal) → option_map (λ (lack : Kind × ℕ). refusals.BlanksWanted lack.0 lack.1) (least_short stock needed) ≡ Some refusal → IsNotRun G given script first refusal
    told_lack refusal told = blanks_lack (least_short stock needed) lacks refusal told

    pub told_enough : option_map (λ (lack : Kind × ℕ). refusals.BlanksWanted lack.0 lack.1) (least_short stock needed) ≡ None → IsEnough given (needed_by script)
    told_enough none = all (least_short stock needed) lacks none
      where
        all : (found : Option (Kind × ℕ)) → Lacks given (needed_by script) found → option_map (λ (lack : Kind × ℕ). refusals.BlanksWanted lack.0 lack.1) found ≡ None → IsEnough given (needed_by script)
        all None enough none = enough
        all (Some lack) short none = absurd cc

-- all objects that were supplied to a stock of which none was used are blanks
pub all_blanks : {C : Type 0} {H : chares.Ghosts C} (stock : Stock C H) → IsUnused stock → (kind : Kind) → blanks_in stock kind ≡ supplied_to stock kind
all_blanks stock unused kind = omega (arith, ap (λ (t : Tally). t.in_stock) (unused.all kind))
