-- Lines that are run one after another.
use Rattle.std.proofs.Common.{◌≡◌, inl, inr, ◌<◌, ◌≤◌, ℕ, suc, ◌+◌, ◌-◌, true, false, List, [], ◌∷◌, Option, Some, length, drop, refl, sym, ap, subst, ◌∙◌, arith}
use Rattle.std.proofs.lemmas.List.{drop_all}
use Rattle.std.specs.Prelude.{unwrap_or}
use Rattle.charmlet_model.specs.declared.kind.Kind.{Kind}
use Rattle.charmlet_model.specs.Manifest.{manifest_of}
use Rattle.charmlet_model.specs.Run.{StoreView}
use Rattle.charmlet_persist.specs.Writes.NewStores.{new_core}
use Rattle.charmlet_requests.specs.declared.handlers.Handlers.{Handlers}
use Rattle.charmlet_requests.specs.Handlers.{handler_of}
use Rattle.charmlet_record.specs.Reading.{Kinds}
use Rattle.charmlet_script.specs.declared.script.Line.{Line}
use Rattle.charmlet_script.specs.Script.{Contents, pairs_of, processors_of}
use Rattle.charmlet_script_output.specs.Named.{Names, named_by}
use Rattle.charmlet_lab.specs.Lines.{AreRun, DeliversNext, DeliversNone, Drains, Follows, history_opening}

-- ---- drains

-- what is left of a drain after one delivery more
left_after : (most k : ℕ) → k < most → suc (most - (k + 1)) ≡ most - k
left_after most k within = omega (arith, within)

module _ (most k : ℕ) (within : k < most) where
  pub drains_on : (old mid new : StoreView) → DeliversNext old mid → Drains (most - (k + 1)) mid new → Drains (most - k) old new
  drains_on old mid new next rest = subst (λ n. Drains n old new) (left_after most k within) (inl (mid, next, rest))

  pub drains_no_more : (old new : StoreView) → DeliversNone old new → Drains (most - k) old new
  drains_no_more old new none = subst (λ n. Drains n old new) (left_after most k within) (inr none)

pub drains_all : (most k : ℕ) (store : StoreView) → most ≤ k → Drains (most - k) store store
drains_all most k store all = subst (λ n. Drains n store store) (let none : 0 ≡ most - k = omega (arith, all) in none) refl

-- ---- lines

module _ (named : Names) (lines : List Line) (k : ℕ) (line : Line) (split : drop k lines ≡ line ∷ drop (k + 1) lines) where
  pub run_on : (old next new : StoreView) → old.core.halted ≡ false → Follows named old line next → AreRun named next (drop (k + 1) lines) new → AreRun named old (drop k lines) new
  run_on old next new runs follows rest = subst (λ ls. AreRun named old ls new) (sym split) (inr (runs, next, follows, rest))

  pub run_no_more : (store : StoreView) → store.core.halted ≡ true → AreRun named store (drop k lines) store
  run_no_more store halted = subst (λ ls. AreRun named store ls store) (sym split) (inl (halted, refl))

pub run_all : (named : Names) (lines : List Line) (k : ℕ) (store : StoreView) → length lines ≤ k → AreRun named store (drop k lines) store
run_all named lines k store all = subst (λ ls. AreRun named store ls store) (sym (drop_all k lines all)) refl

-- by handlers that say the same of each name
pub run_by : (handlers : Handlers) (script : Contents) (old new : StoreView) → ((name : List ℕ) → handler_of handlers name ≡ named_by script.handlers name) → AreRun (handler_of handlers) old script.lines new →
    AreRun (named_by script.handlers) old script.lines new
run_by handlers script old new same = subst (λ (named : Names). AreRun named old script.lines new) (λ i name. same name i)

-- a new store has the script's processors and arrays, and nothing else
pub opens : (script : Contents) (kinds : Kinds) (processors : ℕ) (store : StoreView) → manifest_of (pairs_of script.arrays) ≡ Some kinds → processors ≡ processors_of script →
    store.core ≡ new_core processors kinds → ((kind : Kind) → store.blanks kind ≡ 0) → store ≡ history_opening script
opens script kinds processors store is count core blanks = λ i. record {
  core = (core ∙ ap (λ n. new_core n kinds) count ∙ ap (λ k. new_core (processors_of script) k) (sym (ap (λ (found : Option Kinds). unwrap_or found []) is))) i;
  blanks = λ kind. blanks kind i;
}
