-- A store that runs a script's first line.
use Rattle.std.proofs.Common.{◌≡◌, ℕ, List, Some, [], sym, ap, ◌∙◌}
use Rattle.std.specs.Prelude.{unwrap_or}
use Rattle.charmlet_model.specs.declared.kind_version.KindVersion.{KindVersion}
use Rattle.charmlet_model.specs.declared.kind.Kind.{Kind}
use Rattle.charmlet_model.specs.Manifest.{manifest_of}
use Rattle.charmlet_persist.specs.Writes.NewStores.{new_core}
use Rattle.charmlet_script.specs.Script.{Contents, pairs_of, processors_of}
use Rattle.charmlet_script_output.specs.Ledgers.{Ledger}
use Rattle.charmlet_cli.specs.Lines.{history_opening}

-- a new store has the script's processors and arrays, and nothing else
pub opens : {D : Type 0} (script : Contents) (manifest : List (ℕ × KindVersion)) (processors : ℕ) (ledger : Ledger D) → manifest_of (pairs_of script.arrays) ≡ Some manifest → processors ≡ processors_of script →
    ledger.store.core ≡ new_core processors manifest → ((kind : Kind) → ledger.store.blanks kind ≡ 0) → ((kind : Kind) → ledger.supplied kind ≡ 0) → ledger ≡ history_opening script ledger.disk
opens script manifest processors ledger is count core blanks supplied = λ i. record {
  store = record {
    core = (core ∙ ap (λ n. new_core n manifest) count ∙ ap (λ m. new_core (processors_of script) m) (sym (ap (λ o. unwrap_or o []) is))) i;
    blanks = λ kind. blanks kind i;
  };
  supplied = λ kind. supplied kind i;
  disk = ledger.disk;
}
