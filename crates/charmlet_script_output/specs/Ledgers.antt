-- Ledgers: what a run has of a store.
use Rattle.std.specs.Prelude.{ℕ, [], unwrap_or}
use Rattle.charmlet_model.specs.declared.kind.Kind.{Kind}
use Rattle.charmlet_model.specs.Manifest.{manifest_of}
use Rattle.charmlet_model.specs.Run.{StoreView}
use Rattle.charmlet_script.specs.Script.{Contents, pairs_of}
use Rattle.charmlet_record.specs.Reading.{Kinds}
use Rattle.charmlet_engine.specs.Engine.{EngineShown, supplied_of, view_of}

-- a store, how many objects of each kind were supplied to it so far, and the disk that it is on
pub record Ledger (D : Type 0) : Type 0 where
  pub store : StoreView
  pub supplied : Kind → ℕ
  pub disk : D

-- the ledger of a running engine
abbrev pub ledger_in : {D : Type 0} → EngineShown D → Ledger D
ledger_in engine = record {
  store = view_of engine;
  supplied = supplied_of engine;
  disk = engine.disk;
}

-- the script's arrays, each in the newest version of its kind
abbrev pub kinds_of : Contents → Kinds
kinds_of script = unwrap_or (manifest_of (pairs_of script.arrays)) []
