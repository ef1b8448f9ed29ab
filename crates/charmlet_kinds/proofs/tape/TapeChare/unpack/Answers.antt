use Rattle.std.proofs.Common.{OnOk, Result, Ok, Err, refl}
use Rattle.charmlet_kinds.specs.Tape.{state_of}
use Rattle.charmlet_kinds.proofs.States.{Unpacks-by}
use Rattle.charmlet_kinds.proofs.TapeLemmas.{is_state}
use Rattle.charmlet_kinds.proofs.tape.TapeChare.unpack.Goals as goal

-- what always holds does at Ok
whatever : {T E P : Type 0} (r : Result T E) → P → OnOk r P
whatever (Ok x) p = p
whatever (Err e) p = tt

pub returns-clause-unpacks : goal.returns-clause-unpacks
returns-clause-unpacks c =
    let old = c.args.self.now in
    let new = c.unpack.new.value in
    Unpacks-by (state_of old) (state_of new) c.args.bytes.now c.unpack.result (is_state old) (is_state new) refl c.unpack.ensures.ok c.unpack.ensures.err

pub returns-clause-is_state : goal.returns-clause-is_state
returns-clause-is_state c = whatever c.unpack.result (is_state c.unpack.new.value)
