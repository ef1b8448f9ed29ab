-- What a receiver would make of a message, if it did what is written.
use Rattle.std.proofs.Common.{◌≡◌, ◌≤◌, ◌==◌, Bool, true, false, List, [], ◌∷◌, length, refl, arith, if◌then◌else◌}
use Rattle.std.specs.Prelude.{Some, None, IfSome, is_none}
use Rattle.std.specs.List.{AllByRecursion}
use Rattle.std.proofs.lemmas.Bool.{eqb-true}
use Rattle.charmlet_model.specs.declared.kind_version.KindVersion.{KindVersion}
use Rattle.charmlet_model.specs.declared.kind_version.KindVersion.TheVariants as kind_versions
use Rattle.charmlet_model.specs.declared.logged.Effect.{Effect}
use Rattle.charmlet_model.specs.declared.logged.Effect.TheVariants.{Destroyed}
use Rattle.charmlet_model.specs.declared.message.Outgoing.{Outgoing}
use Rattle.charmlet_model.specs.declared.names.Elem.{Elem}
use Rattle.charmlet_model.specs.declared.reaction.Reaction.{Reaction}
use Rattle.charmlet_model.specs.declared.state.State.{State}
use Rattle.charmlet_model.specs.declared.state.State.TheVariants as states
use Rattle.charmlet_model.specs.Packed.{IsState}
use Rattle.charmlet_model.specs.Reaction.{kind_version_of}
use Rattle.charmlet_model.proofs.Maps.{both_parts}
use Rattle.charmlet_model.proofs.Reactions.{IsOutgoing, IsReaction}
use Rattle.charmlet_chare.specs.Output.{output_of}
use Rattle.charmlet_record.specs.Reading.{Kinds}
use Rattle.charmlet_record.specs.Written.{IsSend}
use Rattle.charmlet_recovery.specs.Faults.{same_effect}
use Rattle.charmlet_log_scan.specs.Routing.Routed.{stay_in, written_output}

-- ---- a state of each kind version

some_state : KindVersion → State
some_state kind_versions.Counter = states.Counter 0 0
some_state kind_versions.Ring = states.Ring 0 0
some_state kind_versions.Account = states.Account 0
some_state kind_versions.Sum = states.Sum 0 0 0 0
some_state kind_versions.Tree = states.Tree 0
some_state kind_versions.Tape = states.Tape []
some_state kind_versions.FirstCounter = states.FirstCounter 0

its_kind_version : (kind_version : KindVersion) → kind_version_of (some_state kind_version) ≡ kind_version
unfolding some_state
its_kind_version kind_versions.Counter = refl
its_kind_version kind_versions.Ring = refl
its_kind_version kind_versions.Account = refl
its_kind_version kind_versions.Sum = refl
its_kind_version kind_versions.Tree = refl
its_kind_version kind_versions.Tape = refl
its_kind_version kind_versions.FirstCounter = refl

its_state : (kind_version : KindVersion) → IsState (some_state kind_version)
unfolding some_state
its_state kind_versions.Counter = (omega arith, omega arith)
its_state kind_versions.Ring = (omega arith, omega arith)
its_state kind_versions.Account = omega arith
its_state kind_versions.Sum = (omega arith, omega arith, omega arith, omega arith)
its_state kind_versions.Tree = omega arith
its_state kind_versions.Tape = (omega arith, tt)
its_state kind_versions.FirstCounter = omega arith

-- ---- what is written, as a reaction

-- an element of this kind version is left, unless it is destroyed; nothing is replied
pub written_reaction : KindVersion → Effect → List Outgoing → Reaction
written_reaction kind_version effect sends = record {
  state = if same_effect effect Destroyed then None else Some (some_state kind_version);
  sends = sends;
  reply = [];
}

pub written_is : (kind_version : KindVersion) (effect : Effect) (sends : List Outgoing) → written_output effect sends ≡ output_of (written_reaction kind_version effect sends)
unfolding written_reaction
written_is kind_version effect sends =
    let gone : same_effect effect Destroyed ≡ is_none (if same_effect effect Destroyed then None else Some (some_state kind_version)) = by (same_effect effect Destroyed) in
    λ i. record { sends = sends; reply = []; is_destroyed = gone i }
  where
    by : (b : Bool) → b ≡ is_none (if b then None else Some (some_state kind_version))
    by true = refl
    by false = refl

pub written_sends : (kind_version : KindVersion) (effect : Effect) (sends : List Outgoing) → (written_reaction kind_version effect sends).sends ≡ sends
unfolding written_reaction
written_sends kind_version effect sends = refl

pub written_reply : (kind_version : KindVersion) (effect : Effect) (sends : List Outgoing) → (written_reaction kind_version effect sends).reply ≡ []
unfolding written_reaction
written_reply kind_version effect sends = refl

outgoing : (manifest : Kinds) (me : Elem) (sends : List Outgoing) → AllByRecursion (IsSend manifest) sends → stay_in me.array sends ≡ true → AllByRecursion (IsOutgoing me) sends
outgoing manifest me [] each stay = tt
outgoing manifest me (s ∷ ss) each stay =
    let parts = both_parts (s.to.array == me.array) (stay_in me.array ss) stay in (
      record {
        array = eqb-true s.to.array me.array parts.0;
        index = each.0.0.2;
        entry = each.0.1;
        words = each.0.2;
      },
      outgoing manifest me ss each.1 parts.1,
    )

pub written_good : (manifest : Kinds) (kind_version : KindVersion) (me : Elem) (effect : Effect) (sends : List Outgoing) → length sends ≤ 16 → AllByRecursion (IsSend manifest) sends → stay_in me.array sends ≡ true →
    IsReaction kind_version me (written_reaction kind_version effect sends)
unfolding written_reaction
written_good manifest kind_version me effect sends few each stay = record {
  state = by (same_effect effect Destroyed);
  count = few;
  sends = outgoing manifest me sends each stay;
  reply = (omega arith, tt);
}
  where
    by : (b : Bool) → IfSome (if b then None else Some (some_state kind_version)) (λ s. (kind_version_of s ≡ kind_version) × IsState s)
    by true = tt
    by false = (its_kind_version kind_version, its_state kind_version)
