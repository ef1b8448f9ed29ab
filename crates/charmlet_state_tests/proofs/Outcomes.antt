-- What a message makes of a counter that has no such entry.
use Rattle.std.proofs.Common.{◌≡◌, ℕ, Bool, true, false, ◌||◌, List, refl, sym, subst}
use Rattle.std.specs.Prelude.{Option, Some, None, IfSome, is_some, ◌==◌, option_and_then}
use Rattle.charmlet_model.specs.declared.names.Elem.{Elem}
use Rattle.charmlet_model.specs.declared.names.MsgId.{MsgId}
use Rattle.charmlet_model.specs.declared.message.Message.{Message}
use Rattle.charmlet_model.specs.declared.kind_version.KindVersion.TheVariants as kind_versions
use Rattle.charmlet_model.specs.declared.state.State.{State}
use Rattle.charmlet_model.specs.declared.state.State.TheVariants.{FirstCounter, Counter, Ring, Account, Sum, Tree, Tape}
use Rattle.charmlet_model.specs.declared.reaction.Reaction.{Reaction}
use Rattle.charmlet_model.specs.Reaction.{kind_version_of, react, stays}
use Rattle.charmlet_model.specs.Packed.{IsState}
use Rattle.charmlet_model.specs.World.{can_deliver, version_of_array, record_of, reaction_of}
use Rattle.charmlet_model.specs.Core.{Core, present, assigned_to, pending_message}
use Rattle.charmlet_model.specs.Sound.{IsSound, IsAssigned}
use Rattle.charmlet_model.proofs.Maps.{both_parts}
use Rattle.charmlet_model.proofs.SoundLemmas.{sound_fit}
use Rattle.charmlet_chare.specs.Output.{empty_output, output_of}
use Rattle.charmlet_history.specs.Kept.{IsAssignedOutput, assigned_message}

-- a counter stays, and nothing is sent or replied
abbrev IsPlain : Option Reaction → Type 0
IsPlain reaction = (r : Reaction) × (reaction ≡ Some r) × (empty_output ≡ output_of r)

counter_stays : (s : State) → kind_version_of s ≡ kind_versions.Counter → (me : Elem) (words : List ℕ) → IsPlain (react kind_versions.Counter me (Some s) 4 words)
counter_stays (FirstCounter n) is me words = absurd (let no : ⊥ = cc in no)
counter_stays (Counter n peak) is me words = (stays (Counter n peak), refl, refl)
counter_stays (Ring next seen) is me words = absurd (let no : ⊥ = cc in no)
counter_stays (Account balance) is me words = absurd (let no : ⊥ = cc in no)
counter_stays (Sum want got total up) is me words = absurd (let no : ⊥ = cc in no)
counter_stays (Tree depth) is me words = absurd (let no : ⊥ = cc in no)
counter_stays (Tape items) is me words = absurd (let no : ⊥ = cc in no)

there_stays : (s : Option State) → is_some s ≡ true → IfSome s (λ s. (Some kind_versions.Counter ≡ Some (kind_version_of s)) × IsState s) → (me : Elem) (words : List ℕ) →
    IsPlain (react kind_versions.Counter me s 4 words)
there_stays None is h me words = absurd (let no : ⊥ = cc in no)
there_stays (Some s) is h me words = let same = h.0 in counter_stays s (let kind_version : kind_version_of s ≡ kind_versions.Counter = cc in kind_version) me words

module _ (core : Core) (sound : IsSound core) (processor : ℕ) (m : Message) (entry : m.entry ≡ 4) (kind_version : version_of_array (present core) m.to.array ≡ Some kind_versions.Counter) where
  -- the receiver of what is assigned is there
  is_there : (id : MsgId) → pending_message core id ≡ Some m → IsAssigned core processor id → is_some (record_of (present core) m.to).state ≡ true
  is_there id is assigned =
      let can_be : can_deliver (present core) (Some m) ≡ true = subst (λ o. can_deliver (present core) o ≡ true) is assigned.can_be in
      let parts = both_parts _ _ (both_parts _ _ can_be).0 in
      let at_entry = subst (λ e. (is_some (record_of (present core) m.to).state || (e == 65535)) ≡ true) entry parts.0 in
      or_false _ at_entry
    where
      or_false : (b : Bool) → (b || false) ≡ true → b ≡ true
      or_false true h = refl
      or_false false h = h

  reacts : is_some (record_of (present core) m.to).state ≡ true → IsPlain (reaction_of (present core) m)
  reacts there =
      let here = (sound_fit core sound).records m.to in
      subst (λ k. IsPlain (option_and_then (λ any. react any m.to (record_of (present core) m.to).state m.entry m.words) k)) (sym kind_version)
      (subst (λ e. IsPlain (react kind_versions.Counter m.to (record_of (present core) m.to).state e m.words)) (sym entry)
      (there_stays (record_of (present core) m.to).state there
      (subst (λ k. IfSome (record_of (present core) m.to).state (λ s. (k ≡ Some (kind_version_of s)) × IsState s)) kind_version here.state)
      m.to m.words))

  found_plain : (o : Option MsgId) → IfSome o (IsAssigned core processor) → option_and_then (pending_message core) o ≡ Some m → IsPlain (reaction_of (present core) m)
  found_plain None assigned is = absurd (let no : ⊥ = cc in no)
  found_plain (Some id) assigned is = reacts (is_there id is assigned)

  -- what is assigned is such a message to a counter, and nothing comes of it
  pub plain_outcome : assigned_message core processor ≡ Some m → IsAssignedOutput core processor empty_output
  plain_outcome is =
      subst (λ o. IsPlain (option_and_then (reaction_of (present core)) o)) (sym is)
      (found_plain (assigned_to core processor) (sound.assigned processor) is)
