use Rattle.std.proofs.Common.{◌≡◌, refl, sym, ap, subst, ◌∙◌, slice_get}
use Rattle.std.specs.Prelude.{None, Some, Option, MatchOption, option_map}
use Rattle.std.specs.List.{IsDistinct}
use Rattle.std.specs.Map.{lookup}
use Rattle.std.proofs.lemmas.Option.{slice_get_within}
use Rattle.indexmap.specs.IndexMap.{set_value_at}
use Rattle.indexmap.proofs.CallerLemmas.{index_map_len-with_value_at}
use Rattle.charmlet_world.specs.Ids.{table_eq}
use Rattle.charmlet_world.specs.Waiting.{pending_messages}
use Rattle.charmlet_world.specs.declared.envelope.Envelope.{Envelope}
use Rattle.charmlet_world.proofs.Holes.{found_in, message_at}
use Rattle.charmlet_world.proofs.Indices.{found_at_index, one_there}
use Rattle.charmlet_world.proofs.PendingMessages.{keys_same, lookup_pending_messages, set_same}
use Rattle.charmlet_world.proofs.pending.take_pending_message.Goals as goal

at_none : {X : Type 0} {A : Type 0} (B : X → Type 0) (o : Option X) → o ≡ None → MatchOption o A B → A
at_none B None is h = h
at_none B (Some x) is h = cc

pub returns-in_err-index-clause-none : goal.returns-in_err-index-clause-none
returns-in_err-index-clause-none c = λ _.
    let es = c.args.envelopes.now.entries in
    let id = c.args.id in
    let none : lookup (table_eq id) (pending_messages es) ≡ None = lookup_pending_messages (table_eq id) es ∙ ap (option_map (λ (s : Envelope). s.pending_message)) (c.index_of.ensures.nowhere c.in_err-index.was) in
    let distinct = subst (IsDistinct table_eq) (sym (keys_same es)) c.index_of.ensures.distinct in
    (refl, found_in id (pending_messages es) distinct ∙ ap (message_at id) none)

pub pair_mut-envelope-requires : goal.pair_mut-envelope-requires
pair_mut-envelope-requires c = slice_get_within c.args.envelopes.now.entries c.in_ok-index.index _ c.in_ok-index.ensures.here.1

pub returns-clause-none : goal.returns-clause-none
returns-clause-none c = λ none.
    let es = c.args.envelopes.now.entries in
    let id = c.args.id in
    let i = c.in_ok-index.index in
    let here = c.in_ok-index.ensures.here in
    let distinct = c.index_of.ensures.distinct in
    let was = c.pair_mut-envelope.result.1.now in
    let same = one_there id c.pair_mut-envelope.result.0.now here.0 was es i here.1 c.pair_mut-envelope.ensures.value in
    let out = at_none _ c.take_out.result none c.take_out.ensures in
    let at : slice_get es i ≡ Some (id, was) = here.1 ∙ ap (λ (s : Envelope). Some (id, s)) same in
    let found = lookup_pending_messages (table_eq id) es ∙ ap (option_map (λ (s : Envelope). s.pending_message)) (found_at_index id was es i distinct at) in (
      ap (set_value_at es i) out.0 ∙ set_same es i id was at,
      found_in id (pending_messages es) (subst (IsDistinct table_eq) (sym (keys_same es)) distinct) ∙ ap (message_at id) (found ∙ ap Some out.1),
    )

pub returns-clause-len : goal.returns-clause-len
returns-clause-len c = index_map_len-with_value_at c.args.envelopes.now c.in_ok-index.index c.take_out.new.envelope
