use Rattle.std.proofs.Common.{refl}
use Rattle.charmlet_pup.specs.Fields.{number_bytes, words_bytes}
use Rattle.charmlet_model.specs.Spelling.{spell_elem, spell_sender, spell_origin, spell_id, spell_tagged, spell_event}
use Rattle.charmlet_model.specs.Sizes.{log_size}
use Rattle.charmlet_model.proofs.examples.flushes_are_refused_in_order.Goals as goal

pub returns : goal.returns
unfolding number_bytes words_bytes spell_elem spell_sender spell_origin spell_id spell_tagged spell_event log_size
returns c = (refl, refl, refl, refl)
