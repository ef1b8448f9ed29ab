use Rattle.std.proofs.Common.{refl}
use Rattle.charmlet_pup.specs.Fields.{number_bytes, words_bytes, byte_list, count_at}
use Rattle.charmlet_model.specs.Unpacked.{number_at}
use Rattle.charmlet_model.specs.Spelling.{spell_elem, spell_sender, spell_origin, spell_id, spell_send, spell_message, spell_caught_up, spell_tagged, spell_event, spell_batch, spell_log}
use Rattle.charmlet_record.specs.Reading.{then_read, checked, read_number, read_within, read_times, read_list, read_elem, read_sender, read_origin, read_id, read_words, read_send, read_message_of, read_message, read_effect, read_caught_up, read_accept, read_delivery, read_event, read_length, exactly, read_batch, read_gated, read_batches, read_log}
use Rattle.charmlet_image.specs.After.{read_after, read_list_after, read_message_if}
use Rattle.charmlet_image.specs.Images.{spell_array, spell_kind_version, spell_item, spell_window, spell_client, spell_state, spell_entry, spell_image, spell_header, spell_half}
use Rattle.charmlet_image.specs.Reading.{read_kind_version, read_array, read_flagged, read_option, read_item, read_window, read_client, read_packed, read_object, read_entry, read_image, read_mark, read_header}
use Rattle.charmlet_image.specs.Halves.{read_body, read_saved}
use Rattle.charmlet_image.proofs.examples.older_stores_are_read.Goals as goal

pub returns : goal.returns
unfolding number_bytes words_bytes byte_list count_at number_at spell_elem spell_sender spell_origin spell_id spell_send spell_message spell_caught_up spell_tagged spell_event spell_batch spell_log then_read checked read_number read_within read_times read_list read_after read_list_after read_elem read_sender read_origin read_id read_words read_send read_message_if read_message_of read_message read_effect read_caught_up read_accept read_delivery read_event read_length exactly read_batch read_gated read_batches read_log spell_array spell_kind_version spell_item spell_window spell_client spell_state spell_entry spell_image spell_header spell_half read_kind_version read_array read_flagged read_option read_item read_window read_client read_packed read_object read_entry read_image read_mark read_header read_body read_saved
returns c = record { size = refl; read = refl; spelled = refl; cut_1 = refl; cut_2 = refl; cut_4 = refl; cut_5 = refl; cut_12 = refl; cut_13 = refl; cut_20 = refl; cut_21 = refl; cut_48 = refl; cut_49 = refl }
