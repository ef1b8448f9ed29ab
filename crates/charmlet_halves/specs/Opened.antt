-- What is given back where halves are opened or made.
use Rattle.std.specs.Prelude.{◌≡◌, false, None, Result, Ok, Err}
use Rattle.charmlet_model.specs.declared.refusal.Refusal.{Refusal}
use Rattle.charmlet_disk.specs.declared.disk.Disk.{Ghosts}
use Rattle.charmlet_halves.specs.declared.surveyed.Surveyed.{Surveyed}
use Rattle.charmlet_halves.specs.declared.opened.Refused.{Refused}
use Rattle.charmlet_halves.specs.declared.opened.Opened.{Opened}

-- the disk afterwards, which is in the halves or was handed back
abbrev pub disk_after : {D : Type 0} {G : Ghosts D} → Result (Opened D G) (Refused D) → D
disk_after (Ok opened) = opened.halves.disk
disk_after (Err refused) = refused.disk

-- what was found, or why nothing was
abbrev pub survey_of : {D : Type 0} {G : Ghosts D} → Result (Opened D G) (Refused D) →
    Result Surveyed Refusal
survey_of (Ok opened) = Ok opened.survey
survey_of (Err refused) = Err refused.refusal

-- the halves are as they were found, and none of them is written yet
pub record OpensAs {D : Type 0} {G : Ghosts D} (opened : Opened D G) : Type 0 where
  pub taken : opened.halves.taken ≡ opened.survey.half
  pub generation : opened.halves.generation ≡ opened.survey.contents.header.generation
  pub log_end : opened.halves.log_end ≡ opened.survey.contents.log_end
  pub prepared : opened.halves.prepared ≡ None
  pub going : opened.halves.halted ≡ false
