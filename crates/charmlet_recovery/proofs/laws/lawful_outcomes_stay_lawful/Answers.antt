use Rattle.charmlet_recovery.proofs.Outcomes.{kept_is_lawful, lawful_is_kept, lawful_grows, lawful_joins, lawful_parts, opened_is_lawful, told_is_recovered}
use Rattle.charmlet_recovery.proofs.laws.lawful_outcomes_stay_lawful.Goals as goal

pub returns : goal.returns
returns c = record {
  kept = kept_is_lawful;
  was_kept = lawful_is_kept;
  grows = lawful_grows;
  joins = lawful_joins;
  parts = lawful_parts;
  opened = opened_is_lawful;
  told = told_is_recovered;
}
