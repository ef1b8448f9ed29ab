use Rattle.std.proofs.Common.{rules, ◌≡◌, inl, refl, sym, ap, true, false}
use Rattle.std.specs.Prelude.{if◌then◌else◌}
use Rattle.charmlet_model.specs.declared.refusal.Refusal.TheVariants.{BadPes, Memory}
use Rattle.charmlet_locate.specs.Locations.{is_processor_count}
use Rattle.charmlet_service.proofs.run.serve_new.Goals as goal

pub returns-then-not-is_processor_count : goal.returns-then-not-is_processor_count
returns-then-not-is_processor_count g c =
    let bad : is_processor_count c.args.processors ≡ false = search rules in
    inl (record { why = sym (ap (λ b. if b then Memory else BadPes) bad); disk = refl })

pub returns-in_default : goal.returns-in_default
returns-in_default g c =
    let good : is_processor_count c.args.processors ≡ true = search rules in
    inl (record { why = sym (ap (λ b. if b then Memory else BadPes) good); disk = refl })
