use Rattle.std.proofs.Common.{◌≡◌, refl, sym, ap, ◌∙◌}
use Rattle.std.specs.Prelude.{Some, length, slice_get, slice_set}
use Rattle.std.proofs.lemmas.Option.{slice_get_read, slice_get_within}
use Rattle.charmlet_leases.specs.Passes.Passes.{HeldPass}
use Rattle.charmlet_cli_workers.proofs.Asking.{lent_status, stated_accepts, stated_tidy, unlent_status}
use Rattle.charmlet_cli_workers.proofs.Hearing.{stated_heard, stated_later, later_still}
use Rattle.charmlet_workers.specs.Refusals.{is_lending_refusal, is_status_refusal}
use Rattle.charmlet_cli_workers.proofs.Knowing.{stated_told, untold}
use Rattle.charmlet_cli_workers.proofs.Sayings.{refused_one, refused_other}
use Rattle.charmlet_cli_workers.specs.Heard.{accepts_by}
use Rattle.charmlet_cli_workers.proofs.clients.Clients.status.Goals as goal

pub returns-in-Ok-clause-heard : goal.returns-in-Ok-clause-heard
returns-in-Ok-clause-heard g c =
    let passes = c.place_of.new.self.passes.items in
    let place = c.in-Ok.place in
    let found = c.in-Ok.ensures.place in
    let old = c.index_mut.result.now in
    let got : slice_get passes place ≡ Some old = slice_get_read passes (length passes) place old refl (slice_get_within passes place found.0 found.1) c.index_mut.ensures.value in
    let of : old.pass.client ≡ c.args.client = let same : found.0 ≡ old = cc in sym (ap (λ (held : HeldPass). held.pass.client) same) ∙ found.2 in
    stated_heard passes place old c.status.new.pass c.args.client c.args.number got of c.status.result c.status.ensures.told c.status.ensures.answered

pub returns-in-Ok-clause-later : goal.returns-in-Ok-clause-later
returns-in-Ok-clause-later g c =
    let passes = c.place_of.new.self.passes.items in
    let place = c.in-Ok.place in
    let found = c.in-Ok.ensures.place in
    let old = c.index_mut.result.now in
    let got : slice_get passes place ≡ Some old = slice_get_read passes (length passes) place old refl (slice_get_within passes place found.0 found.1) c.index_mut.ensures.value in
    let of : old.pass.client ≡ c.args.client = let same : found.0 ≡ old = cc in sym (ap (λ (held : HeldPass). held.pass.client) same) ∙ found.2 in
    later_still c.args.self.now.passes.items passes (slice_set passes place c.status.new.pass) c.in-Ok.ensures.later
    (stated_later passes place old c.status.new.pass c.args.client c.args.number got of c.status.result c.status.ensures.told c.status.ensures.answered)

pub returns-in-Ok-clause-err : goal.returns-in-Ok-clause-err
returns-in-Ok-clause-err g c = refused_one is_status_refusal is_lending_refusal c.status.result c.status.ensures.err

pub returns-in-Err-clause-err : goal.returns-in-Err-clause-err
returns-in-Err-clause-err g c = refused_other is_status_refusal is_lending_refusal c.in-Err.refusal c.in-Err.ensures.err

pub returns-in-Ok-clause-accepted : goal.returns-in-Ok-clause-accepted
returns-in-Ok-clause-accepted g c =
    let passes = c.place_of.new.self.passes.items in
    let places = c.place_of.new.self.places.entries in
    let place = c.in-Ok.place in
    let found = c.in-Ok.ensures.place in
    let old = c.index_mut.result.now in
    let got : slice_get passes place ≡ Some old = slice_get_read passes (length passes) place old refl (slice_get_within passes place found.0 found.1) c.index_mut.ensures.value in
    let of : old.pass.client ≡ c.args.client = let same : found.0 ≡ old = cc in sym (ap (λ (held : HeldPass). held.pass.client) same) ∙ found.2 in
    stated_accepts c.args.self.now.passes.items passes places place old c.status.new.pass c.args.client c.in-Ok.ensures.tidy got of c.in-Ok.ensures.accepted c.args.number c.status.result c.status.ensures.told c.status.ensures.accepts c.status.ensures.answered

pub returns-in-Ok-clause-tidy : goal.returns-in-Ok-clause-tidy
returns-in-Ok-clause-tidy g c =
    let passes = c.place_of.new.self.passes.items in
    let places = c.place_of.new.self.places.entries in
    let place = c.in-Ok.place in
    let found = c.in-Ok.ensures.place in
    let old = c.index_mut.result.now in
    let got : slice_get passes place ≡ Some old = slice_get_read passes (length passes) place old refl (slice_get_within passes place found.0 found.1) c.index_mut.ensures.value in
    let of : old.pass.client ≡ c.args.client = let same : found.0 ≡ old = cc in sym (ap (λ (held : HeldPass). held.pass.client) same) ∙ found.2 in
    stated_tidy c.args.self.now.passes.items passes places place old c.status.new.pass c.args.client c.in-Ok.ensures.tidy got of c.in-Ok.ensures.accepted c.args.number c.status.result c.status.ensures.told c.status.ensures.accepts c.status.ensures.answered

pub returns-in-Ok-clause-cause : goal.returns-in-Ok-clause-cause
returns-in-Ok-clause-cause g c = lent_status (accepts_by c.args.client c.args.self.now.passes.items) c.status.result c.status.ensures.err

pub returns-in-Err-clause-cause : goal.returns-in-Err-clause-cause
returns-in-Err-clause-cause g c = unlent_status c.args.self.now.passes.items c.args.client c.in-Err.refusal c.in-Err.ensures.none

pub returns-in-Ok-clause-told : goal.returns-in-Ok-clause-told
returns-in-Ok-clause-told g c =
    let passes = c.place_of.new.self.passes.items in
    let places = c.place_of.new.self.places.entries in
    let place = c.in-Ok.place in
    let found = c.in-Ok.ensures.place in
    let old = c.index_mut.result.now in
    let got : slice_get passes place ≡ Some old = slice_get_read passes (length passes) place old refl (slice_get_within passes place found.0 found.1) c.index_mut.ensures.value in
    let of : old.pass.client ≡ c.args.client = let same : found.0 ≡ old = cc in sym (ap (λ (held : HeldPass). held.pass.client) same) ∙ found.2 in
    stated_told c.args.self.now.passes.items passes places place old c.status.new.pass c.args.client c.in-Ok.ensures.tidy got of c.in-Ok.ensures.untold c.args.number c.status.result c.status.ensures.told c.status.ensures.answered

pub returns-in-Ok-clause-untold : goal.returns-in-Ok-clause-untold
returns-in-Ok-clause-untold g c =
    let passes = c.place_of.new.self.passes.items in
    let places = c.place_of.new.self.places.entries in
    let place = c.in-Ok.place in
    let found = c.in-Ok.ensures.place in
    let old = c.index_mut.result.now in
    let got : slice_get passes place ≡ Some old = slice_get_read passes (length passes) place old refl (slice_get_within passes place found.0 found.1) c.index_mut.ensures.value in
    let of : old.pass.client ≡ c.args.client = let same : found.0 ≡ old = cc in sym (ap (λ (held : HeldPass). held.pass.client) same) ∙ found.2 in
    untold c.args.self.now.passes.items passes places place old c.status.new.pass c.args.client c.in-Ok.ensures.tidy got of c.in-Ok.ensures.untold c.args.number c.status.result c.status.ensures.answered
