use Rattle.std.proofs.Common.{◌≡◌, refl, sym, ap, ◌∙◌}
use Rattle.std.specs.Prelude.{Some, length, slice_get, slice_set}
use Rattle.std.proofs.lemmas.Option.{slice_get_read, slice_get_within}
use Rattle.charmlet_leases.specs.Passes.Passes.{HeldPass}
use Rattle.charmlet_cli_workers.proofs.Asking.{asked_cause, asked_err, asked_ok, asked_tidy, unlent_cause}
use Rattle.charmlet_cli_workers.proofs.Hearing.{asked_heard, asked_later, asked_reached, later_still}
use Rattle.charmlet_workers.specs.Refusals.{is_lending_refusal, is_request_refusal}
use Rattle.charmlet_cli_workers.proofs.Knowing.{asked_told, untold}
use Rattle.charmlet_cli_workers.proofs.Sayings.{refused_one, refused_other}
use Rattle.charmlet_cli_workers.proofs.clients.Clients.request.Goals as goal

pub returns-in-Ok-clause-heard : goal.returns-in-Ok-clause-heard
returns-in-Ok-clause-heard g c =
    let passes = c.place_of.new.self.passes.items in
    let place = c.in-Ok.place in
    let found = c.in-Ok.ensures.place in
    let old = c.index_mut.result.now in
    let got : slice_get passes place ≡ Some old = slice_get_read passes (length passes) place old refl (slice_get_within passes place found.0 found.1) c.index_mut.ensures.value in
    let of : old.pass.client ≡ c.args.client = let same : found.0 ≡ old = cc in sym (ap (λ (held : HeldPass). held.pass.client) same) ∙ found.2 in
    asked_heard passes place old c.request.new.pass c.args.client c.args.request.now.number got of c.request.result c.request.ensures.told c.request.ensures.answered

pub returns-in-Ok-clause-later : goal.returns-in-Ok-clause-later
returns-in-Ok-clause-later g c =
    let passes = c.place_of.new.self.passes.items in
    let place = c.in-Ok.place in
    let found = c.in-Ok.ensures.place in
    let old = c.index_mut.result.now in
    let got : slice_get passes place ≡ Some old = slice_get_read passes (length passes) place old refl (slice_get_within passes place found.0 found.1) c.index_mut.ensures.value in
    let of : old.pass.client ≡ c.args.client = let same : found.0 ≡ old = cc in sym (ap (λ (held : HeldPass). held.pass.client) same) ∙ found.2 in
    later_still c.args.self.now.passes.items passes (slice_set passes place c.request.new.pass) c.in-Ok.ensures.later
    (asked_later passes place old c.request.new.pass c.args.client c.args.request.now.number got of c.request.result c.request.ensures.told c.request.ensures.answered)

pub returns-in-Ok-clause-reached : goal.returns-in-Ok-clause-reached
returns-in-Ok-clause-reached g c =
    let passes = c.place_of.new.self.passes.items in
    let place = c.in-Ok.place in
    let found = c.in-Ok.ensures.place in
    let old = c.index_mut.result.now in
    let got : slice_get passes place ≡ Some old = slice_get_read passes (length passes) place old refl (slice_get_within passes place found.0 found.1) c.index_mut.ensures.value in
    let of : old.pass.client ≡ c.args.client = let same : found.0 ≡ old = cc in sym (ap (λ (held : HeldPass). held.pass.client) same) ∙ found.2 in
    asked_reached passes place old c.request.new.pass c.args.client c.args.request.now.number got of c.request.result c.request.ensures.told

pub returns-in-Ok-clause-err : goal.returns-in-Ok-clause-err
returns-in-Ok-clause-err g c = refused_one is_request_refusal is_lending_refusal c.request.result c.request.ensures.err

pub returns-in-Err-clause-err : goal.returns-in-Err-clause-err
returns-in-Err-clause-err g c = refused_other is_request_refusal is_lending_refusal c.in-Err.refusal c.in-Err.ensures.err

pub returns-in-Ok-clause-asked : goal.returns-in-Ok-clause-asked
returns-in-Ok-clause-asked g c =
    let passes = c.place_of.new.self.passes.items in
    let places = c.place_of.new.self.places.entries in
    let place = c.in-Ok.place in
    let found = c.in-Ok.ensures.place in
    let old = c.index_mut.result.now in
    let got : slice_get passes place ≡ Some old = slice_get_read passes (length passes) place old refl (slice_get_within passes place found.0 found.1) c.index_mut.ensures.value in
    let of : old.pass.client ≡ c.args.client = let same : found.0 ≡ old = cc in sym (ap (λ (held : HeldPass). held.pass.client) same) ∙ found.2 in
    asked_ok c.args.self.now.passes.items passes places place old c.request.new.pass c.args.client c.in-Ok.ensures.tidy got of c.in-Ok.ensures.accepted c.args.request.now c.request.result c.request.ensures.told c.request.ensures.accepts c.request.ensures.repeat

pub returns-in-Ok-clause-unasked : goal.returns-in-Ok-clause-unasked
returns-in-Ok-clause-unasked g c =
    let passes = c.place_of.new.self.passes.items in
    let places = c.place_of.new.self.places.entries in
    let place = c.in-Ok.place in
    let found = c.in-Ok.ensures.place in
    let old = c.index_mut.result.now in
    let got : slice_get passes place ≡ Some old = slice_get_read passes (length passes) place old refl (slice_get_within passes place found.0 found.1) c.index_mut.ensures.value in
    let of : old.pass.client ≡ c.args.client = let same : found.0 ≡ old = cc in sym (ap (λ (held : HeldPass). held.pass.client) same) ∙ found.2 in
    asked_err c.args.self.now.passes.items passes places place old c.request.new.pass c.args.client c.in-Ok.ensures.tidy got of c.in-Ok.ensures.accepted c.args.request.now.number c.request.result c.request.ensures.answered

pub returns-in-Ok-clause-tidy : goal.returns-in-Ok-clause-tidy
returns-in-Ok-clause-tidy g c =
    let passes = c.place_of.new.self.passes.items in
    let places = c.place_of.new.self.places.entries in
    let place = c.in-Ok.place in
    let found = c.in-Ok.ensures.place in
    let old = c.index_mut.result.now in
    let got : slice_get passes place ≡ Some old = slice_get_read passes (length passes) place old refl (slice_get_within passes place found.0 found.1) c.index_mut.ensures.value in
    let of : old.pass.client ≡ c.args.client = let same : found.0 ≡ old = cc in sym (ap (λ (held : HeldPass). held.pass.client) same) ∙ found.2 in
    asked_tidy c.args.self.now.passes.items passes places place old c.request.new.pass c.args.client c.in-Ok.ensures.tidy got of c.in-Ok.ensures.accepted c.args.request.now c.request.result c.request.ensures.told c.request.ensures.accepts c.request.ensures.answered

pub returns-in-Ok-clause-cause : goal.returns-in-Ok-clause-cause
returns-in-Ok-clause-cause g c =
    let passes = c.place_of.new.self.passes.items in
    let places = c.place_of.new.self.places.entries in
    let place = c.in-Ok.place in
    let found = c.in-Ok.ensures.place in
    let old = c.index_mut.result.now in
    let got : slice_get passes place ≡ Some old = slice_get_read passes (length passes) place old refl (slice_get_within passes place found.0 found.1) c.index_mut.ensures.value in
    let of : old.pass.client ≡ c.args.client = let same : found.0 ≡ old = cc in sym (ap (λ (held : HeldPass). held.pass.client) same) ∙ found.2 in
    asked_cause c.args.self.now.passes.items passes places place old c.request.new.pass c.args.client c.in-Ok.ensures.tidy got of c.in-Ok.ensures.accepted c.args.runtime.now.opening c.args.request.now c.request.result c.request.ensures.cause c.request.ensures.answered

pub returns-in-Err-clause-cause : goal.returns-in-Err-clause-cause
returns-in-Err-clause-cause g c =
    let request = c.args.request.now in
    unlent_cause c.args.runtime.now.opening c.args.self.now.passes.items c.place_of.new.self.passes.items c.args.client request.number request.to request.words.now c.in-Err.refusal c.in-Err.ensures.err c.in-Err.ensures.none

pub returns-in-Ok-clause-told : goal.returns-in-Ok-clause-told
returns-in-Ok-clause-told g c =
    let passes = c.place_of.new.self.passes.items in
    let places = c.place_of.new.self.places.entries in
    let place = c.in-Ok.place in
    let found = c.in-Ok.ensures.place in
    let old = c.index_mut.result.now in
    let got : slice_get passes place ≡ Some old = slice_get_read passes (length passes) place old refl (slice_get_within passes place found.0 found.1) c.index_mut.ensures.value in
    let of : old.pass.client ≡ c.args.client = let same : found.0 ≡ old = cc in sym (ap (λ (held : HeldPass). held.pass.client) same) ∙ found.2 in
    asked_told c.args.self.now.passes.items passes places place old c.request.new.pass c.args.client c.in-Ok.ensures.tidy got of c.in-Ok.ensures.untold c.args.request.now.number c.request.result c.request.ensures.told c.request.ensures.answered

pub returns-in-Ok-clause-untold : goal.returns-in-Ok-clause-untold
returns-in-Ok-clause-untold g c =
    let passes = c.place_of.new.self.passes.items in
    let places = c.place_of.new.self.places.entries in
    let place = c.in-Ok.place in
    let found = c.in-Ok.ensures.place in
    let old = c.index_mut.result.now in
    let got : slice_get passes place ≡ Some old = slice_get_read passes (length passes) place old refl (slice_get_within passes place found.0 found.1) c.index_mut.ensures.value in
    let of : old.pass.client ≡ c.args.client = let same : found.0 ≡ old = cc in sym (ap (λ (held : HeldPass). held.pass.client) same) ∙ found.2 in
    untold c.args.self.now.passes.items passes places place old c.request.new.pass c.args.client c.in-Ok.ensures.tidy got of c.in-Ok.ensures.untold c.args.request.now.number c.request.result c.request.ensures.answered
