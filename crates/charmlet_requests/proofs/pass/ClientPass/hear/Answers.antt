use Rattle.std.proofs.Common.{◌≡◌, ℕ, sym, subst, take, Ok, Err}
use Rattle.std.specs.Prelude.{OnErr, OnOk}
use Rattle.charmlet_model.specs.declared.client.ClientRow.{ClientRow}
use Rattle.charmlet_model.specs.Told.{Holds, told_of}
use Rattle.charmlet_requests.specs.Knowing.{IsNoLess, heard}
use Rattle.charmlet_requests.specs.Pass.{Pass, IsTold, known}
use Rattle.charmlet_requests.proofs.Covering.{Covers, covers-itself, covers-told}
use Rattle.charmlet_requests.proofs.Known.{covers-heard, tells-heard}
use Rattle.charmlet_requests.proofs.Truth.{hears-truth}
use Rattle.charmlet_requests.proofs.pass.ClientPass.hear.Goals as goal

pub returns-clause-kept : goal.returns-clause-kept
returns-clause-kept c other =
    let row = c.self.inside.row in
    let new = c.hear.new.row in
    let told = c.args.told.now in
    let covers : Covers row new =
    elim c.hear.result as (λ r. OnOk r (new ≡ heard row c.args.number told) → OnErr r (new ≡ row) → Covers row new) [
      | Ok u ↦ λ ok _. subst (Covers row) (sym ok) (covers-heard row c.args.number c.self.invariant.0 told)
      | Err e ↦ λ _ err. subst (Covers row) (sym err) (covers-itself row)
    ] c.hear.ensures.ok c.hear.ensures.err in
    subst (λ (p : Pass). IsNoLess (known p other) (told_of new other)) c.self.view_is (covers-told row new other covers)

pub returns-clause-heard : goal.returns-clause-heard
returns-clause-heard c before =
    let row = c.self.inside.row in
    let new = c.hear.new.row in
    let told = c.args.told.now in
    let number = c.args.number in
    let here : IsNoLess (told_of row number) told = subst (λ (p : Pass). IsNoLess (known p number) told) (sym c.self.view_is) before in
    elim c.hear.result as (λ r. OnOk r (new ≡ heard row number told) → OnOk r (IsNoLess told (told_of new number))) [
      | Ok u ↦ λ ok. subst (λ r. IsNoLess told (told_of r number)) (sym ok) (tells-heard row number c.self.invariant.0 told here)
      | Err e ↦ λ _. tt
    ] c.hear.ensures.ok

pub returns-clause-holds : goal.returns-clause-holds
returns-clause-holds c core sound holds all =
    let row = c.self.inside.row in
    let new = c.hear.new.row in
    let told = c.args.told.now in
    let number = c.args.number in
    let client = c.self.inside.client in
    let pass : Pass = record { client = client; lent_at = c.self.inside.lent_at; last = c.self.inside.last; row = row } in
    let Holding : ClientRow → Type 0 = λ r. (k : ℕ) → Holds core.opening (take core.durable core.history) client k (told_of r k) in
    let before : IsTold pass core = subst (λ (p : Pass). IsTold p core) (sym c.self.view_is) all in
    let here : Holds core.opening (take core.durable core.history) client number told =
    subst (λ (p : Pass). Holds core.opening (take core.durable core.history) p.client number told) (sym c.self.view_is) holds in
    elim c.hear.result as (λ r. OnOk r (new ≡ heard row number told) → OnErr r (new ≡ row) → Holding new) [
      | Ok u ↦ λ ok _. subst Holding (sym ok) (hears-truth core sound pass number told c.self.invariant.0 here before)
      | Err e ↦ λ _ err. subst Holding (sym err) before
    ] c.hear.ensures.ok c.hear.ensures.err
