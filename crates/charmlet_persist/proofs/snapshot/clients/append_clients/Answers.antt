use Rattle.std.proofs.Common.{◌≡◌, ◌++◌, ℕ, [], ◌∷◌, ap, sym, ◌∙◌}
use Rattle.std.proofs.lemmas.List.Elements.{All-tail, All-same}
use Rattle.charmlet_image.specs.declared.header.Mark.TheVariants.{Third}
use Rattle.charmlet_image.specs.Images.{spell_client}
use Rattle.charmlet_world.specs.Client.Client.{Rows}
use Rattle.charmlet_persist.specs.Snapshot.Showing.{AreShort}
use Rattle.charmlet_persist.proofs.SnapshotLemmas.Lists.{spell_rows, one_appended, all_appended, clients_text}
use Rattle.charmlet_persist.proofs.snapshot.clients.append_clients.Goals as goal

pub loop-client-preserved : goal.loop-client-preserved
loop-client-preserved c =
    let e : ℕ × Rows = (c.in-Some.client.now, c.in-Some.rows.now) in
    let is : c.loop-client.client-iterator ≡ e ∷ c.next.new.self = c.in-Some.ensures.steps in
    let one : c.append_client.new.out.items ≡ c.loop-client.out.items ++ spell_rows e =
    c.in_ok-append_client.ensures ∙ ap (λ row. c.loop-client.out.items ++ spell_client Third (e.0, row)) c.present.ensures in
    record {
      bytes = one_appended spell_rows c.loop-client.out.items _ c.loop-client.client-iterator e c.next.new.self c.append_client.new.out.items is c.loop-client.invariant.bytes one;
      short = All-tail (λ (r : ℕ × Rows). AreShort r.1.present) e c.next.new.self (All-same (λ (r : ℕ × Rows). AreShort r.1.present) (e ∷ c.next.new.self) c.loop-client.client-iterator (sym is) c.loop-client.invariant.short);
    }

pub returns : goal.returns
returns c =
    let is : c.loop-client.client-iterator ≡ [] = c.in-None.ensures.steps.0 in
    all_appended spell_rows c.loop-client.out.items _ c.loop-client.client-iterator is c.loop-client.invariant.bytes
    ∙ clients_text c.args.out.now.items c.args.clients.now.entries
