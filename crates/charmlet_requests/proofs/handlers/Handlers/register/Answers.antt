use Rattle.std.proofs.Common.{◌≡◌, ℕ, List, Some, subst, string_bytes}
use Rattle.std.specs.BTreeMap.{get_by_text}
use Rattle.std.specs.Map.{update}
use Rattle.std.specs.Str.{bytes_eq}
use Rattle.std.proofs.lemmas.Map.Text.{btree_map_updates_text}
use Rattle.std.proofs.lemmas.Result.{IfOk-at_ok}
use Rattle.charmlet_requests.proofs.handlers.Handlers.register.Goals as goal

pub returns-clause-ok : goal.returns-clause-ok
returns-clause-ok c =
    let key_is_name = IfOk-at_ok (λ s. string_bytes s ≡ c.args.name.now) c.in_ok-key.was c.from_str.ensures.ok in
    let sets = btree_map_updates_text (string_bytes c.in_ok-key.key) c.args.self.now.by_name c.insert.new.self _ c.in_ok-insert.ensures.updates in
    subst (λ bs. (other : List ℕ) → get_by_text c.insert.new.self other ≡ update bytes_eq (get_by_text c.args.self.now.by_name) bs (Some c.args.handler) other) key_is_name sets
