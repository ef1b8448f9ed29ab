-- The word that a new authority stands by.
use Rattle.atomic_table.specs.Seated.{TableId}
use Rattle.charmlet_locks.specs.declared.ghost_auth.authority.UnnamedAuthority.{UnnamedAuthority}

abbrev pub table_of : {D : Type 0} → UnnamedAuthority D → TableId
table_of authority = authority.table.shared.table_id
