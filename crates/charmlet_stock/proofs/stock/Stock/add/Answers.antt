use Rattle.std.proofs.Common.{sym, ◌∙◌}
use Rattle.charmlet_model.specs.declared.kind.Kind.TheVariants as kinds
use Rattle.charmlet_model.specs.Reaction.{kind_of}
use Rattle.charmlet_stock.specs.ByKind.{with_at}
use Rattle.charmlet_stock.proofs.Room.{own_room}
use Rattle.charmlet_stock.proofs.stock.Stock.add.Goals as goal

pub returns-in-Counter-clause-room : goal.returns-in-Counter-clause-room
returns-in-Counter-clause-room g c =
    own_room c.args.self.now.piles (with_at c.args.self.now.piles kinds.Counter c.add.new.self) (kind_of (g.C.Chare.state c.args.object)) kinds.Counter (sym c.kind_of.ensures ∙ c.in-Counter.is) c.add.ensures.room

pub returns-in-Ring-clause-room : goal.returns-in-Ring-clause-room
returns-in-Ring-clause-room g c =
    own_room c.args.self.now.piles (with_at c.args.self.now.piles kinds.Ring c.add-in-Ring.new.self) (kind_of (g.C.Chare.state c.args.object)) kinds.Ring (sym c.kind_of.ensures ∙ c.in-Ring.is) c.add-in-Ring.ensures.room

pub returns-in-Account-clause-room : goal.returns-in-Account-clause-room
returns-in-Account-clause-room g c =
    own_room c.args.self.now.piles (with_at c.args.self.now.piles kinds.Account c.add-in-Account.new.self) (kind_of (g.C.Chare.state c.args.object)) kinds.Account (sym c.kind_of.ensures ∙ c.in-Account.is) c.add-in-Account.ensures.room

pub returns-in-Sum-clause-room : goal.returns-in-Sum-clause-room
returns-in-Sum-clause-room g c =
    own_room c.args.self.now.piles (with_at c.args.self.now.piles kinds.Sum c.add-in-Sum.new.self) (kind_of (g.C.Chare.state c.args.object)) kinds.Sum (sym c.kind_of.ensures ∙ c.in-Sum.is) c.add-in-Sum.ensures.room

pub returns-in-Tree-clause-room : goal.returns-in-Tree-clause-room
returns-in-Tree-clause-room g c =
    own_room c.args.self.now.piles (with_at c.args.self.now.piles kinds.Tree c.add-in-Tree.new.self) (kind_of (g.C.Chare.state c.args.object)) kinds.Tree (sym c.kind_of.ensures ∙ c.in-Tree.is) c.add-in-Tree.ensures.room

pub returns-in-Tape-clause-room : goal.returns-in-Tape-clause-room
returns-in-Tape-clause-room g c =
    own_room c.args.self.now.piles (with_at c.args.self.now.piles kinds.Tape c.add-in-Tape.new.self) (kind_of (g.C.Chare.state c.args.object)) kinds.Tape (sym c.kind_of.ensures ∙ c.in-Tape.is) c.add-in-Tape.ensures.room
