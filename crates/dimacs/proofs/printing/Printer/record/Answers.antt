-- The tag, the length and the literals, one behind the other.
use Rattle.dimacs.proofs.Recording.{tag_inside, count_room, literals_room, record_lays}
use Rattle.dimacs.proofs.printing.Printer.record.Goals as goal

pub bounds-self-self : goal.bounds-self-self
bounds-self-self c = tag_inside _ c.args.self.now c.requires.room

pub two-requires : goal.two-requires
two-requires c = count_room _ c.args.self.now c.requires.room

pub literals-requires : goal.literals-requires
literals-requires c = literals_room _ c.args.self.now c.requires.room c.two.ensures

pub returns : goal.returns
returns c = record_lays _ c.args.self.now c.requires.room c.two.ensures c.literals.ensures
