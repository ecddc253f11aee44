-- `Path::marks`: the target is as far away as the table says.
use Rattle.walk.proofs.Truths.{reached_distance}
use Rattle.reason.proofs.Telling.{path_table}
use Rattle.reason.proofs.path.Path.marks.Goals as goal

pub mark_path-requires : goal.mark_path-requires
mark_path-requires c =
    let p = c.args.self.now in
    rw (c.distance.ensures, c.from-to.ensures) (reached_distance (path_table p) p.question.atom.to c.requires)
