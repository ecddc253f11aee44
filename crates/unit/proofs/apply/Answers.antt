-- What a clause says is done: a clash, a literal more in the assignment and in the queue, or nothing.
use Rattle.std.proofs.Common.{refl, ap, ◌∙◌, set, Ok, Some}
use Rattle.plan.specs.Meaning.{add}
use Rattle.unit.proofs.Following.{given_number, given_fits, given_room}
use Rattle.unit.proofs.apply.Goals as goal

pub put-requires-clause-literal_fits : goal.put-requires-clause-literal_fits
put-requires-clause-literal_fits c = given_fits c.requires.ready c.requires.at_in_bounds (rw c.in-Some.is at c.in_ok-literal.ensures)

pub push-requires : goal.push-requires
push-requires c = given_room c.requires.ready c.requires.at_in_bounds (rw c.in-Some.is at c.in_ok-literal.ensures) c.args.queue.now.end c.requires.values_bound

pub returns-in-Some : goal.returns-in-Some
returns-in-Some c =
    let says = rw c.in-Some.is at c.in_ok-literal.ensures in
    let number = given_number c.requires.ready c.requires.at_in_bounds says in
    record {
      said = Ok (Some c.in-Some.literal);
      says = says;
      does = (
        refl,
        c.push.ensures.end,
        c.put.ensures ∙ ap (add c.args.values.now) number,
        c.push.ensures.literals ∙ ap (set c.args.queue.now.literals c.args.queue.now.end) number,
      );
    }
