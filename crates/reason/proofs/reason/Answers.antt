-- `reason::reason`: the reason of the atom that is asked for, by what the two walks say of it.
use mathlib.Core.Path.{◌≡◌, refl, subst}
use mathlib.Core.Bool.{Bool, true, false}
use mathlib.Core.List.{List, Memᴰ}
use Prim.Native.Nat.{ℕ, ◌<◌}
use native.Mathlib.Omega.{arith}
use lib.Dec.{T}
use lib.IntN.{ℤ}
use lib.ListN.{length, get_or, replicate}
use borrow.Author.Rules.{rules}
use Rattle.std.specs.Prelude.{Result, Ok}
use Rattle.std.specs.Result.{result_map_both}
use Rattle.plan.specs.Meaning.{Edge, Atom, PlanFile, on, off}
use Rattle.plan.specs.Ranged.{max_nodes, EndsFit}
use Rattle.plan.specs.Search.{Assigned}
use Rattle.plan.specs.Tables.{edges_of, atoms_of, atom_of}
use Rattle.plan.specs.Reason.{HoldsBy, FailsBy}
use Rattle.plan.specs.declared.State.TheVariants as state
use Rattle.plan.specs.declared.refusal.Short.{Short}
use Rattle.plan.specs.declared.tables.Tables.{Tables}
use Rattle.plan.proofs.ByPlace.{blank_atom, atoms_at, atom_listed}
use Rattle.walk.specs.declared.distances.Distances.{Distances}
use Rattle.walk.specs.Walking.{Placed, Settling, SettledBy, reached_in, distance_in}
use Rattle.walk.proofs.Lending.{lent_inside, lent_placed, edges_few, atom_from, atom_to}
use Rattle.walk.proofs.Truths.{reached_distance, distance_reached}
use Rattle.reason.specs.Answers.{AnswerIs, with_edges}
use Rattle.reason.specs.Marks.{Fits, PathMarked, MarksCut, clause_of}
use Rattle.reason.specs.declared.Answer.{Answer}
use Rattle.reason.specs.declared.Answer.TheVariants.{Holds, Fails, Open}
use Rattle.reason.proofs.Answering.{holds_by, fails_by, answer_holds, answer_fails}
use Rattle.reason.proofs.Cuts.{bare}
use Rattle.reason.proofs.reason.Goals as goal

-- what is asked
module _ (t : Tables) (a : List ℤ) (assigned : Assigned t.plan.variables a) where
  fits : Fits (edges_of t.edges.now) a
  fits = record {
    inside = lent_inside t.lent;
    placed = lent_placed t.lent _ assigned.long;
    long = λ e m. (t.lent.ranged.long e m).low;
    edges = edges_few t.lent;
    few = omega (arith, assigned.long, t.lent.ranged.variables);
  }

  ends : (number : ℕ) → number < length t.atoms.now → let A = get_or t.atoms.now number blank_atom in EndsFit max_nodes (length a) A.from A.to A.variable
  ends number n =
      let m : Memᴰ (atom_of (get_or t.atoms.now number blank_atom)) (atoms_of t.atoms.now) = rw (atoms_at t.atoms.now number) (atom_listed t.atoms.now number n) in
      let f = t.lent.ranged.atom _ m in
      record { from_in = atom_from t.lent _ m; to_in = atom_to t.lent _ m; low = f.low; high = omega (arith, f.high, assigned.long) }

-- what the two walks say of the atom: the marks of the path, or of the cut, give the reason
module _ (es : List Edge) (a : List ℤ) (A : Atom) (placed : Placed es (length a)) (u o : Distances) (holding : Settling es a A true u) (failing : Settling es a A false o) where
  reached : SettledBy A u o state.Holds → T (reached_in u A.to)
  reached by = let t = by (with_edges es bare) a holding failing in distance_reached holding A.to t.0 t.1

  holds : SettledBy A u o state.Holds → (m : List Bool) → PathMarked es a A A.to (distance_in u A.to) (replicate 512 false) m → (φ : PlanFile)
      → HoldsBy (with_edges es φ) a A (clause_of (on A.variable) false m (length a))
  holds by m path φ =
      holds_by (with_edges es φ) a A (length a) m placed 512 (distance_in u A.to) (by (with_edges es φ) a holding failing) (reached_distance holding A.to (reached by)) path

  fails : SettledBy A u o state.Fails → (m : List Bool) → MarksCut es a A m → (φ : PlanFile) → FailsBy (with_edges es φ) a A (clause_of (off A.variable) true m (length a))
  fails by m cut φ = fails_by (with_edges es φ) a A (length a) m placed (by (with_edges es φ) a holding failing) (cut φ)

-- what is answered for that atom
answers : (φ : PlanFile) (a : List ℤ) {A B : Atom} → A ≡ B → (x : Result Answer Short) (old new : List ℤ) → AnswerIs φ a A x old new → AnswerIs φ a B x old new
answers φ a e x old new h = subst (λ C. AnswerIs φ a C x old new) e h

pub invariant_of-question : goal.invariant_of-question
invariant_of-question c =
    let t = c.args.tables.now in
    let a = c.args.assignment.now in
    record { fits = fits t a c.requires.assigned; ends = ends t a c.requires.assigned c.args.number c.requires.inside }

pub marks-requires : goal.marks-requires
marks-requires c =
    let t = c.args.tables.now in
    let A = atom_of (get_or t.atoms.now c.args.number blank_atom) in
    reached (edges_of t.edges.now) c.args.assignment.now A (lent_placed t.lent _ c.requires.assigned.long) _ _ c.distances-holding.ensures c.distances-failing.ensures c.in-Holds.ensures

pub returns-in-Holds : goal.returns-in-Holds
returns-in-Holds c =
    let t = c.args.tables.now in
    let a = c.args.assignment.now in
    let A = atom_of (get_or t.atoms.now c.args.number blank_atom) in
    let answer : c.map.result ≡ result_map_both Holds (λ (s : Short). s) c.write.result = search rules in
    let reason = holds (edges_of t.edges.now) a A (lent_placed t.lent _ c.requires.assigned.long) _ _ c.distances-holding.ensures c.distances-failing.ensures c.in-Holds.ensures _ c.marks.ensures in
    rw answer
    (λ φ. answers (with_edges (edges_of t.edges.now) φ) a (atoms_at t.atoms.now c.args.number) (result_map_both Holds (λ s. s) c.write.result) c.args.out.now c.write.new.out
    (answer_holds (with_edges (edges_of t.edges.now) φ) a A _ _ _ c.write.result (reason φ) c.write.ensures))

pub returns-in-Fails : goal.returns-in-Fails
returns-in-Fails c =
    let t = c.args.tables.now in
    let a = c.args.assignment.now in
    let A = atom_of (get_or t.atoms.now c.args.number blank_atom) in
    let answer : c.map-in-Fails.result ≡ result_map_both Fails (λ (s : Short). s) c.write-in-Fails.result = search rules in
    let reason = fails (edges_of t.edges.now) a A (lent_placed t.lent _ c.requires.assigned.long) _ _ c.distances-holding.ensures c.distances-failing.ensures c.in-Fails.ensures _ c.marks-in-Fails.ensures in
    rw answer
    (λ φ. answers (with_edges (edges_of t.edges.now) φ) a (atoms_at t.atoms.now c.args.number) (result_map_both Fails (λ s. s) c.write-in-Fails.result) c.args.out.now c.write-in-Fails.new.out
    (answer_fails (with_edges (edges_of t.edges.now) φ) a A _ _ _ c.write-in-Fails.result (reason φ) c.write-in-Fails.ensures))

pub returns-in-Open : goal.returns-in-Open
returns-in-Open c =
    let t = c.args.tables.now in
    λ φ. answers (with_edges (edges_of t.edges.now) φ) c.args.assignment.now (atoms_at t.atoms.now c.args.number) (Ok Open) c.args.out.now c.args.out.now
    (c.in-Open.ensures (with_edges (edges_of t.edges.now) φ) c.args.assignment.now c.distances-holding.ensures c.distances-failing.ensures, refl)
