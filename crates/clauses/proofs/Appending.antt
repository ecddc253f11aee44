-- Laws of a writer of numbers: one store, one row behind another, and a loop that appends a row at each turn.
-- Assumes nothing.
use mathlib.Core.Path.{◌≡◌, refl, sym, ◌∙◌, subst}
use mathlib.Core.List.{List, [], ◌∷◌, ◌++◌}
use Prim.Native.Nat.{ℕ, ◌+◌, ◌≤◌, ◌<◌}
use native.Mathlib.Omega.{arith}
use lib.IntN.{ℤ}
use lib.ListN.{length, get_or, set}
use borrow.Rule.Slice.Mut.{set_vals}
use Rattle.plan.specs.Front.{Put}
use Rattle.plan.specs.Written.{each}
use Rattle.plan.specs.Meaning.{Edge, edge}
use Rattle.plan.specs.Tables.{edge_of, edges_of}
use Rattle.plan.specs.declared.Edge as struct-of-edge
use Rattle.plan.proofs.ByPlace.{blank_edge, edges_length, edges_at}
use Rattle.plan.proofs.Filling.{Filling, filling_start, filling_room, filling_turn, filling_end}
use Rattle.plan.proofs.Fronts.{put_one, put_then, put_length, room_rest}
use Rattle.clauses.specs.Appending.{RoomFor, Appends}
use Rattle.clauses.specs.declared.writer.Writer.{Writer}

-- the code's store
pub appends_one : (x : ℤ) (w : Writer) → w.at < length w.out.now → Appends (x ∷ []) w (record { out = set_vals (set w.out.now w.at x) w.out; at = w.at + 1 })
appends_one x w inside = let p = put_one x w.at w.out.now inside in record { put = p; same_length = put_length p; same_reference = refl }

pub appends_as : {ws vs : List ℤ} {old new : Writer} → ws ≡ vs → Appends ws old new → Appends vs old new
appends_as {ws} {vs} {old} {new} e a = subst (λ x. Appends x old new) e a

pub appends_then : {ws vs : List ℤ} {old mid new : Writer} → Appends ws old mid → Appends vs mid new → Appends (ws ++ vs) old new
appends_then a b = record { put = put_then a.put b.put; same_length = b.same_length ∙ a.same_length; same_reference = b.same_reference ∙ a.same_reference }

-- the room of the second of two rows, behind the first
pub room_behind : (ws vs : List ℤ) {old mid : Writer} → RoomFor (ws ++ vs) old → Appends ws old mid → RoomFor vs mid
room_behind ws vs h a = room_rest ws vs h a.put

-- what the writer's table holds at the end of its loan, the table holds that was lent
pub put_ends : {ws : List ℤ} {old new : Writer} {last : List ℤ} → Appends ws old new → last ≡ new.out.now → Put ws old.at old.out.now last new.at
put_ends {ws} {old} {new} {last} a e = subst (λ x. Put ws old.at old.out.now x new.at) (sym e) a.put

-- k of m rows are appended
pub record Appending (g : ℕ → List ℤ) (m : ℕ) (old new : Writer) (k : ℕ) : Type 0 where
  pub filling : Filling g m old.at old.out.now new.out.now new.at k
  pub same_reference : new.out.ghost_name ≡ old.out.ghost_name

pub appending_start : {g : ℕ → List ℤ} {m : ℕ} {w : Writer} → RoomFor (each m g) w → Appending g m w w 0
appending_start h = record { filling = filling_start h; same_reference = refl }

module _ {g : ℕ → List ℤ} {m : ℕ} {old mid : Writer} {k : ℕ} (a : Appending g m old mid k) where
  pub appending_room : k < m → RoomFor (g k) mid
  appending_room l = filling_room a.filling l

  pub appending_turn : k < m → {new : Writer} → Appends (g k) mid new → Appending g m old new (k + 1)
  appending_turn l b = record { filling = filling_turn a.filling l b.put; same_reference = b.same_reference ∙ a.same_reference }

  pub appending_end : m ≤ k → Appends (each m g) old mid
  appending_end l = record { put = filling_end a.filling l; same_length = a.filling.same; same_reference = a.same_reference }

-- a row for each edge of a table
module _ (es : List struct-of-edge.Edge) (g : Edge → ℕ → List ℤ) {old mid : Writer} {k : ℕ} (a : Appending (λ j. g (edge (edges_of es) j) j) (length (edges_of es)) old mid k) where
  pub edges_room : k < length es → RoomFor (g (edge_of (get_or es k blank_edge)) k) mid
  edges_room l = subst (λ e. RoomFor (g e k) mid) (sym (edges_at es k)) (appending_room a (omega (arith, edges_length es)))

  pub edges_turn : k < length es → {new : Writer} → Appends (g (edge_of (get_or es k blank_edge)) k) mid new → Appending (λ j. g (edge (edges_of es) j) j) (length (edges_of es)) old new (k + 1)
  edges_turn l {new} b = appending_turn a (omega (arith, edges_length es)) (subst (λ e. Appends (g e k) mid new) (edges_at es k) b)

  pub edges_end : length es ≤ k → Appends (each (length (edges_of es)) (λ j. g (edge (edges_of es) j) j)) old mid
  edges_end l = appending_end a (omega (arith, edges_length es))
