-- The look at the atoms: what is ready for it, one atom, looks behind one another, and all atoms, those that count hops before those that count lengths.
-- Assumes nothing.
use mathlib.Core.Path.{◌≡◌, refl, sym, subst, ◌∙◌, ap}
use mathlib.Core.Logic.{◌⊎◌, inl, inr, ◌↔◌}
use mathlib.Core.Bool.{Bool, true, false, beq}
use Rattle.std.specs.Prelude.{Result, Ok, Err}
use mathlib.Core.List.{List, Memᴰ}
use Prim.Native.Nat.{ℕ, ◌+◌, ◌≤◌, ◌<◌}
use native.Mathlib.Omega.{arith}
use lib.ListN.{length, get_or}
use lib.IntN.{ℤ}
use lib.Dec.{T}
use Rattle.plan.specs.Meaning.{Atom, PlanFile, ◌⊆◌, no_atom, measure_of, literal_of, true_in, add, atom, graph_of}
use Rattle.plan.specs.Ranged.{Ranged, LiteralFits}
use Rattle.plan.specs.Places.{Without}
use Rattle.plan.specs.Closing.{settling, Settles, Gives, settled}
use Rattle.plan.specs.Search.{Assigned, opens, nothing}
use Rattle.plan.specs.Tables.{edges_of, atoms_of}
use Rattle.plan.specs.declared.Kind.{Kind}
use Rattle.plan.specs.declared.Measure.TheVariants.{Hops}
use Rattle.plan.specs.declared.Side.{Side}
use Rattle.plan.proofs.Add.{add_has, add_shape}
use Rattle.plan.proofs.Bools.{T?}
use Rattle.plan.proofs.Closing.{settles_mono}
use Rattle.plan.proofs.Exists.{step_clash, literal_size, gives_range}
use Rattle.plan.specs.declared.Edge as struct-of-edge
use Rattle.plan.specs.declared.Atom as struct-of-atom
use Rattle.plan.proofs.ByPlace.{blank_atom, atoms_length, atoms_at, atom_listed}
use Rattle.plan.proofs.Lists.{le_or_lt, at_mem}
use Rattle.walk.specs.Walking.{bit, Inside, Neighbours, Walked, Truth, Settling}
use Rattle.walk.proofs.Sets.{bit_empty}
use Rattle.unit.specs.Onward.{Onward}
use Rattle.unit.proofs.Steps.{onward_none, onward_then, onward_fewer, onward_add, fewer_add}
use Rattle.unit.specs.declared.Clash.{Clash}
use Rattle.walk.specs.declared.distances.Distances.{Distances}
use Rattle.closing.specs.Closed.{or, Tells, Looks}
use Rattle.closing.specs.Atoms.{AtomReady, HasTables, Unsaid, In, Outside, Gets, Heard, HeardOf, BothHeard, Told, Looked, LookedBoth, AllLooked}
use Rattle.closing.specs.declared.Step.{Step}
use Rattle.closing.specs.declared.Step.TheVariants.{Set, Still}

-- what is ready
pub literal_fits : (a : List ℤ) (A : Atom) (b : Bool) → AtomReady a A → LiteralFits (length a) (literal_of b A.variable)
literal_fits a A b x =
    let e = literal_size b A.variable in
    record { low = omega (arith, x.fits.low); high = omega (arith, x.fits.high) }

-- the variable, the source and the literal of an atom that is read from the table
pub same_variable : (l : List struct-of-atom.Atom) (k : ℕ) → (get_or l k blank_atom).variable ≡ (atom (atoms_of l) k).variable
same_variable l k = ap (λ (A : Atom). A.variable) (atoms_at l k)

pub same_from : (l : List struct-of-atom.Atom) (k : ℕ) → (get_or l k blank_atom).from ≡ (atom (atoms_of l) k).from
same_from l k = ap (λ (A : Atom). A.from) (atoms_at l k)

pub same_literal : (a : List ℤ) (b : Bool) (l : List struct-of-atom.Atom) (k : ℕ)
    → true_in a (literal_of b (get_or l k blank_atom).variable) ≡ true_in a (literal_of b (atom (atoms_of l) k).variable)
same_literal a b l k = ap (λ (v : ℕ). true_in a (literal_of b v)) (same_variable l k)

has_on : {es : List struct-of-edge.Edge} {bs : List struct-of-atom.Atom} {a w : List ℤ} {φ : PlanFile} → HasTables es bs a φ → Assigned φ.variables w → HasTables es bs w φ
has_on f s = record { ranged = f.ranged; shape = s; edges = f.edges; atoms = f.atoms }

pub listed : {es : List struct-of-edge.Edge} {bs : List struct-of-atom.Atom} {a : List ℤ} {φ : PlanFile} (k : ℕ) → k < length bs → HasTables es bs a φ → Memᴰ (atom (atoms_of bs) k) φ.atoms
listed {bs = bs} k h f = subst (λ As. Memᴰ (atom (atoms_of bs) k) As) (sym f.atoms) (atom_listed bs k h)

-- the code's test is the verdict
pub verdict : (b t : Bool) (φ : PlanFile) (v : List ℤ) (A : Atom) (d : Distances) → Truth A d t → Settling φ.edges v A b d → T (beq t b) ↔ Settles φ (true_in v) A b
verdict true true φ v A d y k = ((λ z. (y φ.edges _ k).0 tt), (λ x. tt))
verdict true false φ v A d y k = ((λ z. absurd z), (λ x. (y φ.edges _ k).1 x))
verdict false true φ v A d y k = ((λ z. absurd z), (λ x. x ((y φ.edges _ k).0 tt)))
verdict false false φ v A d y k = ((λ z x. (y φ.edges _ k).1 x), (λ x. tt))

-- one atom
module _ (φ : PlanFile) (ok : Ranged φ) (A : Atom) (m : Memᴰ A φ.atoms) (b : Bool) (v₀ v w : List ℤ) (s : Assigned φ.variables v) where
  pub looks_silent : (Q : Type 0) → (Q → Settles φ (true_in v₀) A b → ⊥) → Looks φ (Q → Heard φ b v₀ v A) v v (Ok Still)
  looks_silent Q n = record { onward = onward_none φ v s; tells = (refl, λ q x. absurd (n q x)) }

  module _ (sub : true_in v₀ ⊆ true_in v) (x : Settles φ (true_in v₀) A b) where
    abbrev l : ℤ
    l = literal_of b A.variable

    gives : Gives φ (true_in v) l
    gives = settled A m b (settles_mono φ ok (true_in v₀) (true_in v) sub A b x)

    has : T (true_in (add v l) l)
    has = let g = gives_range φ ok (true_in v) l gives in add_has v l g.0 (omega (arith, g.1, s.long))

    abbrev There : List ℤ → Result Step Clash → Type 0
    There z r = Looks φ (Heard φ b v₀ z A) v z r

    pub looks_gets : (r : Result Step Clash) → Gets l v w r → There w r
    looks_gets (Err c) g = subst (λ z. There z (Err c)) (sym g.0) (record { onward = onward_none φ v s; tells = step_clash φ ok (true_in v) l gives g.1 })
    looks_gets (Ok Set) g =
        subst (λ z. There z (Ok Set)) (sym g.0)
        (record { onward = onward_add φ ok v s l gives g.2; tells = (fewer_add φ ok v s l gives g.1 g.2, λ y. has) })
    looks_gets (Ok Still) g = subst (λ z. There z (Ok Still)) (sym g.0) (record { onward = onward_none φ v s; tells = (refl, λ y. g.1) })

pub gets_shape : (n : ℕ) (l : ℤ) (v w : List ℤ) (r : Result Step Clash) → Assigned n v → LiteralFits n l → Gets l v w r → Assigned n w
gets_shape n l v w (Err c) s f g = subst (Assigned n) (sym g.0) s
gets_shape n l v w (Ok Set) s f g = subst (Assigned n) (sym g.0) (add_shape n v l (omega (arith, f.high, s.long)) s)
gets_shape n l v w (Ok Still) s f g = subst (Assigned n) (sym g.0) s

-- an atom is heard further on, and from further back: what is settled at first stays settled
module _ (φ : PlanFile) (b : Bool) (u v w : List ℤ) (A : Atom) where
  heard_on : Onward φ v w → Heard φ b u v A → Heard φ b u w A
  heard_on o h x = o.above _ (h x)

  heard_back : Ranged φ → true_in u ⊆ true_in v → Heard φ b v w A → Heard φ b u w A
  heard_back ok sub h x = h (settles_mono φ ok (true_in u) (true_in v) sub A b x)

-- a step behind one without a clash
abbrev pub behind : Step → Result Step Clash → Result Step Clash
behind a (Err clash) = Err clash
behind a (Ok r) = Ok (or a r)

pub looks_then : (φ : PlanFile) {P Q : Type 0} (R : Type 0) (u v w : List ℤ) → Assigned φ.variables u → (a : Step) (r : Result Step Clash) → Looks φ P u v (Ok a) → Looks φ Q v w r
    → (Onward φ v w → P → Q → R) → Looks φ R u w (behind a r)
looks_then φ {P} {Q} R u v w s a r x y f = record { onward = onward_then φ u v w x.onward y.onward; tells = both a r x.tells y.tells }
  where
    fewer : opens v ≤ opens u
    fewer = onward_fewer φ u v s x.onward

    both : (a : Step) (r : Result Step Clash) → Tells φ P ((v ≡ u) × P) u v (Ok a) → Tells φ Q ((w ≡ v) × Q) v w r → Tells φ R ((w ≡ u) × R) u w (behind a r)
    both a (Err c) p q = x.onward.back nothing q
    both Set (Ok Set) p q = (omega (arith, p.0, q.0), f y.onward p.1 q.1)
    both Set (Ok Still) p q = (omega (arith, p.0, ap opens q.0), f y.onward p.1 q.1)
    both Still (Ok Set) p q = (omega (arith, q.0, fewer), f y.onward p.1 q.1)
    both Still (Ok Still) p q = (q.0 ∙ p.0, f y.onward p.1 q.1)

pub looks_so : (φ : PlanFile) {P Q : Type 0} (v w : List ℤ) (r : Result Step Clash) → (P → Q) → Looks φ P v w r → Looks φ Q v w r
looks_so φ v w (Err c) f x = record { onward = x.onward; tells = x.tells }
looks_so φ v w (Ok Set) f x = record { onward = x.onward; tells = (x.tells.0, f x.tells.1) }
looks_so φ v w (Ok Still) f x = record { onward = x.onward; tells = (x.tells.0, f x.tells.1) }

-- a clash is one, whatever was to be seen to
pub looks_clash : {φ : PlanFile} {P Q : Type 0} {v w : List ℤ} {clash other : Clash} → Looks φ P v w (Err clash) → Looks φ Q v w (Err other)
looks_clash x = record { onward = x.onward; tells = x.tells }

-- the atoms whose numbers have the property Q: those before number `at` are heard
abbrev HeardTo : (ℕ → Type 0) → PlanFile → Bool → List ℤ → List ℤ → ℕ → Type 0
HeardTo Q φ b v₀ v at = (j : ℕ) → j < at → Q j → Heard φ b v₀ v (atom φ.atoms j)

abbrev pub Sweeps : (ℕ → Type 0) → List struct-of-edge.Edge → List struct-of-atom.Atom → Bool → List ℤ → List ℤ → ℕ → Result Step Clash → Type 0
Sweeps Q es bs b v₀ v at r = (φ : PlanFile) → HasTables es bs v₀ φ → Looks φ (HeardTo Q φ b v₀ v at) v₀ v r

stable : (b : Bool) → ((T b → ⊥) → ⊥) → T b
stable true n = tt
stable false n = n (λ t. t)

module _ (Q : ℕ → Type 0) {es : List struct-of-edge.Edge} {bs : List struct-of-atom.Atom} (b : Bool) (v₀ v : List ℤ) where
  -- those that a search for the next passes by are outside Q or have their literals
  passed : (φ : PlanFile) → HasTables es bs v₀ φ → (k at : ℕ) → Without (λ j. Q j × Unsaid bs b v j) k at → (j : ℕ) → k ≤ j → j < at → Q j → Heard φ b v₀ v (atom φ.atoms j)
  passed φ f k at n j p q i x =
      stable (true_in v (literal_of b (atom φ.atoms j).variable)) (λ o. n j p q (i, subst (λ As. T (true_in v (literal_of b (atom As j).variable)) → ⊥) f.atoms o))

  pub sweep_past : (k at : ℕ) (r : Result Step Clash) → Without (λ j. Q j × Unsaid bs b v j) k at → Sweeps Q es bs b v₀ v k r → Sweeps Q es bs b v₀ v at r
  sweep_past k at r n x φ f = looks_so φ v₀ v r (λ h j q. pick h j q (le_or_lt k j)) (x φ f)
    where
      pick : HeardTo Q φ b v₀ v k → (j : ℕ) → j < at → (k ≤ j) ⊎ (j < k) → Q j → Heard φ b v₀ v (atom φ.atoms j)
      pick h j q (inl p) = passed φ f k at n j p q
      pick h j q (inr p) = h j p

  pub sweep_end : (at : ℕ) (r : Result Step Clash) → length bs ≤ at → Sweeps Q es bs b v₀ v at r → Looked Q es bs b v₀ v r
  sweep_end at r h x φ f =
      let e : length φ.atoms ≡ length bs = ap length f.atoms ∙ atoms_length bs in
      looks_so φ v₀ v r (λ g j q. g j (omega arith)) (x φ f)

pub sweep_start : (Q : ℕ → Type 0) {es : List struct-of-edge.Edge} {bs : List struct-of-atom.Atom} (b : Bool) (v : List ℤ) → Sweeps Q es bs b v v 0 (Ok Still)
sweep_start Q b v φ f = record { onward = onward_none φ v f.shape; tells = (refl, λ j h. absurd (omega arith)) }

-- the atom numbered `at`, by distances in the graph that settles the verdict
pub sweep_one : (Q : ℕ → Type 0) {es : List struct-of-edge.Edge} {bs : List struct-of-atom.Atom} (b : Bool) (v₀ v w : List ℤ) (at : ℕ) (d : Distances) (a : Step) (r : Result Step Clash) → at < length bs
    → (Q at → (φ : PlanFile) → HasTables es bs v₀ φ → Settling φ.edges v₀ (atom (atoms_of bs) at) b d)
    → Told (Q at) b (atom (atoms_of bs) at) d v w r → Sweeps Q es bs b v₀ v at (Ok a) → Sweeps Q es bs b v₀ w (at + 1) (behind a r)
sweep_one Q {es} {bs} b v₀ v w at d a r h k t x φ f =
    let y = x φ f in
    looks_then φ (HeardTo Q φ b v₀ w (at + 1)) v₀ v w f.shape a r y
    (t φ f.ranged y.onward.shape (listed at h f) v₀ y.onward.above (λ q. k q φ f))
    (λ o old new j q. pick o old new j q (le_or_lt at j))
  where
    pick : Onward φ v w → HeardTo Q φ b v₀ v at → (Q at → Heard φ b v₀ w (atom (atoms_of bs) at))
        → (j : ℕ) → j < at + 1 → (at ≤ j) ⊎ (j < at) → Q j → Heard φ b v₀ w (atom φ.atoms j)
    pick o old new j q (inl p) i = let e : at ≡ j = omega arith in subst (λ As. Heard φ b v₀ w (atom As j)) (sym f.atoms) (subst (λ n. Q n → Heard φ b v₀ w (atom (atoms_of bs) n)) e new i)
    pick o old new j q (inr p) i = heard_on φ b v₀ v w (atom φ.atoms j) o (old j p i)

-- distances by the neighbours in the graph that settles the verdict, for an atom that counts hops
pub settles_by : {es : List struct-of-edge.Edge} {bs : List struct-of-atom.Atom} (b : Bool) (v : List ℤ) (side : Side) (sets : List ℕ) (A : Atom) (source : ℕ) (d : Distances) → ((kind : Kind) → side ≡ settling kind b) → measure_of A.kind ≡ Hops
    → Inside (edges_of es) → Neighbours (edges_of es) (graph_of side (true_in v)) sets → Walked sets source d → source ≡ A.from → (φ : PlanFile) → HasTables es bs v φ → Settling φ.edges v A b d
settles_by {es} b v side sets A source d e m i n w q φ f = rw (f.edges, ← q, ← e A.kind, m) (w.table (edges_of es) (graph_of side (true_in v)) i n)

-- both verdicts, one behind the other
pub looks_both : (Q : ℕ → Type 0) {es : List struct-of-edge.Edge} {bs : List struct-of-atom.Atom} (u v w : List ℤ) (a : Step) (r : Result Step Clash) → Looked Q es bs true u v (Ok a) → Looked Q es bs false v w r → LookedBoth Q es bs u w (behind a r)
looks_both Q u v w a r x y φ f =
    let p = x φ f in
    looks_then φ ((b : Bool) → HeardOf Q φ b u w) u v w f.shape a r p (y φ (has_on f p.onward.shape)) (λ o h k b. pick p.onward.above o h k b)
  where
    pick : true_in u ⊆ true_in v → Onward φ v w → HeardOf Q φ true u v → HeardOf Q φ false v w → (b : Bool) → HeardOf Q φ b u w
    pick sub o h k true j l i = heard_on φ true u v w (atom φ.atoms j) o (h j l i)
    pick sub o h k false j l i = heard_back φ false u v w (atom φ.atoms j) f.ranged sub (k j l i)

-- those outside a set and those of the set are all
all_heard : (set : ℕ) (φ : PlanFile) (v w : List ℤ) → ((b : Bool) → HeardOf (Outside set) φ b v w) → ((b : Bool) → HeardOf (In set) φ b v w) → BothHeard φ v w
all_heard set φ v w h k b A m =
    let q = at_mem φ.atoms no_atom A m in
    subst (λ B. Heard φ b v w B) (sym q.2) (pick q.0 q.1 (T? (bit q.0 set)))
  where
    pick : (j : ℕ) → j < length φ.atoms → In set j ⊎ Outside set j → Heard φ b v w (atom φ.atoms j)
    pick j l (inl i) = k b j l i
    pick j l (inr o) = h b j l o

pub looks_all : (set : ℕ) {es : List struct-of-edge.Edge} {bs : List struct-of-atom.Atom} (u v w : List ℤ) (a : Step) (r : Result Step Clash) → LookedBoth (Outside set) es bs u v (Ok a) → LookedBoth (In set) es bs v w r → AllLooked es bs u w (behind a r)
looks_all set u v w a r x y φ f =
    let p = x φ f in
    looks_then φ (BothHeard φ u w) u v w f.shape a r p (y φ (has_on f p.onward.shape))
    (λ o h k. all_heard set φ u w (λ b j l i. heard_on φ b u v w (atom φ.atoms j) o (h b j l i)) (λ b j l i. heard_back φ b u v w (atom φ.atoms j) f.ranged p.onward.above (k b j l i)))

-- a set that has none
pub looks_none : (set : ℕ) {es : List struct-of-edge.Edge} {bs : List struct-of-atom.Atom} (u w : List ℤ) (r : Result Step Clash) → set ≡ 0 → LookedBoth (Outside set) es bs u w r → AllLooked es bs u w r
looks_none set u w r e x φ f = looks_so φ u w r (λ h. all_heard set φ u w h (λ b j l i. absurd (bit_empty j (subst (λ (y : ℕ). T (bit j y)) e i)))) (x φ f)
