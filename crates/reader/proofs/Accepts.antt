-- An accepted plan is in range.
-- Assumes nothing.
use Rattle.reader.proofs.Kit.{◌≡◌, refl, sym, ap, ◌∙◌, subst, ⊎_elim, true, false, ◌&&◌, ◌||◌, or-true, false≢true, List, [], ◌∷◌, ◌++◌, List-as-Memᴰ, List·Memᴰ·not-nil, List·Memᴰ·cases-cons, List·Memᴰ·append-cases, List·Memᴰ·eq-of-singleton, ℕ, zero, suc, ◌+◌, ◌/◌, ◌<◌, ◌≤◌, arith, eq-eqb, ltb-true, leb-true, eqb-true, ltb, leb, eqb, ℤ, nat_abs, length}
use Rattle.plan.specs.Meaning.{Edge, Atom, PlanFile, number_of_kind, kind_of}
use Rattle.plan.specs.declared.Kind.{Kind}
use Rattle.plan.specs.declared.Kind.TheVariants.{Reaches, Within, LengthAtMost}
use Rattle.reader.specs.Format.{Step, refuse, next, done, Reading, refused, accepted, onward, word, len_at, head_ok, ends_ok, length_ok, edge_ok, bound_ok, kind_ok, atom_ok, literal_ok, literals_ok, serves, edge_uses, atom_uses, edge_in, kind_in, atom_in, clause_in, add_edge, add_atom, add_clause, empty_plan, step_at, head_at, records, read_plan}
use Rattle.plan.specs.Ranged.{max_length, max_bound, max_length_bound, literals, EndsFit, LengthFits, LiteralFits, LiteralsFit, BoundFits, Ranged}
use Rattle.reader.proofs.Cases.{both, head_by, step_by, edge_by, atom_by, clause_by}
use Rattle.plan.proofs.ClauseTable.{count_clause}
use Rattle.reader.proofs.Rows.{length_snoc, literals_length}

-- the tests, taken apart
ends_fit : (n v from to variable : ℕ) → ends_ok n v from to variable ≡ true → EndsFit n v from to variable
unfolding ends_ok
ends_fit n v from to variable h =
    let a = both (ltb from n && ltb to n) (leb 1 variable && leb variable v) h in
    let b = both (ltb from n) (ltb to n) a.0 in
    let d = both (leb 1 variable) (leb variable v) a.1 in
    record { from_in = ltb-true from n b.0; to_in = ltb-true to n b.1; low = leb-true 1 variable d.0; high = leb-true variable v d.1 }

length_fits : (l : ℕ) → length_ok l ≡ true → LengthFits l
unfolding length_ok
length_fits l h = let d = both (leb 1 l) (leb l max_length) h in record { low = leb-true 1 l d.0; high = leb-true l max_length d.1 }

bound_fits : (kind : Kind) (b : ℕ) → bound_ok kind b ≡ true → BoundFits kind b
bound_fits Reaches b h = eqb-true b 0 h
bound_fits Within b h = leb-true b max_bound h
bound_fits LengthAtMost b h = leb-true b max_length_bound h

kind_fits : (k b : ℕ) → kind_ok k b ≡ true → BoundFits (kind_of k) b
unfolding kind_ok
kind_fits k b h = bound_fits (kind_of k) b (both (eqb (number_of_kind (kind_of k)) k) (bound_ok (kind_of k) b) h).1

literal_fits : (v : ℕ) (l : ℤ) → literal_ok v l ≡ true → LiteralFits v l
unfolding literal_ok
literal_fits v l h = let d = both (leb 1 (nat_abs l)) (leb (nat_abs l) v) h in record { low = leb-true 1 (nat_abs l) d.0; high = leb-true (nat_abs l) v d.1 }

literals_fit : (v : ℕ) (c : List ℤ) → literals_ok v c ≡ true → LiteralsFit v c
unfolding literals_ok
literals_fit v [] h l m = absurd (List·Memᴰ·not-nil m)
literals_fit v (x ∷ c) h l m =
    let d = both (literal_ok v x) (literals_ok v c) h in
    ⊎_elim (λ (e : l ≡ x). literal_fits v l (ap (literal_ok v) e ∙ d.0)) (λ (n : List-as-Memᴰ l c). literals_fit v c d.1 l n) (List·Memᴰ·cases-cons m)

-- a member's variable is found
served : {A : Type 0} (variable : A → ℕ) (xs : List A) (x : A) → List-as-Memᴰ x xs → serves variable xs (variable x) ≡ true
unfolding serves
served variable [] x m = absurd (List·Memᴰ·not-nil m)
served variable (y ∷ xs) x m =
    ⊎_elim (λ (e : x ≡ y). ap (λ b. b || serves variable xs (variable x)) (eq-eqb _ _ (ap variable (sym e))))
    (λ (n : List-as-Memᴰ x xs). ap (λ b. eqb (variable y) (variable x) || b) (served variable xs x n) ∙ or-true (eqb (variable y) (variable x)))
    (List·Memᴰ·cases-cons m)

unserved : {A : Type 0} (variable : A → ℕ) (xs : List A) (v : ℕ) → serves variable xs v ≡ false → (x : A) → List-as-Memᴰ x xs → variable x ≡ v → ⊥
unserved variable xs v h x m e = false≢true (sym h ∙ ap (serves variable xs) (sym e) ∙ served variable xs x m)

-- a fact of the members, with one more at the end
snoc : {A : Type 0} (P : A → Type 0) (xs : List A) (x : A) → ((a : A) → List-as-Memᴰ a xs → P a) → P x → (a : A) → List-as-Memᴰ a (xs ++ (x ∷ [])) → P a
snoc P xs x all one a m = ⊎_elim (λ n. all a n) (λ n. subst P (sym (List·Memᴰ·eq-of-singleton n)) one) (List·Memᴰ·append-cases xs m)

module _ (p : PlanFile) (r : Ranged p) where
  with_edge : (e : Edge) → edge_ok p.nodes p.variables e ≡ true → length p.edges < 256
      → atom_uses p.atoms e.variable ≡ false → Ranged (add_edge p e)
  with_edge e ok room free =
      let d = both (ends_ok p.nodes p.variables e.from e.to e.variable) (length_ok e.length) ok in
      record {
        node = r.node;
        nodes = r.nodes;
        variable = r.variable;
        variables = r.variables;
        edges = omega (arith, length_snoc p.edges e);
        atoms = r.atoms;
        clauses = r.clauses;
        literals = r.literals;
        edge = snoc (λ (x : Edge). EndsFit p.nodes p.variables x.from x.to x.variable) p.edges e r.edge (ends_fit _ _ _ _ _ d.0);
        long = snoc (λ (x : Edge). LengthFits x.length) p.edges e r.long (length_fits e.length d.1);
        atom = r.atom;
        bound = r.bound;
        literal = r.literal;
        apart = snoc (λ (x : Edge). (a : Atom) → List-as-Memᴰ a p.atoms → x.variable ≡ a.variable → ⊥) p.edges e r.apart
            (λ a m q. unserved _ p.atoms e.variable free a m (sym q));
      }

  with_atom : (k : ℕ) (a : Atom) → a.kind ≡ kind_of k → atom_ok p.nodes p.variables k a ≡ true
      → length p.atoms < 64 → edge_uses p.edges a.variable ≡ false → Ranged (add_atom p a)
  with_atom k a is ok room free =
      let d = both (kind_ok k a.bound) (ends_ok p.nodes p.variables a.from a.to a.variable) ok in
      record {
        node = r.node;
        nodes = r.nodes;
        variable = r.variable;
        variables = r.variables;
        edges = r.edges;
        atoms = omega (arith, length_snoc p.atoms a);
        clauses = r.clauses;
        literals = r.literals;
        edge = r.edge;
        long = r.long;
        atom = snoc (λ (x : Atom). EndsFit p.nodes p.variables x.from x.to x.variable) p.atoms a r.atom (ends_fit _ _ _ _ _ d.1);
        bound = snoc (λ (x : Atom). BoundFits x.kind x.bound) p.atoms a r.bound (rw is (kind_fits k a.bound d.0));
        literal = r.literal;
        apart = λ e m. snoc (λ (x : Atom). e.variable ≡ x.variable → ⊥) p.atoms a (r.apart e m) (unserved _ p.edges a.variable free e m);
      }

  with_clause : (c : List ℤ) → literals_ok p.variables c ≡ true → length p.clauses < 1024
      → literals p.clauses + length c ≤ 4096 → Ranged (add_clause p c)
  with_clause c ok room most = record {
    node = r.node;
    nodes = r.nodes;
    variable = r.variable;
    variables = r.variables;
    edges = r.edges;
    atoms = r.atoms;
    clauses = omega (arith, length_snoc p.clauses c);
    literals = omega (arith, count_clause p.clauses c);
    edge = r.edge;
    long = r.long;
    atom = r.atom;
    bound = r.bound;
    literal = snoc (LiteralsFit p.variables) p.clauses c r.literal (literals_fit p.variables c ok);
    apart = r.apart;
  }

-- what a step, a reading, leads to is in range
abbrev pub Good : Step → Type 0
Good (refuse n v) = Unit
Good (next b p) = Ranged p
Good (done p) = Ranged p

pub Fine : Reading → Type 0
Fine (refused n v) = Unit
Fine (accepted p) = Ranged p

pub step_good : (f : List ℕ) (at : ℕ) (p : PlanFile) → Ranged p → Good (step_at f at p)
step_good f at p r =
    let n = literals_length f (at + 3) (len_at f at / 2) in
    step_by Good (λ n v. tt) f at p
    (λ long h. edge_by Good (λ n v. tt) f at p long (λ l. with_edge p r (edge_in long f at)))
    (λ h. atom_by Good (λ n v. tt) f at p (λ l. with_atom p r (kind_in f at) (atom_in f at) refl))
    (λ h. clause_by Good (λ n v. tt) f at p (λ l ok room most.
    with_clause p r (clause_in f at) ok room (subst (λ (k : ℕ). literals p.clauses + k ≤ 4096) (sym n) most)))
    (λ e. r)

on_good : (g : ℕ → PlanFile → Reading) → ((b : ℕ) (p : PlanFile) → Ranged p → Fine (g b p)) → (s : Step) → Good s → Fine (onward g s)
unfolding Fine
on_good g h (refuse n v) w = tt
on_good g h (next b p) w = h b p w
on_good g h (done p) w = w

records_fine : (k : ℕ) (f : List ℕ) (at : ℕ) (p : PlanFile) → Ranged p → Fine (records k f at p)
unfolding Fine records
records_fine zero f at p r = tt
records_fine (suc k) f at p r = on_good (records k f) (λ b q w. records_fine k f b q w) (step_at f at p) (step_good f at p r)

empty_ranged : (n v : ℕ) → head_ok n v ≡ true → Ranged (empty_plan n v)
unfolding head_ok literals
empty_ranged n v h =
    let a = both (leb 1 n && leb n 64 && leb 1 v) (leb v 512) h in
    let b = both (leb 1 n && leb n 64) (leb 1 v) a.0 in
    let d = both (leb 1 n) (leb n 64) b.0 in
    record {
      node = leb-true 1 n d.0;
      nodes = leb-true n 64 d.1;
      variable = leb-true 1 v b.1;
      variables = leb-true v 512 a.1;
      edges = omega arith;
      atoms = omega arith;
      clauses = omega arith;
      literals = omega arith;
      edge = λ e m. absurd (List·Memᴰ·not-nil m);
      long = λ e m. absurd (List·Memᴰ·not-nil m);
      atom = λ e m. absurd (List·Memᴰ·not-nil m);
      bound = λ e m. absurd (List·Memᴰ·not-nil m);
      literal = λ e m. absurd (List·Memᴰ·not-nil m);
      apart = λ e m. absurd (List·Memᴰ·not-nil m);
    }

pub head_good : (f : List ℕ) → Good (head_at f)
head_good f = head_by Good (λ n v. tt) f (λ l w h. empty_ranged (word f 3) (word f 5) h)

pub read_fine : (f : List ℕ) → Fine (read_plan f)
unfolding read_plan
read_fine f = on_good (records (length f) f) (λ b q w. records_fine (length f) f b q w) (head_at f) (head_good f)

-- an accepted plan is in range
pub read_ranged : (f : List ℕ) (p : PlanFile) → read_plan f ≡ accepted p → Ranged p
unfolding Fine
read_ranged f p e = subst Fine e (read_fine f)
