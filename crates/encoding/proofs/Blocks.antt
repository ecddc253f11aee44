-- All blocks: which values satisfy them.
-- Assumes nothing.
use mathlib.Core.Path.{◌≡◌, refl, sym, ◌∙◌, ap, subst}
use mathlib.Core.List.Memᴰ
use mathlib.Core.List.{List, [], ◌∷◌, Memᴰ}
use mathlib.Core.Bool.{Bool, false, cond}
use mathlib.Core.Logic.{◌↔◌, ◌⊎◌, inl, inr}
use Prim.Native.Nat.{ℕ, suc, ◌+◌, ◌-◌, ◌≤◌, ◌<◌}
use native.Mathlib.Omega.{arith}
use lib.Dec.{T, leb, le→leb, leb→le}
use lib.ListN.{length}
use Rattle.plan.specs.Meaning.{Edge, Atom, Graph, edge}
use Rattle.plan.specs.Ranged.{EndsFit}
use Rattle.plan.specs.Written.{levels, block_variables, atom_block, after, blocks, last}
use Rattle.plan.proofs.Lists.{le_or_lt}
use Rattle.encoding.proofs.Block.{Values, satisfied, split, block_says}
use Rattle.encoding.proofs.Forced.{cond_true, cond_false, at, value_at, says_iff}

pub last_ge : (n : ℕ) (es : List Edge) (base : ℕ) (As : List Atom) → base ≤ last n es base As
unfolding last
last_ge n es base [] = omega arith
last_ge n es base (A ∷ As) = omega (arith, last_ge n es (after n es base A) As)

module _ (n : ℕ) (es : List Edge) (f : Graph) where
  -- the value that variable v has to have in the blocks behind base
  unfoldable pub value_of : ℕ → List Atom → ℕ → Bool
  value_of base [] v = false
  value_of base (A ∷ As) v = cond (leb v (after n es base A)) (value_at n es f A.from (v - suc base)) (value_of (after n es base A) As v)

  module _ (ν : Values) where
    -- the blocks' variables have their values
    abbrev pub Fixed : ℕ → List Atom → Type 0
    Fixed base As = (v : ℕ) → base < v → v ≤ last n es base As → ν v ≡ value_of base As v

    -- the atom's variable has the value of its last level
    abbrev pub RightAt : Atom → Type 0
    RightAt A = ν A.variable ≡ at n es f A.from (levels n A) A.to

    -- the first block's variables, and the others'
    abbrev Own : ℕ → Atom → Type 0
    Own base A = (j : ℕ) → j < block_variables n (length es) (levels n A) → ν (suc (base + j)) ≡ value_at n es f A.from j

    fixed_iff : (base : ℕ) (A : Atom) (As : List Atom) → Fixed base (A ∷ As) ↔ (Own base A × Fixed (after n es base A) As)
    unfolding value_of last
    fixed_iff base A As = (
      λ h. (
        λ j l.
            let v = suc (base + j) in
            let e : v - suc base ≡ j = omega arith in
            h v (omega arith) (omega (arith, last_ge n es (after n es base A) As))
            ∙ cond_true (leb v (after n es base A)) _ _ (le→leb v (after n es base A) (omega arith)) ∙ ap (value_at n es f A.from) e,
        λ v l k. h v (omega arith) k ∙ there v l,
      ),
      λ h v l k. here_or_there h.0 h.1 v l k (le_or_lt v (after n es base A)),
    )
      where
        there : (v : ℕ) → after n es base A < v → cond (leb v (after n es base A)) (value_at n es f A.from (v - suc base)) (value_of (after n es base A) As v) ≡ value_of (after n es base A) As v
        there v l = cond_false (leb v (after n es base A)) _ _ (λ t. let z = leb→le v (after n es base A) t in omega arith)

        here_or_there : Own base A → Fixed (after n es base A) As → (v : ℕ) → base < v → v ≤ last n es (after n es base A) As
            → (v ≤ after n es base A) ⊎ (after n es base A < v)
            → ν v ≡ cond (leb v (after n es base A)) (value_at n es f A.from (v - suc base)) (value_of (after n es base A) As v)
        here_or_there own rest v l k (inl b) =
            let e : suc (base + (v - suc base)) ≡ v = omega arith in
            ap ν (sym e) ∙ own (v - suc base) (omega arith) ∙ sym (cond_true (leb v (after n es base A)) _ _ (le→leb v (after n es base A) b))
        here_or_there own rest v l k (inr b) = rest v b k ∙ sym (there v b)

    module _ (variables : ℕ) (node : 0 < n) (fits : (k : ℕ) → k < length es → EndsFit n variables (edge es k).from (edge es k).to (edge es k).variable)
        (graph : (k : ℕ) → k < length es → ν (edge es k).variable ≡ f (edge es k)) where
      abbrev Fit : Atom → Type 0
      Fit A = EndsFit n variables A.from A.to A.variable

      atom_iff : (base : ℕ) (A : Atom) → Fit A → T (satisfied ν (atom_block n es base A)) ↔ (Own base A × RightAt A)
      unfolding atom_block
      atom_iff base A a =
          let p = block_says n es base ν (λ k l. (fits k l).low) (levels n A) A.from A.to A.variable a.low in
          let q = says_iff n es base (levels n A) A.from A.to A.variable f ν graph node (λ k l. (fits k l).from_in) a.to_in in
          ((λ h. q.0 (p.0 h)), (λ h. p.1 (q.1 h)))

      pub blocks_iff : (base : ℕ) (As : List Atom) → ((A : Atom) → Memᴰ A As → Fit A)
          → T (satisfied ν (blocks n es base As)) ↔ (Fixed base As × ((A : Atom) → Memᴰ A As → RightAt A))
      unfolding blocks last
      blocks_iff base [] all = ((λ h. ((λ v l k. let z : ⊥ = omega arith in absurd z), (λ A m. absurd (Memᴰ.not-nil m)))), (λ h. tt))
      blocks_iff base (A ∷ As) all = go (blocks_iff (after n es base A) As (λ B m. all B (Memᴰ.tail m)))
        where
          own : T (satisfied ν (atom_block n es base A)) ↔ (Own base A × RightAt A)
          own = atom_iff base A (all A (Memᴰ.head refl))

          go : T (satisfied ν (blocks n es (after n es base A) As)) ↔ (Fixed (after n es base A) As × ((B : Atom) → Memᴰ B As → RightAt B))
              → T (satisfied ν (blocks n es base (A ∷ As))) ↔ (Fixed base (A ∷ As) × ((B : Atom) → Memᴰ B (A ∷ As) → RightAt B))
          go rest = (
            λ h.
                let p = (split ν (atom_block n es base A) (blocks n es (after n es base A) As)).0 h in
                let q = own.0 p.0 in
                let r = rest.0 p.1 in
                ((fixed_iff base A As).1 (q.0, r.0), λ B m. elim (Memᴰ.cases_cons m) [ inl e ↦ subst RightAt (sym e) q.1 | inr k ↦ r.1 B k ]),
            λ h.
                let p = (fixed_iff base A As).0 h.0 in
                (split ν (atom_block n es base A) (blocks n es (after n es base A) As)).1
                (own.1 (p.0, h.1 A (Memᴰ.head refl)), rest.1 (p.1, λ B m. h.1 B (Memᴰ.tail m))),
          )
