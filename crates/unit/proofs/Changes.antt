-- The literals that an assignment has and a former one has not, in the queue.
-- Assumes nothing.
use mathlib.Core.Path.{◌≡◌, refl, sym, subst, ◌∙◌, ap}
use mathlib.Core.Logic.{◌⊎◌, inl, inr, ◌≢◌}
use mathlib.Core.Bool.{Bool, true, false}
use mathlib.Core.List.{List, ◌∷◌}
use Prim.Native.Nat.{ℕ, zero, suc, ◌+◌, ◌≤◌, ◌<◌}
use native.Mathlib.Decide.{ℕ_discrete}
use native.Mathlib.Numerals.{add-one}
use native.Mathlib.Omega.{arith}
use lib.ListN.{length, get_or, set, drop, length-set, get_or-eq_default}
use lib.Seq.{drop-cons, drop-length, get_or-set_same, get_or-set_other}
use lib.IntN.{ℤ, pos, negsuc}
use lib.Signed.{lt_z}
use lib.Dec.{T}
use Rattle.plan.specs.Meaning.{on, off, is_on, is_off, value, true_in, literal_of}
use Rattle.plan.specs.Ranged.{max_variables, LiteralFits}
use Rattle.plan.specs.Search.{opens}
use Rattle.plan.proofs.Add.{IsValue, on_one, off_one}
use Rattle.plan.proofs.Signs.{nat_abs_neg}
use Rattle.plan.proofs.Lists.{le_or_lt}
use Rattle.unit.specs.Queue.{Pending, NoClause, Above, Since, literal_at, Queued}
use Rattle.unit.proofs.Calm.{quiet_or_waits}

literal_fits : (n i : ℕ) (sign : Bool) → i < n → LiteralFits n (literal_of sign (i + 1))
literal_fits n i true h = record { low = omega arith; high = omega arith }
literal_fits n i false h = let e = nat_abs_neg (pos (i + 1)) in record { low = omega arith; high = omega arith }

-- one place more is at most one more that is open, and none where it has a value
opens_more : (x : ℤ) (a : List ℤ) → opens (x ∷ a) ≤ suc (opens a)
unfolding opens
opens_more (pos zero) a = omega arith
opens_more (pos (suc n)) a = omega arith
opens_more (negsuc n) a = omega arith

opens_valued : (x : ℤ) (a : List ℤ) → x ≢ pos 0 → opens (x ∷ a) ≡ opens a
unfolding opens
opens_valued (pos zero) a n = absurd (n refl)
opens_valued (pos (suc k)) a n = refl
opens_valued (negsuc k) a n = refl

opens_end : (a : List ℤ) → opens (drop (length a) a) ≡ 0
unfolding opens
opens_end a = ap opens (drop-length a)

-- where v differs it has a value
module _ (b v : List ℤ) (kept : Above b v) (i : ℕ) (h : i < length v) where
  begins : get_or b i (pos 0) ≡ get_or kept.before i (pos 0)
  begins = kept.begins i (omega (arith, kept.shape.long))

  was_open : IsValue (get_or kept.before i (pos 0)) → get_or v i (pos 0) ≡ pos 0 → get_or kept.before i (pos 0) ≡ pos 0
  unfolding true_in value
  was_open (inl q) z = absurd (subst (λ x. T (is_on x)) z (kept.above (pos (suc i)) (rw q tt)))
  was_open (inr (inl q)) z = absurd (subst (λ x. T (is_off x)) z (kept.above (negsuc i) (rw q tt)))
  was_open (inr (inr q)) z = q

  changed_valued : get_or b i (pos 0) ≢ get_or v i (pos 0) → get_or v i (pos 0) ≢ pos 0
  changed_valued n z = n (begins ∙ was_open (kept.shape.each i h) z ∙ sym z)

-- a literal is in the used part of the queue
abbrev InQueue : List ℤ → ℕ → ℤ → Type 0
InQueue p end l = (k : ℕ) × (k < end) × (get_or p k (pos 0) ≡ l)

-- the changes at the first i places are in the queue
pub record Queueing (b v p : List ℤ) (end i : ℕ) : Type 0 where
  pub inside : i ≤ length v
  pub long : length p ≡ max_variables
  pub short : end ≤ i
  pub room : end + opens v ≤ i + opens (drop i v)
  pub fits : (k : ℕ) → k < end → LiteralFits (length v) (get_or p k (pos 0))
  pub there : (j : ℕ) → j < i → get_or b j (pos 0) ≢ get_or v j (pos 0) → InQueue p end (literal_at j (get_or v j (pos 0)))

module _ (b v p : List ℤ) (end i : ℕ) (r : Queueing b v p end i) (h : i < length v) where
  rest : opens (drop i v) ≡ opens (get_or v i (pos 0) ∷ drop (i + 1) v)
  rest = ap opens (rw add-one (drop-cons v i (pos 0) h))

  pub queueing_same : get_or b i (pos 0) ≡ get_or v i (pos 0) → Queueing b v p end (i + 1)
  queueing_same e =
      let q = opens_more (get_or v i (pos 0)) (drop (i + 1) v) in
      record { inside = omega arith; long = r.long; short = omega (arith, r.short); room = omega (arith, r.room, rest); fits = r.fits; there = λ j l n. go j l n (ℕ_discrete j i) }
    where
      go : (j : ℕ) → j < i + 1 → get_or b j (pos 0) ≢ get_or v j (pos 0) → Dec (j ≡ i) → InQueue p end (literal_at j (get_or v j (pos 0)))
      go j l n (yes q) = absurd (n (rw q e))
      go j l n (no d) = r.there j (omega arith) n

  module _ (small : length v ≤ max_variables) (kept : Above b v) (apart : get_or b i (pos 0) ≢ get_or v i (pos 0)) where
    abbrev put : List ℤ
    put = set p end (literal_at i (get_or v i (pos 0)))

    put_here : get_or put end (pos 0) ≡ literal_at i (get_or v i (pos 0))
    put_here = get_or-set_same p end (literal_at i (get_or v i (pos 0))) (pos 0) (omega (arith, r.long, r.short))

    put_before : (k : ℕ) → k < end → get_or put k (pos 0) ≡ get_or p k (pos 0)
    put_before k l = get_or-set_other p end k (literal_at i (get_or v i (pos 0))) (pos 0) (λ e. omega arith)

    pub queueing_put : Queueing b v put (end + 1) (i + 1)
    queueing_put =
        let q = opens_valued (get_or v i (pos 0)) (drop (i + 1) v) (changed_valued b v kept i h apart) in
        record {
          inside = omega arith;
          long = simp length-set r.long;
          short = omega (arith, r.short);
          room = omega (arith, r.room, rest);
          fits = λ k l. fit k l (ℕ_discrete k end);
          there = λ j l n. go j l n (ℕ_discrete j i);
        }
      where
        fit : (k : ℕ) → k < end + 1 → Dec (k ≡ end) → LiteralFits (length v) (get_or put k (pos 0))
        fit k l (yes e) = rw e (rw put_here (literal_fits (length v) i (lt_z (pos 0) (get_or v i (pos 0))) h))
        fit k l (no d) = let m : k < end = omega arith in rw (put_before k m) (r.fits k m)

        go : (j : ℕ) → j < i + 1 → get_or b j (pos 0) ≢ get_or v j (pos 0) → Dec (j ≡ i) → InQueue put (end + 1) (literal_at j (get_or v j (pos 0)))
        go j l n (yes e) = (end, omega arith, rw e put_here)
        go j l n (no d) = let q = r.there j (omega arith) n in (q.0, omega (arith, q.1), put_before q.0 q.1 ∙ q.2)

pub queueing_ends : (b v p : List ℤ) (end i : ℕ) → Queueing b v p end i → length v ≤ i → length v ≤ max_variables → Queued b v p end
queueing_ends b v p end i r h small =
    let e : i ≡ length v = omega (arith, r.inside) in
    let q : opens (drop i v) ≡ 0 = rw e (opens_end v) in
    record { queue = record { long = r.long; room = omega (arith, r.room); fits = r.fits }; there = λ j l. r.there j (omega arith) }

-- each clause is quiet still, or a literal that waits made one of its literals false
module _ (cs b v p : List ℤ) (end : ℕ) (since : Since cs b v) (r : Queued b v p end) where
  abbrev kept : Above b v
  kept = since.kept

  changed_at : (i : ℕ) (x : ℤ) → x ≢ pos 0 → get_or v i (pos 0) ≡ x → (get_or kept.before i (pos 0) ≡ x → ⊥) → InQueue p end (literal_at i x)
  changed_at i x z e n = go (le_or_lt (length v) i)
    where
      go : (length v ≤ i) ⊎ (i < length v) → InQueue p end (literal_at i x)
      go (inl h) = absurd (z (sym e ∙ get_or-eq_default v (pos 0) h))
      go (inr h) = subst (λ y. InQueue p end (literal_at i y)) e (r.there i h (λ q. n (sym (begins b v kept i h) ∙ q ∙ e)))

  changed_in : (l : ℤ) → T (true_in v l) → (T (true_in kept.before l) → ⊥) → InQueue p end l
  unfolding true_in value
  changed_in (pos zero) t n = absurd t
  changed_in (pos (suc i)) t n = subst (λ k. InQueue p end (on k)) (add-one i) (changed_at i (pos 1) (λ e. subst (λ x. T (is_on x)) e tt) (on_one _ t) (λ e. n (rw e tt)))
  changed_in (negsuc i) t n = subst (λ k. InQueue p end (off k)) (add-one i) (changed_at i (negsuc 0) (λ e. subst (λ x. T (is_off x)) e tt) (off_one _ t) (λ e. n (rw e tt)))

  pub changes_wait : Pending cs NoClause v p 0 end
  changes_wait = record {
    queue = r.queue;
    calm = λ C m. inr (quiet_or_waits kept.before v p 0 end kept.above (λ l t n. let w = changed_in l t n in (w.0, omega arith, w.1, w.2)) C (since.quiet C m));
  }
