-- Laws of a set of nodes as the binary digits of one number: the code's shifts and bit operations, and how many nodes a set has.
-- Assumes nothing.
use mathlib.Core.Path.{◌≡◌, refl, sym, ap, ◌∙◌, subst}
use mathlib.Core.Logic.{◌≢◌, ◌↔◌, ◌⊎◌, inl, inr, ⊎_elim}
use mathlib.Core.Bool.{not, ◌&&◌, ◌||◌}
use Prim.Native.Nat.{ℕ, zero, suc, ◌+◌, ◌*◌, ◌-◌, ◌/◌, ◌%◌, ◌^◌, ◌<◌, ◌≤◌, min, max}
use native.Mathlib.Nat.{pow-suc, div-div-eq-div-mul, zero-min, min-zero}
use native.Mathlib.Decide.{ℕ_discrete}
use native.Mathlib.Omega.{arith}
use borrow.Author.Tests.{eq-eqb, ne_eqb}
use lib.Bits.{bit_and, bit_or, and_step, and_self, and_le_r, or_step, or_disjoint}
use lib.Count.{count_trailing_zeros, under}
use lib.ListN.{get_or, replicate}
use lib.Dec.{T, eqb, eqb→eq, T_not, not_T}
use lib.Pow.{pow_pos, pow-lt}
use Rattle.plan.proofs.Bools.{T_same, or_cases, or_left, or_right, and_both, and_left, and_right}
use Rattle.walk.specs.Walking.{bit}
use Rattle.walk.specs.Front.{size_in}
use Rattle.walk.specs.Members.{Lowest}

twice : (i : ℕ) → 2 ^ suc i ≡ 2 * 2 ^ i
twice i = pow-suc 2 i ∙ omega arith

odd : (x : ℕ) → T (eqb (x % 2) 1) → x % 2 ≡ 1
odd x t = eqb→eq (x % 2) 1 t

is_odd : (x : ℕ) → x % 2 ≡ 1 → T (eqb (x % 2) 1)
is_odd x e = rw e tt

-- the code's test: a shift and a remainder
pub bit_shift : (i x : ℕ) → bit i x ≡ eqb (x / 2 ^ i % 2) 1
unfolding bit
bit_shift zero x =
    let e : x ≡ x / 2 ^ 0 = omega arith in
    ap (λ (y : ℕ). eqb (y % 2) 1) e
bit_shift (suc i) x = bit_shift i (x / 2) ∙ ap (λ (y : ℕ). eqb (y % 2) 1) (div-div-eq-div-mul x 2 (2 ^ i) ∙ ap (λ (y : ℕ). x / y) (sym (twice i)))

-- the code's 1 << i
pub one_shifted : (i : ℕ) → i < 64 → (1 * 2 ^ i) % 18446744073709551616 ≡ 2 ^ i
one_shifted i l = omega (arith, pow-lt l)

pub bit_empty : (i : ℕ) → T (bit i 0) → ⊥
unfolding bit
bit_empty zero t = t
bit_empty (suc i) t = bit_empty i t

pub bit_inside : (k i x : ℕ) → x < 2 ^ k → T (bit i x) → i < k
unfolding bit
bit_inside zero i x f t = absurd (bit_empty i (subst (λ (y : ℕ). T (bit i y)) (omega arith) t))
bit_inside (suc k) zero x f t = omega arith
bit_inside (suc k) (suc i) x f t = omega (arith, bit_inside k i (x / 2) (omega (arith, twice k)) t)

-- the set of one node
pub bit_one : (i j : ℕ) → T (bit i (2 ^ j)) ↔ (i ≡ j)
unfolding bit
bit_one zero zero = ((λ t. refl), (λ e. tt))
bit_one zero (suc j) = ((λ t. absurd (omega (arith, twice j, odd (2 ^ suc j) t))), (λ e. absurd (omega arith)))
bit_one (suc i) zero = ((λ t. absurd (bit_empty i t)), (λ e. absurd (omega arith)))
bit_one (suc i) (suc j) =
    let h : 2 ^ suc j / 2 ≡ 2 ^ j = omega (arith, twice j) in
    ((λ t. ap suc ((bit_one i j).0 (subst (λ (y : ℕ). T (bit i y)) h t))), (λ e. subst (λ (y : ℕ). T (bit i y)) (sym h) ((bit_one i j).1 (omega arith))))

-- ---- the operations, digit by digit

or_digit : (x y : ℕ) → x < 2 → y < 2 → eqb (max x y) 1 ≡ eqb x 1 || eqb y 1
or_digit zero zero p q = refl
or_digit zero (suc zero) p q = refl
or_digit zero (suc (suc y)) p q = absurd (omega arith)
or_digit (suc zero) zero p q = refl
or_digit (suc zero) (suc zero) p q = refl
or_digit (suc zero) (suc (suc y)) p q = absurd (omega arith)
or_digit (suc (suc x)) y p q = absurd (omega arith)

and_digit : (x y : ℕ) → x < 2 → y < 2 → eqb (min x y) 1 ≡ eqb x 1 && eqb y 1
and_digit zero zero p q = refl
and_digit zero (suc zero) p q = refl
and_digit zero (suc (suc y)) p q = absurd (omega arith)
and_digit (suc zero) zero p q = refl
and_digit (suc zero) (suc zero) p q = refl
and_digit (suc zero) (suc (suc y)) p q = absurd (omega arith)
and_digit (suc (suc x)) y p q = absurd (omega arith)

digit_lt : (x : ℕ) → x % 2 < 2
digit_lt x = omega arith

or_half : (a b : ℕ) → bit_or a b / 2 ≡ bit_or (a / 2) (b / 2)
or_half a b = omega (arith, or_step a b)

or_odd : (a b : ℕ) → bit_or a b % 2 ≡ max (a % 2) (b % 2)
or_odd a b = omega (arith, or_step a b)

and_half : (a b : ℕ) → bit_and a b / 2 ≡ bit_and (a / 2) (b / 2)
and_half a b = omega (arith, and_step a b)

and_odd : (a b : ℕ) → bit_and a b % 2 ≡ min (a % 2) (b % 2)
and_odd a b = omega (arith, and_step a b)

pub bit_or_lem : (i a b : ℕ) → bit i (bit_or a b) ≡ bit i a || bit i b
unfolding bit
bit_or_lem zero a b = ap (λ (y : ℕ). eqb y 1) (or_odd a b) ∙ or_digit (a % 2) (b % 2) (digit_lt a) (digit_lt b)
bit_or_lem (suc i) a b = ap (bit i) (or_half a b) ∙ bit_or_lem i (a / 2) (b / 2)

pub bit_and_lem : (i a b : ℕ) → bit i (bit_and a b) ≡ bit i a && bit i b
unfolding bit
bit_and_lem zero a b = ap (λ (y : ℕ). eqb y 1) (and_odd a b) ∙ and_digit (a % 2) (b % 2) (digit_lt a) (digit_lt b)
bit_and_lem (suc i) a b = ap (bit i) (and_half a b) ∙ bit_and_lem i (a / 2) (b / 2)

not_digit : (x y : ℕ) → x < 2 → x + y ≡ 1 → eqb y 1 ≡ not (eqb x 1)
not_digit zero y p e = eq-eqb y 1 (omega arith)
not_digit (suc zero) y p e = ne_eqb y 1 (omega arith)
not_digit (suc (suc x)) y p e = absurd (omega arith)

pub bit_not : (k i x : ℕ) → i < k → x < 2 ^ k → bit i (2 ^ k - 1 - x) ≡ not (bit i x)
unfolding bit
bit_not zero i x l f = absurd (omega arith)
bit_not (suc k) zero x l f = not_digit (x % 2) ((2 ^ suc k - 1 - x) % 2) (digit_lt x) (omega (arith, twice k))
bit_not (suc k) (suc i) x l f =
    let h : (2 ^ suc k - 1 - x) / 2 ≡ 2 ^ k - 1 - x / 2 = omega (arith, twice k) in
    ap (bit i) h ∙ bit_not k i (x / 2) (omega arith) (omega (arith, twice k))

-- a set with one node more
pub more_old : (i w x : ℕ) → T (bit w x) → T (bit w (bit_or x (2 ^ i)))
more_old i w x t = subst (λ b. T b) (sym (bit_or_lem w x (2 ^ i))) (or_left (bit w x) (bit w (2 ^ i)) t)

pub more_new : (i x : ℕ) → T (bit i (bit_or x (2 ^ i)))
more_new i x = subst (λ b. T b) (sym (bit_or_lem i x (2 ^ i))) (or_right (bit i x) (bit i (2 ^ i)) ((bit_one i i).1 refl))

pub more_which : (i w x : ℕ) → T (bit w (bit_or x (2 ^ i))) → T (bit w x) ⊎ (w ≡ i)
more_which i w x t = ⊎_elim (λ y. inl y) (λ y. inr ((bit_one w i).0 y)) (or_cases (bit w x) (bit w (2 ^ i)) (subst (λ b. T b) (bit_or_lem w x (2 ^ i)) t))

-- a set without the nodes of another
pub bit_and_not : (w x y : ℕ) → w < 64 → y < 2 ^ 64 → T (bit w (bit_and x (2 ^ 64 - 1 - y))) ↔ (T (bit w x) × (T (bit w y) → ⊥))
bit_and_not w x y l f =
    let e = bit_and_lem w x (2 ^ 64 - 1 - y) ∙ ap (λ b. bit w x && b) (bit_not 64 w y l f) in (
      (λ t. let b = subst (λ b. T b) e t in (and_left (bit w x) _ b, T_not (bit w y) (and_right (bit w x) _ b))),
      (λ t. subst (λ b. T b) (sym e) (and_both (bit w x) _ t.0 (not_T (bit w y) t.1))),
    )

pub and_not_lt : (x y : ℕ) → bit_and x (2 ^ 64 - 1 - y) < 2 ^ 64
and_not_lt x y = omega (arith, and_le_r x (2 ^ 64 - 1 - y))

pub bit_without : (w x y : ℕ) → x < 2 ^ 64 → y < 2 ^ 64 → T (bit w (bit_and x (2 ^ 64 - 1 - y))) ↔ (T (bit w x) × (T (bit w y) → ⊥))
bit_without w x y f h = (
  (λ t. (bit_and_not w x y (bit_inside 64 w (bit_and x (2 ^ 64 - 1 - y)) (and_not_lt x y) t) h).0 t),
  (λ t. (bit_and_not w x y (bit_inside 64 w x f t.0) h).1 t),
)

-- sets of the same nodes
pub bits_same : (k x y : ℕ) → x < 2 ^ k → y < 2 ^ k → ((i : ℕ) → bit i x ≡ bit i y) → x ≡ y
unfolding bit
bits_same zero x y f h e = omega arith
bits_same (suc k) x y f h e = omega (arith, same_digit (x % 2) (y % 2) (digit_lt x) (digit_lt y) (e zero), bits_same k (x / 2) (y / 2) (omega (arith, twice k)) (omega (arith, twice k)) (λ i. e (suc i)))
  where
    same_digit : (a b : ℕ) → a < 2 → b < 2 → eqb a 1 ≡ eqb b 1 → a ≡ b
    same_digit zero zero p q e = refl
    same_digit zero (suc zero) p q e = absurd (subst T (sym e) tt)
    same_digit (suc zero) zero p q e = absurd (subst T e tt)
    same_digit (suc zero) (suc zero) p q e = refl
    same_digit (suc (suc a)) b p q e = absurd (omega arith)
    same_digit zero (suc (suc b)) p q e = absurd (omega arith)
    same_digit (suc zero) (suc (suc b)) p q e = absurd (omega arith)

-- ---- the lowest node of a set

under_even : (d t : ℕ) → d ≡ 0 → under d t ≡ suc t
under_even zero t e = refl
under_even (suc d) t e = absurd (omega arith)

under_odd : (d t : ℕ) → d ≡ 1 → under d t ≡ 0
under_odd zero t e = absurd (omega arith)
under_odd (suc d) t e = refl

pub lowest : (k x : ℕ) → x < 2 ^ k → x ≢ 0 → T (bit (count_trailing_zeros k x) x)
unfolding bit count_trailing_zeros
lowest zero x f n = absurd (n (omega arith))
lowest (suc k) x f n = go (x % 2) refl (λ e. lowest k (x / 2) (omega (arith, twice k)) (λ z. n (omega arith)))
  where
    go : (d : ℕ) → x % 2 ≡ d → (x % 2 ≡ 0 → T (bit (count_trailing_zeros k (x / 2)) (x / 2))) → T (bit (under (x % 2) (count_trailing_zeros k (x / 2))) x)
    go zero e r = rw (under_even (x % 2) (count_trailing_zeros k (x / 2)) e) (r e)
    go (suc d) e r = rw (under_odd (x % 2) (count_trailing_zeros k (x / 2)) (omega arith)) (is_odd x (omega arith))

-- a set less one of its nodes
pub bit_le : (i x : ℕ) → T (bit i x) → 2 ^ i ≤ x
unfolding bit
bit_le zero x t = omega (arith, odd x t)
bit_le (suc i) x t = omega (arith, twice i, bit_le i (x / 2) t)

-- the set without it, as a bitwise and
double_less : (x p q : ℕ) → x % 2 ≡ 0 → q ≡ 2 * p → p ≤ x / 2 → (x / 2 - p) * 2 + 0 ≡ x - q
double_less x p q e d l = omega arith

pub less_lowest : (k x : ℕ) → x < 2 ^ k → x ≢ 0 → bit_and x (x - 1) ≡ x - 2 ^ count_trailing_zeros k x
unfolding count_trailing_zeros
less_lowest zero x f n = absurd (n (omega arith))
less_lowest (suc k) x f n = and_step x (x - 1) ∙ go (x % 2) refl (λ m. less_lowest k (x / 2) (omega (arith, twice k)) m)
  where
    go : (d : ℕ) → x % 2 ≡ d → (x / 2 ≢ 0 → bit_and (x / 2) (x / 2 - 1) ≡ x / 2 - 2 ^ count_trailing_zeros k (x / 2))
        → bit_and (x / 2) ((x - 1) / 2) * 2 + min (x % 2) ((x - 1) % 2) ≡ x - 2 ^ under (x % 2) (count_trailing_zeros k (x / 2))
    go zero e r =
        let t = count_trailing_zeros k (x / 2) in
        let m : x / 2 ≢ 0 = λ z. n (omega arith) in
        let h : (x - 1) / 2 ≡ x / 2 - 1 = omega (arith, m) in
        let z : min (x % 2) ((x - 1) % 2) ≡ 0 = rw e (zero-min _) in
        rw (under_even (x % 2) t e, h, r m, z) (double_less x (2 ^ t) (2 ^ suc t) e (twice t) (bit_le t (x / 2) (lowest k (x / 2) (omega (arith, twice k)) m)))
    go (suc d) e r =
        let h : (x - 1) / 2 ≡ x / 2 = omega arith in
        let l : (x - 1) % 2 ≡ 0 = omega arith in
        rw (under_odd (x % 2) (count_trailing_zeros k (x / 2)) (omega arith), h, and_self (x / 2), l, min-zero (x % 2)) (omega arith)

half_less : (i x : ℕ) → T (bit i (x / 2)) → (x - 2 ^ suc i) / 2 ≡ x / 2 - 2 ^ i
half_less i x t = omega (arith, twice i, bit_le i (x / 2) t)

odd_less : (i x : ℕ) → T (bit i (x / 2)) → (x - 2 ^ suc i) % 2 ≡ x % 2
odd_less i x t = omega (arith, twice i, bit_le i (x / 2) t)

pub less_same : (i x : ℕ) → T (bit i x) → T (bit i (x - 2 ^ i)) → ⊥
unfolding bit
less_same zero x t u = omega (arith, odd x t, odd (x - 2 ^ 0) u)
less_same (suc i) x t u = less_same i (x / 2) t (subst (λ (y : ℕ). T (bit i y)) (half_less i x t) u)

pub less_other : (i j x : ℕ) → T (bit i x) → j ≢ i → bit j (x - 2 ^ i) ≡ bit j x
unfolding bit
less_other zero zero x t d = absurd (d refl)
less_other zero (suc j) x t d = ap (bit j) (omega (arith, odd x t))
less_other (suc i) zero x t d = ap (λ (y : ℕ). eqb y 1) (odd_less i x t)
less_other (suc i) (suc j) x t d = ap (bit j) (half_less i x t) ∙ less_other i j (x / 2) t (λ e. d (ap suc e))

-- one node taken out of a set, so that `rest` is left
pub record Taken (x i rest : ℕ) : Type 0 where
  pub is : T (bit i x)
  pub inside : i < 64
  pub fewer : rest < x
  pub gone : T (bit i rest) → ⊥
  pub kept : (w : ℕ) → T (bit w rest) → T (bit w x)
  pub other : (w : ℕ) → T (bit w x) → (w ≡ i) ⊎ T (bit w rest)

-- the lowest one, as the code takes it
pub taken : (x : ℕ) → x < 2 ^ 64 → x ≢ 0 → Taken x (count_trailing_zeros 64 x) (bit_and x (x - 1))
taken x f n = rw (less_lowest 64 x f n) (record {
  is = low;
  inside = bit_inside 64 i x f low;
  fewer = omega (arith, pow_pos i, bit_le i x low);
  gone = less_same i x low;
  kept = λ w t. elim (ℕ_discrete w i) [
    | yes e ↦ subst (λ (y : ℕ). T (bit y x)) (sym e) low
    | no d ↦ subst (λ b. T b) (less_other i w x low d) t
  ];
  other = λ w t. elim (ℕ_discrete w i) [ yes e ↦ inl e | no d ↦ inr (subst (λ b. T b) (sym (less_other i w x low d)) t) ];
})
  where
    i : ℕ
    i = count_trailing_zeros 64 x

    low : T (bit (count_trailing_zeros 64 x) x)
    low = lowest 64 x f n

-- as a walk over the members takes it
pub taken_lowest : {x k rest : ℕ} → Lowest x k rest → Taken x k rest
taken_lowest {x} l = rw (l.first, l.others) (taken x l.fits l.some)

-- ---- how many nodes a set has

pub size_le : (k x : ℕ) → size_in k x ≤ k
unfolding size_in
size_le zero x = omega arith
size_le (suc k) x = omega (arith, size_le k (x / 2))

pub size_empty : (k : ℕ) → size_in k 0 ≡ 0
unfolding size_in
size_empty zero = refl
size_empty (suc k) = omega (arith, size_empty k)

pub size_less : (k i x : ℕ) → i < k → T (bit i x) → size_in k x ≡ suc (size_in k (x - 2 ^ i))
unfolding bit size_in
size_less zero i x l t = absurd (omega arith)
size_less (suc k) zero x l t =
    let h : (x - 2 ^ 0) / 2 ≡ x / 2 = omega (arith, odd x t) in
    omega (arith, odd x t, ap (size_in k) h)
size_less (suc k) (suc i) x l t = omega (arith, odd_less i x t, ap (size_in k) (half_less i x t), size_less k i (x / 2) (omega arith) t)

-- without its lowest
pub size_lowest : {x k rest : ℕ} → Lowest x k rest → size_in 64 x ≡ suc (size_in 64 rest)
size_lowest {x} l = let t = taken x l.fits l.some in rw (l.others, less_lowest 64 x l.fits l.some) (size_less 64 _ x t.inside t.is)

pub size_or : (k a b : ℕ) → ((i : ℕ) → T (bit i a) → T (bit i b) → ⊥) → size_in k (bit_or a b) ≡ size_in k a + size_in k b
unfolding bit size_in
size_or zero a b h = refl
size_or (suc k) a b h =
    let o : (a % 2 ≡ 1) → (b % 2 ≡ 1) → ⊥ = λ p q. h zero (is_odd a p) (is_odd b q) in
    omega (arith, digits (a % 2) (b % 2) (digit_lt a) (digit_lt b) o, or_odd a b, ap (size_in k) (or_half a b), size_or k (a / 2) (b / 2) (λ i. h (suc i)))
  where
    digits : (x y : ℕ) → x < 2 → y < 2 → (x ≡ 1 → y ≡ 1 → ⊥) → max x y ≡ x + y
    digits zero y p q n = omega arith
    digits (suc zero) zero p q n = refl
    digits (suc zero) (suc y) p q n = absurd (n refl (omega arith))
    digits (suc (suc x)) y p q n = absurd (omega arith)

pub size_one : (k i : ℕ) → i < k → size_in k (2 ^ i) ≡ 1
size_one k i l =
    let e : 2 ^ i - 2 ^ i ≡ 0 = omega arith in
    size_less k i (2 ^ i) l ((bit_one i i).1 refl) ∙ ap (λ (y : ℕ). suc (size_in k y)) e ∙ ap suc (size_empty k)

-- two sets without a common node, together
pub or_apart : (a b : ℕ) → b < 2 ^ 64 → ((i : ℕ) → T (bit i a) → T (bit i b) → ⊥) → bit_or a b ≡ a + b
or_apart a b fits apart = or_disjoint a b (bits_same 64 (bit_and a b) 0 (omega (arith, and_le_r a b)) (omega arith) (λ i. T_same (bit i (bit_and a b)) (bit i 0) (none i) (λ t. absurd (bit_empty i t))))
  where
    none : (i : ℕ) → T (bit i (bit_and a b)) → T (bit i 0)
    none i t = let u = subst (λ x. T x) (bit_and_lem i a b) t in absurd (apart i (and_left (bit i a) (bit i b) u) (and_right (bit i a) (bit i b) u))

-- a table of empty sets
pub zeros : (n i : ℕ) → ◌≡◌ {A = ℕ} (get_or (replicate n 0) i 0) 0
zeros zero i = refl
zeros (suc n) zero = refl
zeros (suc n) (suc i) = zeros n i
