-- The used part of a table, and lists of literals.
-- Assumes nothing.
use Rattle.reader.proofs.Kit.{◌≡◌, refl, ap, Bool, true, false, ◌&&◌, ◌||◌, List, [], ◌∷◌, ◌++◌, ℕ, zero, suc, ◌+◌, ◌*◌, ◌<◌, ◌≤◌, arith, eqb, length, length-append}
use Rattle.std.specs.List.{list_any}
use mathlib.Core.List.{map}
use Rattle.reader.specs.Format.{word, twos, edge_len, literals_in, literals_ok, literal_ok, serves}

-- the literals read so far, and one more, whose two bytes are at k
pub literals_more : (f : List ℕ) (from i k : ℕ) → k ≡ from + i * 2 → literals_in f from (i + 1) ≡ literals_in f from i ++ (twos (word f k) ∷ [])
unfolding literals_in
literals_more f from zero k e = let j : from ≡ k = omega arith in ap (λ n. twos (word f n) ∷ []) j
literals_more f from (suc i) k e =
    let m : suc i + 1 ≡ suc (i + 1) = omega arith in
    rw m (ap (λ l. twos (word f from) ∷ l) (literals_more f (from + 2) i k (omega arith)))

-- a literal in range behind others in range; one out of range
pub literals_ok_more : (v : ℕ) (f : List ℕ) (from i k : ℕ) → k ≡ from + i * 2 → literals_ok v (literals_in f from i) ≡ true → literal_ok v (twos (word f k)) ≡ true
    → literals_ok v (literals_in f from (i + 1)) ≡ true
unfolding literals_in literals_ok
literals_ok_more v f from zero k e h l = let j : from ≡ k = omega arith in rw (j, l) refl
literals_ok_more v f from (suc i) k e h l =
    let m : suc i + 1 ≡ suc (i + 1) = omega arith in
    rw m (go (literal_ok v (twos (word f from))) h (λ r. literals_ok_more v f (from + 2) i k (omega arith) r l))
  where
    go : (b : Bool) {r s : Bool} → (b && r) ≡ true → (r ≡ true → s ≡ true) → (b && s) ≡ true
    go true h m = m h
    go false h m = h

pub literals_ok_stop : (v : ℕ) (f : List ℕ) (from i n k : ℕ) → i < n → k ≡ from + i * 2 → literal_ok v (twos (word f k)) ≡ false → literals_ok v (literals_in f from n) ≡ false
unfolding literals_in literals_ok
literals_ok_stop v f from i zero k h e l = absurd (omega arith)
literals_ok_stop v f from zero (suc n) k h e l = let j : from ≡ k = omega arith in rw (j, l) refl
literals_ok_stop v f from (suc i) (suc n) k h e l = rw (literals_ok_stop v f (from + 2) i n k (omega arith) (omega arith) l) (go (literal_ok v (twos (word f from))))
  where
    go : (b : Bool) → (b && false) ≡ false
    go true = refl
    go false = refl

pub literals_length : (f : List ℕ) (i n : ℕ) → length (literals_in f i n) ≡ n
unfolding literals_in
literals_length f i zero = refl
literals_length f i (suc n) = ap suc (literals_length f (i + 2) n)

-- the search of a table for a variable
pub serves_any : {A B : Type 0} (meant : B → A) (variable : A → ℕ) (xs : List B) (v : ℕ) → serves variable (map meant xs) v ≡ list_any (λ x. eqb (variable (meant x)) v) xs
unfolding serves
serves_any meant variable [] v = refl
serves_any meant variable (x ∷ xs) v = ap (λ b. eqb (variable (meant x)) v || b) (serves_any meant variable xs v)

pub length_snoc : {A : Type 0} (xs : List A) (x : A) → length (xs ++ (x ∷ [])) ≡ length xs + 1
length_snoc xs x = length-append xs (x ∷ [])

-- an edge's value has room for two nodes and a variable, and for a length at the most
pub edge_least : (long : Bool) → 6 ≤ edge_len long
edge_least true = omega arith
edge_least false = omega arith

pub edge_most : (long : Bool) → edge_len long ≤ 8
edge_most true = omega arith
edge_most false = omega arith
