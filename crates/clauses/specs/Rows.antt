-- What each writer lays down, number by number. That the rows of a block are the block of document 01 is a law: proofs/Rows.antt.
-- Assumes nothing.
use Rattle.std.specs.Prelude.{List, [], ◌∷◌, ◌++◌, cond, ℕ, ◌+◌, ◌*◌, ◌≤◌, ◌<◌, ℤ, pos, eqb, length}
use Rattle.plan.specs.Meaning.{Edge, Atom, edge, on, off}
use Rattle.plan.specs.Written.{each, last}
use Rattle.plan.specs.Ranged.{max_nodes, max_edges}
use Rattle.clauses.specs.declared.block.Level.{Level}

-- The literals of a variable below 2 ^ 31 fit 32 bits.
abbrev pub Fits : ℕ → Type 0
Fits v = v < 2147483648

-- From a number below 2 ^ 30 a level's nodes and edges can be counted on, and their literals still fit.
abbrev pub Early : ℕ → Type 0
Early v = v < 1073741824

-- (-a, b)
unfoldable pub gives_row : ℕ → ℕ → List ℤ
gives_row a b = off a ∷ on b ∷ pos 0 ∷ []

-- (-t, x), (-t, r), (-x, -r, t)
unfoldable pub and_row : ℕ → ℕ → ℕ → List ℤ
and_row t x r = gives_row t x ++ gives_row t r ++ (off x ∷ off r ∷ on t ∷ pos 0 ∷ [])

-- an edge, whose T is t, on a level whose first R is first
unfoldable pub edge_row : Edge → ℕ → ℕ → List ℤ
edge_row e t first = and_row t e.variable (first + e.from)

-- t for an edge into w, and nothing for any other
unfoldable pub literal_row : ℕ → Edge → ℕ → List ℤ
literal_row w e t = cond (eqb w e.to) (on t ∷ []) []

-- (-t, q) for an edge into w, and nothing for any other
unfoldable pub into_row : ℕ → Edge → ℕ → ℕ → List ℤ
into_row w e t q = cond (eqb w e.to) (gives_row t q) []

-- first alone if w is the source, else its opposite
unfoldable pub alone_row : ℕ → ℕ → ℕ → List ℤ
alone_row w s v = cond (eqb w s) (on v) (off v) ∷ pos 0 ∷ []

-- (-a, v), (a, -v)
unfoldable pub end_row : ℕ → ℕ → List ℤ
end_row a v = gives_row a v ++ (on a ∷ off v ∷ pos 0 ∷ [])

module _ (es : List Edge) where
  unfoldable pub edges_row : Level → List ℤ
  edges_row v = each (length es) (λ k. edge_row (edge es k) (v.edges + k) v.nodes)

  unfoldable pub literals_row : ℕ → ℕ → List ℤ
  literals_row first w = each (length es) (λ k. literal_row w (edge es k) (first + k))

  unfoldable pub intos_row : ℕ → ℕ → ℕ → List ℤ
  intos_row first q w = each (length es) (λ k. into_row w (edge es k) (first + k) q)

  -- the clauses of node w, whose R is r on this level and q on the next: (-q, r, the T of each edge into w), (-r, q), and (-T, q) of each
  unfoldable pub node_row : ℕ → ℕ → ℕ → ℕ → List ℤ
  node_row first r q w = (((off q ∷ on r ∷ []) ++ literals_row first w) ++ (pos 0 ∷ gives_row r q)) ++ intos_row first q w

  unfoldable pub nodes_row : ℕ → Level → List ℤ
  nodes_row n v = each n (λ w. node_row v.edges (v.nodes + w) (v.next + w) w)

  unfoldable pub level_row : ℕ → Level → List ℤ
  level_row n v = edges_row v ++ nodes_row n v

  -- the numbers of level i of a block behind base
  abbrev pub first_at : ℕ → ℕ → ℕ → ℕ
  first_at n base i = base + 1 + i * (n + length es)

  abbrev pub level_from : ℕ → ℕ → Level
  level_from n first = record { nodes = first; edges = first + n; next = first + (n + length es) }

  unfoldable pub levels_row : ℕ → ℕ → ℕ → List ℤ
  levels_row n base top = each top (λ i. level_row n (level_from n (first_at n base i)))

  -- numbers that leave room for 32-bit literals: those of one level, of a block, and of all blocks
  pub record Low (v : Level) : Type 0 where
    pub few : length es ≤ max_edges
    pub nodes : Early v.nodes
    pub edges : Early v.edges
    pub next : Early v.next

  pub record LowBlock (n base top : ℕ) : Type 0 where
    pub few : length es ≤ max_edges
    pub nodes : n ≤ max_nodes
    pub last : Early (first_at n base top)

  pub record LowBlocks (n base : ℕ) (As : List Atom) : Type 0 where
    pub few : length es ≤ max_edges
    pub node : 1 ≤ n
    pub nodes : n ≤ max_nodes
    pub last : Early (last n es base As)

unfoldable pub start_row : ℕ → ℕ → ℕ → List ℤ
start_row n s first = each n (λ w. alone_row w s (first + w))

unfoldable pub block_row : ℕ → List Edge → ℕ → ℕ → ℕ → ℕ → ℕ → List ℤ
block_row n es base top s t a = (start_row n s (base + 1) ++ levels_row es n base top) ++ end_row a (first_at es n base top + t)
