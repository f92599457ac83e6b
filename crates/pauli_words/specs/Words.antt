-- The words of a Pauli program: a listed node and an operation take five words each, read as those of a gate are: kind, a, b, c, k.
use Rattle.std.specs.Prelude.{Bool, false, cond, ◌&&◌, List, [], ◌∷◌, map, ℕ, eqb, ltb, get_or}
use Rattle.gate.specs.Gate.{Gate, gates_of}
use Rattle.pauli_nodes.specs.Nodes.{Reference, reference, Node, single, product}
use Rattle.pauli_nodes.specs.Operations.{Operation, rotate, rotate_if, measure}

-- ---- nodes: 0 I, 1 X, 2 Y, 3 Z of qubit a; 4 the product of node a with b turns and node c with k turns
abbrev pub times : ℕ
times = 4

abbrev pub node_of : Gate → Node
node_of w = cond (eqb w.kind times) (product (reference w.a w.b) (reference w.c w.k)) (single w.a w.kind)

-- a known kind, turns below 4, every unused word 0
abbrev pub node_formed : Gate → Bool
node_formed w = cond (eqb w.kind times) (ltb w.b 4 && ltb w.k 4) (ltb w.kind times && (eqb w.b 0 && (eqb w.c 0 && eqb w.k 0)))

abbrev pub nodes_of : List ℕ → List Node
nodes_of ws = map node_of (gates_of ws)

-- ---- operations, about the axis of node a with b turns: 0 rotates by c eighths; 1 rotates by c eighths if outcome k was one;
-- 2 measures; 3 measures into classical bit c
abbrev pub axis_of : Gate → Reference
axis_of w = reference w.a w.b

abbrev pub operation_of : Gate → Operation
operation_of w =
    get_or (rotate (axis_of w) w.c ∷ rotate_if (axis_of w) w.c w.k ∷ measure (axis_of w) [] ∷ measure (axis_of w) (w.c ∷ []) ∷ [])
    w.kind (measure (axis_of w) [])

-- a known kind, turns below 4, eighths below 8, every unused word 0
abbrev pub operation_formed : Gate → Bool
operation_formed w =
    ltb w.b 4
    && get_or ((ltb w.c 8 && eqb w.k 0) ∷ ltb w.c 8 ∷ (eqb w.c 0 && eqb w.k 0) ∷ eqb w.k 0 ∷ []) w.kind false

abbrev pub operations_of : List ℕ → List Operation
operations_of ws = map operation_of (gates_of ws)
