-- The edges and the graph of the code's struct.
-- Assumes nothing.
use Rattle.std.specs.Prelude.{List}
use Rattle.plan.specs.Meaning.{Edge, Graph, graph_of, true_in}
use Rattle.plan.specs.Tables.{edges_of}
use Rattle.walk.specs.declared.graph.Graph as struct-of-graph

abbrev pub edges_in : struct-of-graph.Graph → List Edge
edges_in g = edges_of g.edges.now

abbrev pub graph_in : struct-of-graph.Graph → Graph
graph_in g = graph_of g.side (true_in g.values.now)
