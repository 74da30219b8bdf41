-- The sites, nodes and edges of a graph.
pub mod PartSizes
pub mod FlowLayers
pub mod EdgesDistinct
pub mod EndsLead
pub mod LeavingEdges
pub mod EndsJoined
pub mod GraphJoined
pub mod FoundBlocks
pub mod WorkedGraphs
