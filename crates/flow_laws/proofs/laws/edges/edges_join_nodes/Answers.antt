use Rattle.flow_laws.proofs.laws.edges.edges_join_nodes.Goals as goal
use Rattle.flow_laws.proofs.Graphs.EndsLead.{edges_join}

pub returns-clause-from : goal.returns-clause-from
returns-clause-from c = λ p h j e is. (edges_join p h j e is).from

pub returns-clause-to : goal.returns-clause-to
returns-clause-to c = λ p h j e is. (edges_join p h j e is).to

pub returns-clause-not_entry : goal.returns-clause-not_entry
returns-clause-not_entry c = λ p h j e is. (edges_join p h j e is).not_entry
