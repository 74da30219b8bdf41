-- The ways that a tree keeps are those of its part.
use Rattle.ipet_peak.proofs.TreeLayers.{keeps_then, keeps_choice, keeps_while, keeps_do, keeps_body}
use Rattle.ipet_peak.proofs.tree.dearest_ways.Goals as goal

pub returns-in-Then : goal.returns-in-Then
returns-in-Then c = (keeps_then _ _ _ _ c.in-Then.is c.requires).ways_are

pub returns-in-Choice : goal.returns-in-Choice
returns-in-Choice c = (keeps_choice _ _ _ _ _ c.in-Choice.is c.requires).ways_are

pub returns-in-While : goal.returns-in-While
returns-in-While c = (keeps_while _ _ _ _ _ _ c.in-While.is c.requires).ways_are

pub returns-in-Do : goal.returns-in-Do
returns-in-Do c = (keeps_do _ _ _ _ _ c.in-Do.is c.requires).ways_are

pub returns-in-Body : goal.returns-in-Body
returns-in-Body c = (keeps_body _ _ _ c.in-Body.is c.requires).ways_are
