-- What the nodes of a graph do, as it is lent. This project's own.
use Rattle.std.specs.Prelude.{◌≡◌, List, map, None}
use Rattle.c_tree.specs.declared.program.Program.{Program}
use Rattle.flow_laws.specs.Sites.{Content, Entry, Exit, Simple, Test, Jump, Give, Enter, Missing, Land, Site}
use Rattle.flow_laws.specs.BlockLists.{Block, Run, Asks, Jumps, Gives, Calls, blocks_of_body, plain}
use Rattle.node_contents.specs.declared.block.Block as block
use Rattle.node_contents.specs.declared.block.Block.TheVariants as held
use Rattle.node_contents.specs.declared.block.Content as node
use Rattle.node_contents.specs.declared.block.Content.TheVariants as lent

-- what the nodes do, without the loops of their conditions
abbrev pub contents : List Site → List Content
contents g = map (λ s. plain s.content) g

-- the same of what is lent
abbrev pub content_of : node.Content → Content
content_of lent.Entry = Entry
content_of lent.Exit = Exit
content_of (lent.Simple ss) = Simple ss.now
content_of (lent.Test e) = Test None e.now
content_of lent.Jump = Jump
content_of (lent.Give e) = Give e.now
content_of (lent.Enter t ls es) = Enter t ls.now es.now
content_of lent.Missing = Missing
content_of (lent.Land t ty b) = Land t ty b

-- ---- the table of blocks

-- what a lent block does
abbrev pub what : block.Block → Block
what (held.Run ss) = Run ss.now
what (held.Ask e) = Asks e.now
what held.Jump = Jumps
what (held.Give e) = Gives e.now
what (held.Call t g es) = Calls t g es.now

abbrev pub what_of : List (List block.Block) → List (List Block)
what_of all = map (λ blocks. map what blocks) all

-- it has the blocks of each function of the program
pub record AreBlocks (p : Program) (all : List (List block.Block)) : Type 0 where
  pub blocks_are : what_of all ≡ map blocks_of_body p.funcs
