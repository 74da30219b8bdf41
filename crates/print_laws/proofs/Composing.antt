-- The printed text in pieces.
pub mod Pieces
pub mod ExprLayers
pub mod StmtLayers
pub mod Composed
pub mod ComposedExpressions
pub mod ComposedStatements
pub mod ExpressionLists
pub mod PieceTexts
pub mod SimpleTexts
pub mod StatementTexts
pub mod ProgramTexts
