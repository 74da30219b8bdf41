-- What the grammar sees to in a unit of a text.
pub mod FairLexemes
pub mod ShapedLayers
pub mod ShapedExpressions
pub mod ShapedStatements
pub mod ShapedUnits
