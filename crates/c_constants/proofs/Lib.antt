pub mod ConstantLayers
