pub mod EffectRuns
