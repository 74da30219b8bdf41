-- What definitions come to, one layer at a time, as code opens them.
pub mod ValLayers
pub mod ExecLayers
pub mod FormedLayers
pub mod SpanLayers
